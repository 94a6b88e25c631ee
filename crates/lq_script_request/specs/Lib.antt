pub mod Shown
pub mod Fields
pub mod Members
pub mod Request
pub mod Asked
pub mod ReadLine
