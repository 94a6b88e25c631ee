pub mod Handle
pub mod Lent
pub mod Held
pub mod Numbers
pub mod QuotedText
