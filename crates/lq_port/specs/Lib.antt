pub mod Known
pub mod End
pub mod Port
