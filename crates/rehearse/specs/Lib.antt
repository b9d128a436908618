pub mod Lines
pub mod Play
pub mod ToCome
