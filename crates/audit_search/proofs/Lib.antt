pub mod Files
pub mod Stand
pub mod Found
pub mod Meaning
