pub mod Scan
pub mod Checksum
