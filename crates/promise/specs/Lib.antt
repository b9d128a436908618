pub mod Promise
pub mod Crash
pub mod Case
pub mod Cases
pub mod Limits
