pub mod Account
pub mod Search
pub mod Audited
pub mod Sound
