pub mod OrderLaws
pub mod Keys
pub mod Promises
pub mod Tables
pub mod Stops
