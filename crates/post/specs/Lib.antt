pub mod First
pub mod Holds
pub mod Places
pub mod Posted
pub mod Yeses
