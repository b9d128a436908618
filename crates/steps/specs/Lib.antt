pub mod Troubles
pub mod Hosts
pub mod Stepped
pub mod Ties
pub mod Start
