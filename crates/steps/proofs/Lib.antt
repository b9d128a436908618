pub mod Commits
pub mod Driving
pub mod Plans
pub mod Starting
