pub mod Memory
pub mod Verdicts
pub mod Rulings
