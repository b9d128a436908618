pub mod HeldOrders
pub mod Sizes
pub mod Replay
pub mod Once
