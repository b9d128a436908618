pub mod Marks
pub mod Asks
pub mod Ends
pub mod Rules
