pub mod Grown
pub mod Homes
pub mod Firsts
pub mod Found
