mod Splitting
mod Digits
mod Chains
mod Lists
