pub mod Sums
pub mod Shares
pub mod Laws
pub mod Outcomes
