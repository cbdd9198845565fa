pub mod Totals
pub mod Writing
pub mod Sharing
pub mod Sums
