pub mod Rows
pub mod Orderly
pub mod Ruled
pub mod Divisions
pub mod Asked
pub mod Seconds
pub mod Shortness
