pub mod Divisions
pub mod Terms
pub mod HeldRounds
pub mod Cuts
pub mod Errors
pub mod HeldPackages
pub mod Brought
