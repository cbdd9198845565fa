pub mod Charging
pub mod Accounts
