pub mod Numbers
pub mod Fields
pub mod Calls
pub mod Places
pub mod Readings
pub mod Laws
