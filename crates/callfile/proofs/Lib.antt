pub mod Bytes
pub mod Fronts
pub mod Steps
pub mod Backs
pub mod Onlys
pub mod Faults
pub mod Readings
pub mod Files
