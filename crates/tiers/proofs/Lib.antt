pub mod Rows
pub mod Bearing
pub mod Settling
pub mod Rising
pub mod Rules
pub mod Owning
