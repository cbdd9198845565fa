pub mod Lines
pub mod Told
pub mod Statement
pub mod Slots
pub mod Laws
