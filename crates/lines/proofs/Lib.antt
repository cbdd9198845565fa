pub mod Trying
pub mod Sizes
pub mod Gathering
pub mod Slotting
pub mod Stepping
