pub mod Alone
pub mod Opened
pub mod Sizes
pub mod Transferred
pub mod Cutting
pub mod Joined
pub mod Linked
