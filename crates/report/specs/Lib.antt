pub mod Statement
pub mod Left
