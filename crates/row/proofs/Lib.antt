-- Laws of the slots of a row.
pub mod Places
