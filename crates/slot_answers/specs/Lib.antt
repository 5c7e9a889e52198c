pub mod Handed
pub mod AtPlace
