-- Laws that users of an epoch record's numbers need.
pub mod Given
