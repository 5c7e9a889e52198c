-- Laws for the faults of one line, with nothing assumed: Headed has the table of codes behind a header line.
pub mod Headed
