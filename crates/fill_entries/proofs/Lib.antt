-- Entries: what was read of an epoch record and of a row is what their tables hold.
mod Entries
