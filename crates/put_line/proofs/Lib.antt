-- Stored serves the code.
mod Stored
