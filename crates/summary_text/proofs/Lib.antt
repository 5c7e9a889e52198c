-- Putting serves the code.
mod Putting
