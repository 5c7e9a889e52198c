-- Stored: what is left to store.
mod Stored
