-- Quotient serves the code.
mod Quotient
