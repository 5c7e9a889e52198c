-- Laws of a row's satellite.
mod Pairs
