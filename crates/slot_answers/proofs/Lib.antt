-- Laws of the answer for a slot: a value or a blank, by its state.
mod Valued
