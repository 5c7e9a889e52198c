-- Laws of what the functions on a list's line answer.
mod Listed
