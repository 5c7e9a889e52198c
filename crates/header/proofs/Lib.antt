-- Laws of what the functions on a header line answer.
mod Numbers
mod Times
