-- Laws of carried lines, put one after the other.
mod LineSteps
