-- Laws of rows put one after the other (RowSteps). Fitting: the slots of fit tables, as the spelling functions ask for them.
mod RowSteps
pub mod Fitting
