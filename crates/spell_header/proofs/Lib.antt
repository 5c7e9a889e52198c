-- Laws of header lines as they are spelled: LabelColumns, of each; Listed, of lists and dates. Fitting: a line of the normal text is what is spelled, cut.
mod LabelColumns
mod Listed
pub mod Fitting
