-- What counts as a case number.
pub mod Numbers
