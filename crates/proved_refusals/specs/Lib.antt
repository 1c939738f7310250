pub mod NoInputBreaks
pub mod First
