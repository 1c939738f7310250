pub mod NoInputBreaks
