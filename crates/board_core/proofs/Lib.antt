-- Lemmas on the pure board, each file on the ones above it.
pub mod OrderedLemmas
pub mod PieceLemmas
pub mod TidyLemmas
pub mod LogLemmas
pub mod BareLemmas
pub mod Keeps
pub mod PlaceLemmas
pub mod MeaningLemmas
