-- Lemmas on cuts.
pub mod EvenCut
