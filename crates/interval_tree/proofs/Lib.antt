-- Lemmas on nodes and their heights.
pub mod Nodes
pub mod Heights
pub mod Ends
pub mod Trees
