pub mod Automata
pub mod Faults
pub mod Lines
pub mod Ready
pub mod Checked
