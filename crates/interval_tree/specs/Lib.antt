-- What a tree holds of the rows of its plan, and how many levels it has.
pub mod Node
pub mod Levels
pub mod Path
pub mod Ends
pub mod Tree
pub mod Editable
