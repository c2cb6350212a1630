pub mod Table
pub mod TableOf
pub mod TableLaws
pub mod FirstBreak
