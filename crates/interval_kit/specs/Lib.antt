-- What a cut of rows is, and the cut by a leaf size.
pub mod Cut
