pub mod Component
pub mod ComponentOf
pub mod ComponentLaws
pub mod Product
pub mod Nested
pub mod ProductOf
pub mod ProductLaws
