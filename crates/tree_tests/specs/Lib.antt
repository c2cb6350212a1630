pub mod CountingLaws
