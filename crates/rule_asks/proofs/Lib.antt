pub mod BothSides
