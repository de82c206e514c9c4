pub mod Invariant
