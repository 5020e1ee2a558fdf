pub mod AppliedWhole
