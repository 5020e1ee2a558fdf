-- What crates above cite: bounds of when calls are reported (Reported), and runs with their bytes (Witness).
pub mod Reported
pub mod Witness
