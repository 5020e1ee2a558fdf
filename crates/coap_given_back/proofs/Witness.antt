pub mod WaitsLongest
