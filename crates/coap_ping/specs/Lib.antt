pub mod Pings
