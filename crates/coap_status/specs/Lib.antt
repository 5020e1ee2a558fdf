pub mod StatusNumbers
