pub mod MarksFall
