pub mod WhenShort
