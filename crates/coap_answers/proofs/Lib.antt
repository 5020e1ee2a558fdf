pub mod SentTexts
