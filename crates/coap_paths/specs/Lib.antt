pub mod Escapes
pub mod FirstBytes
pub mod PathTexts
pub mod Uris
