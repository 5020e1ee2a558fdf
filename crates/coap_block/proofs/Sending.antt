-- What a client sends in blocks is its body.
pub mod SentInOrder
