-- What is handed up is taken, and what is taken stays with its endpoint and Message ID (RFC 7252, section 4.5).
pub use Rattle.coap_layer.proofs.Arrivals.HandedUpOnce.{taken_handed}
pub use Rattle.coap_layer.proofs.Between.WhatIsTaken.{alone, kept_by}
