-- What a layer begins, and what it sends again (RFC 7252, section 4.2).
pub use Rattle.coap_layer.proofs.Numbers.OneEntryForAnId.{begins_of, begun_once}
pub use Rattle.coap_layer.proofs.Copies.CopiesInTime.{was_begun, left_same, begun_fresh}
pub use Rattle.coap_layer.proofs.Copies.WhatIsOpen.{copied_by, place_same, some_in}
