-- What a GET is answered shows what its path holds, whole or a part of it (RFC 7252, section 5.8.1; RFC 7959, section
-- 2.2).
pub use Rattle.coap_resource.proofs.OnlyGot.{only_got, other_code}
pub use Rattle.coap_resource.proofs.ServedContent.{content_law}
pub use Rattle.coap_resource.proofs.ServedParts.{part_law}
