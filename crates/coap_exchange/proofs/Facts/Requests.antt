-- Which requests can be asked, by their lengths, and which options of a message an iterator gives (RFC 7252, section
-- 3.1).
pub use Rattle.coap_exchange.proofs.Short.WhenShort.{askable_when_short_exactly}
pub use Rattle.coap_exchange.proofs.Calls.DrainedOptions.{drained}
