-- The laws of a run by two clocks are those of a run at any time.
pub use Rattle.coap_promise.proofs.Facts.Requests.OfACall.{at_any_time}
