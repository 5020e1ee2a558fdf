-- Where what a message layer sends comes from, for proofs above.
pub use Rattle.coap_server_laws.proofs.Replying.Sourced.{sourced}
pub use Rattle.coap_server_laws.proofs.Replying.AskedInEntries.{called}
