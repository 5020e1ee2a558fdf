-- What each call of a client does, for proofs above.
pub use Rattle.coap_client.proofs.Facts.Places.PlaceLemmas.{same_number}
pub use Rattle.coap_client.proofs.Facts.Turning.Leading.{client_stands, led_client}
