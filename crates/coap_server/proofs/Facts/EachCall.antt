-- What each call of a server does, for proofs above.
pub use Rattle.coap_server.proofs.Facts.Serving.ServedNow.{served_now}
pub use Rattle.coap_server.proofs.Facts.Serving.SameAsked.{same_asked_is}
pub use Rattle.coap_server.proofs.Facts.Serving.Brought.{comes_here, comes_refused, szx_is}
pub use Rattle.coap_server.proofs.Facts.Exact.Leads.{led_further, led_lawful}
