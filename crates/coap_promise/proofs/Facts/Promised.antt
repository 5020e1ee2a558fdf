-- What each record of legal events keeps, for proofs above.
pub use Rattle.coap_promise.proofs.Progress.EachPosition.{never_faults, no_fault}
pub use Rattle.coap_promise.proofs.Reports.Promised.{agrees, agrees_by, exchanges_bounded_by}
pub use Rattle.coap_promise.proofs.Facts.Requests.Promised.{lawful}
