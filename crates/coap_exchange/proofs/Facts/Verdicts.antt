-- What the verdicts of the client's table rest on.
pub use Rattle.coap_exchange.specs.Machine.VerdictFits.{Answers, Notices, OfRequest, Fits, Judged, Taken, TurnFits}
pub use Rattle.coap_exchange.proofs.Calls.VerdictsFit.{of_request, judged_by, verdict_fits, turn_fits}
