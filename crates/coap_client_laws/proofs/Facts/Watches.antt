-- What a client sees of what it observes, for proofs above.
pub use Rattle.coap_client_laws.proofs.Hearing.Acked.{are_acked}
pub use Rattle.coap_client_laws.proofs.Hearing.NoticesHeard.{notices_are_heard}
pub use Rattle.coap_client_laws.proofs.Observing.AreThere.{are_there}
pub use Rattle.coap_client_laws.proofs.Observing.LastValue.{last_is_newest}
pub use Rattle.coap_client_laws.proofs.Observing.NoneFetched.{none_fetched}
pub use Rattle.coap_client_laws.proofs.Observing.Noticed.{are_answered, are_noticed, are_shown}
pub use Rattle.coap_client_laws.proofs.Observing.Notified.{newest_kept, newest_now}
pub use Rattle.coap_client_laws.proofs.Observing.Registered.{IsAwaited, registered}
pub use Rattle.coap_client_laws.proofs.Observing.Rising.{newest_came}
pub use Rattle.coap_client_laws.proofs.Observing.StaysLive.{stay_live}
pub use Rattle.coap_client_laws.proofs.Observing.TokensKept.{tokens_are_kept}
pub use Rattle.coap_client_laws.proofs.Observing.WatchedAs.{are_watched, have_tokens}
pub use Rattle.coap_client_laws.proofs.Sending.CancelsTaken.{cancels_are_taken}
pub use Rattle.coap_client_laws.proofs.Sending.RegisteredOnce.{registered_once}
