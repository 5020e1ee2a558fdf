-- What each call of a server does, for proofs above.
pub use Rattle.coap_server_laws.proofs.Answering.WaitOn.{behind}
pub use Rattle.coap_server_laws.proofs.Replying.RefusalsAreErrors.{refusals_are_errors}
pub use Rattle.coap_server_laws.proofs.Telling.LayerCalls.{layer_next}
pub use Rattle.coap_server_laws.proofs.Telling.MadeInCall.{Made, con_made, plain_made, reply_made}
pub use Rattle.coap_server_laws.proofs.Telling.SentNow.{held_small}
pub use Rattle.coap_server_laws.proofs.Telling.Told.{acks_arrive, all_tell_sent}
pub use Rattle.coap_server_laws.proofs.Telling.UnderRegistrations.{all_serve_pairs, are_under}
