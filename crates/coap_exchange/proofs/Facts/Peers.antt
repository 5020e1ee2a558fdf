-- What is left of a peer that rejects what is outstanding to it, and whose deferred requests are let go.
pub use Rattle.coap_exchange.proofs.EndsSaid.OneForAPeer.{none_deferred, one_for_a_peer}
pub use Rattle.coap_exchange.proofs.EndsSaid.ResetFrees.{Freed, reset_frees, reset_quiet}
