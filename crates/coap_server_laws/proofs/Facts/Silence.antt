-- When a message layer sends nothing to a peer, and remembers nothing of it, for proofs above.
pub use Rattle.coap_server_laws.proofs.Silence.LayerApart.{Apart, Else, Elsewhere, given_apart, steps_apart}
pub use Rattle.coap_server_laws.proofs.Silence.LayerForgets.{AreBehind, AreLive, AreOld, HeardElse, none_left}
pub use Rattle.coap_server_laws.proofs.Silence.LayerForgets.{old_then, steps_behind, steps_live, steps_old}
