-- What a server holds by the rows of its law, for the proofs of what runs it.
pub use Rattle.coap_server.proofs.Facts.Holding.Holds.{version_is, held_is, limits_are, all_served, holds_changes}
pub use Rattle.coap_server.proofs.Facts.Holding.Stamps.{are_stamped}
