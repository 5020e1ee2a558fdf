-- What a call of a client moves, for proofs above.
pub use Rattle.coap_client.proofs.Facts.Turning.Moves.{happened_moves, passes_moves, releases_none}
