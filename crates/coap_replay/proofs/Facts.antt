-- What proofs above use: one more at the end of what is done, and what a datagram to be refused is.
pub use Rattle.coap_replay.proofs.OneMore.{all_spelled_more, bodies_more, frames_of_more, spelled_some}
pub use Rattle.coap_replay.proofs.OneMore.{gives_more, replays_more, takes_more}
pub use Rattle.coap_replay.proofs.RefusedTakes.{refused_or_fed_takes}
