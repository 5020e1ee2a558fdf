-- What proofs above use: frames and one more after them, how long a frame is, what is left of frames, and the
-- first of some bytes.
pub use Rattle.coap_journal.proofs.CutAnywhere.{length-frame}
pub use Rattle.coap_journal.proofs.Appended.{framed_more, frames_more, rest_is_less}
pub use Rattle.coap_journal.proofs.Beginnings.{front_is}
pub use Rattle.coap_journal.proofs.FramesLeft.{frames_behind, none_left}
