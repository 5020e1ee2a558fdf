-- What is whole of a journal.
use Rattle.std.specs.Prelude.{◌≡◌, ◌+◌, ℕ, List, ◌++◌, length}
use Rattle.coap_journal.specs.Frames.{BeginsFrame, frames}
use Rattle.coap_journal.specs.Input.{AreShort}

-- These bytes, the first at this place, are whole frames, and nothing else.
abbrev pub AreFrames : ℕ → List ℕ → Type 0
AreFrames place bytes = (bodies : List (List ℕ)) × AreShort bodies × (bytes ≡ frames place bodies)

-- These bytes, the first at this place, are so many whole frames up to an end, and a tail with which none begins.
pub record IsWholeTo (place : ℕ) (bytes : List ℕ) (count end : ℕ) (tail : List ℕ) : Type 0 where
  pub bodies : List (List ℕ)
  pub short : AreShort bodies
  pub parts : bytes ≡ frames place bodies ++ tail
  pub counted : length bodies ≡ count
  pub ends : end ≡ place + length (frames place bodies)
  pub none : BeginsFrame end tail → ⊥
