-- How a call ends, and what a room has then.
use Rattle.std.specs.Prelude.{◌≡◌, ◌≤◌, ◌<◌, ◌++◌, ℕ, List, drop, length}
use Rattle.coap_page.specs.declared.ended.Ended.{Ended}
use Rattle.coap_page.specs.declared.ended.Ended.TheVariants as ended

abbrev pub ended_number : Ended → ℕ
ended_number ended.Done = 0
ended_number ended.Refused = 1
ended_number ended.Words = 2
ended_number ended.Small = 3
ended_number ended.Memory = 4

-- A call that comes to an end with a text answers it in a room: the whole text from the first byte on, and behind it
-- what was there; or, where the room is smaller, nothing. Either way it answers how long the text is.
pub record Answers (ends : Ended) (text old new : List ℕ) (used : ℕ) (answer : Ended) : Type 0 where
  pub len : used ≡ length text
  pub whole : length text ≤ length old → (answer ≡ ends) × (new ≡ text ++ drop (length text) old)
  pub small : length old < length text → (answer ≡ ended.Small) × (new ≡ old)

-- it answers with a text that is one of those of this ending
abbrev pub AnswersOne : (Ended → List ℕ → Type 0) → List ℕ → List ℕ → ℕ → Ended → Type 0
AnswersOne IsText old new used answer =
    (ends : Ended) × (text : List ℕ) × IsText ends text × Answers ends text old new used answer
