-- How many CONs have a step due at a moment: a retransmission, or their failure (RFC 7252, section 4.2).
use Rattle.std.specs.Prelude.{ℕ, ◌+◌, Bool, cond, ◌||◌, List, [], ◌∷◌}
use Rattle.coap_layer.specs.Machine.State.{is_copy_due, is_failed}
use Rattle.coap_layer.specs.Words.{Open}

abbrev pub one_if : Bool → ℕ
one_if b = cond b 1 0

abbrev pub has_step : ℕ → Open → Bool
has_step at c = is_failed at c || is_copy_due at c

abbrev pub due_count : ℕ → List Open → ℕ
due_count at [] = 0
due_count at (c ∷ cs) = one_if (has_step at c) + due_count at cs
