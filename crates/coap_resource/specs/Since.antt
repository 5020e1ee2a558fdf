-- How far a store's version has gone since a change (RFC 7641, section 4.4): what any 256 s hold bounds it.
use Rattle.std.specs.Prelude.{◌≡◌, ◌≤◌, ℕ, ◌+◌, ◌*◌, None, max}
use Rattle.coap_resource.specs.Rate.{Tally, counted, rate_refusal, waited, window}
use Rattle.coap_resource.specs.declared.tally.TheConstants.{WINDOW_MS as window_ms}

-- This version was made at this moment, and a window took no more changes than it may since then: in the window of that
-- moment, and in the next one.
pub record IsSince (version moment : ℕ) (t : Tally) : Type 0 where
  pub from : moment ≤ t.clock
  pub few : t.changes ≤ t.limits.changes
  pub here : window t.clock ≡ window moment → t.version ≤ version + t.changes
  pub next : window t.clock ≡ window moment + 1 → t.version ≤ version + (t.limits.changes + t.changes)

-- It is so of the change that makes the version ..
abbrev pub IsMade : Type 0
IsMade = (t : Tally) (now : ℕ) → rate_refusal t now ≡ None → IsSince (t.version + 1) (max t.clock now) (counted t now)

-- .. and stays so, whatever the store is asked.
abbrev pub StaysSince : Type 0
StaysSince = (version moment : ℕ) (t : Tally) (now : ℕ) → IsSince version moment t
    → IsSince version moment (waited t now) × (rate_refusal t now ≡ None → IsSince version moment (counted t now))

-- So within 256 s of its making the version has risen by at most twice the changes that a window takes.
abbrev pub RisesLittle : Type 0
RisesLittle = (version moment : ℕ) (t : Tally) → IsSince version moment t → t.clock ≤ moment + window_ms
    → t.version ≤ version + 2 * t.limits.changes
