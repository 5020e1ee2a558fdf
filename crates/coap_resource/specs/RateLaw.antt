-- How often a store changes, over all its calls since `new` (RFC 7641, section 4.4).
use Rattle.std.specs.Prelude.{◌≡◌, ◌≤◌, ◌↔◌, ℕ, Bool, true, false, ◌&&◌, ◌+◌, ◌*◌, ◌==◌, max, nat_le, List, [], ◌∷◌}
use Rattle.std.specs.Prelude.{Option, Some, None, if◌then◌else◌}
use Rattle.coap_resource.specs.declared.refusal.StoreRefusal.TheVariants.{RateExceeded}
use Rattle.coap_resource.specs.Limits.{Limits}
use Rattle.coap_resource.specs.declared.tally.TheConstants.{WINDOW_MS as window_ms}
use Rattle.coap_resource.specs.Content.{Content, Held, Changes, nothing, later}
use Rattle.coap_resource.specs.Rate.{rate_refusal, used, window}

-- what a call makes of a store: a change, where the window has room for it; else only the moment counts
abbrev pub Goes : Bool → Content → ℕ → Content → Type 0
Goes true old now new = (rate_refusal old.tally now ≡ None)
    × ((path : List (List ℕ)) × (held : Option Held) × Changes old now path held new)
Goes false old now new = new ≡ later old now

-- calls, newest first, each with its moment and whether it changed something, that lead from a new store to this one
abbrev pub Leads : Limits → List (ℕ × Bool) → Content → Type 0
Leads limits [] s = s ≡ nothing limits
Leads limits (call ∷ past) s = (before : Content) × (Leads limits past before × Goes call.1 before call.0 s)

-- the last moment as moments count: one before the last counts as the last
abbrev pub last : List (ℕ × Bool) → ℕ
last [] = 0
last (call ∷ past) = max (last past) call.0

-- how many changes counted from one moment to another, both included
abbrev pub changes_between : ℕ → ℕ → List (ℕ × Bool) → ℕ
changes_between from to [] = 0
changes_between from to (call ∷ past) =
    (if call.1 && (nat_le from (last (call ∷ past)) && nat_le (last (call ∷ past)) to) then 1 else 0) + changes_between
    from to past

-- any 256 s hold at most twice the changes that a window takes
abbrev pub RateLaw : Type 0
RateLaw = (limits : Limits) (calls : List (ℕ × Bool)) (s : Content) → Leads limits calls s → (from : ℕ)
    → changes_between from (from + window_ms) calls ≤ 2 * limits.changes

-- how many changes counted in a window
abbrev pub changes_in : ℕ → List (ℕ × Bool) → ℕ
changes_in w [] = 0
changes_in w (call ∷ past) = (if call.1 && (window (last (call ∷ past)) == w) then 1 else 0) + changes_in w past

-- the changes that a store has counted in the window of a moment are those among its calls
abbrev pub CountLaw : Type 0
CountLaw = (limits : Limits) (calls : List (ℕ × Bool)) (s : Content) → Leads limits calls s → (now : ℕ)
    → used s.tally now ≡ changes_in (window (max (last calls) now)) calls

-- a change is refused for its rate exactly where the window of its moment has all its changes among the calls, and so
-- never early
abbrev pub ExceededLaw : Type 0
ExceededLaw = (limits : Limits) (calls : List (ℕ × Bool)) (s : Content) → Leads limits calls s → (now : ℕ)
    → (rate_refusal s.tally now ≡ Some RateExceeded) ↔ (changes_in (window (max (last calls) now)) calls
    ≡ limits.changes)
