-- A store in which one path holds something and no other does, and its changes (RFC 7252, section 5.8).
use Rattle.std.proofs.Common.{◌≡◌, ◌≢◌, ℕ, ◌+◌, Bool, true, false, Option, Some, None, is_some, if◌then◌else◌, List}
use Rattle.std.proofs.Common.{refl, ap, sym, ◌∙◌, cond}
use Rattle.coap_types.specs.Path.{same_path}
use Rattle.coap_types.proofs.Facts.Paths.{same_path-decides}
use Rattle.coap_resource.specs.Content.{Content, Held, Changes, nothing}
use Rattle.coap_resource.specs.Limits.{Limits}
use Rattle.coap_resource.specs.Rate.{Tally, counted, unused}

abbrev pub one : List (List ℕ) → Held → Tally → Content
one path held tally = record { holds = λ other. cond (same_path path other) (Some held) None; paths = 1; tally = tally }

there : (path : List (List ℕ)) (held : Held) (tally : Tally) → (one path held tally).holds path ≡ Some held
there path held tally = ap (λ b. cond b (Some held) None) ((same_path-decides path path).1 refl)

elsewhere : (path other : List (List ℕ)) (held : Held) (tally : Tally) → other ≢ path
    → (one path held tally).holds other ≡ None
elsewhere path other held tally apart = go (same_path path other) refl
  where
    go : (b : Bool) → same_path path other ≡ b → cond b (Some held) None ≡ None
    go true same = absurd (apart (sym ((same_path-decides path other).0 same)))
    go false same = refl

-- the first change
pub first : (limits : Limits) (now : ℕ) (path : List (List ℕ)) (held : Held)
    → Changes (nothing limits) now path (Some held) (one path held (counted (unused limits) now))
first limits now path held = record {
  there = there path held (counted (unused limits) now);
  others = λ other apart. elsewhere path other held (counted (unused limits) now) apart;
  paths = refl;
  tally = refl;
}

-- a further one of the same path
pub further : (now : ℕ) (path : List (List ℕ)) (old new : Held) (tally : Tally)
    → Changes (one path old tally) now path (Some new) (one path new (counted tally now))
further now path old new tally = record {
  there = there path new (counted tally now);
  others = λ other apart. elsewhere path other new (counted tally now) apart
      ∙ sym (elsewhere path other old tally apart);
  paths = ap (λ (held : Option Held). 1 + (if is_some held then 1 else 0)) (there path old tally);
  tally = refl;
}
