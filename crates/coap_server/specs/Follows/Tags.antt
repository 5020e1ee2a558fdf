-- An entity-tag of a server names one representation (RFC 7252, section 5.10.6).
use Rattle.std.specs.Prelude.{◌≡◌, ◌<◌, ℕ, ◌^◌, Some, List, ◌∷◌}
use Rattle.coap_types.specs.Past.{Sometime, Always}
use Rattle.coap_resource.specs.Content.{Held}
use Rattle.coap_resource.specs.RequestOptions.{tag_of}
use Rattle.coap_resource.specs.Limits.{Limits}
use Rattle.coap_server.specs.Trace.{Call}
use Rattle.coap_server.specs.Law.{own_of}
use Rattle.coap_server.specs.Follows.Holds.{Change, change, held_at}

module _ (limits : Limits) (szx : ℕ) where
  -- A change has a version of 64 bits, and what it puts has that version.
  pub record IsStamped (past : List Call) (c : Call) : Type 0 where
    pub version : (x : Change) → change (own_of limits szx past) c ≡ Some x → x.version < 2 ^ 64
    pub held : (x : Change) (held : Held) → change (own_of limits szx past) c ≡ Some x → x.held ≡ Some held
        → held.version ≡ x.version

  abbrev pub AreStamped : List Call → Type 0
  AreStamped = Always IsStamped

  -- the path held this, after some call
  abbrev pub WasHeld : List (List ℕ) → Held → List Call → Type 0
  WasHeld path held t = Sometime (λ past c. held_at limits szx path (c ∷ past) ≡ Some held) t

  -- What was held under one entity-tag, at any two moments, is one representation, of one path.
  abbrev pub OneTag : List Call → Type 0
  OneTag t = (p q : List (List ℕ)) (g h : Held) → WasHeld p g t → WasHeld q h t → tag_of g.version ≡ tag_of h.version
      → (g ≡ h) × (p ≡ q)
