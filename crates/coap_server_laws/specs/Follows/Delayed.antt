-- The delays of the paths are those that calls gave, and no other call changes them (RFC 7252, section 5.2.2; that a
-- path has a delay is a profile).
use Rattle.std.specs.Prelude.{◌≡◌, ℕ, Bool, true, false, Some, List, ◌++◌}
use Rattle.coap_types.specs.Past.{Ever}
use Rattle.coap_block.specs.Whole.{Each}
use Rattle.coap_resource.specs.Limits.{Limits}
use Rattle.coap_server.specs.Trace.{Call, Delays}
use Rattle.coap_server.specs.Deferring.{delay_of}
use Rattle.coap_server.specs.Law.{own_of}

-- whether a call gives a path a delay
abbrev pub sets_delay : Call → Bool
sets_delay (Delays path ms answer) = true
sets_delay _ = false

module _ (limits : Limits) (szx : ℕ) where
  -- what delay a path has a call gave it, and it stays so until a call gives another
  pub record DelaysStay (t : List Call) : Type 0 where
    pub given : (path : List (List ℕ)) (ms : ℕ) → delay_of path (own_of limits szx t).delays ≡ Some ms
        → Ever (λ c. c ≡ Delays path ms true) t
    pub stay : (later : List Call) → Each (λ c. sets_delay c ≡ false) later
        → (own_of limits szx (later ++ t)).delays ≡ (own_of limits szx t).delays
