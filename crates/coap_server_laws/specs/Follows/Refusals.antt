-- What a server does with a request of a method that there is none of: an error, and nothing else (RFC 7252, sections
-- 5.8 and 5.9.2).
use Rattle.std.specs.Prelude.{◌≡◌, ◌⊎◌, ℕ, ◌&&◌, nat_le, Bool, false, None, IfSome, List, [], ◌∷◌, slice_set}
use Rattle.std.specs.Prelude.{if◌then◌else◌}
use Rattle.coap_types.specs.MethodCode.{method_of}
use Rattle.coap_resource.specs.Limits.{Limits}
use Rattle.coap_server.specs.Follows.Holds.{change}
use Rattle.coap_server.specs.Law.{own_of}
use Rattle.coap_server.specs.Responses.{bare}
use Rattle.coap_server.specs.Trace.{Handling, Silent, Replies, Call, Feeds}

-- it is ignored, or answered with a code alone: it is not served, and does not wait until it is
abbrev pub IsRefused : Handling → Type 0
IsRefused h = (h ≡ Silent) ⊎ ((code : ℕ) × (h ≡ Replies (bare code)))

-- the second byte is the code of a request: of class 0, and not 0.00 (section 3)
abbrev pub is_asking : List ℕ → Bool
is_asking [] = false
is_asking (b ∷ []) = false
is_asking (b ∷ code ∷ bytes) = nat_le 1 code && nat_le code 31

-- the datagram, with 0.31 as its code where it has that of a request: a method that there is none of
abbrev pub unasked : List ℕ → List ℕ
unasked bytes = if is_asking bytes then slice_set bytes 1 31 else bytes

module _ (limits : Limits) (szx : ℕ) where
  -- .. and nothing is changed
  abbrev pub ChangesNothing : List Call → Call → Handling → Type 0
  ChangesNothing past c h = IsRefused h × (change (own_of limits szx past) c ≡ None)

  -- A request whose code is that of no method is refused.
  abbrev pub RefusesUnknown : List Call → Call → Type 0
  RefusesUnknown past (Feeds now from bytes word up came h below) =
      IfSome came (λ p. method_of p.1.code ≡ None)
      → ChangesNothing past (Feeds now from bytes word up came h below) h
  RefusesUnknown past c = Unit {0}

  -- So is each datagram that is fed as one of those.
  abbrev pub NeverServed : List Call → Call → Type 0
  NeverServed past (Feeds now from bytes word up came h below) =
      (datagram : List ℕ) → bytes ≡ unasked datagram
      → ChangesNothing past (Feeds now from bytes word up came h below) h
  NeverServed past c = Unit {0}
