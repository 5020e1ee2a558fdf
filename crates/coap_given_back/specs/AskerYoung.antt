-- How long an exchange of the client's side is open, where that keeps up (RFC 7252, sections 4.2 and 5.2.2).
use Rattle.std.specs.Prelude.{◌≡◌, ◌⊎◌, ◌≤◌, ◌<◌, ℕ, ◌+◌, ◌*◌, max, Some, List, [], ◌∷◌}
use Rattle.coap_types.specs.Past.{Always}
use Rattle.coap_types.specs.declared.endpoint.Endpoint.{Endpoint}
use Rattle.coap_layer.specs.Trace as L
use Rattle.coap_layer.specs.declared.setup.Setup.{Setup}
use Rattle.coap_exchange.specs.declared.asker.Exchange.{Exchange}
use Rattle.coap_exchange.specs.declared.asker.Turn.TheVariants as turn
use Rattle.coap_exchange.specs.AskerTrace.{Call, Ask, Receive, Ticks}
use Rattle.coap_exchange.specs.AskerFollows.{Begun, last_begun, moment}
use Rattle.coap_exchange.specs.AskerLaw.{own_of, ExchangeLaw}

-- How long an exchange of a client that keeps up is open, at most, whose steps are late by so much at most: a request
-- that is never acknowledged fails 93,000 ms after it was sent, by the longest initial timeout; one that is, before
-- that, waits for EXCHANGE_LIFETIME from then on; and both steps are late.
abbrev pub longest_exchange : ℕ → ℕ
longest_exchange late = 340000 + 2 * late

module _ (server : Endpoint) (setup : Setup) where
  -- when these calls end
  abbrev pub clock : List Call → ℕ
  clock t = (own_of server setup t).clock

  -- the moment that the call comes at, if it has one; else that of the next
  abbrev pub next_of : ℕ → Call → List Call → ℕ
  next_of next (Ask now r w below answer) t = clock (Ask now r w below answer ∷ t)
  next_of next (Receive now from bytes up settled answer) t = clock (Receive now from bytes up settled answer ∷ t)
  next_of next (Ticks now below answer) t = clock (Ticks now below answer ∷ t)
  next_of next c t = next

  abbrev pub IsArrival : Call → Type 0
  IsArrival (Receive now from bytes up settled answer) = Unit {0}
  IsArrival c = ⊥

  module _ (late : ℕ) where
    -- After these calls, at a moment that isn't behind the next, a tick does nothing; and so long ago this moment is at
    -- most.
    pub record RestsBy (at next : ℕ) (t : List Call) : Type 0 where
      pub now : ℕ
      pub below : L.Answer
      pub law : ExchangeLaw server setup (Ticks now below turn.Idle ∷ t)
      pub before : moment server setup t now ≤ next
      pub soon : at ≤ moment server setup t now + late

    -- .. after these, or fewer
    abbrev pub HasRested : (at next : ℕ) → List Call → Type 0
    HasRested at next [] = RestsBy at next []
    HasRested at next (c ∷ t) = RestsBy at next (c ∷ t) ⊎ HasRested at (next_of next c t) t

    -- .. or that from which it is asked is not longer ago
    abbrev pub KeepsUp : (from at : ℕ) → List Call → Type 0
    KeepsUp from at t = HasRested at at t ⊎ (at ≤ from + late)

    -- it does so at each arrival from that moment on
    abbrev pub KeepsUpSince : ℕ → List Call → Type 0
    KeepsUpSince from t =
        Always (λ past c. IsArrival c → from ≤ clock (c ∷ past) → KeepsUp from (clock (c ∷ past)) past) t

    -- An exchange that runs is so young, or that moment so near, at each moment up to which it keeps up.
    abbrev pub AreYoung : List Call → Type 0
    AreYoung t =
        (from : ℕ) → KeepsUpSince from t → (x : Exchange) (b : Begun) → (own_of server setup t).running ≡ Some x
        → last_begun server setup t ≡ Some b → (at : ℕ) → KeepsUp from at t
        → at < max from b.at + longest_exchange late
