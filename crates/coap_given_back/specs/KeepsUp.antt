-- When a client keeps up: it ticks in time, or has nothing to do (RFC 7252, sections 4.2, 4.7 and 5.2.2). By its own
-- clock alone, and whatever comes to it.
use Rattle.std.specs.Prelude.{◌⊎◌, ◌≤◌, ◌<◌, ℕ, ◌+◌, max, Bool, true, false, List, [], ◌∷◌}
use Rattle.std.specs.Prelude.{if◌then◌else◌, ◌≡◌}
use Rattle.coap_types.specs.Past.{Always}
use Rattle.coap_types.specs.declared.endpoint.Endpoint.{Endpoint}
use Rattle.coap_layer.specs.declared.setup.Setup.{Setup}
use Rattle.coap_block.specs.Sizes.{Sizes}
use Rattle.coap_client.specs.Law.{ClientLaw, own_of}
use Rattle.coap_client.specs.Trace.{Call, Calls, Observes, Cancels, Feeds, Ticks}
use Rattle.coap_client_laws.specs.Follows.Answered.{IsIdleTick}
use Rattle.coap_client_laws.specs.Follows.Open.{IsOpenSince}
use Rattle.coap_given_back.specs.AskerYoung.{longest_exchange}

-- a call that is handed a moment
abbrev pub has_moment : Call → Bool
has_moment (Calls now r answer) = true
has_moment (Observes now path answer) = true
has_moment (Cancels now number answer) = true
has_moment (Feeds now from bytes word up settled event sent token kept) = true
has_moment (Ticks now word below t sent token kept answer) = true
has_moment c = false

module _ (server : Endpoint) (sizes : Sizes) (setup : Setup) where
  -- when these calls end
  abbrev pub clock : List Call → ℕ
  clock t = (own_of sizes t).clock

  abbrev pub next_of : ℕ → Call → List Call → ℕ
  next_of next c t = if has_moment c then clock (c ∷ t) else next

  module _ (late : ℕ) where
    -- After these calls, at a moment that isn't behind the next, a tick does nothing, or would; and so long ago this
    -- moment is at most.
    pub record RestsBy (at next : ℕ) (t : List Call) : Type 0 where
      pub tick : Call
      pub idle : IsIdleTick server sizes setup tick
      pub law : ClientLaw server sizes setup (tick ∷ t)
      pub before : clock (tick ∷ t) ≤ next
      pub soon : at ≤ clock (tick ∷ t) + late

    -- .. after these, or fewer
    abbrev pub HasRested : (at next : ℕ) → List Call → Type 0
    HasRested at next [] = RestsBy at next []
    HasRested at next (c ∷ t) = RestsBy at next (c ∷ t) ⊎ HasRested at (next_of next c t) t

    -- .. or that from which it is asked is not longer ago
    abbrev pub KeepsUp : (from at : ℕ) → List Call → Type 0
    KeepsUp from at t = HasRested at at t ⊎ (at ≤ from + late)

    -- It does so at each call from that moment on.
    abbrev pub KeepsUpSince : ℕ → List Call → Type 0
    KeepsUpSince from t =
        Always (λ past c. has_moment c ≡ true → from ≤ clock (c ∷ past) → KeepsUp from (clock (c ∷ past)) past) t

    -- An exchange of a client that keeps up is open for less than 340,000 ms and twice what it is late: since it began,
    -- or since that moment, where it began before.
    abbrev pub AreYoung : List Call → Type 0
    AreYoung t =
        (from : ℕ) → KeepsUpSince from t → (since : ℕ) → IsOpenSince sizes since t → (at : ℕ) → clock t ≤ at
        → KeepsUp from at t → at < max from since + longest_exchange late
