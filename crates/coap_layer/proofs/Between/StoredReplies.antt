-- A stored reply was given at most EXCHANGE_LIFETIME before.
use Rattle.std.proofs.Common.{◌≡◌, inl, inr, ℕ, ◌+◌, ◌≤◌, false, List, [], ◌∷◌, arith}
use Rattle.coap_types.specs.Past.{Ever, Since}
use Rattle.coap_types.proofs.Facts.Traces.{Ever_map, forget}
use Rattle.coap_types.specs.declared.endpoint.Endpoint.{Endpoint}
use Rattle.coap_types.specs.declared.transmission.TheConstants.{EXCHANGE_LIFETIME_MS as exchange_lifetime}
use Rattle.coap_layer.specs.Rows.{LayerLaw}
use Rattle.coap_layer.specs.Trace.{Setup, Entry}
use Rattle.coap_layer.specs.Words.{clock, hands_up, Remembered}

-- no entry is later than the clock
pub by_clock : (setup : Setup) (P : Entry → Type 0) (t : List Entry) (now : ℕ) → LayerLaw setup t → clock t ≤ now
    → Ever P t
    → Ever (λ e. P e × (e.at ≤ now)) t
by_clock setup P [] now law le h = h
by_clock setup P (e ∷ past) now law le (inl h) = inl (h, le)
by_clock setup P (e ∷ past) now law le (inr h) =
    inr (by_clock setup P past now law.1 (let l = law.0.time in omega (arith, l, le)) h)

-- a stored reply was given at most 247 s before
pub since_young : (setup : Setup) (now : ℕ) (from : Endpoint) (id : ℕ) (B : Entry → Type 0) (t : List Entry)
    → LayerLaw setup t
    → Since B (λ b. hands_up from id b ≡ false) t → Remembered t now from id
    → Ever (λ b. B b × (now ≤ b.at + exchange_lifetime)) t
since_young setup now from id B [] law h k = absurd h
since_young setup now from id B (e ∷ past) law (inl b) (inl k) = inl (b, k.young)
since_young setup now from id B (e ∷ past) law (inl b) (inr k) =
    inl (
      b,
      forget _ past (Ever_map _ (λ y. now ≤ e.at + exchange_lifetime)
          (λ y z. let a = z.0.young in let l = z.1 in omega (arith, a, l)) past
          (by_clock setup _ past e.at law.1 law.0.time k)),
    )
since_young setup now from id B (e ∷ past) law (inr h) (inl k) = let a = h.0 in let b = k.up in absurd (cc (a, b))
since_young setup now from id B (e ∷ past) law (inr h) (inr k) = inr (since_young setup now from id B past law.1 h.1 k)
