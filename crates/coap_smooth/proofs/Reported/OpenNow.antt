-- Whether an exchange is open at a client, and since when.
use Rattle.std.proofs.Common.{◌≡◌, ◌⊎◌, inl, inr, ◌≤◌, ℕ, Option, Some, None, List, [], ◌∷◌, ◌++◌, refl, ap, sym, ◌∙◌}
use Rattle.std.proofs.Common.{arith, is_some, cond}
use Rattle.coap_block.specs.Sizes.{Sizes}
use Rattle.coap_codec.specs.Message.{Message}
use Rattle.coap_client_laws.specs.Follows.Clock.{moment_of}
use Rattle.coap_client_laws.specs.Follows.Ends.{ends_as}
use Rattle.coap_client_laws.specs.Follows.Open.{IsOpenSince}
use Rattle.coap_client.specs.Sendings.{Sending, sends, hears}
use Rattle.coap_client.specs.Law.{own_of}
use Rattle.coap_client.specs.Own.{Own}
use Rattle.coap_client.specs.Trace.{Report, Call, Calls, Observes, Cancels, Feeds, Ticks}
use Rattle.coap_client_laws.proofs.Facts.Laws.{clock_is}
use Rattle.coap_record.specs.Events.{Config}
use Rattle.coap_smooth.proofs.Reported.InTurn.{one_sent, sent_in}

module _ (sizes : Sizes) where
  abbrev pub IsOpen : List Call → Type 0
  IsOpen t = (at : ℕ) × IsOpenSince sizes at t

  abbrev pub IsShut : List Call → Type 0
  IsShut t = (at : ℕ) → IsOpenSince sizes at t → ⊥

  pub open_or_shut : (t : List Call) → IsOpen t ⊎ IsShut t
  open_or_shut [] = inr (λ at h. h)
  open_or_shut (c ∷ t) = by (sends (own_of sizes t) c) refl (hears c) refl (ends_as c) refl (open_or_shut t)
    where
      by : (o : Option Sending) → sends (own_of sizes t) c ≡ o → (h : Option Message) → hears c ≡ h
          → (e : Option Report) → ends_as c ≡ e → IsOpen t ⊎ IsShut t → IsOpen (c ∷ t) ⊎ IsShut (c ∷ t)
      by (Some x) is h heard e ended k =
          inl (moment_of (own_of sizes t) c, inl (record { sending = x; sends_it = is; moment = refl }))
      by None is (Some m) heard e ended k = inr (λ at o. elim o [
        | inl b ↦ (let z = sym is ∙ b.sends_it in cc z)
        | inr r ↦ (let z = sym heard ∙ r.0 in cc z)
      ])
      by None is None heard (Some r) ended k = inr (λ at o. elim o [
        | inl b ↦ (let z = sym is ∙ b.sends_it in cc z)
        | inr q ↦ (let z = sym ended ∙ q.1 in cc z)
      ])
      by None is None heard None ended (inl k) = inl (k.0, inr (heard, ended, k.1))
      by None is None heard None ended (inr k) = inr (λ at o. elim o [
        | inl b ↦ (let z = sym is ∙ b.sends_it in cc z)
        | inr q ↦ k at q.2
      ])

  -- the clock doesn't fall
  not_before : (s : Own) (c : Call) → s.clock ≤ moment_of s c
  not_before s (Calls now r answer) = omega arith
  not_before s (Observes now path answer) = omega arith
  not_before s (Cancels now number answer) = omega arith
  not_before s (Feeds now from bytes word up settled event sent token kept) = omega arith
  not_before s (Ticks now word below t sent token kept answer) = omega arith
  not_before s _ = omega arith

  pub since_by_clock : (at : ℕ) (t : List Call) → IsOpenSince sizes at t → at ≤ (own_of sizes t).clock
  since_by_clock at [] o = absurd o
  since_by_clock at (c ∷ t) (inl b) =
      let is : (own_of sizes (c ∷ t)).clock ≡ moment_of (own_of sizes t) c = clock_is (own_of sizes t) c in
      let moment = b.moment in
      omega (arith, is, moment)
  since_by_clock at (c ∷ t) (inr r) =
      let is : (own_of sizes (c ∷ t)).clock ≡ moment_of (own_of sizes t) c = clock_is (own_of sizes t) c in
      let later = not_before (own_of sizes t) c in
      let k = since_by_clock at t r.2 in
      omega (arith, is, later, k)

-- what is open was so before these calls, or they sent a request
pub began_now : (config : Config) (at : ℕ) (later before : List Call)
    → IsOpenSince config.client_sizes at (later ++ before)
    → (1 ≤ sent_in config later before) ⊎ IsOpenSince config.client_sizes at before
began_now config at [] before o = inr o
began_now config at (c ∷ later) before (inl b) =
    let is : one_sent config (later ++ before) c ≡ 1 =
    ap (λ (o : Option Sending). cond (is_some o) 1 0) b.sends_it in
    inl (omega (arith, is))
began_now config at (c ∷ later) before (inr r) =
    elim (began_now config at later before r.2) [ inl k ↦ inl (omega (arith, k)) | inr k ↦ inr k ]
