-- When the request was sent that was sent last.
use Rattle.std.proofs.Common.{◌≡◌, inl, inr, ◌≤◌, ℕ, Bool, true, false, cond, is_some, Option, Some, None, List, []}
use Rattle.std.proofs.Common.{◌∷◌}
use Rattle.std.proofs.Common.{ap, arith}
use Rattle.coap_types.specs.declared.endpoint.Endpoint.{Endpoint}
use Rattle.coap_layer.specs.declared.setup.Setup.{Setup}
use Rattle.coap_block.specs.Sizes.{Sizes}
use Rattle.coap_client.specs.Law.{own_of}
use Rattle.coap_client.specs.Sendings.{Sending, sends}
use Rattle.coap_client.specs.Trace.{Call}
use Rattle.coap_client_laws.specs.Follows.Open.{IsOpenSince}
use Rattle.coap_client_laws.proofs.Facts.Laws.{clock_is}
use Rattle.coap_given_back.specs.KeepsUp as client
use Rattle.coap_given_back.proofs.Young.Beneath.{rises}

module _ (server : Endpoint) (sizes : Sizes) (setup : Setup) where
  abbrev clock : List Call → ℕ
  clock t = client.clock server sizes setup t

  abbrev pub last_at : List Call → ℕ
  last_at [] = 0
  last_at (c ∷ t) = cond (is_some (sends (own_of sizes t) c)) (clock (c ∷ t)) (last_at t)

  picked : (b : Bool) (m n k : ℕ) → m ≤ k → n ≤ k → cond b m n ≤ k
  picked true m n k h l = h
  picked false m n k h l = l

  pub last_by : (t : List Call) → last_at t ≤ clock t
  last_by [] = omega arith
  last_by (c ∷ t) =
      let a = last_by t in
      let b = rises server sizes setup 0 t c in
      picked (is_some (sends (own_of sizes t) c)) (clock (c ∷ t)) (last_at t) (clock (c ∷ t)) (omega arith)
      (omega (arith, a, b))

  at_least : (b : Bool) (m n k : ℕ) → k ≤ m → k ≤ n → k ≤ cond b m n
  at_least true m n k h l = h
  at_least false m n k h l = l

  pub last_rises : (t : List Call) (c : Call) → last_at t ≤ last_at (c ∷ t)
  last_rises t c =
      let a = last_by t in
      let b = rises server sizes setup 0 t c in
      at_least (is_some (sends (own_of sizes t) c)) (clock (c ∷ t)) (last_at t) (last_at t) (omega (arith, a, b))
      (omega arith)

  pub last_now : (t : List Call) (c : Call) (x : Sending) → sends (own_of sizes t) c ≡ Some x
      → last_at (c ∷ t) ≡ clock (c ∷ t)
  last_now t c x is = ap (λ (o : Option Sending). cond (is_some o) (clock (c ∷ t)) (last_at t)) is

  pub last_same : (t : List Call) (c : Call) → sends (own_of sizes t) c ≡ None → last_at (c ∷ t) ≡ last_at t
  last_same t c is = ap (λ (o : Option Sending). cond (is_some o) (clock (c ∷ t)) (last_at t)) is

  -- an exchange that is open began no later
  pub since_last : (since : ℕ) (t : List Call) → IsOpenSince sizes since t → since ≤ last_at t
  since_last since [] o = absurd o
  since_last since (c ∷ t) (inl b) =
      let now = last_now t c b.sending b.sends_it in
      let is = clock_is (own_of sizes t) c in
      let m = b.moment in
      omega (arith, now, is, m)
  since_last since (c ∷ t) (inr r) =
      let k = since_last since t r.2 in
      let up = last_rises t c in
      omega (arith, k, up)
