-- What each call makes of a server's store, and when: no moment of it is past the server's own, which never goes back.
use Rattle.std.proofs.Common.{◌≡◌, ◌≤◌, ◌⊎◌, inl, inr, ℕ, max, Bool, true, false, Option, Some, None, List, [], ◌∷◌}
use Rattle.std.proofs.Common.{◌++◌, ◌==◌, refl, ap, sym, subst, ◌∙◌, cond, arith}
use Rattle.std.specs.Cmp.{unsigned_Decides}
use Rattle.coap_types.specs.Path.{same_path}
use Rattle.coap_types.proofs.Facts.Paths.{same_path-decides}
use Rattle.coap_types.specs.declared.endpoint.Endpoint.{Endpoint}
use Rattle.coap_codec.specs.Message.{Message}
use Rattle.coap_layer.specs.Trace as L
use Rattle.coap_layer.specs.declared.setup.Setup.{Setup}
use Rattle.coap_resource.specs.Content.{Content, Held, put_refusal}
use Rattle.coap_resource.specs.Limits.{Limits}
use Rattle.coap_resource.specs.Rate.{Tally, rate_refusal}
use Rattle.coap_exchange.specs.declared.answerer.Asked.{Asked}
use Rattle.coap_exchange.specs.declared.answerer.Due.{Due}
use Rattle.coap_server.specs.Trace.{Own, Handling, Call, Sets, Removes}
use Rattle.coap_server.specs.Trace.{Feeds, Ticks}
use Rattle.coap_server.specs.Handling.{incoming, ticking, heard}
use Rattle.coap_server.specs.Steps.{IsRight, after}
use Rattle.coap_server.specs.Law.{ServerLaw, own_of}
use Rattle.coap_server.specs.Follows.Holds.{change, change_of}
use Rattle.coap_server.proofs.Facts.Observing.Outcomes.{Came, came, served, Turned, turned, responded}
use Rattle.coap_server.proofs.Facts.Observing.StoreChanges.{Effect, IsKept, kept_by, served_effect, sets_effect}
use Rattle.coap_server.proofs.Facts.Observing.StoreChanges.{removes_effect}
use Rattle.coap_server.proofs.Facts.Serving.Brought.{server_back}

-- what a store holds has a version that was counted
abbrev pub AreLow : Content → Type 0
AreLow s = (path : List (List ℕ)) (held : Held) → s.holds path ≡ Some held → held.version ≤ s.tally.version

low_by : (path : List (List ℕ)) (at : ℕ) (old left : Content) → Effect path at old left
    → ((other : List (List ℕ)) → (other ≡ path) ⊎ (other ≡ path → ⊥)) → AreLow old → AreLow left
low_by path at old left (inl k) d low other held h =
    subst (λ n. held.version ≤ n) (sym k.version) (low other held (ap (λ f. f other) (sym k.holds) ∙ h))
low_by path at old left (inr c) d low other held h =
    elim (d other) [
      | inl e ↦ (let s = c.stamp held (ap left.holds (sym e) ∙ h) in let v = c.version in omega (arith, s, v))
      | inr n ↦ (let k = low other held (sym (c.others other n) ∙ h) in let v = c.version in omega (arith, k, v))
    ]

pub path_or : (path other : List (List ℕ)) → (other ≡ path) ⊎ (other ≡ path → ⊥)
path_or path other = by (same_path other path) refl
  where
    by : (b : Bool) → same_path other path ≡ b → (other ≡ path) ⊎ (other ≡ path → ⊥)
    by true e = inl ((same_path-decides other path).0 e)
    by false e = inr (λ k. let z = (same_path-decides other path).1 k in cc (z, e))

timed_by : (path : List (List ℕ)) (at : ℕ) (old left : Content) → Effect path at old left → old.tally.clock ≤ at
    → left.tally.clock ≤ at
timed_by path at old left (inl k) timed = elim k.tally [
  | inl e ↦ (let same = ap (λ (t : Tally). t.clock) e in omega (arith, same, timed))
  | inr e ↦ (let same = ap (λ (t : Tally). t.clock) e in omega (arith, same, timed))
]
timed_by path at old left (inr c) timed =
    let same = ap (λ (t : Tally). t.clock) c.tally in omega (arith, same, timed)

-- whether a change is seen in what is left

is_same : (n : ℕ) → (n == n) ≡ true
is_same n = (unsigned_Decides n n).1 refl

pub none_kept : (path : List (List ℕ)) (at : ℕ) (old left : Content) → IsKept at old left
    → change_of path old left ≡ None
none_kept path at old left k =
    ap (λ b. cond b None (Some (record { path = path; version = left.tally.version; held = left.holds path })))
    (ap (λ v. v == old.tally.version) k.version ∙ is_same old.tally.version)

-- one call: one change of a path at its moment, or none, as the trace has it
pub record IsStored (s : Own) (c : Call) : Type 0 where
  pub path : List (List ℕ)
  pub effect : Effect path (after s c).clock s.store (after s c).store
  pub change_is : change s c ≡ change_of path s.store (after s c).store

same_store : (s : Own) (c : Call) → (after s c).store ≡ s.store → change s c ≡ None → IsStored s c
same_store s c same none =
    let kept = kept_by (after s c).clock s.store (after s c).store same in
    record {
      path = [];
      effect = inl kept;
      change_is = none ∙ sym (none_kept [] (after s c).clock s.store (after s c).store kept);
    }

fed_stored : (s : Own) (now : ℕ) (from : Endpoint) (bytes : List ℕ) (w : ℕ) (up : L.Answer)
    (c : Option (Asked × Message)) (h : Handling) (below : L.Answer)
    → Came (heard s now (incoming s now from bytes up c)) c h → IsStored s (Feeds now from bytes w up c h below)
fed_stored s now from bytes w up c h below (served p q reply left k unplaced) =
    record { path = q.path; effect = served_effect s.store (max s.clock now) q reply left k; change_is = refl }
fed_stored s now from bytes w up c h below _ = same_store s _ refl refl

tick_stored : (s : Own) (now w : ℕ) (below : L.Answer) (room : Bool) (d : Due) (passed : ℕ) (h : Handling) (id : ℕ)
    (answer : Bool) → Turned (heard s now (ticking s now below room d)) passed d h
    → IsStored s (Ticks now w below room d passed h id answer)
tick_stored s now w below room d passed h id answer (responded a q reply left asks k) =
    record { path = q.path; effect = served_effect s.store (max s.clock now) q reply left k; change_is = refl }
tick_stored s now w below room d passed h id answer _ = same_store s _ refl refl

pub is_stored : (s : Own) (c : Call) → IsRight s c → IsStored s c
is_stored s (Sets now path format body answer left) right =
    let at : ℕ = max s.clock now in
    record {
      path = path;
      effect = sets_effect (put_refusal s.store at path _) s.store at path format body answer left refl right;
      change_is = refl;
    }
is_stored s (Removes now path answer left) right =
    let at : ℕ = max s.clock now in
    record {
      path = path;
      effect = removes_effect (s.store.holds path) (rate_refusal s.store.tally at) s.store at path answer left refl
          right;
      change_is = refl;
    }
is_stored s (Feeds now from bytes w up c h below) right =
    fed_stored s now from bytes w up c h below (came (heard s now (incoming s now from bytes up c)) c h right)
is_stored s (Ticks now w below room d passed h id answer) right =
    tick_stored s now w below room d passed h id answer
    (turned (heard s now (ticking s now below room d)) passed d h right.0)
is_stored s c right = same_store s c refl refl

module _ (limits : Limits) (szx : ℕ) where
  abbrev own : List Call → Own
  own t = own_of limits szx t

  pub are_low : (setup : Setup) (t : List Call) → ServerLaw limits szx setup t → AreLow (own t).store
  are_low setup [] law = λ path held h. absurd (cc h)
  are_low setup (c ∷ t) law =
      let k = is_stored (own t) c law.rows.0 in
      low_by k.path (own (c ∷ t)).clock (own t).store (own (c ∷ t)).store k.effect (path_or k.path)
      (are_low setup t (server_back limits szx setup c t law))

  -- moments don't fall

  pub clock_rises : (t : List Call) (c : Call) → (own t).clock ≤ (own (c ∷ t)).clock
  clock_rises t (Sets now path format body answer left) = omega arith
  clock_rises t _ = omega arith

  pub clocks_rise : (after base : List Call) → (own base).clock ≤ (own (after ++ base)).clock
  clocks_rise [] base = omega arith
  clocks_rise (c ∷ after) base =
      let k = clocks_rise after base in let more = clock_rises (after ++ base) c in omega (arith, k, more)

  pub store_timed : (setup : Setup) (t : List Call) → ServerLaw limits szx setup t
      → (own t).store.tally.clock ≤ (own t).clock
  store_timed setup [] law = omega arith
  store_timed setup (c ∷ t) law =
      let k = is_stored (own t) c law.rows.0 in
      let old = store_timed setup t (server_back limits szx setup c t law) in
      let more = clock_rises t c in
      timed_by k.path (own (c ∷ t)).clock (own t).store (own (c ∷ t)).store k.effect (omega (arith, old, more))
