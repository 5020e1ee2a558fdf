-- While a notification is due, the entry says when what its path holds was made.
use Rattle.std.proofs.Common.{◌≡◌, ◌≢◌, ◌≤◌, inl, inr, ℕ, ◌==◌, ◌||◌, not, Bool, true, false, Option, Some, None, List}
use Rattle.std.proofs.Common.{[], ◌∷◌}
use Rattle.std.proofs.Common.{ap, arith, cond, refl, sym, subst, ◌∙◌}
use Rattle.std.proofs.lemmas.Bool.{and_parts}
use Rattle.std.specs.Cmp.{unsigned_Decides}
use Rattle.coap_types.specs.Path.{same_path}
use Rattle.coap_types.proofs.Facts.Paths.{same_path-decides}
use Rattle.coap_layer.specs.declared.setup.Setup.{Setup}
use Rattle.coap_block.specs.Whole.{Each}
use Rattle.coap_observe.specs.Observers.{Observer, changed_at, is_of, marked_by, noted_by, removed, unmarked_by}
use Rattle.coap_resource.specs.Content.{Content, Held}
use Rattle.coap_resource.specs.Limits.{Limits}
use Rattle.coap_resource.specs.Since.{IsSince}
use Rattle.coap_server.specs.Trace.{Call}
use Rattle.coap_exchange.specs.declared.answerer.Ended.{Ended}
use Rattle.coap_server.specs.Observers.{marked_if, unless_ended}
use Rattle.coap_server.specs.Law.{ServerLaw, own_of}
use Rattle.coap_server_laws.proofs.Observing.LivesOn.{changed_made, changed_since, kept_since, or_left}
use Rattle.coap_server_laws.proofs.Observing.ObserverSteps.{EachKeeps, call_kept}
use Rattle.coap_server.proofs.Facts.Calls.EachOf.{each_kept, each_map, each_with}
use Rattle.coap_server.proofs.Facts.Observing.StoreChanges.{Effect, IsChanged, IsKept}
use Rattle.coap_server.proofs.Facts.Serving.Brought.{server_back}
use Rattle.coap_types.specs.SameEndpoint.{same_endpoint}

abbrev pub IsDated : Content → Observer → Type 0
IsDated s o = o.marked ≡ true → (held : Held) → s.holds o.path ≡ Some held → IsSince held.version o.changed s.tally

abbrev pub AreDated : Content → List Observer → Type 0
AreDated s os = Each (IsDated s) os

-- nothing changed, or this path alone

kept_dated : (at : ℕ) (a b : Content) → IsKept at a b → (o : Observer) → IsDated a o → IsDated b o
kept_dated at a b k o d m held h =
    kept_since held.version o.changed at a b k (d m held (ap (λ f. f o.path) (sym k.holds) ∙ h))

marked_dated : (path : List (List ℕ)) (at : ℕ) (a b : Content) → IsChanged path at a b → a.tally.clock ≤ at
    → (o : Observer) → IsDated a o → IsDated b (marked_by at path o)
marked_dated path at a b c timed o d m held h = by (same_path o.path path) refl m
  where
    by : (n : Bool) → same_path o.path path ≡ n → (o.marked || same_path o.path path) ≡ true
        → IsSince held.version (cond (same_path o.path path) at o.changed) b.tally
    by true is m =
        let here : o.path ≡ path = (same_path-decides o.path path).0 is in
        let v = c.stamp held (ap b.holds (sym here) ∙ h) in
        subst (λ n. IsSince held.version n b.tally) (sym (ap (λ z. cond z at o.changed) is))
        (subst (λ n. IsSince n at b.tally) (sym v) (changed_made path at a b c timed))
    by false is m =
        let other : o.path ≢ path = λ e. (let z = (same_path-decides o.path path).1 e in cc (z, is)) in
        subst (λ n. IsSince held.version n b.tally) (sym (ap (λ z. cond z at o.changed) is))
        (changed_since held.version o.changed path at a b c
        (d (or_left o.marked (same_path o.path path) is m) held (sym (c.others o.path other) ∙ h)))

effect_dated : (path : List (List ℕ)) (at : ℕ) (a b : Content) (os : List Observer) → Effect path at a b
    → a.tally.clock ≤ at → AreDated a os → AreDated b (marked_if at path a b os)
effect_dated path at a b os (inl k) timed d = by (b.tally.version == a.tally.version)
    ((unsigned_Decides b.tally.version a.tally.version).1 k.version)
  where
    all : (xs : List Observer) → AreDated a xs → AreDated b xs
    all [] h = tt
    all (x ∷ xs) h = (kept_dated at a b k x h.0, all xs h.1)

    by : (n : Bool) → n ≡ true → AreDated b (cond n os (changed_at at path os))
    by true e = all os d
    by false e = absurd (cc e)
effect_dated path at a b os (inr c) timed d = by (b.tally.version == a.tally.version)
    ((unsigned_Decides b.tally.version a.tally.version).0)
  where
    all : (xs : List Observer) → AreDated a xs → AreDated b (changed_at at path xs)
    all [] h = tt
    all (x ∷ xs) h = (marked_dated path at a b c timed x h.0, all xs h.1)

    by : (n : Bool) → (n ≡ true → b.tally.version ≡ a.tally.version) → AreDated b (cond n os (changed_at at path os))
    by true f = let e = f refl in let v = c.version in absurd (omega (arith, e, v))
    by false f = all os d

each_dated : (at : ℕ) → EachKeeps at AreDated
each_dated at = record {
  removes = λ s os to token d. each_kept (IsDated s) (λ o. not (is_of to token o)) os d;
  forgets = λ s os peer d. each_kept (IsDated s) (λ o. not (same_endpoint o.to peer)) os d;
  registers = λ s os to token path szx d. each_with (IsDated s) (removed to token os) _
      (each_kept (IsDated s) (λ o. not (is_of to token o)) os d) (λ m held h. absurd (cc m));
  sends = λ s os to token con d. each_map (IsDated s) (unmarked_by at to token con)
      (λ o h m held e. h (and_parts o.marked (not (is_of to token o)) m).0 held e) os d;
  notes = λ s os to token id d. each_map (IsDated s) (noted_by at to token id) (λ o h. h) os d;
  marks = λ a b os path effect timed d. effect_dated path at a b os effect timed d;
}

pub ended_dated : (s : Content) (e : Option Ended) (os : List Observer) → AreDated s os → AreDated s (unless_ended e os)
ended_dated s None os d = d
ended_dated s (Some x) os d = by x.observe
  where
    by : (b : Bool) → AreDated s (cond b (removed x.to x.token os) os)
    by true = each_kept (IsDated s) (λ o. not (is_of x.to x.token o)) os d
    by false = d

pub are_dated : (limits : Limits) (szx : ℕ) (setup : Setup) (t : List Call) → ServerLaw limits szx setup t
    → AreDated (own_of limits szx t).store (own_of limits szx t).observers
are_dated limits szx setup [] law = tt
are_dated limits szx setup (c ∷ t) law =
    call_kept limits szx setup t AreDated c law (each_dated (own_of limits szx (c ∷ t)).clock)
    (are_dated limits szx setup t (server_back limits szx setup c t law))
