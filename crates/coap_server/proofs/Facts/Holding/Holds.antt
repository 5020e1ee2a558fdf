-- The versions of a server's changes are one more each, from the base on; a path holds its last change; the limits
-- stay; what is served is served right.
use Rattle.std.proofs.Common.{◌≡◌, inl, inr, ℕ, ◌+◌, ◌==◌, Bool, true, false, Option, Some, None, List, [], ◌∷◌}
use Rattle.std.proofs.Common.{refl, ap, sym, subst, ◌∙◌, cond, arith}
use Rattle.std.specs.Cmp.{unsigned_Decides}
use Rattle.coap_types.specs.Path.{same_path}
use Rattle.coap_types.proofs.Facts.Paths.{same_path-decides}
use Rattle.coap_resource.specs.Content.{Content}
use Rattle.coap_resource.specs.Limits.{Limits}
use Rattle.coap_server.specs.Trace.{Own, Call}
use Rattle.coap_server.specs.Trace.{Feeds, Ticks}
use Rattle.coap_server.specs.Serving.{is_applied}
use Rattle.coap_server.specs.Steps.{IsRight, after}
use Rattle.coap_server.specs.Law.{own_of, ServerRows}
use Rattle.coap_server.specs.Follows.Serves.{Serving, serving}
use Rattle.coap_server.specs.Follows.Holds.{Change, change_of, changed_by, change, counted, held_then}
use Rattle.coap_server.specs.Follows.Holds.{changes, held_at, HoldsChanges, AllServed}
use Rattle.coap_server.proofs.Facts.Observing.StoreChanges.{Effect, IsChanged}
use Rattle.coap_server.proofs.Facts.Observing.StoreSteps.{is_stored, none_kept}
use Rattle.coap_server.proofs.Facts.Serving.ServedNow.{is_serving}
use Rattle.coap_server.proofs.Holding.AppliedWhole.{applied_whole, kept_or_applied}

-- what a change leaves

is_next : (n m : ℕ) (b : Bool) → (n == m) ≡ b → n ≡ m + 1 → b ≡ false
is_next n m true h k = let e : n ≡ m = (unsigned_Decides n m).0 h in absurd (omega (arith, e, k))
is_next n m false h k = refl

abbrev pub some_change : List (List ℕ) → Content → Change
some_change path left = record { path = path; version = left.tally.version; held = left.holds path }

pub one_changed : (path : List (List ℕ)) (at : ℕ) (old left : Content) → IsChanged path at old left
    → change_of path old left ≡ Some (some_change path left)
one_changed path at old left k = ap (λ b. cond b None (Some (some_change path left)))
    (is_next left.tally.version old.tally.version (left.tally.version == old.tally.version) refl k.version)

-- the change that a call makes of the store, and what is held then
pub record Moves (old left : Content) (x : Option Change) : Type 0 where
  pub version : left.tally.version ≡ counted x + old.tally.version
  pub limits : left.tally.limits ≡ old.tally.limits
  pub held : (path : List (List ℕ)) → left.holds path ≡ held_then path x (old.holds path)
  pub new : (y : Change) → x ≡ Some y → y.version ≡ old.tally.version + 1

held_by : (path other : List (List ℕ)) (at : ℕ) (old left : Content) → IsChanged path at old left → (b : Bool)
    → same_path path other ≡ b → left.holds other ≡ cond b (left.holds path) (old.holds other)
held_by path other at old left k true h = ap left.holds (sym ((same_path-decides path other).0 h))
held_by path other at old left k false h = k.others other
    (λ e. let same : same_path path other ≡ true = (same_path-decides path other).1 (sym e) in cc (same, h))

moves : (path : List (List ℕ)) (at : ℕ) (old left : Content) → Effect path at old left
    → Moves old left (change_of path old left)
moves path at old left (inl k) =
    subst (Moves old left) (sym (none_kept path at old left k))
    (record {
      version = (let v = k.version in omega (arith, v));
      limits = k.limits;
      held = λ p. ap (λ f. f p) k.holds;
      new = λ y h. absurd (cc h);
    })
moves path at old left (inr k) =
    subst (Moves old left) (sym (one_changed path at old left k)) (
    record {
      version = (let v = k.version in omega (arith, v));
      limits = k.limits;
      held = λ p. held_by path p at old left k (same_path path p) refl;
      new = λ y h. (let same : ◌≡◌ {A = Change} (some_change path left) y = cc h in let e : left.tally.version
          ≡ y.version = ap (λ (z : Change). z.version) same in let v = k.version in omega (arith, e, v));
    })

pub moves_by : (s : Own) (c : Call) → IsRight s c → Moves s.store (after s c).store (change s c)
moves_by s c right =
    let k = is_stored s c right in
    subst (Moves s.store (after s c).store) (sym k.change_is)
    (moves k.path (after s c).clock s.store (after s c).store k.effect)

module _ (limits : Limits) (szx : ℕ) where
  pub version_is : (t : List Call) → ServerRows limits szx t
      → (own_of limits szx t).store.tally.version ≡ changes limits szx t
  version_is [] law = refl
  version_is (c ∷ t) law = (moves_by (own_of limits szx t) c law.0).version
      ∙ ap (λ n. counted (change (own_of limits szx t) c) + n) (version_is t law.1)

  pub limits_are : (t : List Call) → ServerRows limits szx t → (own_of limits szx t).store.tally.limits ≡ limits
  limits_are [] law = refl
  limits_are (c ∷ t) law = (moves_by (own_of limits szx t) c law.0).limits ∙ limits_are t law.1

  pub held_is : (t : List Call) → ServerRows limits szx t → (path : List (List ℕ))
      → (own_of limits szx t).store.holds path ≡ held_at limits szx path t
  held_is [] law path = refl
  held_is (c ∷ t) law path = (moves_by (own_of limits szx t) c law.0).held path
      ∙ ap (held_then path (change (own_of limits szx t) c)) (held_is t law.1 path)

  pub holds_changes : (t : List Call) → ServerRows limits szx t → HoldsChanges limits szx t
  holds_changes [] law = tt
  holds_changes (c ∷ t) law = (
    record {
      version = λ x h. (moves_by (own_of limits szx t) c law.0).new x h ∙ ap (λ n. n + 1) (version_is t law.1);
      held = held_is t law.1;
    },
    holds_changes t law.1,
  )

-- only what is applied changes anything

served_changes : (s : Own) (c : Call) (x : Serving) (y : Change) → serving s c ≡ Some x → change s c ≡ Some y
    → change_of x.question.path x.old x.left ≡ Some y
served_changes s (Feeds now from bytes word up came w below) x y h k = sym (ap changed_by h) ∙ k
served_changes s (Ticks now word below room d passed w id answer) x y h k = sym (ap changed_by h) ∙ k
served_changes s _ x y h k = absurd (cc h)

applied_by : (s : Own) (c : Call) → IsRight s c → (x : Serving) (y : Change) → serving s c ≡ Some x
    → change s c ≡ Some y → is_applied x.reply.code ≡ true
applied_by s c right x y h k =
    elim (kept_or_applied x.old (after s c).clock x.question x.reply x.left (is_serving s c right x h).serves) [
      | inl kept ↦ (let e = none_kept x.question.path (after s c).clock x.old x.left kept in let f =
          served_changes s c x y h k in absurd (cc (e, f)))
      | inr good ↦ good
    ]

pub all_served : (limits : Limits) (szx : ℕ) (t : List Call) → ServerRows limits szx t → AllServed limits szx t
all_served limits szx [] law = tt
all_served limits szx (c ∷ t) law = (
  record {
    serves = λ x h. ((own_of limits szx (c ∷ t)).clock, (is_serving (own_of limits szx t) c law.0 x h).serves);
    applied = λ x h yes.
        applied_whole x (own_of limits szx (c ∷ t)).clock (is_serving (own_of limits szx t) c law.0 x h).serves yes;
    changes_by = λ x y h k. applied_by (own_of limits szx t) c law.0 x y h k;
  },
  all_served limits szx t law.1,
)
