-- What a change of a server puts has the version of that change, a number of 64 bits.
use Rattle.std.proofs.Common.{◌≡◌, inl, inr, ℕ, ◌<◌, nat_le, Bool, true, false, Some, None}
use Rattle.std.proofs.Common.{List, [], ◌∷◌, refl, ap, sym, ◌∙◌, cond, arith}
use Rattle.std.proofs.lemmas.Bool.{leb-false}
use Rattle.coap_resource.specs.declared.refusal.StoreRefusal.TheVariants.{RateExceeded, VersionsSpent}
use Rattle.coap_resource.specs.Content.{Content, Held}
use Rattle.coap_resource.specs.Rate.{rate_refusal, used}
use Rattle.coap_resource.specs.Limits.{Limits}
use Rattle.coap_server.specs.Trace.{Own, Call}
use Rattle.coap_server.specs.Steps.{IsRight, after}
use Rattle.coap_server.specs.Law.{own_of, ServerRows}
use Rattle.coap_server.specs.Follows.Holds.{Change, change_of, change}
use Rattle.coap_server.specs.Follows.Tags.{AreStamped}
use Rattle.coap_server.proofs.Facts.Holding.Holds.{moves_by, one_changed, some_change}
use Rattle.coap_server.proofs.Facts.Observing.StoreChanges.{Effect}
use Rattle.coap_server.proofs.Facts.Observing.StoreSteps.{is_stored, none_kept}

-- the greatest version
abbrev greatest : ℕ
greatest = 18446744073709551615

-- a change that is not refused
rate_room : (old : Content) (at : ℕ) → rate_refusal old.tally at ≡ None → old.tally.version < greatest
rate_room old at none = by (nat_le old.tally.limits.changes (used old.tally at)) (nat_le greatest old.tally.version)
    refl none
  where
    by : (a b : Bool) → nat_le greatest old.tally.version ≡ b
        → cond a (Some RateExceeded) (cond b (Some VersionsSpent) None) ≡ None → old.tally.version < greatest
    by true b e h = absurd (cc h)
    by false true e h = absurd (cc h)
    by false false e h = leb-false greatest old.tally.version e

-- a change, as the trace has it

pub record IsStampOf (s : Own) (x : Change) : Type 0 where
  pub room : s.store.tally.version < greatest
  pub held : (held : Held) → x.held ≡ Some held → held.version ≡ x.version

one_change : (x y : Change) → Some x ≡ Some y → x ≡ y
one_change x y h = cc h

stamps : (s : Own) (c : Call) (x : Change) → IsRight s c → change s c ≡ Some x → IsStampOf s x
stamps s c x right h = let k = is_stored s c right in by k.path k.effect (sym k.change_is ∙ h)
  where
    by : (path : List (List ℕ)) → Effect path (after s c).clock s.store (after s c).store
        → change_of path s.store (after s c).store ≡ Some x → IsStampOf s x
    by path (inl kept) is =
        let none = none_kept path (after s c).clock s.store (after s c).store kept in absurd (cc (none, is))
    by path (inr changed) is =
        let same : some_change path (after s c).store ≡ x =
        one_change (some_change path (after s c).store) x
        (sym (one_changed path (after s c).clock s.store (after s c).store changed) ∙ is) in
        record {
          room = rate_room s.store (after s c).clock changed.free;
          held = λ held e. changed.stamp held (ap (λ (y : Change). y.held) same ∙ e)
              ∙ (sym changed.version ∙ ap (λ (y : Change). y.version) same);
        }

module _ (limits : Limits) (szx : ℕ) where
  pub are_stamped : (t : List Call) → ServerRows limits szx t → AreStamped limits szx t
  are_stamped [] law = tt
  are_stamped (c ∷ t) law = (
    record {
      version = λ x h. (
          let s = own_of limits szx t in
          let e = (moves_by s c law.0).new x h in
          let room = (stamps s c x law.0 h).room in
          omega (arith, e, room)
          );
      held = λ x held h k. (stamps (own_of limits szx t) c x law.0 h).held held k;
    },
    are_stamped t law.1,
  )
