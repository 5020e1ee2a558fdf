-- What a serving finds in the store is what the server holds, and what it leaves is what the server holds then.
use Rattle.std.proofs.Common.{◌≡◌, Some, refl, ap, sym, ◌∙◌}
use Rattle.coap_exchange.specs.declared.answerer.Due.TheVariants as due
use Rattle.coap_server.specs.Trace.{Own, Serves, Call, Feeds, Ticks}
use Rattle.coap_server.specs.Steps.{after}
use Rattle.coap_server.specs.Follows.Serves.{Serving, serving}

pub record Leaves (s : Own) (c : Call) (x : Serving) : Type 0 where
  pub found : x.old ≡ s.store
  pub left : (after s c).store ≡ x.left

of_it : (s : Own) (c : Call) (x y : Serving) → x.old ≡ s.store → (after s c).store ≡ x.left → Some x ≡ Some y
    → Leaves s c y
of_it s c x y old left h = let same : x ≡ y =
    cc h in record {
      found = ap (λ (z : Serving). z.old) (sym same) ∙ old;
      left = left ∙ ap (λ (z : Serving). z.left) same;
    }

pub leaves : (s : Own) (c : Call) (x : Serving) → serving s c ≡ Some x → Leaves s c x
leaves s (Feeds now from bytes word up (Some p) (Serves q reply left) below) x h =
    of_it s (Feeds now from bytes word up (Some p) (Serves q reply left) below) _ x refl refl h
leaves s (Ticks now word below room (due.Ready a) passed (Serves q reply left) id answer) x h =
    of_it s (Ticks now word below room (due.Ready a) passed (Serves q reply left) id answer) _ x refl refl h
leaves s _ x e = absurd (cc e)
