-- A request is served by the store's table at the moment of the call that serves it, and the store is left so.
use Rattle.std.proofs.Common.{◌≡◌, Some, refl, sym, subst}
use Rattle.coap_resource.specs.Serves as R
use Rattle.coap_exchange.specs.declared.answerer.Due.TheVariants as due
use Rattle.coap_server.specs.Trace.{Own, Serves, Call}
use Rattle.coap_server.specs.Trace.{Feeds, Ticks}
use Rattle.coap_server.specs.Deferring.{question_of}
use Rattle.coap_server.specs.Handling.{incoming, ticking, heard}
use Rattle.coap_server.specs.Steps.{IsRight, after}
use Rattle.coap_server.specs.Follows.Serves.{Serving, serving, serving_of}
use Rattle.coap_server.proofs.Facts.Observing.Outcomes.{serves_came, serves_waited}

pub record IsServing (s : Own) (c : Call) (x : Serving) : Type 0 where
  pub old : x.old ≡ s.store
  pub serves : R.Serves x.old (after s c).clock x.question x.reply x.left
  pub left : (after s c).store ≡ x.left

of_it : (s : Own) (c : Call) (x y : Serving) → Some x ≡ Some y → IsServing s c x → IsServing s c y
of_it s c x y h k = let same : x ≡ y = cc h in subst (IsServing s c) same k

pub is_serving : (s : Own) (c : Call) → IsRight s c → (x : Serving) → serving s c ≡ Some x → IsServing s c x
is_serving s (Feeds now from bytes word up (Some p) (Serves q reply left) below) right x h =
    let w : Own = heard s now (incoming s now from bytes up (Some p)) in
    of_it s (Feeds now from bytes word up (Some p) (Serves q reply left) below) (serving_of w p.0 q reply left) x h
    (record { old = refl; serves = serves_came w p q reply left right; left = refl })
is_serving s (Ticks now word below room (due.Ready a) passed (Serves q reply left) id answer) right x h =
    let w : Own = heard s now (ticking s now below room (due.Ready a)) in
    of_it s (Ticks now word below room (due.Ready a) passed (Serves q reply left) id answer)
    (serving_of w a q reply left) x h (record {
      old = refl;
      serves = serves_waited (question_of w.clock a w.waiting) w.store w.clock q reply left right.0;
      left = refl;
    })
is_serving s _ right x e = absurd (cc e)

pub served_now : (s : Own) (c : Call) → IsRight s c → (x : Serving) → serving s c ≡ Some x
    → R.Serves s.store (after s c).clock x.question x.reply (after s c).store
served_now s c right x h =
    let k = is_serving s c right x h in
    subst (R.Serves s.store (after s c).clock x.question x.reply) (sym k.left)
    (subst (λ z. R.Serves z (after s c).clock x.question x.reply x.left) k.old k.serves)
