use Rattle.std.proofs.Common.{refl, sym}
use Rattle.coap_observe.proofs.KeptLemmas.{clock_is, left_elsewhere, list_is, roll_is}
use Rattle.coap_observe.proofs.Facts.Registrations.{places-elsewhere, registrations-elsewhere, registrations-same}
use Rattle.coap_observe.proofs.observers.Observers.forget.Goals as goal

pub returns : goal.returns
returns g c = roll_is _ _ _ _ (clock_is _ _ _ c.self.view_is)
    (left_elsewhere c.args.to _ _ _ (list_is _ _ _ c.self.view_is) c.take_all.ensures.left)

pub invariant_of-self : goal.invariant_of-self
invariant_of-self g c =
    let shown = list_is _ _ _ c.self.view_is in (
      registrations-same _ _ (sym (left_elsewhere c.args.to _ _ _ shown c.take_all.ensures.left))
          (registrations-elsewhere c.args.to c.args.self.now.list
          (registrations-same _ _ shown c.self.invariant.0)),
      places-elsewhere c.args.to _ _ _ _ (left_elsewhere c.args.to _ _ _ refl c.take_all.ensures.left)
          c.take_all.ensures.room c.self.invariant.1,
    )
