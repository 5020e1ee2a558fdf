use Rattle.std.proofs.Common.{sym, subst, option_to_list}
use Rattle.coap_layer.specs.Machine.Entries.{AreLive, IsUpTo}
use Rattle.coap_layer.proofs.Calls.Remembered.{live_filtered, upto_back}
use Rattle.coap_layer.proofs.dedup.Memory.settle.Goals as goal

pub settle_newest-requires-clause-live : goal.settle_newest-requires-clause-live
settle_newest-requires-clause-live g c = subst (AreLive c.args.now.0) (sym c.forget.ensures.settled)
    (live_filtered c.args.now.0 c.args.self.now.settled)

pub settle_newest-requires-clause-up_to : goal.settle_newest-requires-clause-up_to
settle_newest-requires-clause-up_to g c =
    subst (λ o. IsUpTo c.args.now.0 (option_to_list o)) (sym c.forget.ensures.newest)
    (upto_back c.args.now.0 c.args.self.now.settled (option_to_list c.args.self.now.newest) c.requires.up_to)
