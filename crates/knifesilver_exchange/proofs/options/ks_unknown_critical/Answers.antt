use Rattle.std.proofs.Common.{◌≡◌, None, sym, subst}
use Rattle.coap_codec.specs.Message.{Message}
use Rattle.coap_codec.proofs.Facts.EveryDatagram.{one_message}
use Rattle.coap_options.specs.Critical.{first_unknown}
use Rattle.knifesilver_exchange.proofs.options.ks_unknown_critical.Goals as goal

pub returns-in_default-clause-nothing : goal.returns-in_default-clause-nothing
returns-in_default-clause-nothing c = λ _ m spells. absurd (c.in_default.ensures.none m spells)

pub returns-in-None-clause-nothing : goal.returns-in-None-clause-nothing
returns-in-None-clause-nothing c = λ _ m spells.
    subst (λ (x : Message). first_unknown c.args.known.now x.options ≡ None)
    (one_message c.args.datagram.now c.in-Ok.view m c.in-Ok.ensures.found spells) (sym c.in-None.ensures)
