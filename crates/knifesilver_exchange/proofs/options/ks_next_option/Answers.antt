use Rattle.std.proofs.Common.{◌≡◌, None, sym, subst, arith}
use Rattle.std.specs.Prelude.{slice_get}
use Rattle.std.proofs.lemmas.Option.{slice_get_within}
use Rattle.coap_codec.specs.Message.{Message}
use Rattle.coap_codec.proofs.Facts.EveryDatagram.{one_message}
use Rattle.knifesilver_exchange.proofs.options.ks_next_option.Goals as goal

pub returns-in_default-clause-nothing : goal.returns-in_default-clause-nothing
returns-in_default-clause-nothing c = λ _ m spells. absurd (c.in_default.ensures.none m spells)

pub returns-in_default-option_at-clause-nothing : goal.returns-in_default-option_at-clause-nothing
returns-in_default-option_at-clause-nothing c = λ _ m spells.
    subst (λ (x : Message). slice_get x.options c.args.place.now ≡ None)
    (one_message c.args.datagram.now c.in-Ok.view m c.in-Ok.ensures.found spells) (sym c.in_default-option_at.ensures)

pub overflow_add-place : goal.overflow_add-place
overflow_add-place c =
    let below = slice_get_within c.in-Ok.view.options c.args.place.now _ (sym c.in-Some.ensures) in
    omega (arith, below, c.options-options.ensures.few)
