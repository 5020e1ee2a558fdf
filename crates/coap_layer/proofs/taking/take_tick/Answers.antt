use Rattle.std.proofs.Common.{rules, ap, true, ◌∙◌, ◌++◌}
use Rattle.std.proofs.lemmas.List.{append-nil}
use Rattle.std.specs.Option.{option_to_list}
use Rattle.coap_layer.specs.Machine.Entries.{arrivals_in}
use Rattle.coap_layer.proofs.Calls.TakenIn.{before_grown, kept_none, settled_upto, within_grown}
use Rattle.coap_layer.proofs.taking.take_tick.Goals as goal

pub returns-clause-arrived : goal.returns-clause-arrived
returns-clause-arrived g c =
    ap (λ o. c.begin-mark.new.lists.entries.settled ++ option_to_list o) c.begin-mark.ensures.newest
    ∙ (append-nil c.begin-mark.new.lists.entries.settled ∙ c.begin-mark.ensures.settled)

pub returns-clause-before : goal.returns-clause-before
returns-clause-before g c most ids =
    before_grown c.args.moments.last.0 (arrivals_in c.args.lists.now.entries) c.begin-mark.new.lists.entries.settled
    c.begin-mark.ensures.settled
    most c.begin-mark.result c.args.awaits ids _ c.take_step.new.sendings.items c.args.lists.now.waiting.items
    c.push_some.new.waiting.items (option_to_list c.args.sent)
    (c.take_step.ensures.before ∙ c.begin-mark.ensures.open_before) (search rules)
    (ap (λ m. m.0) c.begin-mark.ensures.clock) c.begin-mark.ensures.awaits (search rules)

pub returns-clause-within : goal.returns-clause-within
returns-clause-within g c =
    within_grown c.args.moments.last.0 (arrivals_in c.args.lists.now.entries) c.begin-mark.new.lists.entries.settled
    c.begin-mark.ensures.settled
    c.begin-mark.result c.args.lists.now.waiting.items c.push_some.new.waiting.items (option_to_list c.args.sent)
    (search rules) (search rules) (ap (λ m. m.0) c.begin-mark.ensures.clock) c.requires.up_to

pub returns-clause-kept : goal.returns-clause-kept
returns-clause-kept g c =
    kept_none c.args.moments.at.0 true c.begin-mark.new.lists.entries
    (settled_upto c.args.moments.last.0 (arrivals_in c.args.lists.now.entries) c.begin-mark.new.lists.entries.settled
    c.begin-mark.ensures.settled c.args.moments.at.0 c.requires.moment c.requires.up_to)
    c.begin-mark.ensures.newest
