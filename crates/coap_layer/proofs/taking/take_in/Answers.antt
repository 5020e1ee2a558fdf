use Rattle.std.proofs.Common.{rules, ap, ◌∙◌, ◌++◌, filter}
use Rattle.std.specs.Option.{option_to_list}
use Rattle.coap_layer.specs.Machine.Arriving.{hands, keeps, newly_by}
use Rattle.coap_layer.specs.Machine.Entries.{arrivals_in}
use Rattle.coap_layer.specs.Machine.State.{is_live}
use Rattle.coap_layer.proofs.Calls.JudgedByTable.{kept_hands}
use Rattle.coap_layer.proofs.Calls.TakenIn.{before_grown, kept_grown, newly_upto, settled_unknown, settled_upto}
use Rattle.coap_layer.proofs.Calls.TakenIn.{within_grown}
use Rattle.coap_layer.proofs.taking.take_in.Goals as goal

pub keep_by-requires-clause-unknown : goal.keep_by-requires-clause-unknown
keep_by-requires-clause-unknown g c keeps =
    settled_unknown c.args.moments.last.0 (arrivals_in c.args.lists.now.entries) c.begin-mark.new.lists.entries.settled
    c.begin-mark.ensures.settled c.args.moments.at.0 c.args.arrived.from c.args.arrived.arriving.id.0
    (c.requires.unknown (kept_hands c.args.arrived.arriving.verdict c.args.arrived.arriving.kind keeps))

pub keep_by-requires-clause-up_to : goal.keep_by-requires-clause-up_to
keep_by-requires-clause-up_to g c =
    settled_upto c.args.moments.last.0 (arrivals_in c.args.lists.now.entries) c.begin-mark.new.lists.entries.settled
    c.begin-mark.ensures.settled c.args.moments.at.0 c.requires.moment c.requires.up_to

pub returns-clause-arrived : goal.returns-clause-arrived
returns-clause-arrived g c =
    ap (filter (is_live c.args.moments.at.0))
    (ap (λ xs. xs ++ option_to_list c.keep_by.new.entries.newest)
    (c.keep_by.ensures.settled ∙ c.begin-mark.ensures.settled)
    ∙ ap (λ xs. filter (is_live c.args.moments.last.0) (arrivals_in c.args.lists.now.entries) ++ xs)
    c.keep_by.ensures.newest)

pub returns-clause-before : goal.returns-clause-before
returns-clause-before g c most ids =
    before_grown c.args.moments.last.0 (arrivals_in c.args.lists.now.entries) c.keep_by.new.entries.settled
    (c.keep_by.ensures.settled ∙ c.begin-mark.ensures.settled)
    most c.begin-mark.result c.args.awaits ids _ c.end_by.new.sendings.items c.args.lists.now.waiting.items
    c.push_some.new.waiting.items (option_to_list c.args.sent)
    (c.end_by.ensures.before ∙ c.begin-mark.ensures.open_before) (search rules)
    (ap (λ m. m.0) c.begin-mark.ensures.clock) c.begin-mark.ensures.awaits (search rules)

pub returns-clause-within : goal.returns-clause-within
returns-clause-within g c =
    within_grown c.args.moments.last.0 (arrivals_in c.args.lists.now.entries) c.keep_by.new.entries.settled
    (c.keep_by.ensures.settled ∙ c.begin-mark.ensures.settled)
    c.begin-mark.result c.args.lists.now.waiting.items c.push_some.new.waiting.items (option_to_list c.args.sent)
    (search rules) (search rules) (ap (λ m. m.0) c.begin-mark.ensures.clock) c.requires.up_to

pub returns-clause-kept : goal.returns-clause-kept
returns-clause-kept g c =
    let es = arrivals_in c.args.lists.now.entries in
    let settled = c.keep_by.ensures.settled ∙ c.begin-mark.ensures.settled in
    kept_grown c.args.moments.at.0 c.args.arrived.from c.args.arrived.arriving.id.0
    (hands c.args.arrived.arriving.verdict c.args.arrived.arriving.kind) c.keep_by.new.entries
    (newly_by c.args.moments.at.0 c.args.arrived.from c.args.arrived.arriving)
    (settled_upto c.args.moments.last.0 es c.keep_by.new.entries.settled settled c.args.moments.at.0 c.requires.moment
    c.requires.up_to)
    (newly_upto c.args.moments.at.0 c.args.arrived.from c.args.arrived.arriving) c.keep_by.ensures.newest
    (λ up. settled_unknown c.args.moments.last.0 es c.keep_by.new.entries.settled settled c.args.moments.at.0
    c.args.arrived.from c.args.arrived.arriving.id.0 (c.requires.unknown up))
