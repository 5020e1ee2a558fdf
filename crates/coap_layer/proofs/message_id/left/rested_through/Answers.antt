use Rattle.std.proofs.Common.{◌≡◌, ◌≤◌, ◌<◌, ◌∙◌, ◌+◌, ap, arith, length, sym}
use Rattle.coap_layer.specs.Machine.IdState.{uses_of, use_of}
use Rattle.coap_layer.specs.Machine.Load.{rested_first}
use Rattle.coap_layer.proofs.Calls.Loads.{all_rested, one_held}
use Rattle.coap_layer.proofs.ListLemmas.{length_map}
use Rattle.coap_layer.proofs.message_id.left.rested_through.Goals as goal

pub returns-then-first-these-clause-rested : goal.returns-then-first-these-clause-rested
returns-then-first-these-clause-rested c =
    let now = c.args.now.0 in
    let these = uses_of c.args.these.now in
    let len = length_map use_of c.args.these.now in
    let first = c.rested-first.ensures.rested in
    let less = c.if-first-these.true in
    let held : rested_first now these < length these = omega (arith, len, first, less) in
    first ∙ sym (one_held now these (uses_of c.args.those.now) held)

pub returns-else-first-these-clause-rested : goal.returns-else-first-these-clause-rested
returns-else-first-these-clause-rested c =
    let now = c.args.now.0 in
    let these = uses_of c.args.these.now in
    let len = length_map use_of c.args.these.now in
    let first = c.rested-first.ensures.rested in
    let within = c.rested-first.ensures.within in
    let more = c.if-first-these.false in
    let all : length these ≤ rested_first now these = omega (arith, len, first, more) in
    let through = all_rested now these (uses_of c.args.those.now) all in
    let rest = c.rested.ensures.rested in
    omega (arith, len, first, within, more, through, rest)
