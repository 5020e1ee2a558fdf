use Rattle.std.proofs.Common.{[]}
use Rattle.coap_client.specs.Led.{Led}
use Rattle.coap_client.specs.Object.CallShown.{shown_request}
use Rattle.coap_waits.proofs.LinkedTurns.{where_ok}
use Rattle.coap_waits.proofs.WhatBecomes.{told_as}
use Rattle.coap_waits.proofs.ask.ask_and_tell.Goals as goal

pub returns-clause-tells : goal.returns-clause-tells
returns-clause-tells g c =
    let contents = g.O.Write.contents in
    told_as (λ server sizes w. Led server sizes w [] c.args.client.now) c.args.terms.now.json
    (contents c.args.out.now) (contents c.tell_as.new.out) c.args.terms.now.give_up (shown_request c.args.request)
    c.in_ok-outcome.outcome c.tell_as.result c.in_ok-outcome.ensures.becomes c.tell_as.ensures.status
    c.tell_as.ensures.written

pub returns-clause-over : goal.returns-clause-over
returns-clause-over g c = where_ok c.tell_as.result c.in_ok-outcome.ensures.over
