use Rattle.std.proofs.Common.{◌≡◌, ◌≢◌, length, refl, sym, ◌∙◌}
use Rattle.std.proofs.lemmas.List.{length-map}
use Rattle.coap_client.specs.Object.Held.{own_of}
use Rattle.coap_client.specs.Object.Shown.{shown_queued}
use Rattle.coap_client.proofs.Calls.DueLemmas.{start_first}
use Rattle.coap_client.proofs.client.due.first_may_start.Goals as goal

pub returns-else-waiting_len-eq0 : goal.returns-else-waiting_len-eq0
returns-else-waiting_len-eq0 g c =
    let s = own_of c.args.held.now in
    let same : length s.queue ≡ length c.args.held.now.operations.queue = length-map _ shown_queued in
    let some : length s.queue ≢ 0 = λ none. c.if-waiting_len-eq0.false
    (c.waiting_len.ensures.len ∙ (sym same ∙ none)) in
    start_first s s.queue c.args.from.0 c.free_from.result (sym c.may_start.ensures ∙ c.if-may_start.false) some
    (c.free_from.ensures s refl)
