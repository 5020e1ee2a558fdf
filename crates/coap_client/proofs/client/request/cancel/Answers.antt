use Rattle.std.proofs.Common.{IfOk, map, rules, ◌∙◌, subst}
use Rattle.std.specs.Option.{option_map}
use Rattle.coap_types.specs.Path.{segments_of}
use Rattle.coap_client.specs.Object.Sends.{Sends}
use Rattle.coap_client.specs.Object.Shown.{shown_observation}
use Rattle.coap_client.proofs.Calls.FetchingLemmas.{cancel_request}
use Rattle.coap_client.proofs.client.request.cancel.Goals as goal

pub returns-clause-sends : goal.returns-clause-sends
returns-clause-sends g c =
    subst (λ r. IfOk c.get.result (λ token. Sends c.args.asker.now.state c.args.now.at.0 r c.args.now.word token
    c.get.new.asker.state))
    (cancel_request c.args.number (map shown_observation c.args.operations.now.live)
    (option_map (λ t. t.now) c.as_ref.result) c.as_slice.result.now (segments_of c.segments_of-path.result.now)
    (search rules)
    (c.as_slice.ensures.bytes ∙ c.uint_bytes-observe.ensures.bytes) c.segments_of-path.ensures.path)
    c.get.ensures.sends
