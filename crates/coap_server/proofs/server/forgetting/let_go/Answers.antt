use Rattle.std.proofs.Common.{◌∙◌, ap, map}
use Rattle.coap_observe.specs.Observers.{Roll}
use Rattle.coap_server.specs.Object.Shown.{seen, waiting_as}
use Rattle.coap_server.proofs.Calls.PeerIsForgotten.{lets_go, own_left}
use Rattle.coap_server.proofs.Calls.WaitingPeers.{kept_waiting}
use Rattle.coap_server.proofs.server.forgetting.let_go.Goals as goal

pub returns-clause-step : goal.returns-clause-step
returns-clause-step g c =
    let p = c.args.parts.now in
    let peer = c.args.peer in
    lets_go _ _ peer c.forget.ensures.step
    (own_left (seen g.S.Store.content p).own _ _ _ _ _ _ _ c.forget-2.ensures.state
    (ap (λ (o : Roll). o.list) c.forget-3.ensures)
    (ap (λ ws. map (waiting_as p.szx) ws) c.retain_others.ensures ∙ kept_waiting p.szx peer p.waiting.items))
