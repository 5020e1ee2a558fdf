use Rattle.std.proofs.Common.{◌≡◌, ◌∙◌, ℕ, ap, max}
use Rattle.std.specs.List.{list_any}
use Rattle.coap_types.specs.SameEndpoint.{same_endpoint}
use Rattle.coap_block.specs.AssemblyState.{forgotten}
use Rattle.coap_server.specs.Led.{State}
use Rattle.coap_server.specs.Load.{moment}
use Rattle.coap_server.specs.Object.Shown.{seen}
use Rattle.coap_server.specs.Peers.{awaits, uploads}
use Rattle.coap_server.proofs.Calls.WaitingPeers.{any_waiting}
use Rattle.coap_server.proofs.server.peers.know.Goals as goal

pub returns : goal.returns
returns g c =
    let p = c.args.parts.now in
    let peer = c.args.peer in
    let s : State = seen g.S.Store.content p in
    let last = c.later-last.ensures ∙ ap (λ (n : ℕ). max n p.clock.0) c.clock.ensures.own in
    let at : c.later-at.result.0 ≡ moment s c.args.now.0
    = c.later-at.ensures ∙ ap (λ (n : ℕ). max n c.args.now.0) last in
    let known = c.knows-known.ensures in
    let observers = c.observes-observes.ensures in
    let partials : c.knows-uploads.result
    ≡ uploads peer (forgotten (max s.own.uploads.clock (moment s c.args.now.0)) s.own.uploads.partials)
    = c.knows-uploads.ensures
    ∙ ap (λ (n : ℕ). uploads peer (forgotten (max s.own.uploads.clock n) s.own.uploads.partials)) at in
    let waits : c.is_awaited.result ≡ awaits peer s.own.waiting
    = c.is_awaited.ensures ∙ (ap (λ ws. list_any (λ w. same_endpoint w.asked.from peer) ws) c.deref.ensures.value
    ∙ any_waiting p.szx peer p.waiting.items) in
    c.one_of.ensures ∙ cc (known, observers, partials, waits)
