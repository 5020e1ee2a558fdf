use Rattle.std.proofs.Common.{◌≡◌, ◌∙◌, ◌&&◌, ap, subst}
use Rattle.std.specs.List.{list_any}
use Rattle.coap_types.specs.SameEndpoint.{same_endpoint}
use Rattle.coap_exchange.specs.Machine.AnswererShown.{Shown}
use Rattle.coap_exchange.specs.Machine.Listed.{listed}
use Rattle.coap_exchange.specs.Peers.{knows}
use Rattle.coap_exchange.proofs.Calls.OnTheList.{any_listed}
use Rattle.coap_exchange.proofs.answerer.Answerer.knows.Goals as goal

pub returns : goal.returns
returns g c =
    let peer = c.args.peer in
    let known = c.knows-known.ensures in
    let sent : c.is_sent_to-sent.result
    ≡ list_any (λ d. same_endpoint d.to peer) (listed c.self.inside.separate.items)
    = c.is_sent_to-sent.ensures
    ∙ (ap (λ ks. list_any (λ k. k.now && same_endpoint k.entry.to peer) ks) c.deref.ensures.value
    ∙ any_listed (λ d. same_endpoint d.to peer) c.self.inside.separate.items) in
    let deferred = c.has_of-deferred.ensures in
    let asked = c.is_asked_by.ensures in
    subst (λ (a : Shown). c.one_of.result ≡ knows peer a.state) c.self.view_is
    (c.one_of.ensures ∙ cc (known, sent, deferred, asked))
