use Rattle.coap_waits.specs.Terms.{asked_terms, setup_of, sizes_of}
use Rattle.coap_asking.specs.Watches.{IsRegistered}
use Rattle.coap_asking.proofs.WatchedCalls.{told_followed}
use Rattle.coap_asking.proofs.watching.observed_and_told.Goals as goal

pub returns-clause-next : goal.returns-clause-next
returns-clause-next g c =
    let options = c.args.watching.now.options.now in
    let again = c.args.watching.now.again in
    let terms = asked_terms c.args.word options in
    let heard = c.args.heard.now in
    told_followed
    (λ left values held. IsRegistered c.args.server (sizes_of terms) (setup_of terms) c.args.watching.now.path.now
    options again heard.since.0 heard.last.0 heard.values (g.W.Write.contents c.args.out.now) left values held)
    options again heard.since heard.last.0 c.in_ok-left.left c.observed_once.new.heard c.follow.new.heard _
    c.follow.result c.in_ok-verdict.ensures.0 c.in_ok-verdict.ensures.2 _ _ c.in_ok-left.ensures.left
    c.in_ok-left.ensures.since c.in_ok-verdict.ensures.3 c.in_ok-verdict.ensures.4 c.follow.ensures.follows
    c.follow.ensures.values
    c.in_ok-told.ensures
