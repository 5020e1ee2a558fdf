use Rattle.coap_asking.proofs.WatchedCalls.{AgainAt}
use Rattle.coap_asking.proofs.watching.watch_over.Given as goal

-- so many registrations were left
abbrev pub invariant-loop-number : goal.invariant-loop-number
invariant-loop-number g l =
    AgainAt (g.S.LinkSource.reaches l.source) l.watching.word l.watching.path.now l.watching.options.now
    l.watching.again (g.O.Write.contents l.fn.out) l.initial.heard.since l.number l.heard (g.O.Write.contents l.out)
