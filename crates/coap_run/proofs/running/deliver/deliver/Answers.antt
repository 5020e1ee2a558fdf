use Rattle.std.proofs.Common.{sym, ap, ◌∙◌, arith}
use Rattle.std.specs.Option.{option_copied}
use Rattle.coap_run.specs.Run.Senders.{sender_in}
use Rattle.coap_run.proofs.Recording.Numbers.{none_comes, late_comes, astray_comes, to_server, to_client}
use Rattle.coap_run.proofs.running.deliver.deliver.Goals as goal

pub returns-in_default-clause-wrong : goal.returns-in_default-clause-wrong
returns-in_default-clause-wrong g c = λ h past is. none_comes c.args.addresses past c.args.log.now c.args.at.0
    c.args.number is
    (sym c.get.ensures ∙ ap option_copied c.in_default.is)

pub returns-then-since-gt-MAX_LATENCY_MS-clause-wrong :
    goal.returns-then-since-gt-MAX_LATENCY_MS-clause-wrong
returns-then-since-gt-MAX_LATENCY_MS-clause-wrong g c =
    λ h past is. late_comes c.args.addresses past c.args.log.now c.args.at.0 c.args.number is c.in-Some.given.now
    c.in-Some.ensures
    (omega (arith, c.at.ensures, c.since.ensures, c.if-since-gt-MAX_LATENCY_MS.true))

pub returns-then-is_end-clause-ok : goal.returns-then-is_end-clause-ok
returns-then-is_end-clause-ok g c = λ past is.
    to_server c.args.addresses g.S.Store.content past c.args.at.0 c.args.word c.args.number c.in-Some.given.now
    c.from-from.result
    c.bytes.result.now c.args.log.now _ _ _ is c.in-Some.ensures
    (omega (arith, c.at.ensures, c.since.ensures, c.if-since-gt-MAX_LATENCY_MS.false))
    c.from-from.ensures c.bytes.ensures c.in_ok-note.ensures
    _ _ _ _ _ (sym c.to.ensures ∙ c.is_end.ensures.yes c.if-is_end.true)
    (c.in_ok-tell_fed.ensures _ c.args.at.0 c.args.word c.from-from.result c.bytes.result.now
    c.feed_server-met.ensures.fed) c.feed_server-met.ensures.quiet
    (c.in_ok-finish_server.ensures (sender_in c.args.client.now.senders))

pub returns-then-is_end-2-clause-ok : goal.returns-then-is_end-2-clause-ok
returns-then-is_end-2-clause-ok g c = λ past is.
    to_client c.args.addresses g.S.Store.content past c.args.at.0 c.args.word c.args.number c.in-Some.given.now
    c.from-from.result
    c.bytes-then-is_end-2.result.now c.args.log.now _ _ _ is c.in-Some.ensures
    (omega (arith, c.at.ensures, c.since.ensures, c.if-since-gt-MAX_LATENCY_MS.false))
    c.from-from.ensures c.bytes-then-is_end-2.ensures c.in_ok-note-2.ensures
    _ _ _ _ (sym c.to-2.ensures ∙ c.is_end-2.ensures.yes c.if-is_end-2.true) c.in_ok-met.ensures.fed
    c.in_ok-met.ensures.quiet
    c.in_ok-finish_client.ensures

pub returns-clause-wrong : goal.returns-clause-wrong
returns-clause-wrong g c = λ h past is. astray_comes c.args.addresses past c.args.log.now c.args.at.0 c.args.number is
    c.in-Some.given.now c.in-Some.ensures
    (λ e. c.is_end-2.ensures.no c.if-is_end-2.false (c.to-2.ensures ∙ e))
    (λ e. c.is_end.ensures.no c.if-is_end.false (c.to.ensures ∙ e))
