use Rattle.std.proofs.Common.{rules, subst, sym, ap, ◌∙◌}
use Rattle.coap_record.specs.Events.{Sets}
use Rattle.coap_record.specs.Legal.{MayCome}
use Rattle.coap_run.specs.Run.Happening.{what_of}
use Rattle.coap_run.specs.Run.Senders.{sender_in}
use Rattle.coap_run.specs.Run.Sides.{stranger_to}
use Rattle.coap_run.proofs.Recording.EachTurn.{by_client, by_server}
use Rattle.coap_run.proofs.Recording.Sides.{of_same, stranger_is, ticks_are}
use Rattle.coap_run.proofs.running.turn.turn.Goals as goal

pub returns-in_ok-on_call-in-Call-clause-ok : goal.returns-in_ok-on_call-in-Call-clause-ok
returns-in_ok-on_call-in-Call-clause-ok g c = λ past is.
    by_client c.args.addresses g.S.Store.content past c.args.at.0 c.args.word _ _
    (ap what_of c.in-Call.is)
    _ _ _ _ _ (c.in_ok-on_call-in-Call.ensures past)

pub returns-in_ok-on_observe-in-Observe-clause-ok : goal.returns-in_ok-on_observe-in-Observe-clause-ok
returns-in_ok-on_observe-in-Observe-clause-ok g c = λ past is.
    by_client c.args.addresses g.S.Store.content past c.args.at.0 c.args.word _ _
    (ap what_of c.in-Observe.is)
    _ _ _ _ _ (c.in_ok-on_observe-in-Observe.ensures past)

pub returns-in_ok-on_cancel-in-Cancel-clause-ok : goal.returns-in_ok-on_cancel-in-Cancel-clause-ok
returns-in_ok-on_cancel-in-Cancel-clause-ok g c = λ past is.
    by_client c.args.addresses g.S.Store.content past c.args.at.0 c.args.word _ _
    (ap what_of c.in-Cancel.is)
    _ _ _ _ _ (c.in_ok-on_cancel-in-Cancel.ensures past)

pub returns-in_ok-on_forget-in-Forget-clause-ok : goal.returns-in_ok-on_forget-in-Forget-clause-ok
returns-in_ok-on_forget-in-Forget-clause-ok g c = λ past is.
    by_client c.args.addresses g.S.Store.content past c.args.at.0 c.args.word _ _
    (ap what_of c.in-Forget.is)
    _ _ _ _ _ (c.in_ok-on_forget-in-Forget.ensures past)

pub returns-in_ok-on_set-in-Set-clause-ok : goal.returns-in_ok-on_set-in-Set-clause-ok
returns-in_ok-on_set-in-Set-clause-ok g c = λ past is.
    by_server c.args.addresses g.S.Store.content past c.args.at.0 c.args.word _ _
    (ap what_of c.in-Set.is ∙ ap (λ b. Sets c.in-Set.path c.in-Set.format b) (sym c.as_slice.ensures))
    _ _ _ _ _ (c.in_ok-on_set-in-Set.ensures (sender_in c.args.client.now.senders) past)

pub returns-in_ok-on_remove-in-Remove-clause-ok : goal.returns-in_ok-on_remove-in-Remove-clause-ok
returns-in_ok-on_remove-in-Remove-clause-ok g c = λ past is.
    by_server c.args.addresses g.S.Store.content past c.args.at.0 c.args.word _ _
    (ap what_of c.in-Remove.is)
    _ _ _ _ _ (c.in_ok-on_remove-in-Remove.ensures (sender_in c.args.client.now.senders) past)

pub returns-in_ok-on_tick-in-Tick-clause-ok : goal.returns-in_ok-on_tick-in-Tick-clause-ok
returns-in_ok-on_tick-in-Tick-clause-ok g c = λ past is.
    of_same c.args.addresses g.S.Store.content past c.args.at.0 c.args.word _ _
    (ap what_of c.in-Tick.is ∙ ticks_are g.row.A.Denot c.in-Tick.side)
    _ _ _ _ _ _ (c.in_ok-on_tick-in-Tick.ensures past)

pub returns-in_ok-on_stranger-in-Stranger-clause-ok : goal.returns-in_ok-on_stranger-in-Stranger-clause-ok
returns-in_ok-on_stranger-in-Stranger-clause-ok g c = λ past is.
    of_same c.args.addresses g.S.Store.content past c.args.at.0 c.args.word _ _
    (ap what_of c.in-Stranger.is ∙ stranger_is g.row.A.Denot c.in-Stranger.side c.in-Stranger.from
    c.in-Stranger.bytes ∙ ap (stranger_to c.in-Stranger.side c.in-Stranger.from) (sym c.as_slice-in-Stranger.ensures))
    _ _ _ _ _ _ (c.in_ok-on_stranger-in-Stranger.ensures.ok past)

pub returns-in_err-on_stranger-in-Stranger-clause-wrong : goal.returns-in_err-on_stranger-in-Stranger-clause-wrong
returns-in_err-on_stranger-in-Stranger-clause-wrong g c = λ e past is may.
    c.on_stranger.ensures.wrong (search rules) past
    (subst (MayCome c.args.addresses past c.args.at.0)
    (ap what_of c.in-Stranger.is ∙ stranger_is g.row.A.Denot c.in-Stranger.side c.in-Stranger.from
    c.in-Stranger.bytes ∙ ap (stranger_to c.in-Stranger.side c.in-Stranger.from) (sym c.as_slice-in-Stranger.ensures))
    may)
