use Rattle.std.proofs.Common.{◌≡◌, Option, Some, None, IfNone, IfSome, refl, subst}
use Rattle.coap_asking.specs.Watches.{registered}
use Rattle.coap_waits.proofs.Facts.{begins_over, goes_join, sent_over, turned_over}
use Rattle.coap_asking.proofs.WatchedCalls.{left_by, left_in_turn, left_reported, not_left, turn_on}
use Rattle.coap_asking.proofs.watching.awaited.Goals as goal

none_is : {X : Type 0} (P : Type 0) (o : Option X) → IfNone o P → o ≡ None → P
none_is P None h is = h
none_is P (Some x) h is = cc

some_is : {X : Type 0} (P : X → Type 0) (o : Option X) (x : X) → IfSome o P → o ≡ Some x → P x
some_is P o x h is = subst (λ a. IfSome a P) is h

pub loop-turn-init : goal.loop-turn-init
loop-turn-init g c =
    let link = g.L.Link in
    record {
      going = (registered, refl);
      over = begins_over link.sends link.receives link.fault_count c.args.word _ _ _ c.fresh_tally-tally.ensures;
    }

pub loop-turn-preserved : goal.loop-turn-preserved
loop-turn-preserved g c =
    let options = c.args.watching.now.options.now in
    let again = c.args.watching.now.again in
    let heard = c.last_report.new.heard in
    let link = g.L.Link in
    record {
      going = turn_on options again c.args.id.0 _ _ _ _ _ c.in_ok-now.now _ _ _ _ _ c.loop-turn.invariant.going
          c.in_ok-now.ensures.turned _
          (none_is _ _ c.in_ok-report.ensures.more c.in_default.is)
          (not_left options again heard.since.0 c.args.id.0 heard.values heard.last.0 c.in_ok-now.now.0 _ _ _
          c.left_at.ensures.leaves c.in_default-left_at.is);
      over = goes_join link.sends link.receives link.fault_count _ _ _ _ _ _
          (turned_over link.sends link.receives link.fault_count _ _ _ _ _ _ _ _ _ _ _ c.loop-turn.invariant.over
          c.in_ok-now.ensures.over c.in_ok-report.ensures.own) c.left_at.ensures.over;
    }

pub returns-in-Some-clause-left : goal.returns-in-Some-clause-left
returns-in-Some-clause-left g c =
    let last = some_is _ _ c.in-Some.report c.in_ok-report.ensures.last c.in-Some.is in
    left_reported c.args.watching.now.options.now c.args.watching.now.again c.args.id.0 _ _ _ _ _ c.in_ok-now.now _ _ _
    _
    _ c.loop-turn.invariant.going
    c.in_ok-now.ensures.turned c.in-Some.report last.0 last.1 last.2 last.3

pub returns-in-Some-left_at-clause-left : goal.returns-in-Some-left_at-clause-left
returns-in-Some-left_at-clause-left g c =
    let options = c.args.watching.now.options.now in
    let again = c.args.watching.now.again in
    let heard = c.last_report.new.heard in
    left_in_turn options again c.args.id.0 _ _ _ _ _ c.in_ok-now.now _ _ _ _ _ c.loop-turn.invariant.going
    c.in_ok-now.ensures.turned c.in-Some-left_at.left _
    (none_is _ _ c.in_ok-report.ensures.more c.in_default.is)
    (left_by options again heard.since.0 c.args.id.0 heard.values heard.last.0 c.in_ok-now.now.0 _ _ _
    c.in-Some-left_at.left c.left_at.ensures.leaves c.in-Some-left_at.is)

pub returns-in-Some-clause-over : goal.returns-in-Some-clause-over
returns-in-Some-clause-over g c =
    let link = g.L.Link in (
      _,
      sent_over link.sends link.receives link.fault_count _ _ _ _ _ _ _ _ _ _ _ _ _ c.loop-turn.invariant.over
          c.in_ok-now.ensures.over c.in_ok-report.ensures.own c.send_all.ensures.chain,
    )

pub returns-in-Some-left_at-clause-over : goal.returns-in-Some-left_at-clause-over
returns-in-Some-left_at-clause-over g c =
    let link = g.L.Link in (
      _,
      goes_join link.sends link.receives link.fault_count _ _ _ _ _ _
          (turned_over link.sends link.receives link.fault_count _ _ _ _ _ _ _ _ _ _ _ c.loop-turn.invariant.over
          c.in_ok-now.ensures.over c.in_ok-report.ensures.own) c.left_at.ensures.over,
    )
