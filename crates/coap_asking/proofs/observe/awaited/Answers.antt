use Rattle.std.proofs.Common.{◌≡◌, ◌∙◌, Option, Some, None, IfNone, IfSome, subst, sym}
use Rattle.coap_client.specs.Object.Shown.{shown_report}
use Rattle.coap_asking.specs.ObservedTurns.{at_first, on}
use Rattle.coap_waits.specs.Linked.{called}
use Rattle.coap_waits.proofs.Facts.{begins_over, sent_over, turned_over}
use Rattle.coap_asking.proofs.ObservedCalls.{observed_here, observed_on, written_taken}
use Rattle.coap_asking.proofs.observe.awaited.Goals as goal

none_is : {X : Type 0} (P : Type 0) (o : Option X) → IfNone o P → o ≡ None → P
none_is P None h is = h
none_is P (Some x) h is = cc

some_is : {X : Type 0} (P : X → Type 0) (o : Option X) (x : X) → IfSome o P → o ≡ Some x → P x
some_is P o x h is = subst (λ a. IfSome a P) is h

pub loop-turn-init : goal.loop-turn-init
loop-turn-init g c =
    let link = g.L.Link in
    record {
      observed = observed_here c.args.options.now c.args.begin.0 c.args.id.0 _;
      written = at_first;
      over = begins_over link.sends link.receives link.fault_count c.args.word _ _ _ c.fresh_tally-tally.ensures;
    }

pub loop-turn-preserved : goal.loop-turn-preserved
loop-turn-preserved g c =
    let options = c.args.options.now in
    let begin = c.args.begin.0 in
    let more = none_is _ _ c.in_ok-report.ensures.counted c.in_default.is in
    let link = g.L.Link in
    record {
      over = called _ _ _ _
          (turned_over link.sends link.receives link.fault_count _ _ _ _ _ _ _ _ _ _ _ c.loop-turn.invariant.over
          c.in_ok-now.ensures.over c.in_ok-report.ensures.own) c.cancel_at_end.ensures.own;
      observed = c.cancel_at_end.ensures.observed c.args.client.now
          (none_is _ _
          (c.in_ok-report.ensures.more options begin c.args.client.now
          (observed_on options begin c.args.id.0 _ _ _ _ c.loop-turn.invariant.observed
          c.in_ok-now.ensures.asks))
          c.in_default.is);
      written = on _ _ _ c.in_ok-now.now more.0 _ _ _ _ c.loop-turn.invariant.written
          (_, c.in_ok-now.ensures.turned, more.1) more.2 more.3
          (written_taken options begin _ c.in_ok-now.now _ _ more.0 _ _ c.is_over-is_over.ensures c.of.ensures more.4)
          (none_is _ _ c.given_up.ensures.none c.in_default-given_up.is)
          (c.cancel_at_end.ensures.cancels, c.cancel_at_end.ensures.goes_on);
    }

pub returns-in-Some-clause-comes : goal.returns-in-Some-clause-comes
returns-in-Some-clause-comes g c =
    let last = some_is _ _ c.in-Some.report c.in_ok-report.ensures.last c.in-Some.is in (
      _,
      _,
      _,
      observed_on c.args.options.now c.args.begin.0 c.args.id.0 _ _ _ _ c.loop-turn.invariant.observed
          c.in_ok-now.ensures.asks,
      last.0,
      last.1,
    )

pub returns-in-Some-given_up-clause-comes : goal.returns-in-Some-given_up-clause-comes
returns-in-Some-given_up-clause-comes g c = (
  (some_is _ _ _ c.given_up.ensures.some c.in-Some-given_up.is).0,
  _,
  _,
  none_is _ _
      (c.in_ok-report.ensures.more c.args.options.now c.args.begin.0 c.args.client.now
      (observed_on c.args.options.now c.args.begin.0 c.args.id.0 _ _ _ _ c.loop-turn.invariant.observed
      c.in_ok-now.ensures.asks))
      c.in_default.is,
)

pub returns-in-Some-clause-written : goal.returns-in-Some-clause-written
returns-in-Some-clause-written g c =
    let last = some_is _ _ c.in-Some.report c.in_ok-report.ensures.last c.in-Some.is in (
      last.1,
      _,
      c.in_ok-now.now,
      (
        _,
        _,
        c.loop-turn.invariant.written,
        _,
        (_, c.in_ok-now.ensures.turned, last.0),
        written_taken c.args.options.now c.args.begin.0 _ c.in_ok-now.now _ _ (Some (shown_report c.in-Some.report)) _ _
            c.is_over-is_over.ensures c.of.ensures last.3,
      ),
    )

pub returns-in-Some-given_up-clause-written : goal.returns-in-Some-given_up-clause-written
returns-in-Some-given_up-clause-written g c =
    let some = some_is _ _ _ c.given_up.ensures.some c.in-Some-given_up.is in
    let more = none_is _ _ c.in_ok-report.ensures.counted c.in_default.is in (
      some.0,
      _,
      c.in_ok-now.now,
      some.2,
      more.0,
      more.2,
      sym more.3 ∙ some.1,
      (
        _,
        _,
        c.loop-turn.invariant.written,
        _,
        (_, c.in_ok-now.ensures.turned, more.1),
        written_taken c.args.options.now c.args.begin.0 _ c.in_ok-now.now _ _ more.0 _ _ c.is_over-is_over.ensures
            c.of.ensures more.4,
      ),
    )

pub returns-in-Some-clause-over : goal.returns-in-Some-clause-over
returns-in-Some-clause-over g c =
    let link = g.L.Link in (
      _,
      sent_over link.sends link.receives link.fault_count _ _ _ _ _ _ _ _ _ _ _ _ _ c.loop-turn.invariant.over
          c.in_ok-now.ensures.over c.in_ok-report.ensures.own c.send_all.ensures.chain,
    )

pub returns-in-Some-given_up-clause-over : goal.returns-in-Some-given_up-clause-over
returns-in-Some-given_up-clause-over g c =
    let link = g.L.Link in (
      _,
      turned_over link.sends link.receives link.fault_count _ _ _ _ _ _ _ _ _ _ _ c.loop-turn.invariant.over
          c.in_ok-now.ensures.over c.in_ok-report.ensures.own,
    )
