use Rattle.std.proofs.Common.{◌≤◌, ◌<◌, arith, length, sym, subst, ◌∙◌}
use Rattle.coap_layer.specs.Machine.Chains.{LeadsOn}
use Rattle.coap_layer.proofs.Calls.Chained.{leads_end, leads_next, stands}
use Rattle.coap_layer.proofs.dedup.log.follow.Goals.{then-back-test+else-place-bound, else-back-test}
use Rattle.coap_layer.proofs.dedup.log.follow.Goals as goal

pub returns-then-eq-clause-found : goal.returns-then-eq-clause-found
returns-then-eq-clause-found g c =
    stands g.K.PartialEq.eq g.met.K.Eq.laws c.args.key c.args.passed c.back.place c.args.pages.now.items
    c.in-Some.linked.now c.requires c.back-test.true (sym c.in-Some.ensures) (sym c.eq.ensures ∙ c.if-eq.true)

pub back-preserved : goal.back-preserved
back-preserved g c =
    let ls = c.args.pages.now.items in
    subst (LeadsOn g.K.PartialEq.eq c.args.key c.args.first c.args.passed ls (length ls) c.args.from c.back.place)
    (sym c.place_of-place.ensures)
    (leads_next g.K.PartialEq.eq g.met.K.Eq.laws c.args.key c.args.first c.args.passed ls (length ls) c.args.from
    c.back.bound c.back.place c.in-Some.linked.now (sym c.in-Some.ensures) (sym c.eq.ensures ∙ c.if-eq.false)
    c.back.invariant)

pub returns-clause-none : goal.returns-clause-none
returns-clause-none g c =
    let ls = c.args.pages.now.items in
    leads_end g.K.PartialEq.eq g.met.K.Eq.laws c.args.key c.args.first c.args.passed ls (length ls) c.args.from
    c.back.bound c.back.place c.back.invariant
    (λ live less. elim c.back-test.branch [
      | then-back-test+else-place-bound w ↦ let over = w.if-place-bound.false in absurd (omega (arith, less, over))
      | else-back-test w ↦ let before = w.back-test.false in absurd (omega (arith, live, before))
    ])
