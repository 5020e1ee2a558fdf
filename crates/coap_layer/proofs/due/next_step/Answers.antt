use Rattle.std.proofs.Common.{◌≡◌, ◌<◌, ◌≤◌, ◌+◌, List, length, take, subst, get_or}
use Rattle.std.proofs.lemmas.List.{take_all}
use Rattle.coap_types.specs.FirstMoment.{IsFirstMoment}
use Rattle.coap_layer.specs.Words.{Open}
use Rattle.coap_layer.specs.Machine.Sendings.{open_now}
use Rattle.coap_layer.specs.Machine.Waits.{any_has_step, has_step}
use Rattle.coap_layer.proofs.Copies.FirstMoments.{grown, taken_open, taken_ended}
use Rattle.coap_layer.proofs.due.next_step.Goals as goal
use Rattle.coap_layer.proofs.due.next_step.Goals.{in-Some, in_default}

pub loop-c-preserved : goal.loop-c-preserved
loop-c-preserved g c =
    let cs = c.args.sendings.now.items in
    let i = c.loop-c.c-index in
    let con = c.c-item.result in
    let less : i < length cs = rw c.deref-c-items.ensures.value at c.loop-c-test.true in
    let is : con ≡ get_or cs i con = rw c.deref-c-items.ensures.value at c.c-item.is in
    elim c.match-c.branch [
      | in-Some w ↦
          let con_open : Open = record {
            to = con.to;
            id = con.id.0;
            bytes = con.bytes.items;
            timeout = con.timeout;
            first = con.first.0;
            last = w.in-Some.last.0;
          } in
          rw w.first-is (grown (open_now (take i cs)) (open_now (take (i + 1) cs)) con_open c.args.from.0
          w.earlier-first.result (taken_open cs i con w.in-Some.last less is w.in-Some.is)
          (w.earlier-first.ensures (λ now. any_has_step now (open_now (take i cs))) (λ now. has_step now con_open)
          c.args.from.0 c.loop-c.invariant w.step.ensures))
      | in_default w ↦ rw w.first-is (subst (λ (os : List Open).
          IsFirstMoment (λ now. any_has_step now os) c.args.from.0 c.loop-c.first)
          (taken_ended cs i con less is w.in_default.is) c.loop-c.invariant)
    ]

pub returns-clause-first : goal.returns-clause-first
returns-clause-first g c =
    let cs = c.args.sendings.now.items in
    let all : length cs ≤ c.loop-c.c-index = rw c.deref-c-items.ensures.value at c.loop-c-test.false in
    subst (λ xs. IsFirstMoment (λ now. any_has_step now (open_now xs)) c.args.from.0 c.loop-c.first)
    (take_all c.loop-c.c-index cs all) c.loop-c.invariant
