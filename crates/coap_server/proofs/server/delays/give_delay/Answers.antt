use Rattle.std.proofs.Common.{◌≡◌, length, refl, ap, sym, arith}
use Rattle.coap_server.specs.Turns.DelaysShown.{delays_of_others}
use Rattle.coap_server.proofs.Calls.DelayLists.{none_free, one_free, some_of}
use Rattle.coap_server.proofs.server.delays.give_delay.Goals as goal

pub returns-then-other_delays-ge-MAX_DELAYS-clause-given : goal.returns-then-other_delays-ge-MAX_DELAYS-clause-given
returns-then-other_delays-ge-MAX_DELAYS-clause-given g c =
    let count : c.other_delays.result ≡ length (delays_of_others c.args.path.now c.args.delays.now.items) =
    rw c.deref.ensures.value at c.other_delays.ensures in (
      sym (none_free c.args.path.now c.args.delays.now.items c.other_delays.result count
          (omega (arith, c.if-other_delays-ge-MAX_DELAYS.true))),
      refl,
    )

pub returns-in_err-add_delay-in-None-clause-full : goal.returns-in_err-add_delay-in-None-clause-full
returns-in_err-add_delay-in-None-clause-full g c h =
    let count : c.other_delays.result ≡ length (delays_of_others c.args.path.now c.args.delays.now.items) =
    rw c.deref.ensures.value at c.other_delays.ensures in
    let free = one_free c.args.path.now c.args.delays.now.items c.other_delays.result count
    (omega (arith, c.if-other_delays-ge-MAX_DELAYS.false)) in
    absurd (cc (h, free))

pub returns-in_err-add_delay-in-None-clause-again : goal.returns-in_err-add_delay-in-None-clause-again
returns-in_err-add_delay-in-None-clause-again g c h =
    let less = some_of c.args.path.now c.args.delays.now.items h in
    let none : delays_of_others c.args.path.now c.args.delays.now.items
    ≡ c.args.delays.now.items = rw c.deref-2.ensures.value at c.in-None.ensures.none in
    let same = ap length none in
    absurd (omega (arith, less, same))

pub returns-in-Some-clause-given : goal.returns-in-Some-clause-given
returns-in-Some-clause-given g c =
    let count : c.other_delays.result ≡ length (delays_of_others c.args.path.now c.args.delays.now.items) =
    rw c.deref.ensures.value at c.other_delays.ensures in (
      sym (one_free c.args.path.now c.args.delays.now.items c.other_delays.result count
          (omega (arith, c.if-other_delays-ge-MAX_DELAYS.false))),
      c.replace_delay.ensures,
    )

pub returns-in_ok-add_delay-in-None-clause-given : goal.returns-in_ok-add_delay-in-None-clause-given
returns-in_ok-add_delay-in-None-clause-given g c =
    let count : c.other_delays.result ≡ length (delays_of_others c.args.path.now c.args.delays.now.items) =
    rw c.deref.ensures.value at c.other_delays.ensures in (
      sym (one_free c.args.path.now c.args.delays.now.items c.other_delays.result count
          (omega (arith, c.if-other_delays-ge-MAX_DELAYS.false))),
      c.in_ok-add_delay-in-None.ensures.ok,
    )
