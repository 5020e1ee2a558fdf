use Rattle.std.proofs.Common.{◌∙◌, ℕ, Some, sym, ap, arith, length, List}
use Rattle.coap_block.specs.AssemblyState.{PartialBody, forgotten, reached_of}
use Rattle.coap_block.specs.AssemblyKept.{body_of, partials_of, key_of}
use Rattle.coap_block.proofs.Fields.PartialsSeen.{kept_at, length_live}
use Rattle.coap_block.proofs.Fields.FoundByKey.{length_others, absent_out, none_found, place_found}
use Rattle.coap_block.proofs.partials.counts.Goals as goal

pub overflow_sub-result : goal.overflow_sub-result
overflow_sub-result g c =
    let n = length_live c.args.now.0 c.live-live.result c.args.partials.now c.live-live.ensures in
    let found = place_found (key_of c.args.key.now) c.args.now.0 (body_of c.index-partials-i.result)
    (partials_of c.args.partials.now) c.in-Some.i (sym (rw c.in-Some.is at c.place_of.ensures.place)) in
    let m = length_others (key_of c.args.key.now) _ (forgotten c.args.now.0 (partials_of c.args.partials.now)) found in
    omega (arith, n, m)

pub returns-in-Some-clause-others : goal.returns-in-Some-clause-others
returns-in-Some-clause-others g c =
    let n = length_live c.args.now.0 c.live-live.result c.args.partials.now c.live-live.ensures in
    let found = place_found (key_of c.args.key.now) c.args.now.0 (body_of c.index-partials-i.result)
    (partials_of c.args.partials.now) c.in-Some.i (sym (rw c.in-Some.is at c.place_of.ensures.place)) in
    let m = length_others (key_of c.args.key.now) _ (forgotten c.args.now.0 (partials_of c.args.partials.now)) found in
    omega (arith, n, m)

pub returns-in-None-clause-others : goal.returns-in-None-clause-others
returns-in-None-clause-others g c =
    let none = absent_out (key_of c.args.key.now) (forgotten c.args.now.0 (partials_of c.args.partials.now))
    (none_found (key_of c.args.key.now) c.args.now.0 (partials_of c.args.partials.now)
    (sym (rw c.in-None.is at c.place_of.ensures.place))) in
    length_live c.args.now.0 c.live-live.result c.args.partials.now c.live-live.ensures
    ∙ sym (ap (λ (l : List PartialBody). length l) none)

pub returns-in-Some-clause-reached : goal.returns-in-Some-clause-reached
returns-in-Some-clause-reached g c =
    let found = place_found (key_of c.args.key.now) c.args.now.0 (body_of c.index-partials-i.result)
    (partials_of c.args.partials.now) c.in-Some.i (sym (rw c.in-Some.is at c.place_of.ensures.place)) in
    let is = ap body_of c.index-partials-i.is ∙ kept_at c.args.partials.now c.in-Some.i c.index-partials-i.result in
    ap (λ (n : ℕ). Some n) (c.len.ensures ∙ ap (λ (p : PartialBody). length p.bytes) is) ∙ sym (ap reached_of found)

pub returns-in-None-clause-reached : goal.returns-in-None-clause-reached
returns-in-None-clause-reached g c =
    sym (ap reached_of (none_found (key_of c.args.key.now) c.args.now.0 (partials_of c.args.partials.now)
    (sym (rw c.in-None.is at c.place_of.ensures.place))))
