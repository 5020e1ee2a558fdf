use Rattle.std.proofs.Common.{◌≡◌, ◌∙◌, ℕ, List, ap, sym, subst}
use Rattle.std.specs.Result.{IfOk}
use Rattle.coap_block.specs.AssemblyState.{with_payload}
use Rattle.coap_block.specs.AssemblyKept.{body_of, key_of, partials_of, there_of}
use Rattle.coap_block.proofs.Fields.PartialsSeen.{kept_at, kept_set_same}
use Rattle.coap_block.proofs.Fields.FoundByKey.{whole_there, whole_anew, whole_first}
use Rattle.coap_block.proofs.partials.whole.Goals as goal
use Rattle.coap_block.proofs.partials.whole.Goals.{in_default-via-in-Some+else-arrival-gt0, in_default-via-in_default}

pub returns-in-Some-clause-whole : goal.returns-in-Some-clause-whole
returns-in-Some-clause-whole g c =
    let is = ap body_of c.index_mut.ensures.value
    ∙ kept_at c.args.partials.now.items c.in-Some.i c.index_mut.result.now in
    let there = whole_there _ _ _ c.args.arrival.now.payload.now _ _ _ c.if-arrival-gt0.true
    (sym (rw c.deref.ensures.value at c.place_of.ensures.place) ∙ c.in-Some.is) is in
    subst (λ (l : List ℕ). IfOk c.whole_with.result (λ whole. whole ≡ l)) there c.whole_with.ensures.whole

pub returns-in-Some-clause-same : goal.returns-in-Some-clause-same
returns-in-Some-clause-same g c =
    kept_set_same c.args.partials.now.items c.in-Some.i c.whole_with.new.self c.index_mut.result.now
    (c.whole_with.ensures.same ∙ ap body_of c.index_mut.ensures.value)

pub returns-in_default-clause-whole : goal.returns-in_default-clause-whole
returns-in_default-clause-whole g c =
    let alone = elim c.in_default.branch as (λ x. c.args.arrival.now.payload.now
    ≡ with_payload (key_of c.args.arrival.now.key.now) c.args.arrival.now.num c.args.arrival.now.payload.now
    (there_of c.args.arrival.now.at.0 c.args.partials.now.items)) [
      | in_default-via-in-Some+else-arrival-gt0 w ↦ whole_anew
          (key_of c.args.arrival.now.key.now) c.args.arrival.now.num c.args.arrival.now.payload.now
          (there_of c.args.arrival.now.at.0 c.args.partials.now.items) w.if-arrival-gt0.false
      | in_default-via-in_default w ↦ whole_first
          (key_of c.args.arrival.now.key.now) c.args.arrival.now.at.0 c.args.arrival.now.num
          c.args.arrival.now.payload.now (partials_of c.args.partials.now.items)
          (sym (rw c.deref.ensures.value at c.place_of.ensures.place) ∙ w.in_default.is)
    ] in
    subst (λ (l : List ℕ). IfOk c.copy_from_slice.result (λ whole. whole ≡ l)) alone c.copy_from_slice.ensures
