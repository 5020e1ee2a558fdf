use Rattle.std.proofs.Common.{◌∙◌, ◌%◌, ap, length, slice_get, sym, subst}
use Rattle.std.specs.Map.{lookup}
use Rattle.coap_layer.specs.Machine.Chains.{Logged, NoneFrom, entries_of}
use Rattle.coap_layer.proofs.Calls.Chained.{copied_or, found_nowhere, hash_respects, none_led}
use Rattle.coap_layer.proofs.dedup.log.Log.find.Goals as goal

pub returns-in-None-clause-value : goal.returns-in-None-clause-value
returns-in-None-clause-value g c =
    let s = c.self.inside in
    let eq = g.K.PartialEq.eq in
    let key = c.args.key in
    let hash = c.hash_of-hash.result in
    let respects = hash_respects {eq = eq} g.S.Hasher.Hasher.finish (λ y bytes. g.S.Hasher.Hasher.write y bytes)
    (g.S.BuildHasher.build_hasher s.hasher) _ g.met.K.Hash.respects_eq in
    let none_many = none_led eq g.met.K.Eq.laws key s.first s.passed s.pages.items _ respects s.many.items hash
    c.hash_of-hash.ensures
    (subst (λ hs. NoneFrom eq key s.first s.passed s.pages.items (slice_get hs (hash % length hs)))
    c.deref.ensures.value c.in-None.ensures.none) in
    copied_or c.find_by-in-None.result (lookup (eq key) (entries_of s.passed s.pages.items)) _
    c.find_by-in-None.ensures.found c.find_by-in-None.ensures.none
    (λ none. found_nowhere eq g.met.K.Eq.laws key s.first s.passed s.pages.items _ respects s.few.items
    s.many.items s.most c.self.invariant.5
    (none_led eq g.met.K.Eq.laws key s.first s.passed s.pages.items _ respects s.few.items hash
    c.hash_of-hash.ensures
    (subst (λ hs. NoneFrom eq key s.first s.passed s.pages.items (slice_get hs (hash % length hs)))
    c.deref-in-None.ensures.value none)) none_many)
    ∙ ap (λ (v : Logged g.row.K.Denot g.row.V.Denot). lookup (eq key) v.entries) c.self.view_is
