use Rattle.std.proofs.Common.{◌≡◌, ◌-◌, ap, sym, ◌∙◌, ◌++◌, nat_le, not, filter, length, arith, option_to_list, false}
use Rattle.std.proofs.Common.{ℕ}
use Rattle.std.proofs.lemmas.Bool.Decides.{nat_tests}
use Rattle.coap_layer.specs.Machine.State.{is_live}
use Rattle.coap_layer.specs.Machine.Entries.{is_passed_at}
use Rattle.coap_layer.proofs.Calls.Passed.{full_is, newest_one, not_full_is}
use Rattle.coap_layer.proofs.dedup.Memory.is_full.Goals as goal

pub returns-then-others-settled : goal.returns-then-others-settled
returns-then-others-settled g c =
    let now = c.args.now.0 in
    let es = c.self.inside.settled.entries in
    let passed : ℕ = 0 in
    let ns = option_to_list c.args.self.now.newest in
    let number = c.get.ensures.number in
    let some = c.get.ensures.some in
    let others = c.get.result - c.live_newest-newest.result in
    let one = newest_one now c.args.self.now.newest in
    let len = c.len-settled.ensures.len in
    let known = c.live_newest-newest.ensures in
    ap not (c.is_passed_at.ensures ∙ ap (λ n. is_passed_at now es (n - others)) len)
    ∙ (full_is now passed others c.args.most es ns (omega arith) (omega (arith, one, known, number, some))
    c.self.invariant.0
    (omega (arith, len, c.if-others-settled.true))
    ∙ ap (λ xs. nat_le c.args.most (length (filter (is_live now) (xs ++ ns)))) (ap (λ m. m.settled) c.self.view_is))

pub returns-else-others-settled : goal.returns-else-others-settled
returns-else-others-settled g c =
    let now = c.args.now.0 in
    let es = c.self.inside.settled.entries in
    let passed : ℕ = 0 in
    let ns = option_to_list c.args.self.now.newest in
    let number = c.get.ensures.number in
    let some = c.get.ensures.some in
    let others = c.get.result - c.live_newest-newest.result in
    let one = newest_one now c.args.self.now.newest in
    let len = c.len-settled.ensures.len in
    let known = c.live_newest-newest.ensures in
    let less = c.if-others-settled.false in
    let no : nat_le others c.len-settled.result ≡ false = grind (arith, nat_tests, less) in
    no ∙ (sym (not_full_is now passed others c.args.most es ns (omega arith)
    (omega (arith, one, known, number, some))
    (omega (arith, len, less)))
    ∙ ap (λ xs. nat_le c.args.most (length (filter (is_live now) (xs ++ ns)))) (ap (λ m. m.settled) c.self.view_is))
