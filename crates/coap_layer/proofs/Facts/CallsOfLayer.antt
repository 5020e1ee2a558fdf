-- What a call of the layer leaves of its clock and of the CONs that are outstanding.
use Rattle.std.proofs.Common.{◌≡◌, ℕ, Some, List, [], ◌∷◌, ◌++◌, refl, ap, sym, ◌∙◌}
use Rattle.std.specs.List.{filter_map, cons_option}
use Rattle.std.proofs.lemmas.List.{append-nil}
use Rattle.coap_layer.specs.Machine.State as L
use Rattle.coap_layer.specs.Machine.State.{out_of, moment}
use Rattle.coap_layer.specs.Trace.{Call, Answer, Entry}
use Rattle.coap_layer.specs.Words.{Open, left_by}
use Rattle.coap_layer.specs.Machine.Calls.{opens_then}

pub step_clock : (old new : L.State) (now : ℕ) (call : Call) (answer : Answer) → L.Step old now call answer new
    → new.clock ≡ moment old now call
step_clock old new now call answer step = ap (λ (s : L.State). s.clock) step.new_is

pub step_opens : (old new : L.State) (now : ℕ) (call : Call) (answer : Answer) → L.Step old now call answer new
    → new.open_cons ≡ opens_then (moment old now call) call answer (out_of old (moment old now call) call) old.open_cons
step_opens old new now call answer step =
    ap (λ (s : L.State). s.open_cons) step.new_is
    ∙ ap (λ a. opens_then (moment old now call) call a (out_of old (moment old now call) call) old.open_cons)
    (sym step.right)

pub left_same : (e : Entry) → ((c : Open) → left_by e c ≡ Some c) → (cs : List Open) → filter_map (left_by e) cs ≡ cs
left_same e f [] = refl
left_same e f (c ∷ cs) = ap (λ o. cons_option o (filter_map (left_by e) cs)) (f c)
    ∙ ap (λ ds. c ∷ ds) (left_same e f cs)

pub left_same_nil : (e : Entry) → ((c : Open) → left_by e c ≡ Some c) → (cs : List Open)
    → filter_map (left_by e) cs ++ [] ≡ cs
left_same_nil e f cs = append-nil _ ∙ left_same e f cs
