-- What is taken was sent, in the order of sending.
use Rattle.coap_layer.specs.Trace.{Setup}
use Rattle.std.proofs.Common.{◌≡◌, ◌⊎◌, inl, inr, ⊎_elim, ℕ, zero, suc, Some, List, [], ◌∷◌, ◌++◌, drop, slice_get}
use Rattle.std.proofs.Common.{refl, ap, sym, ◌∙◌, subst, append_assoc}
use Rattle.coap_types.specs.Past.{Ever}
use Rattle.coap_types.proofs.Facts.Traces.{Ever_append}
use Rattle.coap_layer.specs.Trace.{Packet, Call, Receive, Reply, Confirm, Plain, Settle, Ticks, Take, Room, AsksFree}
use Rattle.coap_layer.specs.Trace.{Pass, Answer, Gives, Entry}
use Rattle.coap_layer.specs.Words.{takes_in, waiting}
use Rattle.coap_layer.specs.Rows.{LayerLaw, Row}
use Rattle.coap_layer.specs.Sends.{IsIn, collected_in, collected, InOrder, TakenSent, TakenSince}

-- the first that waits is taken
taken_first : (q : List Packet) (answer : Answer) → answer ≡ Gives (slice_get q 0)
    → q ≡ collected_in Take answer ++ drop 1 q
taken_first [] answer h = rw h refl
taken_first (p ∷ q) answer h = rw h refl

taken_now : (setup : Setup) (past : List Entry) (e : Entry) (call : Call) → Row setup past e call
    → waiting past ≡ collected_in call e.answer ++ drop (takes_in call) (waiting past)
taken_now setup past e Take row = taken_first (waiting past) e.answer row.0
taken_now setup past e (Receive from bytes) row = refl
taken_now setup past e (Reply to id bytes) row = refl
taken_now setup past e (Confirm to content wish) row = refl
taken_now setup past e (Plain to content) row = refl
taken_now setup past e (Settle to id) row = refl
taken_now setup past e Ticks row = refl
taken_now setup past e (Room to) row = refl
taken_now setup past e AsksFree row = refl
taken_now setup past e Pass row = refl

pub in_order : (setup : Setup) (t : List Entry) → LayerLaw setup t → InOrder t
in_order setup [] law = refl
in_order setup (e ∷ past) law =
    ap (λ x. x ++ e.out) (in_order setup past law.1
    ∙ ap (λ x. collected past ++ x) (taken_now setup past e e.call law.0.row))
    ∙ joined (collected past) (collected_in e.call e.answer) (drop (takes_in e.call) (waiting past)) e.out
  where
    joined : (a b c d : List Packet) → (a ++ (b ++ c)) ++ d ≡ (a ++ b) ++ (c ++ d)
    joined a b c d = ap (λ x. x ++ d) (sym (append_assoc a b c)) ∙ append_assoc (a ++ b) c d

in_drop : (n : ℕ) (p : Packet) (q : List Packet) → IsIn p (drop n q) → IsIn p q
in_drop zero p q h = h
in_drop (suc n) p [] h = h
in_drop (suc n) p (x ∷ q) h = inr (in_drop n p q h)

-- what waits was sent since, or waited before
waits_since : (p : Packet) (later past : List Entry) → IsIn p (waiting (later ++ past))
    → Ever (λ b. IsIn p b.out) later ⊎ IsIn p (waiting past)
waits_since p [] past h = inr h
waits_since p (e ∷ later) past h =
    ⊎_elim (λ k. ⊎_elim (λ a. inl (inr a)) (λ b. inr b)
    (waits_since p later past (in_drop (takes_in e.call) p (waiting (later ++ past)) k))) (λ k. inl (inl k))
    (Ever_append (λ y. y ≡ p) (drop (takes_in e.call) (waiting (later ++ past))) e.out h)

first_waits : (q : List Packet) (p : Packet) → Gives (slice_get q 0) ≡ Gives (Some p) → IsIn p q
first_waits [] p h = absurd (cc h)
first_waits (x ∷ q) p h = inl (cc h)

waits_sent : (p : Packet) (t : List Entry) → IsIn p (waiting t) → Ever (λ b. IsIn p b.out) t
waits_sent p [] h = h
waits_sent p (e ∷ past) h = ⊎_elim (λ k. inr (waits_sent p past (in_drop (takes_in e.call) p (waiting past) k)))
    (λ k. inl k) (Ever_append (λ y. y ≡ p) (drop (takes_in e.call) (waiting past)) e.out h)

pub taken_sent : (setup : Setup) (t : List Entry) → LayerLaw setup t → TakenSent t
taken_sent setup [] law = tt
taken_sent setup (e ∷ past) law = (
  (λ p call answer. waits_sent p past (first_waits (waiting past) p
      (sym (subst (Row setup past e) call law.0.row).0 ∙ answer))),
  taken_sent setup past law.1,
)

pub taken_since : TakenSince
taken_since setup past later e p law none call answer =
    ⊎_elim (λ k. k) (λ k. absurd (subst (IsIn p) none k))
    (waits_since p later past (first_waits (waiting (later ++ past)) p
    (sym (subst (Row setup (later ++ past) e) call law.0.row).0 ∙ answer)))
