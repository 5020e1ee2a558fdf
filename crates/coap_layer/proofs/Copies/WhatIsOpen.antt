-- What is outstanding: one CON to a place, each as it was begun, sent again by ticks alone.
use Rattle.coap_layer.specs.Trace.{Setup}
use Rattle.std.proofs.Common.{◌≡◌, ◌⊎◌, inl, inr, ⊎_elim, ℕ, ◌≤◌, Bool, true, false, Some, None, List, [], ◌∷◌, refl}
use Rattle.std.proofs.Common.{ap, sym, ◌∙◌, subst, arith, cond, option_to_list}
use Rattle.std.proofs.lemmas.Bool.Decides.{nat_tests}
use Rattle.std.specs.Cmp.Lexicographic.{bytes_decides}
use Rattle.std.specs.List.{filter_map}
use Rattle.coap_types.specs.Past.{Ever}
use Rattle.coap_types.specs.declared.endpoint.Endpoint.{Endpoint}
use Rattle.coap_types.proofs.Facts.Traces.{Ever_append, Ever_map}
use Rattle.coap_types.specs.SameEndpoint.{same_endpoint}
use Rattle.coap_types.proofs.Facts.Endpoints.{same_endpoint_is}
use Rattle.coap_layer.specs.Trace.{Call, Receive, Reply, Confirm, Plain, Settle, Ticks, Take, Room, AsksFree, Pass}
use Rattle.coap_layer.specs.Trace.{Answer, Becomes, Nothing, Is, Sent, Busied, NoIds, Idle, Copied, Expired, Gives}
use Rattle.coap_layer.specs.Trace.{Entry}
use Rattle.coap_layer.specs.Words.{clock, Open, ends_in, copies_in, left_by, begun, outstanding}
use Rattle.coap_layer.specs.Rows.{Busy, LayerLaw, IsFirst}
use Rattle.coap_layer.specs.Sends.{IsIn, OneOpen}
use Rattle.coap_layer.proofs.Copies.CopiesInTime.{in_option, in_filter_map, left_same, one_outstanding}
use Rattle.coap_layer.proofs.ListLemmas.{both, and_left, and_right, same_nat}
use Rattle.coap_layer.proofs.Numbers.OneEntryForAnId.{begins_of}

-- it is in the list, and P holds of it
pub some_in : {A : Type 0} (P : A → Type 0) (xs : List A) → Ever P xs → (x : A) × IsIn x xs × P x
some_in P (x ∷ xs) (inl h) = (x, inl refl, h)
some_in P (x ∷ xs) (inr h) = let q = some_in P xs h in (q.0, inr q.1, q.2)
some_in P [] h = absurd h

pub first_has : (P : Open → Type 0) (c : Open) (cs : List Open) → IsFirst P c cs → P c
first_has P c (x ∷ cs) (inl h) = subst P h.0 h.1
first_has P c (x ∷ cs) (inr h) = first_has P c cs h.1
first_has P c [] h = absurd h

pub place_same : (a b : Endpoint) → a ≡ b → same_endpoint a b ≡ true
place_same a b h = both _ _ ((bytes_decides a.ip b.ip).1 (ap (λ (x : Endpoint). x.ip) h))
    (let p : a.port ≡ b.port = ap (λ (x : Endpoint). x.port) h in grind (arith, nat_tests, p))

-- at most one CON to a place is outstanding
left_to : (e : Entry) (c d : Open) → left_by e c ≡ Some d → d.to ≡ c.to
left_to e c d h = sym (ap (λ (x : Open). x.to) (left_same e c d h))

pub busy_with : (past : List Entry) (a b : Open) → IsIn a (outstanding past) → a.to ≡ b.to → Busy past b.to
busy_with past a b h to = Ever_map _ _ (λ x k. place_same x.to b.to (ap (λ (y : Open). y.to) k ∙ to))
    (outstanding past) h

pub one_open : (setup : Setup) (t : List Entry) → LayerLaw setup t → OneOpen t
one_open setup [] law a b h k to = absurd h
one_open setup (e ∷ past) law a b h k to = ⊎_elim
    (λ p. ⊎_elim (λ q. old (one_open setup past law.1) p q) (λ q. absurd (mixed a b p q to)) (split b k))
    (λ p. ⊎_elim (λ q. absurd (mixed b a q p (sym to))) (λ q. new p q) (split b k))
    (split a h)
  where
    Old : Open → Type 0
    Old c = IsIn c (filter_map (left_by e) (outstanding past))

    New : Open → Type 0
    New c = IsIn c (option_to_list (begun e))

    split : (c : Open) → IsIn c (outstanding (e ∷ past)) → Old c ⊎ New c
    split c i = Ever_append (λ y. y ≡ c) (filter_map (left_by e) (outstanding past)) (option_to_list (begun e)) i

    new : New a → New b → a ≡ b
    new p q = let x = in_option a (begun e) p in let y = in_option b (begun e) q in cc (x, y)

    old : OneOpen past → Old a → Old b → a ≡ b
    old one_before p q =
        let x = in_filter_map (left_by e) a (outstanding past) p in
        let y = in_filter_map (left_by e) b (outstanding past) q in
        let same : x.0 ≡ y.0 = one_before x.0 y.0 x.1 y.1 (sym (left_to e x.0 a x.2) ∙ (to ∙ left_to e y.0 b y.2)) in
        let one : left_by e y.0 ≡ Some a = ap (left_by e) (sym same) ∙ x.2 in
        let two : left_by e y.0 ≡ Some b = y.2 in
        cc (one, two)

    mixed : (c d : Open) → Old c → New d → c.to ≡ d.to → ⊥
    mixed c d p q is =
        let x = in_filter_map (left_by e) c (outstanding past) p in
        (one_outstanding setup (e ∷ past) law).0 d (in_option d (begun e) q)
        (busy_with past x.0 d x.1 (sym (left_to e x.0 c x.2) ∙ is))

-- what is left of it
pub record Left (e : Entry) (c d : Open) : Type 0 where
  pub to_is : d.to ≡ c.to
  pub id_is : d.id ≡ c.id
  pub timeout_is : d.timeout ≡ c.timeout
  pub first_is : d.first ≡ c.first
  pub last_is : ((d.last ≡ c.last) × (copies_in e.call e.answer c.to c.id ≡ false)) ⊎ (d.last ≡ e.at)

pub left_of : (e : Entry) (c d : Open) → left_by e c ≡ Some d → Left e c d
left_of e c d h = go (ends_in e.call e.answer c.to c.id) (copies_in e.call e.answer c.to c.id) refl h
  where
    go : (x y : Bool) → copies_in e.call e.answer c.to c.id ≡ y
        → cond x None (cond y (Some (record c { last = e.at })) (Some c)) ≡ Some d → Left e c d
    go true y n k = absurd (cc k)
    go false true n k =
        let g : record c { last = e.at } ≡ d = cc k in
        subst (Left e c) g (record {
          to_is = refl;
          id_is = refl;
          timeout_is = refl;
          first_is = refl;
          last_is = inr refl;
        })
    go false false n k =
        let g : c ≡ d = cc k in
        subst (Left e c) g (record {
          to_is = refl;
          id_is = refl;
          timeout_is = refl;
          first_is = refl;
          last_is = inl (refl, n);
        })

-- no CON went out later than the clock
pub last_by : (setup : Setup) (t : List Entry) (c : Open) → LayerLaw setup t → IsIn c (outstanding t) → c.last ≤ clock t
last_by setup [] c law h = absurd h
last_by setup (e ∷ past) c law h = ⊎_elim (old (λ d. last_by setup past d law.1)) new
    (Ever_append (λ y. y ≡ c) (filter_map (left_by e) (outstanding past)) (option_to_list (begun e)) h)
  where
    new : IsIn c (option_to_list (begun e)) → c.last ≤ e.at
    new k = let b = begins_of e c (in_option c (begun e) k) in omega (arith, b.last_is)

    old : ((d : Open) → IsIn d (outstanding past) → d.last ≤ clock past)
        → IsIn c (filter_map (left_by e) (outstanding past)) → c.last ≤ e.at
    old f k =
        let q = in_filter_map (left_by e) c (outstanding past) k in
        let before = f q.0 q.1 in
        ⊎_elim (λ l. omega (arith, l.0, before, law.0.time)) (λ l. omega (arith, l)) (left_of e q.0 c q.2).last_is

-- the answer by which a CON goes out again
ticks_copy : (answer : Answer) (to : Endpoint) (id : ℕ) → copies_in Ticks answer to id ≡ true → answer ≡ Copied to id
ticks_copy (Copied place n) to id h =
    ap (λ (x : Endpoint). Copied x n) (sym (same_endpoint_is to place (and_left _ _ h)))
    ∙ ap (Copied to) (sym (same_nat id n (and_right (same_endpoint to place) _ h)))
ticks_copy (Becomes what) to id h = absurd (cc h)
ticks_copy Nothing to id h = absurd (cc h)
ticks_copy (Is b) to id h = absurd (cc h)
ticks_copy (Sent n) to id h = absurd (cc h)
ticks_copy Busied to id h = absurd (cc h)
ticks_copy NoIds to id h = absurd (cc h)
ticks_copy Idle to id h = absurd (cc h)
ticks_copy (Expired place n) to id h = absurd (cc h)
ticks_copy (Gives p) to id h = absurd (cc h)

pub copied_by : (call : Call) (answer : Answer) (to : Endpoint) (id : ℕ) → copies_in call answer to id ≡ true
    → answer ≡ Copied to id
copied_by Ticks answer to id h = ticks_copy answer to id h
copied_by (Receive from bytes) answer to id h = absurd (cc h)
copied_by (Reply place n bytes) answer to id h = absurd (cc h)
copied_by (Confirm place content setup) answer to id h = absurd (cc h)
copied_by (Plain place content) answer to id h = absurd (cc h)
copied_by (Settle place n) answer to id h = absurd (cc h)
copied_by Take answer to id h = absurd (cc h)
copied_by (Room place) answer to id h = absurd (cc h)
copied_by AsksFree answer to id h = absurd (cc h)
copied_by Pass answer to id h = absurd (cc h)
