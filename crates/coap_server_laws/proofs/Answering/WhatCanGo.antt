-- Which of the requests that wait can be answered, and who of the observers can be notified.
use Rattle.std.proofs.Common.{◌≡◌, ◌⊎◌, inl, inr, ℕ, zero, suc, ◌-◌, max, nat_le, Bool, true, false, ◌&&◌, not}
use Rattle.std.proofs.Common.{Some, None, List, [], ◌∷◌, ◌++◌, map, refl, ap, sym, subst, ◌∙◌, cond, arith}
use Rattle.std.proofs.lemmas.Bool.{and_parts, leb-true, le-leb}
use Rattle.coap_types.specs.declared.endpoint.Endpoint.{Endpoint}
use Rattle.coap_layer.specs.Machine.State as S
use Rattle.coap_layer.specs.Machine.State.{is_busy}
use Rattle.coap_layer.specs.Rows.{Busy, MayGive, Withholds}
use Rattle.coap_layer.specs.Words.{outstanding}
use Rattle.coap_layer.specs.declared.setup.Setup.{Setup}
use Rattle.coap_block.specs.Whole.{Each}
use Rattle.coap_observe.specs.Observers.{Observer}
use Rattle.coap_resource.specs.Limits.{Limits}
use Rattle.coap_exchange.specs.declared.answerer.Asked.{Asked}
use Rattle.coap_exchange.specs.declared.separate.Deferred.{Deferred}
use Rattle.coap_exchange.specs.AnswererTrace as E
use Rattle.coap_exchange.specs.AnswererLaw as W
use Rattle.coap_exchange.specs.AnswererLaw.{ResponseLaw}
use Rattle.coap_exchange.specs.AnswererSteps as P
use Rattle.coap_exchange.specs.AnswererSteps.{is_ready, first_ready, is_waited_for}
use Rattle.coap_exchange.specs.AnswererFollows.{same_asked}
use Rattle.coap_exchange.proofs.Facts.ServerSide.{layer_stands, waits, same_asked_self}
use Rattle.coap_server.specs.Trace.{Waiting, Own, Call}
use Rattle.coap_server.specs.Deferring.{is_of, question_of}
use Rattle.coap_server.specs.Notifying.{marked, behind, readies}
use Rattle.coap_server.specs.Law.{ServerLaw, own_of, lower_of, layer_of}
use Rattle.coap_server.specs.Follows.Attended.{CanAnswer}
use Rattle.coap_server_laws.specs.Follows.Begins.{IsFirst, CanNotify}
use Rattle.coap_server.specs.Follows.Waits.{deferred_as}
use Rattle.coap_server_laws.proofs.Answering.FirstAnswered.{busy_ever, ever_busy, so_ready}
use Rattle.coap_server_laws.proofs.Answering.LayerIsLed.{layer_led}
use Rattle.coap_server_laws.proofs.Answering.RoomAsked.{Quiet, Says, never_both, quiet_room, room_says, then}
use Rattle.coap_server.proofs.Facts.Exact.Asked.{joined, back}
use Rattle.coap_server.proofs.Facts.Exact.Leads.{exchanges_kept}
use Rattle.coap_server.proofs.Facts.Serving.SameAsked.{same_asked_is}
use Rattle.coap_server.proofs.Facts.Serving.Waiting.{mirrors}

-- the first of a list

module _ {X : Type 0} (P : X → Type 0) where
  pub first_holds : (x : X) (xs : List X) → IsFirst P x xs → P x
  first_holds x [] h = absurd h
  first_holds x (y ∷ xs) (inl (e, p)) = subst P e p
  first_holds x (y ∷ xs) (inr (other, h)) = first_holds x xs h

  pub first_never : (x : X) (xs : List X) → IsFirst P x xs → Each (λ y. P y → ⊥) xs → ⊥
  first_never x [] h none = h
  first_never x (y ∷ xs) (inl (e, p)) none = none.0 p
  first_never x (y ∷ xs) (inr (other, h)) none = first_never x xs h none.1

  pub first_one : (x z : X) (xs : List X) → IsFirst P x xs → IsFirst P z xs → x ≡ z
  first_one x z [] h k = absurd h
  first_one x z (y ∷ xs) (inl (e, p)) (inl (f, q)) = sym e ∙ f
  first_one x z (y ∷ xs) (inl (e, p)) (inr (other, k)) = absurd (other p)
  first_one x z (y ∷ xs) (inr (other, h)) (inl (f, q)) = absurd (other q)
  first_one x z (y ∷ xs) (inr (other, h)) (inr (another, k)) = first_one x z xs h k

never_false : {b : Bool} → b ≡ false → b ≡ true → ⊥
never_false h k = let z : false ≡ true = sym h ∙ k in cc z

-- which observers were passed over, as they were asked about
module _ (setup : Setup) (calls : List E.Call) (at : ℕ) where
  abbrev said : Endpoint → Bool → Type 0
  said to b = Says setup (W.lower_of calls) at to b

  abbrev pub Walked : ℕ → List Observer → Type 0
  Walked n [] = Unit {0}
  Walked zero (o ∷ os) = said o.to true
  Walked (suc n) (o ∷ os) = said o.to false × Walked n os

  pub walk : (more : List E.Call) → Quiet setup (W.lower_of calls) at (W.lower_of more) → (n : ℕ) (os : List Observer)
      → ResponseLaw setup (readies at n os ++ more) → Walked n os
  walk more q n [] law = tt
  walk more q zero (o ∷ os) law = room_says setup (W.lower_of calls) at (W.lower_of more) q o.to true law.left law.layer
      (layer_stands setup (E.Ready at o.to true ∷ more) law)
  walk more q (suc n) (o ∷ os) law =
      let next : List E.Call = E.Ready at o.to false ∷ more in
      let all : ResponseLaw setup (readies at n os ++ next) =
      subst (ResponseLaw setup) (joined (readies at n os) (E.Ready at o.to false) more) law in
      let here = back setup (readies at n os) next all in (
        room_says setup (W.lower_of calls) at (W.lower_of more) q o.to false here.left here.layer
            (layer_stands setup next here),
        walk next (quiet_room setup (W.lower_of calls) at (W.lower_of more) q o.to false) n os all,
      )

module _ (limits : Limits) (szx : ℕ) (setup : Setup) (t : List Call) (now : ℕ) where
  abbrev own : Own
  own = own_of limits szx t

  abbrev at : ℕ
  at = max own.clock now

  abbrev calls : List E.Call
  calls = lower_of limits szx t

  abbrev Can : Waiting → Type 0
  Can x = CanAnswer limits szx setup t now x

  abbrev May : Type 0
  May = MayGive setup (layer_of limits szx setup t) (then setup (W.lower_of calls) at)

  abbrev Held : Type 0
  Held = Withholds setup (layer_of limits szx setup t) (then setup (W.lower_of calls) at)

  -- who is notified, and who is left

  pub gives : (n : ℕ) (os : List Observer) (o : Observer) → behind n os ≡ Some o → Walked setup calls at n os → May
  gives n [] o h w = absurd (cc h)
  gives zero (x ∷ os) o h w = w.1
  gives (suc n) (x ∷ os) o h w = gives n os o h w.1

  abbrev Notified : Observer → List Observer → Type 0
  Notified o os = IsFirst (CanNotify limits szx setup t) o os

  abbrev Found_from : Observer → List Observer → Type 0
  Found_from o os = (n : ℕ) → behind n (marked os) ≡ Some o → Walked setup calls at n (marked os) → Notified o os

  marked_first : May → (n : ℕ) (x : Observer) (os : List Observer) (o : Observer) → x.marked ≡ true → Found_from o os
      → behind n (x ∷ marked os) ≡ Some o → Walked setup calls at n (x ∷ marked os) → Notified o (x ∷ os)
  marked_first may zero x os o is f h w = let same : x ≡ o = cc h in inl (same, record { due = is; alone = w.0 })
  marked_first may (suc n) x os o is f h w = inr (
    (λ can. elim w.0 [
      | inl busy ↦ can.alone busy
      | inr held ↦ never_both setup (layer_of limits szx setup t) (then setup (W.lower_of calls) at) may held
    ]),
    f n h w.1,
  )

  pub first_notified : May → (n : ℕ) (os : List Observer) (o : Observer) → behind n (marked os) ≡ Some o
      → Walked setup calls at n (marked os) → Notified o os
  first_notified may n [] o h w = absurd (cc h)
  first_notified may n (x ∷ os) o h w = by x.marked refl h w (λ m. first_notified may m os o)
    where
      by : (b : Bool) → x.marked ≡ b → behind n (cond b (x ∷ marked os) (marked os)) ≡ Some o
          → Walked setup calls at n (cond b (x ∷ marked os) (marked os)) → Found_from o os → Notified o (x ∷ os)
      by false is k v f = inr ((λ can. never_false is can.due), f n k v)
      by true is k v f = marked_first may n x os o is f k v

  abbrev Nobody : List Observer → Type 0
  Nobody os = Held ⊎ Each (λ o. CanNotify limits szx setup t o → ⊥) os

  abbrev Nobody_from : List Observer → Type 0
  Nobody_from os = (n : ℕ) → behind n (marked os) ≡ None → Walked setup calls at n (marked os) → Nobody os

  marked_none : (n : ℕ) (x : Observer) (os : List Observer) → Nobody_from os → behind n (x ∷ marked os) ≡ None
      → Walked setup calls at n (x ∷ marked os) → Nobody (x ∷ os)
  marked_none zero x os f h w = absurd (cc h)
  marked_none (suc n) x os f h w = elim w.0 [
    | inl busy ↦ elim (f n h w.1) [ inl held ↦ inl held | inr rest ↦ inr ((λ can. can.alone busy), rest) ]
    | inr held ↦ inl held
  ]

  pub none_notified : (n : ℕ) (os : List Observer) → behind n (marked os) ≡ None
      → Walked setup calls at n (marked os) → Nobody os
  none_notified n [] h w = inr tt
  none_notified n (x ∷ os) h w = by x.marked refl h w (λ m. none_notified m os)
    where
      by : (b : Bool) → x.marked ≡ b → behind n (cond b (x ∷ marked os) (marked os)) ≡ None
          → Walked setup calls at n (cond b (x ∷ marked os) (marked os)) → Nobody_from os → Nobody (x ∷ os)
      by false is k v f = elim (f n k v) [
        | inl held ↦ inl held
        | inr rest ↦ inr ((λ can. never_false is can.due), rest)
      ]
      by true is k v f = marked_none n x os f k v

  -- what is answered, and what is left
  module _ (law : ServerLaw limits szx setup t) where
    opens : law.exchanges.left.open_cons ≡ outstanding (layer_of limits szx setup t)
    opens = ap (λ (z : S.State). z.open_cons) (layer_led setup calls law.exchanges).kept

    same_busy : (to : Endpoint) → is_waited_for to own.exchanges.separate
        ≡ is_busy to (outstanding (layer_of limits szx setup t))
    same_busy to = ap (λ (z : E.Own). is_waited_for to z.separate) (exchanges_kept limits szx t)
        ∙ (waits setup calls law.exchanges to ∙ ap (is_busy to) opens)

    waited : (to : Endpoint) → Busy (layer_of limits szx setup t) to → is_waited_for to own.exchanges.separate ≡ true
    waited to b = same_busy to ∙ ever_busy to (outstanding (layer_of limits szx setup t)) b

    unwaited : (to : Endpoint) → is_waited_for to own.exchanges.separate ≡ true → Busy (layer_of limits szx setup t) to
    unwaited to k = busy_ever to (outstanding (layer_of limits szx setup t)) (sym (same_busy to) ∙ k)

    abbrev ready : Waiting → Bool
    ready y = is_ready at own.exchanges.separate (deferred_as y)

    not_so : (y : Waiting) → ready y ≡ false → Can y → ⊥
    not_so y is can = never_false is (so_ready (deferred_as y) at own.exchanges.separate can.passed
        (λ k. can.alone (unwaited y.asked.from k)))

    flip : (b : Bool) → (b ≡ true → ⊥) → not b ≡ true
    flip true never = absurd (never refl)
    flip false never = refl

    not_waited : (b : Bool) → not b ≡ true → b ≡ true → ⊥
    not_waited true h k = cc h
    not_waited false h k = cc k

    so : (y : Waiting) → ready y ≡ true → Can y
    so y is =
        let parts = and_parts (nat_le y.delay (at - y.at)) (not (is_waited_for y.asked.from own.exchanges.separate)) is
        in record {
          passed = leb-true y.delay (at - y.at) parts.0;
          alone = λ b. not_waited (is_waited_for y.asked.from own.exchanges.separate) parts.1 (waited y.asked.from b);
        }

    pub ready_is : P.ready_at (W.own_of calls) at
        ≡ first_ready at own.exchanges.separate (map deferred_as own.waiting)
    ready_is =
        let m = mirrors limits szx setup t law in
        let kept : own.exchanges ≡ W.own_of calls = exchanges_kept limits szx t in
        let c = m.clock in
        let same : max own.exchanges.clock at ≡ at = omega (arith, c) in
        sym (ap (λ (z : E.Own). P.ready_at z at) kept)
        ∙ (ap (λ n. first_ready n own.exchanges.separate own.exchanges.deferred) same
        ∙ ap (λ ds. first_ready at own.exchanges.separate ds) (sym m.lists))

    pub record Found (ws : List Waiting) (d : Deferred) : Type 0 where
      pub request : Waiting
      pub is : deferred_as request ≡ d
      pub first : IsFirst Can request ws

    pub first_found : (ws : List Waiting) (d : Deferred)
        → first_ready at own.exchanges.separate (map deferred_as ws) ≡ Some d → Found ws d
    first_found [] d h = absurd (cc h)
    first_found (w ∷ ws) d h = by (ready w) refl h (first_found ws d)
      where
        by : (b : Bool) → ready w ≡ b
            → cond b (Some (deferred_as w)) (first_ready at own.exchanges.separate (map deferred_as ws)) ≡ Some d
            → (first_ready at own.exchanges.separate (map deferred_as ws) ≡ Some d → Found ws d) → Found (w ∷ ws) d
        by true is k f = record { request = w; is = cc k; first = inl (refl, so w is) }
        by false is k f = let g = f k in record {
          request = g.request;
          is = g.is;
          first = inr (not_so w is, g.first);
        }

    pub none_found : (ws : List Waiting) → first_ready at own.exchanges.separate (map deferred_as ws) ≡ None
        → Each (λ x. Can x → ⊥) ws
    none_found [] h = tt
    none_found (w ∷ ws) h = by (ready w) refl h (none_found ws)
      where
        by : (b : Bool) → ready w ≡ b
            → cond b (Some (deferred_as w)) (first_ready at own.exchanges.separate (map deferred_as ws)) ≡ None
            → (first_ready at own.exchanges.separate (map deferred_as ws) ≡ None → Each (λ x. Can x → ⊥) ws)
            → Each (λ x. Can x → ⊥) (w ∷ ws)
        by true is k f = absurd (cc k)
        by false is k f = (not_so w is, f k)

  -- what it asks is what is served
  pub asks_first : (a : Asked) (w : Waiting) (ws : List Waiting) → w.asked ≡ a → IsFirst Can w ws
      → question_of at a ws ≡ Some w.question
  asks_first a w [] same h = absurd h
  asks_first a w (x ∷ ws) same (inl (e, can)) =
      let one : x.asked ≡ a = ap (λ (y : Waiting). y.asked) e ∙ same in
      let here : is_of at a x ≡ true = and_so (same_asked a x.asked) (nat_le x.delay (at - x.at))
      (subst (λ y. same_asked a y ≡ true) (sym one) (same_asked_self a)) (le-leb x.delay (at - x.at) can.passed) in
      ap (λ b. cond b (Some x.question) (question_of at a ws)) here ∙ ap (λ (y : Waiting). Some y.question) e
    where
      and_so : (b c : Bool) → b ≡ true → c ≡ true → (b && c) ≡ true
      and_so b c h k = cc (h, k)
  asks_first a w (x ∷ ws) same (inr (other, h)) = by (is_of at a x) refl (asks_first a w ws same h)
    where
      by : (b : Bool) → is_of at a x ≡ b → question_of at a ws ≡ Some w.question
          → cond b (Some x.question) (question_of at a ws) ≡ Some w.question
      by false is k = k
      by true is k =
          let parts = and_parts (same_asked a x.asked) (nat_le x.delay (at - x.at)) is in
          let one : w.asked ≡ x.asked = same ∙ same_asked_is a x.asked parts.0 in
          let can = first_holds Can w ws h in
          absurd (other (record {
            passed = leb-true x.delay (at - x.at) parts.1;
            alone = λ b. can.alone (subst (λ (y : Asked). Busy (layer_of limits szx setup t) y.from) (sym one) b);
          }))
