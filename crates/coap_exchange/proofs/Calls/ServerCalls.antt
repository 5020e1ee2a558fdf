-- The calls of the server's side, as the code makes them of the layer's.
use Rattle.std.proofs.Common.{◌≡◌, ◌≢◌, ◌&&◌, not, ℕ, ◌≤◌, max, Bool, true, false, Option, Some, None, List, [], ◌∷◌}
use Rattle.std.proofs.Common.{refl, ap, sym, subst, ◌∙◌, is_some, length, cond, ◌⊎◌, inl, inr, map, arith}
use Rattle.coap_types.specs.declared.message.Kind.{Kind}
use Rattle.coap_types.specs.declared.message.Kind.TheVariants.{Con, Non, Ack, Rst}
use Rattle.coap_types.specs.declared.token.TheConstants.{MAX_TOKEN_LEN as max_token_len}
use Rattle.coap_codec.specs.Message.{Message}
use Rattle.coap_types.specs.declared.endpoint.Endpoint.{Endpoint}
use Rattle.coap_types.specs.declared.message.Id.{Id}
use Rattle.coap_layer.specs.Machine.State as L
use Rattle.coap_layer.specs.Machine.State.{moment}
use Rattle.coap_layer.specs.Machine.Steps.{Steps}
use Rattle.coap_layer.specs.Trace as T
use Rattle.coap_layer.specs.Machine.Ups.{answer_as}
use Rattle.coap_layer.specs.declared.up.Up.{Up}
use Rattle.coap_layer.specs.declared.up.Up.TheVariants as ups
use Rattle.coap_layer.specs.Words.{handed_by, is_kept}
use Rattle.coap_layer.specs.Machine.Shown.{Shown as Below, MayReply}
use Rattle.coap_layer.specs.Machine.State.{is_free, next_after, uses_after}
use Rattle.coap_layer.specs.Words.{issued_by}
use Rattle.coap_exchange.specs.Machine.AnswererShown.{Takes}
use Rattle.coap_exchange.specs.AnswererSteps.{asked_of}
use Rattle.coap_exchange.specs.declared.answerer.Asked.{Asked}
use Rattle.coap_exchange.specs.declared.answerer.Ended.{Ended}
use Rattle.coap_exchange.specs.declared.listed.Listed.{Listed}
use Rattle.coap_exchange.specs.declared.separate.Deferred.{Deferred}
use Rattle.coap_exchange.specs.declared.separate.Separate.{Separate}
use Rattle.coap_exchange.specs.AnswererLaw.{State, Step}
use Rattle.coap_exchange.specs.Machine.AnswererShown.{state_of, own_with, IsAnswer}
use Rattle.coap_exchange.specs.AnswererSteps.{asked_in, handed_up, reset_by, reject_by, answering, content_of, IsSentAs}
use Rattle.coap_exchange.specs.AnswererSteps.{separate_after, unmatched_by}
use Rattle.coap_exchange.specs.AnswererTrace.{Own, Response, Answers, Incoming, Sending}
use Rattle.coap_exchange.specs.AskerArrivals.{id_in, replying}
use Rattle.coap_exchange.specs.AskerRequests.{asked}
use Rattle.coap_exchange.specs.Machine.Listed.{listed}
use Rattle.coap_exchange.specs.Machine.Outstanding.{over}
use Rattle.coap_layer.proofs.Facts.StepsOfLayer.{steps_join}
use Rattle.coap_layer.specs.Machine.Calls.{message_in}
use Rattle.coap_layer.proofs.Facts.HandedUp.{spelled}
use Rattle.coap_layer.proofs.Facts.CallsOfLayer.{step_clock}
use Rattle.coap_exchange.proofs.Calls.Lists.{over_is}
use Rattle.coap_exchange.proofs.Calls.WhatArrived.{arrived}

-- what is rejected was handed up

rejected_if : (m : Message) (b : Bool) → is_kept m.kind ≡ b → is_some (reject_by (T.Becomes (T.Response m))) ≡ true
    → handed_by (T.Becomes (T.Response m)) ≡ Some m
rejected_if m true e h = rw e refl
rejected_if m false e h = let k : is_some (reject_by (T.Becomes (T.Response m)))
    ≡ false = rw e refl in absurd (cc (h, k))

pub rejected : (up : T.Answer) → is_some (reject_by up) ≡ true
    → (m : Message) × (handed_by up ≡ Some m) × (m.id ≡ id_in up)
rejected (T.Becomes (T.Response m)) h = (m, rejected_if m (is_kept m.kind) refl h, refl)
rejected _ h = absurd (cc h)

-- the token of what is handed up has at most 8 bytes

kept_in : (m n : Message) (b : Bool) → cond b (Some m) None ≡ Some n → Some m ≡ Some n
kept_in m n true h = h
kept_in m n false h = absurd (cc h)

in_message : (up : T.Answer) (m : Message) → handed_by up ≡ Some m → message_in up ≡ Some m
in_message (T.Becomes (T.Request n k)) m h = h
in_message (T.Becomes (T.Response n)) m h = kept_in n m (is_kept n.kind) h
in_message _ m h = absurd (cc h)

pub short_token : (old new : L.State) (now : ℕ) (from : Endpoint) (bytes : List ℕ) (up : T.Answer) (m : Message)
    → L.Step old now (T.Receive from bytes) up new → handed_by up ≡ Some m → length m.token ≤ max_token_len
short_token old new now from bytes up m step h = (spelled old new now from bytes up m step (in_message up m h)).token

-- what an acknowledgement and a Reset take off the list

pub off_is : (from : Endpoint) (id : Id) (up : Up) (xs new : List (Listed Separate))
    → (up ≡ ups.Acked id) ⊎ (up ≡ ups.Reset id) → new ≡ map (over from id.0) xs
    → listed new ≡ separate_after from (answer_as up) (listed xs)
off_is from id up xs new (inl e) is = ap listed is
    ∙ (over_is from id.0 xs ∙ ap (λ u. separate_after from (answer_as u) (listed xs)) (sym e))
off_is from id up xs new (inr e) is = ap listed is
    ∙ (over_is from id.0 xs ∙ ap (λ u. separate_after from (answer_as u) (listed xs)) (sym e))

-- a response

module _ (l h : L.State) (kind : Kind) (a : Asked) (r : Response) where
  abbrev pub Sends : Type 0
  Sends = (sent : T.Answer) × IsSentAs kind sent × ((s : Own) → L.Step l l.clock (answering s kind a r) sent h)

pub sent_con : (l h : L.State) (kind : Kind) (a : Asked) (r : Response) → kind ≡ Con
    → ((s : Own) → L.Step l l.clock (answering s Con a r) T.Nothing h) → Sends l h kind a r
sent_con l h kind a r e f = subst (λ k. Sends l h k a r) (sym e) (T.Nothing, refl, f)

pub sent_plain : (l h : L.State) (kind : Kind) (a : Asked) (r : Response) → (kind ≡ Con → ⊥)
    → (id : ℕ) × L.Step l l.clock (T.Plain a.from (content_of a r)) (T.Sent id) h → Sends l h kind a r
sent_plain l h Con a r n f = absurd (n refl)
sent_plain l h _ a r n f = (T.Sent f.0, (f.0, refl), λ s. f.1)

max_self : (n : ℕ) → max n n ≡ n
max_self n = omega (arith)

answering_clock : (l : L.State) (s : Own) (kind : Kind) (a : Asked) (r : Response)
    → moment l l.clock (answering s kind a r) ≡ l.clock
answering_clock l s Con a r = refl
answering_clock l s _ a r = max_self l.clock

pub answered : (l h : L.State) (pending : Option Asked) (deferred : List Deferred) (separate : List Separate)
    (ended : Option Ended) (unmatched : Option Sending) (old : State) (a : Asked) (r : Response) (sent : T.Answer)
    → state_of l pending deferred separate ended unmatched ≡ old → old.own.pending ≡ Some a → IsAnswer a r
    → IsSentAs a.kind sent
    → ((s : Own) → L.Step l l.clock (answering s a.kind a r) sent h)
    → Step old (Answers a r sent) (state_of h None deferred separate ended unmatched)
answered l h pending deferred separate ended unmatched old a r sent is pending_is answer told steps =
    let s = own_with l.clock pending deferred separate ended unmatched in
    let clock : h.clock ≡ l.clock = step_clock l h l.clock (answering s a.kind a r) sent (steps s)
    ∙ answering_clock l s a.kind a r in
    subst (λ o. Step o (Answers a r sent) (state_of h None deferred separate ended unmatched)) is (record {
      right = (
        ap (λ (o : State). o.own.pending) is ∙ pending_is,
        record { code = answer.code; spelled = answer.sendable.spelled },
        told,
      );
      own_is = ap (λ c. own_with c None deferred separate ended unmatched) clock;
      under = (l, refl, steps s);
    })

pub not_con : (kind : Kind) → (kind ≡ Non) ⊎ ((kind ≡ Ack) ⊎ (kind ≡ Rst)) → kind ≡ Con → ⊥
not_con kind (inl e) f = cc (e, f)
not_con kind (inr (inl e)) f = cc (e, f)
not_con kind (inr (inr e)) f = cc (e, f)

-- an arrival

replied_clock : (from : Endpoint) (id : ℕ) (o : Option (List ℕ)) (mid h : L.State) → Steps mid (replying from id o) h
    → h.clock ≡ mid.clock
replied_clock from id None mid h k = ap (λ (s : L.State). s.clock) k
replied_clock from id (Some bytes) mid h k = step_clock k.0 h 0 (T.Reply from id bytes) T.Nothing k.2
    ∙ ap (λ (s : L.State). s.clock) k.1

own_same : (a b : ℕ) (p q : Option Asked) (ds : List Deferred) (xs ys : List Separate) (x y : Option Ended)
    (u v : Option Sending) → a ≡ b → p ≡ q → xs ≡ ys → x ≡ y → u ≡ v
    → own_with a p ds xs x u ≡ own_with b q ds ys y v
own_same a b p q ds xs ys x y u v e f g h k = cc (e, f, g, h, k)

pub received : (l mid h : L.State) (pending asked_now : Option Asked) (deferred : List Deferred)
    (separate xs : List Separate) (ended end : Option Ended) (unmatched found : Option Sending) (old : State) (now : ℕ)
    (from : Endpoint) (bytes : List ℕ) (up : T.Answer) (answer : Option (Asked × Message))
    → state_of l pending deferred separate ended unmatched ≡ old → L.Step l now (T.Receive from bytes) up mid
    → Steps mid (replying from (id_in up) (reject_by up)) h → answer ≡ handed_up from up
    → asked_now ≡ asked_in (handed_up from up)
    → xs ≡ separate_after from up separate → end ≡ reset_by from up separate → found ≡ unmatched_by from up
    → Step old (Incoming now from bytes up answer) (state_of h asked_now deferred xs end found)
received l mid h pending asked_now deferred separate xs ended end unmatched found old now from bytes up answer is step
    replies answer_is asked_is xs_is end_is found_is =
    let clock : h.clock ≡ max l.clock now = replied_clock from (id_in up) (reject_by up) mid h replies
    ∙ step_clock l mid now (T.Receive from bytes) up step in
    subst (λ o. Step o (Incoming now from bytes up answer) (state_of h asked_now deferred xs end found)) is (record {
      right = answer_is;
      own_is = own_same h.clock (max l.clock now) asked_now (asked_in answer) deferred xs
          (separate_after from up separate) end (reset_by from up separate) found (unmatched_by from up) clock
          (asked_is ∙ ap asked_in (sym answer_is)) xs_is end_is found_is;
      under = steps_join l mid h (replying from (id_in up) (reject_by up)) (asked now (T.Receive from bytes) up ∷ [])
          (l, refl, step) replies;
    })

-- what is handed up may be answered

free_for : (l mid : L.State) (now : ℕ) (from : Endpoint) (bytes : List ℕ) (m : Message)
    → L.Step l now (T.Receive from bytes) (T.Becomes (T.Request m true)) mid → m.kind ≢ Con
    → is_free (max l.clock now) l.upcoming l.last_used ≡ true
free_for l mid now from bytes m step other =
    elim (arrived l mid now from bytes (T.Request m true) step).1 [
      | inl con ↦ absurd (other con.0)
      | inr non ↦ sym non.1
    ]

still_free : (l mid : L.State) (now : ℕ) (from : Endpoint) (bytes : List ℕ) (m : Message)
    → L.Step l now (T.Receive from bytes) (T.Becomes (T.Request m true)) mid → m.kind ≢ Con
    → is_free mid.clock mid.upcoming mid.last_used ≡ true
still_free l mid now from bytes m step other =
    let at : ℕ = max l.clock now in
    let free : is_free at l.upcoming l.last_used ≡ true = free_for l mid now from bytes m step other in
    let clock : mid.clock ≡ at = step_clock l mid now (T.Receive from bytes) (T.Becomes (T.Request m true)) step in
    let upcoming : mid.upcoming ≡ l.upcoming = ap (λ (s : L.State). s.upcoming) step.new_is
    ∙ ap (λ a. next_after (issued_by at a) l.upcoming) (sym step.right) in
    let uses : mid.last_used ≡ l.last_used = ap (λ (s : L.State). s.last_used) step.new_is
    ∙ ap (λ a. uses_after (issued_by at a) l.last_used) (sym step.right) in
    cc (clock, upcoming, uses, free)

pub may_take : (l mid h : Below) (now : ℕ) (from : Endpoint) (bytes : List ℕ) (up : T.Answer) (a : Asked)
    → L.Step l.state now (T.Receive from bytes) up mid.state
    → ((m : Message) → handed_by up ≡ Some m → MayReply mid from m.id)
    → (reject_by up ≡ None → h ≡ mid) → asked_in (handed_up from up) ≡ Some a → Takes h a
may_take l mid h now from bytes (T.Becomes (T.Request m true)) a step may kept is =
    let same : asked_of from m ≡ a = cc is in
    subst (λ x. Takes h x) same (subst (λ x. Takes x (asked_of from m)) (sym (kept refl))
    (record { reply = may m refl; free = λ other. still_free l.state mid.state now from bytes m step other }))
may_take l mid h now from bytes up a step may kept is = absurd (cc is)

none_of : (o : Option (List ℕ)) → not (is_some o) ≡ true → o ≡ None
none_of None h = refl
none_of (Some b) h = absurd (cc h)

-- there is room for a message where no response was rejected
pub has_room : (mid h : Below) (up : T.Answer) (b : Bool) → b ≡ is_some (reject_by up) → (reject_by up ≡ None → h ≡ mid)
    → mid.has_room ≡ true → not b ≡ true → h.has_room ≡ true
has_room mid h up b is kept room none_is = let none =
    none_of (reject_by up) (ap not (sym is) ∙ none_is) in ap (λ (s : Below). s.has_room) (kept none) ∙ room

pub keeps : (room b : Bool) → room ≡ true → b ≡ false → (room && not b) ≡ true
keeps true false h k = refl
keeps false b h k = absurd (cc h)
keeps true true h k = absurd (cc k)
