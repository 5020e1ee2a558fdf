-- A response to a CON goes out in its acknowledgement where the request is answered at once, and in a CON where it
-- waited.
use Rattle.std.proofs.Common.{◌≡◌, inl, inr, ℕ, zero, suc, Bool, true, false, Option, Some, None, List, [], ◌∷◌}
use Rattle.std.proofs.Common.{refl, ap, sym, subst, ◌∙◌, cond}
use Rattle.coap_types.specs.Past.{Ever}
use Rattle.coap_types.specs.declared.endpoint.Endpoint.{Endpoint}
use Rattle.coap_types.specs.declared.message.Kind.TheVariants.{Con}
use Rattle.coap_types.proofs.Facts.Traces.{Ever_map}
use Rattle.coap_codec.specs.Message.{Message}
use Rattle.coap_codec.specs.Spelling.{message_bytes}
use Rattle.coap_layer.specs.Machine.State as S
use Rattle.coap_layer.specs.Machine.Steps as G
use Rattle.coap_layer.specs.Machine.Steps.{entries, left_after}
use Rattle.coap_layer.specs.Trace as L
use Rattle.coap_layer.specs.Trace.{with_head}
use Rattle.coap_layer.specs.declared.setup.Setup.{Setup}
use Rattle.coap_block.specs.Whole.{Each}
use Rattle.coap_observe.specs.Observers.{Observer}
use Rattle.coap_resource.specs.Limits.{Limits}
use Rattle.coap_exchange.specs.declared.answerer.Asked.{Asked}
use Rattle.coap_exchange.specs.declared.answerer.Due.{Due}
use Rattle.coap_exchange.specs.declared.answerer.Due.TheVariants as due
use Rattle.coap_exchange.specs.AnswererSteps as P
use Rattle.coap_exchange.specs.AnswererSteps.{may_defer}
use Rattle.coap_exchange.specs.AnswererTrace as E
use Rattle.coap_server.specs.Trace.{Own, Handling, Replies, Serves, Waits, Notifies, Call}
use Rattle.coap_server.specs.Trace.{Feeds, Refuses, Ticks}
use Rattle.coap_server.specs.Asks.{answering, responding, lower}
use Rattle.coap_server.specs.Deferring.{deferral_by, delay_for}
use Rattle.coap_server.specs.Handling.{incoming, ticking, heard}
use Rattle.coap_server.specs.Law.{ServerLaw, own_of}
use Rattle.coap_server.specs.Notifying.{marked, readies}
use Rattle.coap_server_laws.specs.Follows.Adds.{call_adds, call_asks, all_asked}
use Rattle.coap_server_laws.specs.Follows.GoesOut.{responds_with}
use Rattle.coap_server.specs.Follows.Rests.{IsTick}
use Rattle.coap_server_laws.specs.Follows.SentAs.{ack_with, InAck, InOwnCon, SentHere, AllSentSo}
use Rattle.coap_server.specs.Follows.Serves.{hands}
use Rattle.coap_server.proofs.Facts.Serving.Brought.{server_back}
use Rattle.coap_server_laws.proofs.Telling.ResponsesGoOut.{given_in}
use Rattle.coap_server_laws.proofs.Telling.ResponsesMade.{pair_of}
use Rattle.coap_server.specs.Plain.{by_plain}
use Rattle.coap_server.proofs.Facts.Calls.EachOf.{each_join}
use Rattle.coap_server.proofs.Facts.Calls.NotifiesBy.{in_either}
use Rattle.coap_server.specs.Notifying.{notification}

-- what entries send

reply_out : (to : Endpoint) (id : ℕ) (bytes : List ℕ) (old : S.State) (calls : List G.Asked)
    → Ever (λ (e : L.Entry). e.call ≡ L.Reply to id bytes) (entries old calls)
    → Ever (λ (e : L.Entry). (e.call ≡ L.Reply to id bytes) × (e.out ≡ record { to = to; bytes = bytes } ∷ []))
    (entries old calls)
reply_out to id bytes old [] h = h
reply_out to id bytes old (a ∷ earlier) (inr h) = inr (reply_out to id bytes old earlier h)
reply_out to id bytes old (a ∷ earlier) (inl h) =
    inl (h, ap (λ c. (S.made (left_after old earlier) a.now c).out) h)

abbrev IsBegun : Endpoint → L.Content → L.Entry → Type 0
IsBegun to content e = (w : ℕ) × (id : ℕ) × (e.call ≡ L.Confirm to content w) × (e.answer ≡ L.Sent id)

begun_out : (to : Endpoint) (content : L.Content) (busy free : Bool) (upcoming id : ℕ)
    → cond busy L.Busied (S.sending free upcoming) ≡ L.Sent id
    → cond busy [] (S.sent_out free Con upcoming to content)
    ≡ record { to = to; bytes = message_bytes (with_head Con id content) } ∷ []
begun_out to content true free upcoming id h = absurd (cc h)
begun_out to content false false upcoming id h = absurd (cc h)
begun_out to content false true upcoming id h =
    let same : upcoming ≡ id = cc h in
    ap (λ n. S.sent_out true Con n to content) same

confirm_out : (to : Endpoint) (content : L.Content) (old : S.State) (calls : List G.Asked)
    → Ever (IsBegun to content) (entries old calls)
    → Ever (λ (e : L.Entry). (k : IsBegun to content e)
    × (e.out ≡ record { to = to; bytes = message_bytes (with_head Con k.1 content) } ∷ []))
    (entries old calls)
confirm_out to content old [] h = absurd h
confirm_out to content old (a ∷ earlier) (inr h) = inr (confirm_out to content old earlier h)
confirm_out to content old (a ∷ earlier) (inl h) =
    let s : S.State = left_after old earlier in
    let at : ℕ = S.moment s a.now a.call in
    let answer : S.answer_of s at (L.Confirm to content h.0) ≡ L.Sent h.1 =
    sym (ap (λ c. S.answer_of s at c) h.2) ∙ h.3 in
    inl (
      h,
      ap (λ c. S.out_of s at c) h.2
          ∙ begun_out to content (S.is_busy to s.open_cons) (S.is_free at s.upcoming s.last_used) s.upcoming h.1 answer,
    )

-- which calls respond at once, and which later

abbrev responds_later : E.Call → Bool
responds_later (E.Responds now a r word id) = true
responds_later _ = false

abbrev responds_now : E.Call → Bool
responds_now (E.Answers a r below) = true
responds_now _ = false

both : (P N : E.Call → Type 0) (cs : List E.Call) → Ever P cs → Each N cs → Ever (λ d. P d × N d) cs
both P N [] h n = h
both P N (d ∷ cs) (inl h) n = inl (h, n.0)
both P N (d ∷ cs) (inr h) n = inr (both P N cs h n.1)

abbrev Now : E.Call → Type 0
Now d = responds_later d ≡ false

abbrev Later : E.Call → Type 0
Later d = responds_now d ≡ false

deferral_now : (o : Option ℕ) (place : Bool) (at : ℕ) (a : Asked) → Each Now (deferral_by o place at a)
deferral_now None place at a = tt
deferral_now (Some delay) place at a = (refl, tt)

all_now : (s : Own) (came : Option (Asked × Message)) (h : Handling) (below : L.Answer)
    → Each Now (answering s came h below)
all_now s (Some p) (Replies r) below = (refl, tt)
all_now s (Some p) (Serves q reply left) below =
    (refl, deferral_now (delay_for p.0.kind q.path s.delays) (may_defer s.exchanges.deferred) s.clock p.0)
all_now s (Some p) (Waits q delay) below =
    deferral_now (delay_for p.0.kind q.path s.delays) (may_defer s.exchanges.deferred) s.clock p.0
all_now s _ _ below = tt

readies_later : (at n : ℕ) (os : List Observer) → Each Later (readies at n os)
readies_later at n [] = tt
readies_later at zero (o ∷ os) = (refl, tt)
readies_later at (suc n) (o ∷ os) = each_join Later (readies at n os) (E.Ready at o.to false ∷ [])
    (readies_later at n os) (refl, tt)

all_later : (s : Own) (d : Due) (passed : ℕ) (h : Handling) (w id : ℕ) → Each Later (responding s d passed h w id)
all_later s (due.Ready a) passed (Serves q reply left) w id = (refl, tt)
all_later s due.Idle passed (Notifies o reply) w id = (
  in_either Later (by_plain s o) s.clock o (notification s.store o reply) w id refl refl,
  readies_later s.clock passed (marked s.observers),
)
all_later s due.Idle passed _ w id = readies_later s.clock passed (marked s.observers)
all_later s _ passed _ w id = tt

-- what they ask of the layer
module _ (a : Asked) (r : E.Response) where
  abbrev RespondsNow : E.Call → Type 0
  RespondsNow d = (responds_with d ≡ Some (a, r)) × Now d

  abbrev RespondsLater : E.Call → Type 0
  RespondsLater d = (responds_with d ≡ Some (a, r)) × Later d

  abbrev Acks : L.Call → L.Answer → Type 0
  Acks call answer = call ≡ L.Reply a.from a.id.0 (ack_with a r)

  abbrev Begins : L.Call → L.Answer → Type 0
  Begins call answer = (w : ℕ) × (id : ℕ) × (call ≡ L.Confirm a.from (P.content_of a r) w) × (answer ≡ L.Sent id)

  asks_now : a.kind ≡ Con → (s : E.Own) (d : E.Call) → P.IsRight s d → RespondsNow d
      → Ever (λ (b : G.Asked). Acks b.call b.answer) (P.lower s d)
  asks_now con s (E.Answers x y below) right h =
      let k = pair_of x a y r h.0 in
      inl (ap (λ (z : Asked). P.answering s z.kind z y) k.0 ∙ (ap (λ z. P.answering s a.kind a z) k.1
      ∙ ap (λ z. P.answering s z a r) con))
  asks_now con s (E.Responds now x y w id) right h = let k = h.1 in absurd (cc k)
  asks_now con s _ right h = let k = h.0 in absurd (cc k)

  asks_later : (s : E.Own) (d : E.Call) → P.IsRight s d → RespondsLater d
      → Ever (λ (b : G.Asked). Begins b.call b.answer) (P.lower s d)
  asks_later s (E.Responds now x y w id) right h =
      let k = pair_of x a y r h.0 in
      inl (
        w,
        id,
        ap (λ (z : Asked). L.Confirm z.from (P.content_of z y) w) k.0
            ∙ ap (λ z. L.Confirm a.from (P.content_of a z) w) k.1,
        refl,
      )
  asks_later s (E.Answers x y below) right h = let k = h.1 in absurd (cc k)
  asks_later s _ right h = let k = h.0 in absurd (cc k)

module _ (limits : Limits) (szx : ℕ) (setup : Setup) (t : List Call) where
  abbrev own : Own
  own = own_of limits szx t

  abbrev begin : S.State
  begin = left_after (S.start setup) (all_asked limits szx t)

  fed : (now : ℕ) (from : Endpoint) (bytes : List ℕ) (w : ℕ) (up : L.Answer) (came : Option (Asked × Message))
      (h : Handling) (below : L.Answer) → Each Now (lower own (Feeds now from bytes w up came h below))
  fed now from bytes w up came h below =
      each_join Now (answering (heard own now (incoming own now from bytes up came)) came h below)
      (incoming own now from bytes up came ∷ [])
      (all_now (heard own now (incoming own now from bytes up came)) came h below) (refl, tt)

  ticked : (now w : ℕ) (below : L.Answer) (room : Bool) (d : Due) (passed : ℕ) (h : Handling) (id : ℕ) (answer : Bool)
      → Each Later (lower own (Ticks now w below room d passed h id answer))
  ticked now w below room d passed h id answer =
      each_join Later (responding (heard own now (ticking own now below room d)) d passed h w id)
      (ticking own now below room d ∷ [])
      (all_later (heard own now (ticking own now below room d)) d passed h w id) (refl, tt)

  handed_now : (c : Call) (a : Asked) → hands c ≡ Some a → Each Now (lower own c)
  handed_now (Feeds now from bytes w up came h below) a is = fed now from bytes w up came h below
  handed_now (Refuses now from bytes w code up p None below) a is = (refl, tt)
  handed_now (Refuses now from bytes w code up p (Some n) below) a is = (refl, (refl, tt))
  handed_now _ a is = absurd (cc is)

  tick_later : (c : Call) (now : ℕ) (answer : Bool) → IsTick now answer c → Each Later (lower own c)
  tick_later c now answer k = subst (λ d. Each Later (lower own d)) (sym k.7)
      (ticked now k.0 k.1 k.2 k.3 k.4 k.5 k.6 answer)

  here : (c : Call) → ServerLaw limits szx setup (c ∷ t) → SentHere limits szx setup t c
  here c law = record {
    at_once = λ a r is con h.
        Ever_map (λ (e : L.Entry). (e.call ≡ L.Reply a.from a.id.0 (ack_with a r))
        × (e.out ≡ record { to = a.from; bytes = ack_with a r } ∷ [])) (InAck a r)
        (λ e k. record { call = k.0; out = k.1 }) (call_adds limits szx setup t c)
        (reply_out a.from a.id.0 (ack_with a r) begin (call_asks limits szx t c)
        (given_in (Acks a r) (RespondsNow a r) (asks_now a r con) limits szx setup t c law
        (both (λ d. responds_with d ≡ Some (a, r)) Now (lower own c) h (handed_now c a is))));
    later = λ now answer a r is h.
        Ever_map (λ (e : L.Entry). (k : IsBegun a.from (P.content_of a r) e)
        × (e.out ≡ record { to = a.from; bytes = message_bytes (with_head Con k.1 (P.content_of a r)) } ∷ []))
        (InOwnCon a r)
        (λ e k. record { word = k.0.0; id = k.0.1; call = k.0.2; answer = k.0.3; out = k.1 })
        (call_adds limits szx setup t c)
        (confirm_out a.from (P.content_of a r) begin (call_asks limits szx t c)
        (given_in (Begins a r) (RespondsLater a r) (asks_later a r) limits szx setup t c law
        (both (λ d. responds_with d ≡ Some (a, r)) Later (lower own c) h (tick_later c now answer is))));
  }

pub all_sent_so : (limits : Limits) (szx : ℕ) (setup : Setup) (t : List Call) → ServerLaw limits szx setup t
    → AllSentSo limits szx setup t
all_sent_so limits szx setup [] law = tt
all_sent_so limits szx setup (c ∷ t) law = (
  here limits szx setup t c law,
  all_sent_so limits szx setup t (server_back limits szx setup c t law),
)
