-- What a client takes it acknowledges, or doesn't reply to.
use Rattle.std.proofs.Common.{◌≡◌, ◌≢◌, ◌⊎◌, inl, inr, ℕ, max, Bool, Option, Some, None, List, [], ◌∷◌, ◌++◌, refl, ap}
use Rattle.std.proofs.Common.{sym}
use Rattle.std.proofs.Common.{subst, ◌∙◌, Result}
use Rattle.std.specs.Prelude.{option_to_list}
use Rattle.coap_types.specs.Past.{Ever}
use Rattle.coap_types.proofs.Facts.Traces.{Ever_append, Always_back}
use Rattle.coap_types.specs.declared.endpoint.Endpoint.{Endpoint}
use Rattle.coap_types.specs.declared.message.Kind.{Kind}
use Rattle.coap_types.specs.declared.message.Kind.TheVariants.{Con, Non, Ack, Rst}
use Rattle.coap_codec.specs.Message.{Message}
use Rattle.coap_layer.specs.EmptyMessages.{ack_bytes}
use Rattle.coap_layer.specs.Machine.State as S
use Rattle.coap_layer.specs.Machine.Steps.{entries}
use Rattle.coap_layer.specs.Machine.Steps as G
use Rattle.coap_layer.specs.Trace as L
use Rattle.coap_layer.specs.declared.setup.Setup.{Setup}
use Rattle.coap_block.specs.Sizes.{Sizes}
use Rattle.coap_exchange.specs.declared.asker.AskRefusal.{AskRefusal}
use Rattle.coap_exchange.specs.declared.asker.Event.{Event}
use Rattle.coap_exchange.specs.declared.asker.Event.TheVariants as event_of
use Rattle.coap_exchange.specs.declared.matching.Opening.{Opening}
use Rattle.coap_exchange.specs.declared.matching.Opening.TheVariants.{Running, Spent, Sends}
use Rattle.coap_exchange.specs.declared.matching.Verdict.{Verdict}
use Rattle.coap_exchange.specs.declared.matching.Verdict.TheVariants.{AnswerCon, Answer, NoticeCon, Notice}
use Rattle.coap_exchange.specs.AskerArrivals.{told, verdict_on}
use Rattle.coap_exchange.specs.AskerEmpties.{AreReplied, RepliesBy, RepliesRightly, RepliesTo}
use Rattle.coap_exchange.specs.AskerFollows.{message_told}
use Rattle.coap_exchange.specs.AskerLaw as X
use Rattle.coap_exchange.specs.AskerRequests as Q
use Rattle.coap_exchange.specs.AskerSteps as P
use Rattle.coap_exchange.specs.AskerTrace as E
use Rattle.coap_exchange.specs.EmptyMessages.{reply_in, replies_in, acknowledging}
use Rattle.coap_exchange.proofs.Facts.Verdicts.{Fits, verdict_fits}
use Rattle.coap_exchange.specs.Adds.{asked_by_client}
use Rattle.coap_client.specs.Trace.{Call, Calls, Observes, Cancels, Forgets, Feeds, Ticks, NextOut, NextReport, Asked}
use Rattle.coap_client.specs.Own.{Own}
use Rattle.coap_client.specs.Requests.{message_of}
use Rattle.coap_client.specs.Effects.{Deed, Asks, Effect}
use Rattle.coap_client.specs.Events.{happened}
use Rattle.coap_client.specs.Deeds.{at, close, deeds}
use Rattle.coap_client.specs.Law.{ClientLaw, own_of, lower_of}
use Rattle.coap_client_laws.specs.Follows.Acked.{AreAcked}
use Rattle.coap_client_laws.specs.Follows.Adds.{call_asks, call_adds}
use Rattle.coap_client_laws.specs.Follows.Notified.{notes}
use Rattle.coap_client.specs.Sendings.{hears}
use Rattle.coap_client_laws.proofs.Sending.EndsInTime.{at_input}
use Rattle.coap_client.proofs.Facts.Turning.Leading.{client_back}

-- what is told was handed up
told_up : (s : E.Own) (from : Endpoint) (up : L.Answer) (m : Message) (v : Verdict) → Fits s from up v
    → message_told (told v up) ≡ Some m → up ≡ L.Becomes (L.Response m)
told_up s from up m AnswerCon f h =
    let e : Some f.message ≡ Some m = sym (ap (λ u. message_told (told AnswerCon u)) f.is) ∙ h in
    let same : f.message ≡ m = cc e in
    f.is ∙ ap (λ x. L.Becomes (L.Response x)) same
told_up s from up m Answer f h =
    let e : Some f.message ≡ Some m = sym (ap (λ u. message_told (told Answer u)) f.is) ∙ h in
    let same : f.message ≡ m = cc e in
    f.is ∙ ap (λ x. L.Becomes (L.Response x)) same
told_up s from up m NoticeCon f h =
    let e : Some f.message ≡ Some m = sym (ap (λ u. message_told (told NoticeCon u)) f.is) ∙ h in
    let same : f.message ≡ m = cc e in
    f.is ∙ ap (λ x. L.Becomes (L.Response x)) same
told_up s from up m Notice f h =
    let e : Some f.message ≡ Some m = sym (ap (λ u. message_told (told Notice u)) f.is) ∙ h in
    let same : f.message ≡ m = cc e in
    f.is ∙ ap (λ x. L.Becomes (L.Response x)) same
told_up s from up m _ f h = absurd (cc h)

module _ (to : Endpoint) (id : ℕ) (bytes : List ℕ) where
  -- a reply is asked for
  abbrev IsAsked : List G.Asked → Type 0
  IsAsked calls = Ever (λ (a : G.Asked). a.call ≡ L.Reply to id bytes) calls

  -- it is among the replies
  reply_there : (calls : List G.Asked) → IsAsked calls
      → Ever (λ (p : L.Packet). p.bytes ≡ bytes) (replies_in calls)
  reply_there [] h = absurd h
  reply_there (a ∷ calls) (inl h) =
      subst (λ (o : Option L.Packet). Ever (λ (p : L.Packet). p.bytes ≡ bytes) (option_to_list o ++ replies_in calls))
      (sym (ap reply_in h)) (inl refl)
  reply_there (a ∷ calls) (inr h) = by (reply_in a.call) (reply_there calls h)
    where
      by : (o : Option L.Packet) → Ever (λ (p : L.Packet). p.bytes ≡ bytes) (replies_in calls)
          → Ever (λ (p : L.Packet). p.bytes ≡ bytes) (option_to_list o ++ replies_in calls)
      by None ih = ih
      by (Some q) ih = inr ih

  -- an entry for each call
  entry_asked : (old : S.State) (calls : List G.Asked)
      → Ever (λ (e : L.Entry). e.call ≡ L.Reply to id bytes) (entries old calls) → IsAsked calls
  entry_asked old [] h = absurd h
  entry_asked old (a ∷ calls) (inl h) = inl h
  entry_asked old (a ∷ calls) (inr h) = inr (entry_asked old calls h)

  -- what is asked behind an arrival asks for none

  beneath_none : (now : ℕ) (o : Opening) (server : Endpoint) (content : L.Content) (word : ℕ) (below : L.Answer)
      → IsAsked (Q.asked now (Q.beneath o server content word) below ∷ []) → ⊥
  beneath_none now Running server content word below (inl h) = cc h
  beneath_none now Spent server content word below (inl h) = cc h
  beneath_none now Sends server content word below (inl h) = cc h
  beneath_none now Running server content word below (inr h) = h
  beneath_none now Spent server content word below (inr h) = h
  beneath_none now Sends server content word below (inr h) = h

  module _ (server : Endpoint) (setup : Setup) (past : List E.Call) where
    deed_none : (d : Deed) (o : Own) (now w : ℕ) (sent : L.Answer) (token : Result (List ℕ) AskRefusal) (was : Bool)
        (rest : List E.Call) → IsAsked (asked_by_client server setup past (deeds d o now w sent token was ++ rest))
        → IsAsked (asked_by_client server setup past rest)
    deed_none (Asks op) o now w sent token was rest h =
        let y : E.Own = X.own_of server setup (rest ++ past) in
        let r : E.Request = message_of o.observations op in
        elim (Ever_append (λ (a : G.Asked). a.call ≡ L.Reply to id bytes)
        (P.lower y (E.Ask now r w sent token)) (asked_by_client server setup past rest) h) [
          | inl here ↦ absurd (beneath_none now (Q.opening_of y r) y.server (Q.content_of (Q.request_token y r) r) w
              sent
              here)
          | inr there ↦ there
        ]
    deed_none _ o now w sent token was rest h = h

-- by the replies to what is told
acked_by : (s : E.Own) (from : Endpoint) (m : Message) (event : Option Event) (out : List L.Packet)
    → RepliesTo s from m event out → message_told event ≡ Some m → (bytes : List ℕ)
    → Ever (λ (p : L.Packet). p.bytes ≡ bytes) out → (m.kind ≡ Con) × (bytes ≡ ack_bytes m.id)
acked_by s from m event out replies is bytes there = by m.kind refl
  where
    silent : m.kind ≢ Con → (m.kind ≡ Con) × (bytes ≡ ack_bytes m.id)
    silent other = absurd (subst (λ l. Ever (λ (p : L.Packet). p.bytes ≡ bytes) l) (replies.told_other is other) there)

    con : m.kind ≡ Con → Ever (λ (p : L.Packet). p.bytes ≡ bytes) (acknowledging from m.id) → bytes ≡ ack_bytes m.id
    con kind (inl h) = sym h
    con kind (inr h) = absurd h

    by : (k : Kind) → m.kind ≡ k → (m.kind ≡ Con) × (bytes ≡ ack_bytes m.id)
    by Con e = (
      e,
      con e (subst (λ l. Ever (λ (p : L.Packet). p.bytes ≡ bytes) l) (replies.told_con is e) there),
    )
    by Non e = silent (λ k. (let z : Con ≡ Non = sym k ∙ e in cc z))
    by Ack e = silent (λ k. (let z : Con ≡ Ack = sym k ∙ e in cc z))
    by Rst e = silent (λ k. (let z : Con ≡ Rst = sym k ∙ e in cc z))

module _ (server : Endpoint) (sizes : Sizes) (setup : Setup) where
  module _ (t : List Call) (now : ℕ) (from : Endpoint) (bytes : List ℕ) (w : ℕ) (up : L.Answer) (settled : Bool)
      (event : Option Event) (sent : L.Answer) (token : Result (List ℕ) AskRefusal) (kept : Bool) where
    abbrev feed : Call
    feed = Feeds now from bytes w up settled event sent token kept

    abbrev moment : ℕ
    moment = max (own_of sizes t).clock now

    abbrev effect : Effect
    effect = happened (at now (own_of sizes t)) moment event

    abbrev closed_so : Effect
    closed_so = close moment effect token

    abbrev later : List E.Call
    later = deeds closed_so.deed closed_so.own moment w sent token kept

    abbrev first : List E.Call
    first = deeds effect.deed effect.own moment w sent token kept

    abbrev input : E.Call
    input = E.Receive moment from bytes up settled event

    abbrev s : E.Own
    s = X.own_of server setup (lower_of sizes t)

    fed : ClientLaw server sizes setup (feed ∷ t) → AreReplied server setup (lower_of sizes (feed ∷ t)) → (m : Message)
        → message_told event ≡ Some m → (to : Endpoint) (id : ℕ) (reply : List ℕ)
        → Ever (λ (e : L.Entry). e.call ≡ L.Reply to id reply) (call_adds server sizes setup t feed)
        → (m.kind ≡ Con) × (reply ≡ ack_bytes m.id)
    fed law replied m is to id reply there =
        let right : event ≡ told (verdict_on s from up) up =
        (at_input (λ past c. P.IsRight (X.own_of server setup past) c) later first input (lower_of sizes t)
        law.exchanges.rows).0 in
        let handed : up ≡ L.Becomes (L.Response m) = told_up s from up m (verdict_on s from up) (verdict_fits s from up)
        (ap message_told (sym right) ∙ is) in
        let out : List L.Packet = replies_in (P.lower s input) in
        let replies : RepliesBy s from up event out =
        (at_input (RepliesRightly server setup) later first input (lower_of sizes t) replied).0 in
        let asks = entry_asked to id reply _ (call_asks server sizes setup t feed) there in
        let behind = deed_none to id reply server setup (lower_of sizes t) effect.deed effect.own moment w sent token
        kept
        (input ∷ [])
        (deed_none to id reply server setup (lower_of sizes t) closed_so.deed closed_so.own moment w sent token kept
        (first ++ input ∷ []) asks) in
        elim (Ever_append (λ (a : G.Asked). a.call ≡ L.Reply to id reply) (P.lower s input) [] behind) [
          | inl here ↦ acked_by s from m event out (subst (λ u. RepliesBy s from u event out) handed replies) is reply
              (reply_there to id reply (P.lower s input) here)
          | inr none ↦ absurd none
        ]

  here : (t : List Call) (c : Call) → ClientLaw server sizes setup (c ∷ t)
      → AreReplied server setup (lower_of sizes (c ∷ t)) → (m : Message) → (hears c ≡ Some m) ⊎ (notes c ≡ Some m)
      → (to : Endpoint) (id : ℕ) (reply : List ℕ)
      → Ever (λ (e : L.Entry). e.call ≡ L.Reply to id reply) (call_adds server sizes setup t c)
      → (m.kind ≡ Con) × (reply ≡ ack_bytes m.id)
  here t (Feeds now from bytes w up settled (Some (event_of.Answer a)) sent token kept) law replied m (inl h) =
      fed t now from bytes w up settled (Some (event_of.Answer a)) sent token kept law replied m h
  here t (Feeds now from bytes w up settled (Some (event_of.Notice a)) sent token kept) law replied m (inr h) =
      fed t now from bytes w up settled (Some (event_of.Notice a)) sent token kept law replied m h
  here t (Feeds now from bytes w up settled (Some (event_of.Answer a)) sent token kept) law replied m (inr h) =
      absurd (cc h)
  here t (Feeds now from bytes w up settled (Some (event_of.Notice a)) sent token kept) law replied m (inl h) =
      absurd (cc h)
  here t (Feeds now from bytes w up settled (Some event_of.Reset) sent token kept) law replied m (inl h) = absurd (cc h)
  here t (Feeds now from bytes w up settled (Some event_of.Reset) sent token kept) law replied m (inr h) = absurd (cc h)
  here t (Feeds now from bytes w up settled (Some event_of.Timeout) sent token kept) law replied m (inl h) =
      absurd (cc h)
  here t (Feeds now from bytes w up settled (Some event_of.Timeout) sent token kept) law replied m (inr h) =
      absurd (cc h)
  here t (Feeds now from bytes w up settled (Some event_of.NoResponse) sent token kept) law replied m (inl h) =
      absurd (cc h)
  here t (Feeds now from bytes w up settled (Some event_of.NoResponse) sent token kept) law replied m (inr h) =
      absurd (cc h)
  here t (Feeds now from bytes w up settled None sent token kept) law replied m (inr h) = absurd (cc h)
  here t (Ticks now w below turn sent token kept answer) law replied m (inr h) = absurd (cc h)
  here t (Calls now r answer) law replied m (inr h) = absurd (cc h)
  here t (Observes now path answer) law replied m (inr h) = absurd (cc h)
  here t (Cancels now k answer) law replied m (inr h) = absurd (cc h)
  here t (Forgets k kept answer) law replied m (inr h) = absurd (cc h)
  here t (NextOut answer) law replied m (inr h) = absurd (cc h)
  here t (NextReport answer) law replied m (inr h) = absurd (cc h)
  here t (Asked answer) law replied m (inr h) = absurd (cc h)
  here t _ law replied m (inl h) = absurd (cc h)

  pub are_acked : (t : List Call) → ClientLaw server sizes setup t → AreReplied server setup (lower_of sizes t)
      → AreAcked server sizes setup t
  are_acked [] law replied = tt
  are_acked (c ∷ t) law replied = (
    here t c law replied,
    are_acked t (client_back server sizes setup (c ∷ []) t law)
        (Always_back (RepliesRightly server setup) _ (lower_of sizes t) replied),
  )
