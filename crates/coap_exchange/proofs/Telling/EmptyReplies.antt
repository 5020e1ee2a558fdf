-- Which Empty message answers what arrives at a client: by the table of verdicts.
use Rattle.std.proofs.Common.{◌≡◌, ◌≢◌, inl, inr, ℕ, Bool, true, false, Option, Some, None, List, [], ◌∷◌, ◌++◌, refl}
use Rattle.std.proofs.Common.{ap, subst, sym, ◌∙◌, cond, ◌&&◌, ◌||◌}
use Rattle.coap_types.specs.declared.endpoint.Endpoint.{Endpoint}
use Rattle.coap_types.specs.declared.message.Kind.{Kind}
use Rattle.coap_types.specs.declared.message.Kind.TheVariants.{Con, Non, Ack}
use Rattle.coap_codec.specs.Message.{Message}
use Rattle.coap_layer.specs.Trace as T
use Rattle.coap_layer.specs.Words.{is_kept}
use Rattle.coap_exchange.specs.declared.asker.Event.{Event}
use Rattle.coap_exchange.specs.declared.asker.Exchange.{Exchange}
use Rattle.coap_exchange.specs.declared.matching.Known.{Known}
use Rattle.coap_exchange.specs.declared.matching.Verdict.{Verdict}
use Rattle.coap_exchange.specs.declared.matching.Verdict.TheVariants.{Ignore, Reject, Acknowledge, AnswerCon, Answer}
use Rattle.coap_exchange.specs.declared.matching.Verdict.TheVariants.{NoticeCon, Notice, Await, EndByReset}
use Rattle.coap_exchange.specs.AskerTrace.{Own, Call, Ask, Receive}
use Rattle.coap_exchange.specs.AskerRequests.{asked, opening_of, request_token, content_of, beneath}
use Rattle.coap_exchange.specs.declared.matching.Opening.{Opening}
use Rattle.coap_exchange.specs.declared.matching.Opening.TheVariants.{Running, Spent, Sends}
use Rattle.coap_exchange.specs.AskerArrivals.{told, verdict_on, known_of, is_of_request, id_in, reply_by, settles}
use Rattle.coap_exchange.specs.AskerArrivals.{replying, settling}
use Rattle.coap_exchange.specs.AskerSteps.{IsRight}
use Rattle.coap_exchange.specs.AskerLaw.{own_of, AskerLaw}
use Rattle.coap_exchange.specs.AskerFollows.{message_told}
use Rattle.coap_exchange.specs.AskerEmpties.{RepliesTo, RepliesBy, RepliesRightly, AreReplied}
use Rattle.coap_exchange.specs.EmptyMessages.{ack_bytes, reset_bytes, replies_in}
use Rattle.coap_exchange.specs.Matching.{judged, request_judged}
use Rattle.coap_exchange.proofs.Facts.Verdicts.{Judged, judged_by}
use Rattle.coap_layer.specs.declared.setup.Setup.{Setup}

-- what a verdict replies

abbrev packets : Endpoint → Option (List ℕ) → List T.Packet
packets from None = []
packets from (Some bytes) = record { to = from; bytes = bytes } ∷ []

replies_by : (from server : Endpoint) (bytes : List ℕ) (now id : ℕ) (up : T.Answer) (settled v : Bool)
    (running : Option Exchange) (o : Option (List ℕ))
    → replies_in ((settling v server running settled ++ replying from id o) ++ asked now (T.Receive from bytes) up ∷ [])
    ≡ packets from o
replies_by from server bytes now id up settled true (Some x) None = refl
replies_by from server bytes now id up settled true (Some x) (Some b) = refl
replies_by from server bytes now id up settled true None None = refl
replies_by from server bytes now id up settled true None (Some b) = refl
replies_by from server bytes now id up settled false running None = refl
replies_by from server bytes now id up settled false running (Some b) = refl

-- the table, row by row

abbrev known : (f o i p b c : Bool) → Known
known f o i p b c = record { from_server = f; of_exchange = o; same_id = i; kept = p; bad_option = b; cancelled = c }

module _ (id : ℕ) where
  abbrev out : Kind → Known → Option (List ℕ)
  out kind k = reply_by (judged kind k) id

  strange : (f o i p b c : Bool) → (f && (o || p)) ≡ false
      → (out Con (known f o i p b c) ≡ Some (reset_bytes id)) × (out Non (known f o i p b c) ≡ Some (reset_bytes id))
  strange false o i p b c h = (refl, refl)
  strange true false i false b c h = (refl, refl)
  strange true o i p b c h = absurd (cc h)

  critical : (f o i p b c : Bool) → (f && (o || p)) ≡ true → b ≡ true
      → (out Con (known f o i p b c) ≡ Some (reset_bytes id)) × (out Non (known f o i p b c) ≡ None)
  critical true false i true true c h k = (refl, refl)
  critical true true i p true c h k = (refl, refl)
  critical f o i p b c h k = absurd (cc (h, k))

  late : (f o i p b c : Bool) → (f && (o || p)) ≡ true → b ≡ false → c ≡ true
      → (out Con (known f o i p b c) ≡ Some (ack_bytes id)) × (out Non (known f o i p b c) ≡ None)
  late true false i true false true h k l = (refl, refl)
  late true true i p false true h k l = (refl, refl)
  late f o i p b c h k l = absurd (cc (h, k, l))

  module _ (kind : Kind) (k : Known) where
    -- what is told is acknowledged where it is a CON
    told_by : (v : Verdict) → Judged kind k v → (m : Message) → message_told (told v (T.Becomes (T.Response m)))
        ≡ Some m
        → (kind ≡ Con → reply_by v id ≡ Some (ack_bytes id)) × (kind ≢ Con → reply_by v id ≡ None)
    told_by AnswerCon r m h = (λ con. refl, λ other. absurd (other r.0))
    told_by NoticeCon r m h = (λ con. refl, λ other. absurd (other r.0))
    told_by Answer r m h = (λ con. absurd (r.0 con), λ other. refl)
    told_by Notice r m h = (λ con. absurd (cc (con, r.0)), λ other. refl)
    told_by _ r m h = absurd (cc h)

    -- an ACK is not replied to
    ack_none : (v : Verdict) → Judged kind k v → kind ≡ Ack → reply_by v id ≡ None
    ack_none AnswerCon r ack = absurd (cc (ack, r.0))
    ack_none NoticeCon r ack = absurd (cc (ack, r.0))
    ack_none Acknowledge r ack = absurd (cc (ack, r))
    ack_none Reject r ack = let no : is_kept kind ≡ false = ap is_kept ack in absurd (cc (r, no))
    ack_none _ r ack = refl

-- a response

module _ (s : Own) (from : Endpoint) (m : Message) where
  abbrev k : Known
  k = known_of s from m

  abbrev replied : List T.Packet
  replied = packets from (reply_by (judged m.kind k) m.id)

  as_kind : (kind : Kind) (o : Option (List ℕ)) → m.kind ≡ kind → reply_by (judged kind k) m.id ≡ o
      → replied ≡ packets from o
  as_kind kind o is e = ap (λ x. packets from (reply_by (judged x k) m.id)) is ∙ ap (packets from) e

  abbrev is_told : Option Event → Type 0
  is_told answer = (answer ≡ told (verdict_on s from (T.Becomes (T.Response m))) (T.Becomes (T.Response m)))
      × (message_told answer ≡ Some m)

  by_told : (answer : Option Event) → is_told answer
      → (m.kind ≡ Con → reply_by (judged m.kind k) m.id ≡ Some (ack_bytes m.id))
      × (m.kind ≢ Con → reply_by (judged m.kind k) m.id ≡ None)
  by_told answer h = told_by m.id m.kind k (judged m.kind k) (judged_by m.kind k) m (sym (ap message_told h.0) ∙ h.1)

  response_replied : (answer : Option Event) → answer
      ≡ told (verdict_on s from (T.Becomes (T.Response m))) (T.Becomes (T.Response m))
      → RepliesTo s from m answer replied
  response_replied answer right =
      let strange_is = strange m.id k.from_server k.of_exchange k.same_id k.kept k.bad_option k.cancelled in
      let critical_is = critical m.id k.from_server k.of_exchange k.same_id k.kept k.bad_option k.cancelled in
      let late_is = late m.id k.from_server k.of_exchange k.same_id k.kept k.bad_option k.cancelled in
      record {
        told_con = λ h con. ap (packets from) ((by_told answer (right, h)).0 con);
        told_other = λ h other. ap (packets from) ((by_told answer (right, h)).1 other);
        strange = λ kind h. elim kind [
          | inl con ↦ as_kind Con (Some (reset_bytes m.id)) con (strange_is h).0
          | inr non ↦ as_kind Non (Some (reset_bytes m.id)) non (strange_is h).1
        ];
        critical_con = λ con h c. as_kind Con (Some (reset_bytes m.id)) con (critical_is h c).0;
        critical_non = λ non h c. as_kind Non None non (critical_is h c).1;
        late_con = λ con h c l. as_kind Con (Some (ack_bytes m.id)) con (late_is h c l).0;
        late_non = λ non h c l. as_kind Non None non (late_is h c l).1;
        ack = λ ack. ap (packets from) (ack_none m.id m.kind k (judged m.kind k) (judged_by m.kind k) ack);
      }

-- all else that arrives

request_other : (kind : Kind) (id : ℕ) → kind ≢ Con → reply_by (request_judged kind) id ≡ None
request_other Con id other = absurd (other refl)
request_other _ id other = refl

none_acked : (b : Bool) (id : ℕ) → reply_by (cond b Await Ignore) id ≡ None
none_acked true id = refl
none_acked false id = refl

none_reset : (b : Bool) (id : ℕ) → reply_by (cond b EndByReset Ignore) id ≡ None
none_reset true id = refl
none_reset false id = refl

replied_by : (s : Own) (from : Endpoint) (up : T.Answer) (answer : Option Event)
    → answer ≡ told (verdict_on s from up) up → RepliesBy s from up answer
    (packets from (reply_by (verdict_on s from up) (id_in up)))
replied_by s from (T.Becomes (T.Response m)) answer right = response_replied s from m answer right
replied_by s from (T.Becomes (T.Request m kept)) answer right = (
  λ con. ap (λ kind. packets from (reply_by (request_judged kind) m.id)) con,
  λ other. ap (packets from) (request_other m.kind m.id other),
)
replied_by s from (T.Becomes (T.Acked id)) answer right = ap (packets from) (none_acked (is_of_request s from id) 0)
replied_by s from (T.Becomes (T.Reset id)) answer right = ap (packets from) (none_reset (is_of_request s from id) 0)
replied_by s from _ answer right = refl

none_asked : (o : Opening) (server : Endpoint) (content : T.Content) (now w : ℕ) (below : T.Answer)
    → replies_in (asked now (beneath o server content w) below ∷ []) ≡ []
none_asked Running server content now w below = refl
none_asked Spent server content now w below = refl
none_asked Sends server content now w below = refl

module _ (server : Endpoint) (setup : Setup) where
  rightly : (t : List Call) (c : Call) → IsRight (own_of server setup t) c → RepliesRightly server setup t c
  rightly t (Receive now from bytes up settled answer) right =
      let s : Own = own_of server setup t in
      let v : Verdict = verdict_on s from up in
      subst (RepliesBy s from up answer) (sym (replies_by from s.server bytes now (id_in up) up settled
      (settles v) s.running (reply_by v (id_in up)))) (replied_by s from up answer right)
  rightly t (Ask now r w below answer) right =
      let s : Own = own_of server setup t in none_asked (opening_of s r) s.server
      (content_of (request_token s r) r) now w below
  rightly t _ right = refl

  pub are_replied : (t : List Call) → AskerLaw server setup t → AreReplied server setup t
  are_replied [] law = tt
  are_replied (c ∷ t) law = (rightly t c law.0, are_replied t law.1)
