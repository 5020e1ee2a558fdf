-- Each reply of a client's message layer is given to the message that has just been handed up, as an Empty message with
-- its Message ID: a Reset, or the acknowledgement of a CON.
use Rattle.std.proofs.Common.{◌≡◌, ◌⊎◌, inl, inr, ℕ, ◌/◌, ◌%◌, ◌<◌, Bool, true, false, Option, Some, None, List, []}
use Rattle.std.proofs.Common.{◌∷◌, ◌++◌, refl, ap, sym, subst, ◌∙◌, cond, arith, append_assoc}
use Rattle.coap_types.specs.Past.{Always}
use Rattle.coap_types.specs.declared.endpoint.Endpoint.{Endpoint}
use Rattle.coap_types.specs.declared.message.Kind.{Kind}
use Rattle.coap_types.specs.declared.message.Kind.TheVariants.{Con, Ack, Rst}
use Rattle.coap_codec.specs.Message.{Message, Spells}
use Rattle.coap_layer.specs.Trace as T
use Rattle.coap_layer.specs.Words.{is_kept, handed, handed_by, from_there}
use Rattle.coap_layer.specs.Machine.State as L
use Rattle.coap_layer.specs.Machine.Steps.{Asked, Steps, entries, left_after}
use Rattle.coap_layer.specs.Channel.{RepliesSo}
use Rattle.coap_layer.proofs.Facts.Calls.{steps_left}
use Rattle.coap_exchange.specs.declared.asker.Exchange.{Exchange}
use Rattle.coap_exchange.specs.declared.matching.Known.{Known}
use Rattle.coap_exchange.specs.declared.matching.Opening.{Opening}
use Rattle.coap_exchange.specs.declared.matching.Opening.TheVariants.{Running, Spent, Sends}
use Rattle.coap_exchange.specs.declared.matching.Verdict.{Verdict}
use Rattle.coap_exchange.specs.declared.matching.Verdict.TheVariants.{Ignore, Reject, Acknowledge, AnswerCon}
use Rattle.coap_exchange.specs.declared.matching.Verdict.TheVariants.{NoticeCon, Await, EndByReset}
use Rattle.coap_exchange.specs.EmptyMessages.{ack_bytes, reset_bytes}
use Rattle.coap_exchange.specs.Matching.{judged, request_judged}
use Rattle.coap_exchange.specs.AskerTrace as E
use Rattle.coap_exchange.specs.AskerRequests as Q
use Rattle.coap_exchange.specs.AskerArrivals as R
use Rattle.coap_exchange.specs.AskerSteps as P
use Rattle.coap_exchange.specs.AskerLaw as W
use Rattle.coap_exchange.proofs.Facts.Verdicts.{Judged, judged_by}
use Rattle.coap_layer.proofs.Facts.StepsOfLayer.{steps_split}
use Rattle.coap_layer.specs.Machine.Calls.{message_in}
use Rattle.coap_layer.proofs.Facts.HandedUp.{spelled}
use Rattle.coap_layer.specs.declared.setup.Setup.{Setup}

-- Empty messages

abbrev pub empty_of : Kind → ℕ → Message
empty_of kind id = record { kind = kind; code = 0; id = id; token = []; options = []; payload = [] }

high_byte : (id : ℕ) → id < 65536 → id / 256 ≡ id / 256 % 256
high_byte id h = omega (arith, h)

pub ack_spells : (id : ℕ) → id < 65536 → Spells (ack_bytes id) (empty_of Ack id)
ack_spells id h = record {
  code = omega arith;
  id = omega (arith, h);
  token = omega arith;
  option_bytes = [];
  options = refl;
  parts = ap (λ b. 0x60 ∷ 0 ∷ b ∷ id % 256 ∷ []) (high_byte id h);
  empty = λ z. refl;
}

pub reset_spells : (id : ℕ) → id < 65536 → Spells (reset_bytes id) (empty_of Rst id)
reset_spells id h = record {
  code = omega arith;
  id = omega (arith, h);
  token = omega arith;
  option_bytes = [];
  options = refl;
  parts = ap (λ b. 0x70 ∷ 0 ∷ b ∷ id % 256 ∷ []) (high_byte id h);
  empty = λ z. refl;
}

-- what a verdict replies to

pub record Replies (up : T.Answer) (id : ℕ) (bytes : List ℕ) : Type 0 where
  pub message : Message
  pub up_is : handed_by up ≡ Some message
  pub in_is : message_in up ≡ Some message
  pub id_is : id ≡ message.id
  pub shape : (bytes ≡ reset_bytes id) ⊎ ((bytes ≡ ack_bytes id) × (message.kind ≡ Con))

some_same : (a b : List ℕ) → Some a ≡ Some b → a ≡ b
some_same a b h = cc h

-- a response is rejected unless it is an ACK; a CON is acknowledged
by_verdict : (m : Message) (k : Known) (v : Verdict) → Judged m.kind k v → (b : List ℕ) → R.reply_by v m.id ≡ Some b
    → (is_kept m.kind ≡ true) × ((b ≡ reset_bytes m.id) ⊎ ((b ≡ ack_bytes m.id) × (m.kind ≡ Con)))
by_verdict m k Reject r b h = (r, inl (sym (some_same _ _ h)))
by_verdict m k Acknowledge r b h = (ap is_kept r, inr (sym (some_same _ _ h), r))
by_verdict m k AnswerCon r b h = (ap is_kept r.0, inr (sym (some_same _ _ h), r.0))
by_verdict m k NoticeCon r b h = (ap is_kept r.0, inr (sym (some_same _ _ h), r.0))
by_verdict m k _ r b h = absurd (cc h)

response_replies : (m : Message) (k : Known) (b : List ℕ) → R.reply_by (judged m.kind k) m.id ≡ Some b
    → Replies (T.Becomes (T.Response m)) m.id b
response_replies m k b h =
    let shape = by_verdict m k (judged m.kind k) (judged_by m.kind k) b h in record {
      message = m;
      up_is = ap (λ w. cond w (Some m) None) shape.0;
      in_is = refl;
      id_is = refl;
      shape = shape.1;
    }

request_replies : (m : Message) (kept : Bool) (kind : Kind) (b : List ℕ)
    → R.reply_by (request_judged kind) m.id ≡ Some b → Replies (T.Becomes (T.Request m kept)) m.id b
request_replies m kept Con b h = record {
  message = m;
  up_is = refl;
  in_is = refl;
  id_is = refl;
  shape = inl (sym (some_same _ _ h));
}
request_replies m kept _ b h = absurd (cc h)

none_if : (c : Bool) (v w : Verdict) (id : ℕ) (b : List ℕ) → R.reply_by v id ≡ None → R.reply_by w id ≡ None
    → R.reply_by (cond c v w) id ≡ Some b → ⊥
none_if true v w id b p q h = cc (p, h)
none_if false v w id b p q h = cc (q, h)

pub what_replies : (s : E.Own) (from : Endpoint) (up : T.Answer) (b : List ℕ)
    → R.reply_by (R.verdict_on s from up) (R.id_in up) ≡ Some b → Replies up (R.id_in up) b
what_replies s from (T.Becomes (T.Response m)) b h = response_replies m (R.known_of s from m) b h
what_replies s from (T.Becomes (T.Request m kept)) b h = request_replies m kept m.kind b h
what_replies s from (T.Becomes (T.Acked id)) b h =
    absurd (none_if (R.is_of_request s from id) Await Ignore 0 b refl refl h)
what_replies s from (T.Becomes (T.Reset id)) b h =
    absurd (none_if (R.is_of_request s from id) EndByReset Ignore 0 b refl refl h)
what_replies s from up b h = absurd (cc h)

-- calls that are no replies

abbrev pub is_reply : T.Call → Bool
is_reply (T.Reply to id bytes) = true
is_reply _ = false

abbrev pub NoReplies : List Asked → Type 0
NoReplies [] = Unit {0}
NoReplies (a ∷ asked) = (is_reply a.call ≡ false) × NoReplies asked

module _ (begin : L.State) where
  abbrev pub So : List Asked → Type 0
  So asked = Always RepliesSo (entries begin asked)

  pub over : (xs rest : List Asked) → NoReplies xs → So rest → So (xs ++ rest)
  over [] rest none so = so
  over (a ∷ xs) rest none so = ((λ to id bytes h. absurd (cc (none.0, h))), over xs rest none.1 so)

  replied : (from : Endpoint) (id : ℕ) (b : List ℕ) (now : ℕ) (bytes : List ℕ) (up : T.Answer) (rest : List Asked)
      (mid new : L.State) → Steps begin rest mid → L.Step mid now (T.Receive from bytes) up new
      → Replies up id b → So (Q.asked now (T.Receive from bytes) up ∷ rest)
      → So (Q.asked 0 (T.Reply from id b) T.Nothing ∷ Q.asked now (T.Receive from bytes) up ∷ rest)
  replied from id b now bytes up rest mid new before step r so = (one, so)
    where
      s : L.State
      s = left_after begin rest

      there : mid ≡ left_after begin rest
      there = steps_left begin rest mid before

      right : up ≡ L.answer_of (left_after begin rest) (L.moment (left_after begin rest) now (T.Receive from bytes))
          (T.Receive from bytes)
      right = subst (λ w. up ≡ L.answer_of w (L.moment w now (T.Receive from bytes)) (T.Receive from bytes)) there
          step.right

      small : r.message.id < 65536
      small = let k = spelled mid new now from bytes up r.message step r.in_is in let i = k.id in omega (arith, i)

      low : id < 65536
      low = omega (arith, small, r.id_is)

      heard : handed (L.made (left_after begin rest) now (T.Receive from bytes))
          ≡ Some (record { from = from; message = r.message })
      heard = ap (λ a. from_there from (handed_by a)) (sym right) ∙ ap (from_there from) r.up_is

      one : RepliesSo (entries begin (Q.asked now (T.Receive from bytes) up ∷ rest))
          (L.made (left_after begin (Q.asked now (T.Receive from bytes) up ∷ rest)) 0 (T.Reply from id b))
      one to n c h =
          let n_is : id ≡ n = cc h in
          let c_is : b ≡ c = cc h in
          elim r.shape [
            | inl reset ↦ record {
              to_what = record { from = from; message = r.message };
              latest = inl (heard, refl);
              reply = empty_of Rst id;
              spells = subst (λ w. Spells w (empty_of Rst id)) (sym reset ∙ c_is) (reset_spells id low);
              id_is = n_is;
              kind = inl refl;
            }
            | inr ack ↦ record {
              to_what = record { from = from; message = r.message };
              latest = inl (heard, refl);
              reply = empty_of Ack id;
              spells = subst (λ w. Spells w (empty_of Ack id)) (sym ack.0 ∙ c_is) (ack_spells id low);
              id_is = n_is;
              kind = inr (refl, ack.1);
            }
          ]

  reply_if : (from : Endpoint) (id : ℕ) (o : Option (List ℕ)) (now : ℕ) (bytes : List ℕ) (up : T.Answer)
      (rest : List Asked) (mid new : L.State) → Steps begin rest mid → L.Step mid now (T.Receive from bytes) up new
      → ((b : List ℕ) → o ≡ Some b → Replies up id b) → So (Q.asked now (T.Receive from bytes) up ∷ rest)
      → So (R.replying from id o ++ (Q.asked now (T.Receive from bytes) up ∷ rest))
  reply_if from id None now bytes up rest mid new before step f so = so
  reply_if from id (Some b) now bytes up rest mid new before step f so =
      replied from id b now bytes up rest mid new before step (f b refl) so

settling_none : (b : Bool) (server : Endpoint) (o : Option Exchange) (settled : Bool)
    → NoReplies (R.settling b server o settled)
settling_none true server (Some x) settled = (refl, tt)
settling_none true server None settled = tt
settling_none false server o settled = tt

beneath_none : (o : Opening) (server : Endpoint) (content : T.Content) (word : ℕ)
    → is_reply (Q.beneath o server content word) ≡ false
beneath_none Running server content word = refl
beneath_none Spent server content word = refl
beneath_none Sends server content word = refl

module _ (server : Endpoint) (setup : Setup) where
  abbrev own : List E.Call → E.Own
  own t = W.own_of server setup t

  abbrev below : List E.Call → List Asked
  below t = W.lower_of server setup t

  pub replies_so : (t : List E.Call) → W.AskerLaw server setup t → (h : L.State) → Steps (L.start setup) (below t) h
      → So (L.start setup) (below t)
  replies_so [] law h steps = tt
  replies_so (c ∷ t) law h steps =
      let parts = steps_split (L.start setup) h (P.lower (own t) c) (below t) steps in
      go c h parts.0 parts.1 parts.2 (replies_so t law.1 parts.0 parts.1)
    where
      go : (c : E.Call) (h mid : L.State) → Steps (L.start setup) (below t) mid → Steps mid (P.lower (own t) c) h
          → So (L.start setup) (below t) → So (L.start setup) (P.lower (own t) c ++ below t)
      go (E.Ask now r w b answer) h mid before steps so =
          over (L.start setup) (P.lower (own t) (E.Ask now r w b answer)) (below t)
          (beneath_none (Q.opening_of (own t) r) (own t).server (Q.content_of (Q.request_token (own t) r) r) w, tt) so
      go (E.Ticks now b answer) h mid before steps so =
          over (L.start setup) (P.lower (own t) (E.Ticks now b answer)) (below t) (refl, tt) so
      go (E.Keep token answer) h mid before steps so = so
      go (E.Release token answer) h mid before steps so = so
      go (E.Take answer) h mid before steps so = over (L.start setup) (P.lower (own t) (E.Take answer)) (below t)
          (refl, tt) so
      go (E.Receive now from bytes up settled answer) h mid before steps so =
          let s : E.Own = own t in
          let v : Verdict = R.verdict_on s from up in
          let a : Asked = Q.asked now (T.Receive from bytes) up in
          let settles : List Asked = R.settling (R.settles v) s.server s.running settled in
          let replies : List Asked = R.replying from (R.id_in up) (R.reply_by v (R.id_in up)) in
          let first = steps_split mid h (R.acts s from up settled v) (a ∷ []) steps in
          let step : L.Step mid now (T.Receive from bytes) up first.0 =
          subst (λ w. L.Step w now (T.Receive from bytes) up first.0) first.1.1 first.1.2 in
          let received : So (L.start setup) (a ∷ below t) = over (L.start setup) (a ∷ []) (below t) (refl, tt) so in
          let with_reply : So (L.start setup) (replies ++ (a ∷ below t)) =
          reply_if (L.start setup) from (R.id_in up) (R.reply_by v (R.id_in up)) now bytes up
          (below t) mid first.0 before step (λ b is. what_replies s from up b is) received in
          let all : So (L.start setup) (settles ++ (replies ++ (a ∷ below t))) =
          over (L.start setup) settles (replies ++ (a ∷ below t))
          (settling_none (R.settles v) s.server s.running settled) with_reply in
          subst (So (L.start setup)) (sym (append_assoc (settles ++ replies) (a ∷ []) (below t)
          ∙ append_assoc settles replies (a ∷ below t))) all
