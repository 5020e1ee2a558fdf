-- A call of a client's exchanges does the same with other endpoints in the place of theirs.
use Rattle.std.proofs.Common.{◌≡◌, ℕ, max, Bool, true, false, ◌&&◌, Option, Some, None, List, [], ◌∷◌, ◌++◌, refl}
use Rattle.std.proofs.Common.{ap, ap₂, sym, subst, ◌∙◌, cond, map}
use Rattle.std.proofs.lemmas.List.{map-append}
use Rattle.coap_types.specs.declared.endpoint.Endpoint.{Endpoint}
use Rattle.coap_layer.specs.Machine.State as S
use Rattle.coap_layer.specs.Machine.Steps as G
use Rattle.coap_layer.specs.Machine.Steps.{Steps}
use Rattle.coap_layer.specs.Trace as L
use Rattle.coap_layer.specs.declared.setup.Setup.{Setup}
use Rattle.coap_exchange.specs.declared.asker.Event.TheVariants as event
use Rattle.coap_exchange.specs.declared.asker.Exchange.{Exchange}
use Rattle.coap_exchange.specs.declared.asker.Turn.TheVariants as turn
use Rattle.coap_exchange.specs.declared.matching.Opening.{Opening}
use Rattle.coap_exchange.specs.declared.matching.Opening.TheVariants.{Running, Spent, Sends}
use Rattle.coap_exchange.specs.declared.matching.Verdict.{Verdict}
use Rattle.coap_exchange.specs.declared.matching.Verdict.TheVariants.{Ignore, Reject, Acknowledge, AnswerCon, Answer}
use Rattle.coap_exchange.specs.declared.matching.Verdict.TheVariants.{NoticeCon, Notice, Await, EndByReset}
use Rattle.coap_exchange.specs.AskerArrivals as V
use Rattle.coap_exchange.specs.AskerLaw as W
use Rattle.coap_exchange.specs.AskerRequests as Q
use Rattle.coap_exchange.specs.AskerRequests.{asked}
use Rattle.coap_exchange.specs.AskerSteps as P
use Rattle.coap_exchange.specs.AskerTrace as E
use Rattle.coap_exchange.specs.Matching.{judged}
use Rattle.coap_opaque.specs.Renaming.Endpoints.{TellsApart}
use Rattle.coap_opaque.specs.Renaming.OfExchanges as X
use Rattle.coap_opaque.specs.Renaming.OfLayer as R
use Rattle.coap_opaque.proofs.Renaming.AnswererParts.{id_in_same, replying_same}
use Rattle.coap_opaque.proofs.Renaming.LayerSteps.{steps_same}
use Rattle.coap_opaque.proofs.Renaming.Stacked as K

module _ (rename : Endpoint → Endpoint) where
  -- a request

  beneath_same : (o : Opening) (server : Endpoint) (content : L.Content) (word : ℕ)
      → Q.beneath o (rename server) content word ≡ R.call rename (Q.beneath o server content word)
  beneath_same Running server content word = refl
  beneath_same Spent server content word = refl
  beneath_same Sends server content word = refl

  ask_same : (o : Opening) (below : L.Answer) (token : List ℕ)
      → Q.ask_answer o (R.answer rename below) token ≡ Q.ask_answer o below token
  ask_same Running below token = refl
  ask_same Spent (L.Is holds) token = refl
  ask_same Spent _ token = refl
  ask_same Sends (L.Sent id) token = refl
  ask_same Sends _ token = refl

  sent_as_same : (o : Opening) (below : L.Answer) → Q.sent_as o (R.answer rename below) ≡ Q.sent_as o below
  sent_as_same Running below = refl
  sent_as_same Spent below = refl
  sent_as_same Sends (L.Sent id) = refl
  sent_as_same Sends _ = refl

  opened_same : (s : E.Own) (r : E.Request) (o : Option ℕ)
      → Q.opened (X.asker_own rename s) r o ≡ X.asker_own rename (Q.opened s r o)
  opened_same s r None = refl
  opened_same s r (Some id) = refl

  -- what is told

  told_same : (v : Verdict) (up : L.Answer) → V.told v (R.answer rename up) ≡ V.told v up
  told_same AnswerCon (L.Becomes d) = refl
  told_same AnswerCon _ = refl
  told_same Answer (L.Becomes d) = refl
  told_same Answer _ = refl
  told_same NoticeCon (L.Becomes d) = refl
  told_same NoticeCon _ = refl
  told_same Notice (L.Becomes d) = refl
  told_same Notice _ = refl
  told_same EndByReset up = refl
  told_same Ignore (L.Becomes d) = refl
  told_same Ignore _ = refl
  told_same Reject (L.Becomes d) = refl
  told_same Reject _ = refl
  told_same Acknowledge (L.Becomes d) = refl
  told_same Acknowledge _ = refl
  told_same Await (L.Becomes d) = refl
  told_same Await _ = refl

  settling_same : (b : Bool) (server : Endpoint) (running : Option Exchange) (settled : Bool)
      → V.settling b (rename server) running settled ≡ map (R.asked rename) (V.settling b server running settled)
  settling_same true server (Some x) settled = refl
  settling_same true server None settled = refl
  settling_same false server running settled = refl

  acts_same : (s : E.Own) (from : Endpoint) (up : L.Answer) (settled : Bool) (v : Verdict)
      → V.acts (X.asker_own rename s) (rename from) (R.answer rename up) settled v
      ≡ map (R.asked rename) (V.acts s from up settled v)
  acts_same s from up settled v =
      let id : ℕ = V.id_in up in
      ap₂ (λ xs ys. xs ++ ys) (settling_same (V.settles v) s.server s.running settled)
      (ap (λ n. V.replying (rename from) n (V.reply_by v n)) (id_in_same rename up)
      ∙ replying_same rename from id (V.reply_by v id))
      ∙ sym (map-append (R.asked rename) (V.settling (V.settles v) s.server s.running settled)
      (V.replying from id (V.reply_by v id)))

  module _ (apart : TellsApart rename) where
    of_request_same : (s : E.Own) (from : Endpoint) (id : ℕ)
        → V.is_of_request (X.asker_own rename s) (rename from) id ≡ V.is_of_request s from id
    of_request_same s from id = ap (λ b. b && V.has_id s.running id) (apart from s.server)

    verdict_same : (s : E.Own) (from : Endpoint) (up : L.Answer)
        → V.verdict_on (X.asker_own rename s) (rename from) (R.answer rename up) ≡ V.verdict_on s from up
    verdict_same s from (L.Becomes (L.Response m)) =
        ap (λ (b : Bool). judged m.kind (record (V.known_of s from m) { from_server = b })) (apart from s.server)
    verdict_same s from (L.Becomes (L.Acked id)) = ap (λ b. cond b Await Ignore) (of_request_same s from id)
    verdict_same s from (L.Becomes (L.Reset id)) = ap (λ b. cond b EndByReset Ignore) (of_request_same s from id)
    verdict_same s from _ = refl

    turn_same : (s : E.Own) (at : ℕ) (below : L.Answer)
        → V.turn_of (X.asker_own rename s) at (R.answer rename below) ≡ V.turn_of s at below
    turn_same s at (L.Expired to id) =
        ap (λ b. cond b (turn.End event.Timeout) turn.Idle) (of_request_same s to id)
    turn_same s at _ = refl

    -- all calls

    pub lower_same : (s : E.Own) (c : E.Call)
        → P.lower (X.asker_own rename s) (X.asker_call rename c) ≡ map (R.asked rename) (P.lower s c)
    lower_same s (E.Ask now r word below answer) =
        ap (λ x. asked now x (R.answer rename below) ∷ [])
        (beneath_same (Q.opening_of s r) s.server (Q.content_of (Q.request_token s r) r) word)
    lower_same s (E.Receive now from bytes up settled answer) =
        let first : G.Asked = asked now (L.Receive from bytes) up in
        let v : Verdict = V.verdict_on s from up in
        ap (λ xs. xs ++ R.asked rename first ∷ [])
        (ap (V.acts (X.asker_own rename s) (rename from) (R.answer rename up) settled) (verdict_same s from up)
        ∙ acts_same s from up settled v)
        ∙ sym (map-append (R.asked rename) (V.acts s from up settled v) (first ∷ []))
    lower_same s (E.Ticks now below answer) = refl
    lower_same s (E.Keep token answer) = refl
    lower_same s (E.Release token answer) = refl
    lower_same s (E.Take answer) = refl

    pub right_same : (s : E.Own) (c : E.Call) → P.IsRight s c
        → P.IsRight (X.asker_own rename s) (X.asker_call rename c)
    right_same s (E.Ask now r word below answer) h = h ∙ sym (ask_same (Q.opening_of s r) below (Q.request_token s r))
    right_same s (E.Receive now from bytes up settled answer) h =
        h ∙ sym (ap (λ v. V.told v (R.answer rename up)) (verdict_same s from up)
        ∙ told_same (V.verdict_on s from up) up)
    right_same s (E.Ticks now below answer) h = h ∙ sym (turn_same s (max s.clock now) below)
    right_same s (E.Keep token answer) h = h
    right_same s (E.Release token answer) h = h
    right_same s (E.Take answer) h = h

    pub after_same : (s : E.Own) (c : E.Call)
        → P.after (X.asker_own rename s) (X.asker_call rename c) ≡ X.asker_own rename (P.after s c)
    after_same s (E.Ask now r word below answer) =
        ap (λ (t : E.Own). record t { clock = max s.clock now })
        (ap (Q.opened (X.asker_own rename s) r) (sent_as_same (Q.opening_of s r) below)
        ∙ opened_same s r (Q.sent_as (Q.opening_of s r) below))
    after_same s (E.Receive now from bytes up settled answer) =
        let at : ℕ = max s.clock now in
        ap (λ v. record (X.asker_own rename s) { clock = at; running = V.running_after at v s.running })
        (verdict_same s from up)
    after_same s (E.Ticks now below answer) = refl
    after_same s (E.Keep token answer) = refl
    after_same s (E.Release token answer) = refl
    after_same s (E.Take answer) = refl

    -- what the exchanges keep, with their message layer
    abbrev pub state : W.State → W.State
    state s = record { own = X.asker_own rename s.own; layer = R.state rename s.layer }

    pub chain_same : (old new : W.State) (calls : List E.Call) → W.Exchanged old calls new
        → W.Exchanged (state old) (map (X.asker_call rename) calls) (state new)
    chain_same old new calls h =
        K.chain_same (X.asker_own rename) (X.asker_call rename) (R.asked rename) (R.state rename) P.IsRight P.after
        P.lower Steps after_same lower_same right_same (λ s t bs k. steps_same rename apart s t bs k) old new calls h

    module _ (server : Endpoint) (setup : Setup) where
      pub own_same : (t : List E.Call)
          → W.own_of (rename server) setup (map (X.asker_call rename) t) ≡ X.asker_own rename (W.own_of server setup t)
      own_same t =
          K.sum_same (X.asker_own rename) (X.asker_call rename) P.after after_same (E.start server setup.word)
          (E.start (rename server) setup.word) refl t

      pub asked_same : (t : List E.Call)
          → W.lower_of (rename server) setup (map (X.asker_call rename) t)
          ≡ map (R.asked rename) (W.lower_of server setup t)
      asked_same t =
          K.asked_same (X.asker_own rename) (X.asker_call rename) P.after after_same (E.start server setup.word)
          (E.start (rename server) setup.word) refl (R.asked rename) P.lower lower_same t

      pub exchange_renamed : (t : List E.Call) → W.ExchangeLaw server setup t
          → W.ExchangeLaw (rename server) setup (map (X.asker_call rename) t)
      exchange_renamed t law = record {
        rows = K.rows_same (X.asker_own rename) (X.asker_call rename) P.after after_same (E.start server setup.word)
            (E.start (rename server) setup.word) refl P.IsRight right_same t law.rows;
        left = R.state rename law.left;
        layer = subst (λ (xs : List G.Asked). Steps (S.start setup) xs (R.state rename law.left)) (sym (asked_same t))
            (steps_same rename apart (S.start setup) law.left (W.lower_of server setup t) law.layer);
      }
