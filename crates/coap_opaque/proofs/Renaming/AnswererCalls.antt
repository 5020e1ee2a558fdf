-- A call of a server's exchanges does the same with other endpoints in the place of theirs.
use Rattle.std.proofs.Common.{◌≡◌, ℕ, max, Bool, Option, Some, None, List, [], ◌∷◌, ◌++◌, refl, ap, ap₂, sym, ◌∙◌}
use Rattle.std.proofs.Common.{map, option_map, subst}
use Rattle.std.proofs.lemmas.List.{map-append}
use Rattle.coap_types.specs.declared.endpoint.Endpoint.{Endpoint}
use Rattle.coap_layer.specs.Machine.State as S
use Rattle.coap_layer.specs.Machine.Steps as G
use Rattle.coap_layer.specs.Machine.Steps.{Steps}
use Rattle.coap_layer.specs.Trace as L
use Rattle.coap_layer.specs.declared.setup.Setup.{Setup}
use Rattle.coap_exchange.specs.declared.answerer.Asked.{Asked}
use Rattle.coap_exchange.specs.declared.separate.Deferred.{Deferred}
use Rattle.coap_exchange.specs.AnswererLaw as W
use Rattle.coap_exchange.specs.AnswererSteps as P
use Rattle.coap_exchange.specs.AnswererTrace as E
use Rattle.coap_exchange.specs.AskerRequests.{asked}
use Rattle.coap_exchange.specs.AskerArrivals.{id_in, replying}
use Rattle.coap_opaque.specs.Renaming.Endpoints.{TellsApart}
use Rattle.coap_opaque.specs.Renaming.OfExchanges as X
use Rattle.coap_opaque.specs.Renaming.OfLayer as R
use Rattle.coap_opaque.proofs.Renaming.AnswererParts as N
use Rattle.coap_opaque.proofs.Renaming.LayerSteps.{steps_same}
use Rattle.coap_opaque.proofs.Renaming.Stacked as K

module _ (rename : Endpoint → Endpoint) (apart : TellsApart rename) where
  -- what is asked of the message layer

  lower_incoming : (now : ℕ) (from : Endpoint) (bytes : List ℕ) (up : L.Answer)
      → replying (rename from) (id_in (R.answer rename up)) (P.reject_by (R.answer rename up))
      ++ asked now (L.Receive (rename from) bytes) (R.answer rename up) ∷ []
      ≡ map (R.asked rename) (replying from (id_in up) (P.reject_by up) ++ asked now (L.Receive from bytes) up ∷ [])
  lower_incoming now from bytes up =
      let first : G.Asked = asked now (L.Receive from bytes) up in
      ap (λ xs. xs ++ R.asked rename first ∷ [])
      (ap₂ (replying (rename from)) (N.id_in_same rename up) (N.reject_same rename up)
      ∙ N.replying_same rename from (id_in up) (P.reject_by up))
      ∙ sym (map-append (R.asked rename) (replying from (id_in up) (P.reject_by up)) (first ∷ []))

  lower_defers : (s : E.Own) (now : ℕ) (a : Asked)
      → P.deferring (P.may_defer (map (X.deferred rename) s.deferred)) (X.asked rename a)
      ++ asked now L.Pass L.Nothing ∷ []
      ≡ map (R.asked rename) (P.deferring (P.may_defer s.deferred) a ++ asked now L.Pass L.Nothing ∷ [])
  lower_defers s now a =
      ap (λ xs. xs ++ asked now L.Pass L.Nothing ∷ [])
      (ap (λ b. P.deferring b (X.asked rename a)) (N.may_defer_same rename s.deferred)
      ∙ N.deferring_same rename (P.may_defer s.deferred) a)
      ∙ sym (map-append (R.asked rename) (P.deferring (P.may_defer s.deferred) a) (asked now L.Pass L.Nothing ∷ []))

  ready_then : (s : E.Own) (now : ℕ) (below : L.Answer)
      → P.ready_if (R.answer rename below) (P.ready_at (X.own rename s) now)
      ≡ option_map (X.deferred rename) (P.ready_if below (P.ready_at s now))
  ready_then s now below =
      ap (P.ready_if (R.answer rename below)) (N.ready_at_same rename apart s now)
      ∙ N.ready_if_same rename below (P.ready_at s now)

  lower_ticks : (s : E.Own) (now : ℕ) (below : L.Answer) (room : Bool)
      → P.asking_room now (P.ready_if (R.answer rename below) (P.ready_at (X.own rename s) now)) room
      ++ asked now L.Ticks (R.answer rename below) ∷ []
      ≡ map (R.asked rename)
      (P.asking_room now (P.ready_if below (P.ready_at s now)) room ++ asked now L.Ticks below ∷ [])
  lower_ticks s now below room =
      let first : G.Asked = asked now L.Ticks below in
      let ready : Option Deferred = P.ready_if below (P.ready_at s now) in
      ap (λ xs. xs ++ R.asked rename first ∷ [])
      (ap (λ o. P.asking_room now o room) (ready_then s now below) ∙ N.asking_room_same rename now ready room)
      ∙ sym (map-append (R.asked rename) (P.asking_room now ready room) (first ∷ []))

  pub lower_same : (s : E.Own) (c : E.Call)
      → P.lower (X.own rename s) (X.call rename c) ≡ map (R.asked rename) (P.lower s c)
  lower_same s (E.Incoming now from bytes up answer) = lower_incoming now from bytes up
  lower_same s (E.Answers a r below) =
      ap (λ x. asked s.clock x (R.answer rename below) ∷ []) (N.answering_same rename s a.kind a r)
  lower_same s (E.Defers now a delay answer) = lower_defers s now a
  lower_same s (E.Ticks now below room answer) = lower_ticks s now below room
  lower_same s (E.Responds now a r word id) = refl
  lower_same s (E.Ready now to answer) = refl
  lower_same s (E.Notifies now to token r word id) = refl
  lower_same s (E.NotifiesPlain now to token r id) = refl
  lower_same s (E.Take answer) = refl
  lower_same s (E.Forgets peer) = refl

  -- what is answered

  asked_of_ready : (o : Option Deferred)
      → option_map (λ (d : Deferred). d.asked) (option_map (X.deferred rename) o)
      ≡ option_map (X.asked rename) (option_map (λ (d : Deferred). d.asked) o)
  asked_of_ready None = refl
  asked_of_ready (Some d) = refl

  pub right_same : (s : E.Own) (c : E.Call) → P.IsRight s c → P.IsRight (X.own rename s) (X.call rename c)
  right_same s (E.Incoming now from bytes up answer) h =
      ap (option_map (X.came rename)) h ∙ sym (N.handed_up_same rename from up)
  right_same s (E.Answers a r below) h =
      (ap (option_map (X.asked rename)) h.0, h.1, N.sent_as_same rename a.kind below h.2)
  right_same s (E.Defers now a delay answer) h =
      (ap (option_map (X.asked rename)) h.0, h.1, h.2 ∙ sym (N.may_defer_same rename s.deferred))
  right_same s (E.Ticks now below room answer) h =
      ap (X.what_is_due rename) h
      ∙ sym (ap (λ o. P.due_of (R.answer rename below) o room) (N.ready_at_same rename apart s now)
      ∙ N.due_same rename below (P.ready_at s now) room)
  right_same s (E.Responds now a r word id) h = (
    ap (option_map (λ (d : Deferred). d.asked)) (N.ready_at_same rename apart s now)
        ∙ (asked_of_ready (P.ready_at s now) ∙ ap (option_map (X.asked rename)) h.0),
    h.1,
  )
  right_same s (E.Ready now to answer) h = tt
  right_same s (E.Notifies now to token r word id) h = h
  right_same s (E.NotifiesPlain now to token r id) h = h
  right_same s (E.Take answer) h = tt
  right_same s (E.Forgets peer) h = tt

  -- what is left

  pub after_same : (s : E.Own) (c : E.Call)
      → P.after (X.own rename s) (X.call rename c) ≡ X.own rename (P.after s c)
  after_same s (E.Incoming now from bytes up answer) =
      let pending = N.asked_in_same rename answer in
      let separate = N.separate_after_same rename apart from up s.separate in
      let ended = N.reset_same rename apart from up s.separate in
      let unmatched = N.unmatched_same rename from up in
      λ i. record {
        clock = max s.clock now;
        pending = pending i;
        deferred = map (X.deferred rename) s.deferred;
        separate = separate i;
        ended = ended i;
        unmatched = unmatched i;
      }
  after_same s (E.Answers a r below) = refl
  after_same s (E.Defers now a delay answer) =
      let pending = N.pending_same rename answer s.pending in
      let d : Deferred = record { asked = a; at = record { 0 = max s.clock now }; delay = delay } in
      let deferred = N.deferred_with_same rename answer d s.deferred in
      λ i. record {
        clock = max s.clock now;
        pending = pending i;
        deferred = deferred i;
        separate = map (X.separate rename) s.separate;
        ended = option_map (X.ended rename) s.ended;
        unmatched = option_map (X.sending rename) s.unmatched;
      }
  after_same s (E.Ticks now below room answer) =
      let separate = N.separate_unless_same rename apart below s.separate in
      let ended = N.failed_same rename apart below s.separate in
      λ i. record {
        clock = max s.clock now;
        pending = None;
        deferred = map (X.deferred rename) s.deferred;
        separate = separate i;
        ended = ended i;
        unmatched = option_map (X.sending rename) s.unmatched;
      }
  after_same s (E.Responds now a r word id) =
      let deferred = N.without_ready_same rename apart (max s.clock now) s.separate s.deferred in
      let separate = sym (map-append (X.separate rename) s.separate (P.separate_of a.from id a.token r ∷ [])) in
      λ i. record {
        clock = max s.clock now;
        pending = None;
        deferred = deferred i;
        separate = separate i;
        ended = option_map (X.ended rename) s.ended;
        unmatched = option_map (X.sending rename) s.unmatched;
      }
  after_same s (E.Ready now to answer) = refl
  after_same s (E.Notifies now to token r word id) =
      let separate = sym (map-append (X.separate rename) s.separate (P.separate_of to id token r ∷ [])) in
      λ i. record {
        clock = max s.clock now;
        pending = None;
        deferred = map (X.deferred rename) s.deferred;
        separate = separate i;
        ended = option_map (X.ended rename) s.ended;
        unmatched = option_map (X.sending rename) s.unmatched;
      }
  after_same s (E.NotifiesPlain now to token r id) = refl
  after_same s (E.Take answer) = refl
  after_same s (E.Forgets peer) =
      let deferred = N.deferred_elsewhere_same rename apart peer s.deferred in
      λ i. record {
        clock = s.clock;
        pending = option_map (X.asked rename) s.pending;
        deferred = deferred i;
        separate = map (X.separate rename) s.separate;
        ended = option_map (X.ended rename) s.ended;
        unmatched = option_map (X.sending rename) s.unmatched;
      }

  -- what the exchanges keep, with their message layer
  abbrev pub state : W.State → W.State
  state s = record { own = X.own rename s.own; layer = R.state rename s.layer }

  pub chain_same : (old new : W.State) (calls : List E.Call) → W.Exchanged old calls new
      → W.Exchanged (state old) (map (X.call rename) calls) (state new)
  chain_same old new calls h =
      K.chain_same (X.own rename) (X.call rename) (R.asked rename) (R.state rename) P.IsRight P.after P.lower Steps
      after_same lower_same right_same (λ s t bs k. steps_same rename apart s t bs k) old new calls h

  -- all calls

  pub own_same : (t : List E.Call) → W.own_of (map (X.call rename) t) ≡ X.own rename (W.own_of t)
  own_same t = K.sum_same (X.own rename) (X.call rename) P.after after_same E.start E.start refl t

  pub asked_same : (t : List E.Call) → W.lower_of (map (X.call rename) t) ≡ map (R.asked rename) (W.lower_of t)
  asked_same t =
      K.asked_same (X.own rename) (X.call rename) P.after after_same E.start E.start refl (R.asked rename) P.lower
      lower_same t

  pub exchanges_renamed : (setup : Setup) (t : List E.Call) → W.ResponseLaw setup t
      → W.ResponseLaw setup (map (X.call rename) t)
  exchanges_renamed setup t law = record {
    rows = K.rows_same (X.own rename) (X.call rename) P.after after_same E.start E.start refl P.IsRight right_same t
        law.rows;
    left = R.state rename law.left;
    layer = subst (λ (xs : List G.Asked). Steps (S.start setup) xs (R.state rename law.left)) (sym (asked_same t))
        (steps_same rename apart (S.start setup) law.left (W.lower_of t) law.layer);
  }
