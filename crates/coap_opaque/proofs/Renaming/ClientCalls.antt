-- A history of a client stands in its law with other endpoints in the place of theirs, and leaves the same then.
use Rattle.std.proofs.Common.{◌≡◌, ℕ, Bool, List, [], ◌∷◌, ◌++◌, refl, ap, ap₂, sym, subst, ◌∙◌, map, max, Ok, Result}
use Rattle.std.proofs.lemmas.List.{map-append}
use Rattle.coap_types.specs.declared.endpoint.Endpoint.{Endpoint}
use Rattle.coap_layer.specs.Machine.State as M
use Rattle.coap_layer.specs.Machine.Steps.{left_after}
use Rattle.coap_layer.specs.Trace as L
use Rattle.coap_layer.specs.declared.setup.Setup.{Setup}
use Rattle.coap_block.specs.Sizes.{Sizes}
use Rattle.coap_exchange.specs.declared.asker.AskRefusal.{AskRefusal}
use Rattle.coap_exchange.specs.AskerLaw as W
use Rattle.coap_exchange.specs.AskerTrace as E
use Rattle.coap_client.specs.Deeds.{close, deeds, done_for, effect, forgets}
use Rattle.coap_client.specs.Effects.{Deed, Rests, Asks, Keeps, Releases, Effect}
use Rattle.coap_client.specs.Law.{ClientLaw, lower_of, own_of}
use Rattle.coap_client.specs.Led.{State, Step}
use Rattle.coap_client.specs.Own.{Own, start}
use Rattle.coap_client.specs.Steps.{lower, IsRight, after}
use Rattle.coap_client.specs.Trace.{Call, Calls, Observes, Cancels, Forgets, Feeds, Ticks, NextOut, NextReport, Asked}
use Rattle.coap_opaque.specs.Opaque.{ClientIsOpaque}
use Rattle.coap_opaque.specs.Renaming.Endpoints.{TellsApart}
use Rattle.coap_opaque.specs.Renaming.OfClient as C
use Rattle.coap_opaque.specs.Renaming.OfExchanges as X
use Rattle.coap_opaque.specs.Renaming.OfLayer as R
use Rattle.coap_opaque.proofs.Renaming.AskerCalls as A
use Rattle.coap_opaque.proofs.Renaming.LayerSteps.{all_left_same}
use Rattle.coap_opaque.proofs.Renaming.Stacked as K

module _ (rename : Endpoint → Endpoint) where
  deeds_same : (d : Deed) (s : Own) (now word : ℕ) (sent : L.Answer) (token : Result (List ℕ) AskRefusal) (kept : Bool)
      → deeds d s now word (R.answer rename sent) token kept
      ≡ map (X.asker_call rename) (deeds d s now word sent token kept)
  deeds_same Rests s now word sent token kept = refl
  deeds_same (Asks op) s now word sent token kept = refl
  deeds_same (Keeps t) s now word sent token kept = refl
  deeds_same (Releases t) s now word sent token kept = refl

  done_same : (e : Effect) (now word : ℕ) (sent : L.Answer) (token : Result (List ℕ) AskRefusal) (kept : Bool)
      (input : E.Call)
      → done_for e now word (R.answer rename sent) token kept (X.asker_call rename input)
      ≡ map (X.asker_call rename) (done_for e now word sent token kept input)
  done_same e now word sent token kept input =
      let c : Effect = close now e token in
      let late : List E.Call = deeds c.deed c.own now word sent token kept in
      let soon : List E.Call = deeds e.deed e.own now word sent token kept in
      ap₂ (λ xs ys. xs ++ (ys ++ X.asker_call rename input ∷ []))
      (deeds_same c.deed c.own now word sent token kept) (deeds_same e.deed e.own now word sent token kept)
      ∙ (ap (λ ys. map (X.asker_call rename) late ++ ys) (sym (map-append (X.asker_call rename) soon (input ∷ [])))
      ∙ sym (map-append (X.asker_call rename) late (soon ++ input ∷ [])))

  lower_same : (s : Own) (c : Call) → lower s (C.call rename c) ≡ map (X.asker_call rename) (lower s c)
  lower_same s (Feeds now from bytes word up settled event sent token kept) =
      done_same (effect s (Feeds now from bytes word up settled event sent token kept)) (max s.clock now) word sent
      token kept (E.Receive (max s.clock now) from bytes up settled event)
  lower_same s (Ticks now word below t sent token kept answer) =
      done_same (effect s (Ticks now word below t sent token kept answer)) (max s.clock now) word sent token kept
      (E.Ticks (max s.clock now) below t)
  lower_same s (Forgets number kept answer) = deeds_same (forgets answer number s) s 0 0 L.Nothing (Ok []) kept
  lower_same s (NextOut answer) = refl
  lower_same s (Calls now r answer) = refl
  lower_same s (Observes now path answer) = refl
  lower_same s (Cancels now number answer) = refl
  lower_same s (NextReport answer) = refl
  lower_same s (Asked answer) = refl

  right_same : (s : Own) (c : Call) → IsRight s c → IsRight s (C.call rename c)
  right_same s (Feeds now from bytes word up settled event sent token kept) h = h
  right_same s (Ticks now word below t sent token kept answer) h = h
  right_same s (Forgets number kept answer) h = h
  right_same s (NextOut answer) h = h
  right_same s (Calls now r answer) h = h
  right_same s (Observes now path answer) h = h
  right_same s (Cancels now number answer) h = h
  right_same s (NextReport answer) h = h
  right_same s (Asked answer) h = h

  after_same : (s : Own) (c : Call) → after s (C.call rename c) ≡ after s c
  after_same s (Feeds now from bytes word up settled event sent token kept) = refl
  after_same s (Ticks now word below t sent token kept answer) = refl
  after_same s (Forgets number kept answer) = refl
  after_same s (NextOut answer) = refl
  after_same s (Calls now r answer) = refl
  after_same s (Observes now path answer) = refl
  after_same s (Cancels now number answer) = refl
  after_same s (NextReport answer) = refl
  after_same s (Asked answer) = refl

  pub client_step : TellsApart rename → (old new : State) (c : Call) → Step old c new
      → Step (C.state rename old) (C.call rename c) (C.state rename new)
  client_step apart old new c step =
      K.step_same (λ (s : Own). s) (C.call rename) (X.asker_call rename) (A.state rename apart) IsRight after lower
      W.Exchanged after_same lower_same right_same (A.chain_same rename apart) old new c step

  module _ (sizes : Sizes) where
    own_same : (t : List Call) → own_of sizes (map (C.call rename) t) ≡ own_of sizes t
    own_same t = K.sum_same (λ (s : Own). s) (C.call rename) after after_same (start sizes) (start sizes) refl t

    asks_same : (t : List Call)
        → lower_of sizes (map (C.call rename) t) ≡ map (X.asker_call rename) (lower_of sizes t)
    asks_same t =
        K.asked_same (λ (s : Own). s) (C.call rename) after after_same (start sizes) (start sizes) refl
        (X.asker_call rename) lower lower_same t

    pub client_renamed : (apart : TellsApart rename) (server : Endpoint) (setup : Setup) (t : List Call)
        → ClientLaw server sizes setup t → ClientIsOpaque rename server sizes setup t
    client_renamed apart server setup t law =
        let calls : List E.Call = lower_of sizes t in
        let begin : M.State = M.start setup in
        let own = own_same t in
        let exchanges =
        ap (W.own_of (rename server) setup) (asks_same t) ∙ A.own_same rename apart server setup calls in
        let layer =
        ap (λ (cs : List E.Call). left_after begin (W.lower_of (rename server) setup cs)) (asks_same t)
        ∙ (ap (left_after begin) (A.asked_same rename apart server setup calls)
        ∙ all_left_same rename apart begin (W.lower_of server setup calls)) in
        record {
          law = record {
            rows = K.rows_same (λ (s : Own). s) (C.call rename) after after_same (start sizes) (start sizes) refl
                IsRight right_same t law.rows;
            exchanges = subst (W.ExchangeLaw (rename server) setup) (sym (asks_same t))
                (A.exchange_renamed rename apart server setup calls law.exchanges);
          };
          left = λ i. record { own = own i; layer = record { own = exchanges i; layer = layer i } };
        }
