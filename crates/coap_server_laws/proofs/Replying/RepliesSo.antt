-- Each reply of a server's message layer is given at once: for all its calls.
use Rattle.std.proofs.Common.{◌≡◌, ℕ, Bool, Option, Some, None, List, [], ◌∷◌, ◌++◌, refl, ap, sym, subst, append_assoc}
use Rattle.coap_types.specs.declared.endpoint.Endpoint.{Endpoint}
use Rattle.coap_codec.specs.Message.{Message}
use Rattle.coap_layer.specs.Trace as T
use Rattle.coap_layer.specs.Machine.State as L
use Rattle.coap_layer.specs.Machine.Steps as G
use Rattle.coap_layer.specs.Machine.Steps.{Steps}
use Rattle.coap_exchange.specs.declared.answerer.Asked.{Asked}
use Rattle.coap_exchange.specs.declared.separate.Deferred.{Deferred}
use Rattle.coap_exchange.specs.AnswererTrace as E
use Rattle.coap_exchange.specs.AnswererSteps as P
use Rattle.coap_exchange.specs.AnswererLaw as W
use Rattle.coap_exchange.specs.AskerRequests.{asked}
use Rattle.coap_exchange.specs.AskerArrivals.{id_in, replying}
use Rattle.coap_layer.proofs.Facts.StepsOfLayer.{steps_split}
use Rattle.coap_layer.specs.declared.setup.Setup.{Setup}
use Rattle.coap_exchange.proofs.Facts.AskerReplies.{NoReplies}
use Rattle.coap_server_laws.proofs.Replying.Replies.{Came, came_by, rejecting, piggybacked, acknowledged}
use Rattle.coap_server_laws.proofs.Replying.ResponsesRejected.{So}

pub asking_none : (at : ℕ) (o : Option Deferred) (room : Bool) (below : T.Answer)
    → NoReplies (P.asking_room at o room ++ asked at T.Ticks below ∷ [])
asking_none at None room below = (refl, tt)
asking_none at (Some d) room below = (refl, (refl, tt))

module _ (setup : Setup) where
  abbrev pub begin : L.State
  begin = L.start setup

  abbrev pub Under : List E.Call → Type 0
  Under calls = So (L.start setup) (W.lower_of calls)

  abbrev pub Left : List E.Call → Type 0
  Left calls = (h : L.State) × Steps (L.start setup) (W.lower_of calls) h

  pub one_back : (c : E.Call) (calls : List E.Call) → Left (c ∷ calls) → Left calls
  one_back c calls left = let k = steps_split (L.start setup) left.0 (P.lower (W.own_of calls) c)
      (W.lower_of calls) left.1 in (k.0, k.1)

  module _ (calls : List E.Call) (so : Under calls) (now : ℕ) where
    -- what an arrival's step is
    pub record Arrived (from : Endpoint) (bytes : List ℕ) (up : T.Answer) : Type 0 where
      pub mid : L.State
      pub new : L.State
      pub before : Steps (L.start setup) (W.lower_of calls) mid
      pub step : L.Step mid now (T.Receive from bytes) up new

    pub arrived : (from : Endpoint) (bytes : List ℕ) (up : T.Answer) (came : Option (Asked × Message))
        → Left (E.Incoming now from bytes up came ∷ calls) → Arrived from bytes up
    arrived from bytes up came left =
        let k = steps_split (L.start setup) left.0
        (P.lower (W.own_of calls) (E.Incoming now from bytes up came))
        (W.lower_of calls) left.1 in
        let f = steps_split k.0 left.0 (replying from (id_in up) (P.reject_by up))
        (asked now (T.Receive from bytes) up ∷ []) k.2 in
        record {
          mid = k.0;
          new = f.0;
          before = k.1;
          step = subst (λ w. L.Step w now (T.Receive from bytes) up f.0) f.1.1 f.1.2;
        }

    pub incoming : (from : Endpoint) (bytes : List ℕ) (up : T.Answer) (came : Option (Asked × Message))
        → Left (E.Incoming now from bytes up came ∷ calls) → Under (E.Incoming now from bytes up came ∷ calls)
    incoming from bytes up came left =
        let a = arrived from bytes up came left in
        subst (So begin) (sym (append_assoc (replying from (id_in up) (P.reject_by up))
        (asked now (T.Receive from bytes) up ∷ []) (W.lower_of calls)))
        (rejecting begin from now bytes up (W.lower_of calls) a.mid a.new a.before a.step so (P.reject_by up) refl)

    -- where a request is handed up, nothing is rejected
    pub plain : (from : Endpoint) (bytes : List ℕ) (up : T.Answer) (a : Asked) (m : Message) → Came from up a m
        → replying from (id_in up) (P.reject_by up)
        ++ asked now (T.Receive from bytes) up ∷ [] ≡ asked now (T.Receive from bytes) up ∷ []
    plain from bytes up a m c = ap (λ o. replying from (id_in up) o ++ asked now (T.Receive from bytes) up ∷ [])
        (ap P.reject_by c.up_is)

    pub answered : (from : Endpoint) (bytes : List ℕ) (up : T.Answer) (p : Asked × Message) (r : E.Response)
        (below : T.Answer) → W.AnswererLaw (E.Answers p.0 r below ∷ E.Incoming now from bytes up (Some p) ∷ calls)
        → Left (E.Incoming now from bytes up (Some p) ∷ calls)
        → Under (E.Answers p.0 r below ∷ E.Incoming now from bytes up (Some p) ∷ calls)
    answered from bytes up p r below law left =
        let a = arrived from bytes up (Some p) left in
        let c : Came from up p.0 p.1 = came_by from up p.0 p.1 law.1.0 in
        let s : E.Own = W.own_of (E.Incoming now from bytes up (Some p) ∷ calls) in
        subst (λ l. So begin (asked s.clock (P.answering s p.0.kind p.0 r) below ∷ (l ++ W.lower_of calls)))
        (sym (plain from bytes up p.0 p.1 c))
        (piggybacked begin from now bytes up (W.lower_of calls) a.mid a.new a.before a.step so s p.0 p.1 r below c
        law.0.1 p.0.kind refl)

    pub deferred : (from : Endpoint) (bytes : List ℕ) (up : T.Answer) (p : Asked × Message) (delay : ℕ) (answer : Bool)
        → W.AnswererLaw (E.Defers now p.0 delay answer ∷ E.Incoming now from bytes up (Some p) ∷ calls)
        → Left (E.Incoming now from bytes up (Some p) ∷ calls)
        → Under (E.Defers now p.0 delay answer ∷ E.Incoming now from bytes up (Some p) ∷ calls)
    deferred from bytes up p delay answer law left =
        let a = arrived from bytes up (Some p) left in
        let c : Came from up p.0 p.1 = came_by from up p.0 p.1 law.1.0 in
        let s : E.Own = W.own_of (E.Incoming now from bytes up (Some p) ∷ calls) in
        let d : Bool = P.may_defer s.deferred in
        let pass : G.Asked = asked now T.Pass T.Nothing in
        subst (λ l. So begin ((P.deferring d p.0 ++ pass ∷ []) ++ (l ++ W.lower_of calls)))
        (sym (plain from bytes up p.0 p.1 c))
        (subst (So begin) (sym (append_assoc (P.deferring d p.0) (pass ∷ [])
        (asked now (T.Receive from bytes) up ∷ W.lower_of calls)))
        (acknowledged begin from now bytes up (W.lower_of calls) a.mid a.new a.before a.step so p.0 p.1 c law.0.1 d))
