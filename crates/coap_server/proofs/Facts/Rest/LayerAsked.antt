-- What asking a message layer at one moment leaves of its clock, and of the steps that are due.
use Rattle.std.proofs.Common.{◌≡◌, ◌≤◌, ◌<◌, ℕ, zero, suc, max, Bool, true, false, Option, Some, None, List, [], ◌∷◌}
use Rattle.std.proofs.Common.{◌++◌, refl, sym, subst, ◌∙◌, arith}
use Rattle.coap_types.specs.declared.endpoint.Endpoint.{Endpoint}
use Rattle.coap_layer.specs.Machine.State as S
use Rattle.coap_layer.specs.Machine.Steps.{Asked, Steps, left_after}
use Rattle.coap_layer.specs.Trace as L
use Rattle.coap_layer.specs.declared.setup.Setup.{Setup}
use Rattle.coap_observe.specs.Observers.{Observer}
use Rattle.coap_exchange.specs.declared.separate.Deferred.{Deferred}
use Rattle.coap_exchange.specs.AnswererTrace as E
use Rattle.coap_exchange.specs.AnswererSteps as P
use Rattle.coap_exchange.specs.AnswererLaw as W
use Rattle.coap_exchange.specs.AskerRequests.{asked}
use Rattle.coap_exchange.specs.StepsDue.{due_count}
use Rattle.coap_exchange.proofs.Facts.LastStep.{last_step}
use Rattle.coap_exchange.proofs.Facts.StepsDue.{is_step, ticks_least, ticks_fewer, room_same}
use Rattle.coap_server.specs.Notifying.{readies}
use Rattle.coap_server.proofs.Facts.Exact.Asked.{joined, back}

-- a tick, and a room before it
module _ (setup : Setup) (at : ℕ) (rest : List Asked) (below : L.Answer) where
  abbrev begin : S.State
  begin = left_after (S.start setup) rest

  abbrev moment : ℕ
  moment = max begin.clock at

  abbrev pub asking : Option Deferred → Bool → List Asked
  asking o room = (P.asking_room at o room ++ asked at L.Ticks below ∷ []) ++ rest

  pub record Asks (o : Option Deferred) (room : Bool) : Type 0 where
    pub clock : max (left_after (S.start setup) (asking o room)).clock at ≡ moment
    pub least : due_count moment (left_after (S.start setup) (asking o room)).open_cons
        ≤ due_count moment begin.open_cons
    pub fewer : is_step below ≡ true → due_count moment
        (left_after (S.start setup) (asking o room)).open_cons < due_count moment begin.open_cons

  ticks : (new : S.State) (room : Bool) → Steps (S.start setup) (asking None room) new → Asks None room
  ticks new room h =
      let step = last_step (S.start setup) new (asked at L.Ticks below) rest h in
      record {
        clock = omega arith;
        least = ticks_least begin _ at below step;
        fewer = λ is. ticks_fewer begin _ at below step is;
      }

  pub asks : (new : S.State) (o : Option Deferred) (room : Bool) → Steps (S.start setup) (asking o room) new
      → Asks o room
  asks new None room h = ticks new room h
  asks new (Some d) room h =
      let k = ticks h.0 room h.1 in
      let step = last_step (S.start setup) new (asked at (L.Room d.asked.from) (L.Is room))
      (asking None room) h in
      let same = room_same _ _ at d.asked.from (L.Is room) step in
      let first = k.least in
      let clock = k.clock in
      record {
        clock = omega (arith, clock);
        least = subst (λ cs. due_count moment cs ≤ due_count moment begin.open_cons) (sym same) first;
        fewer = λ is. subst (λ cs. due_count moment cs < due_count moment begin.open_cons) (sym same) (k.fewer is);
      }

-- what calls of the exchanges leave of the layer
abbrev pub behind_calls : Setup → List E.Call → S.State
behind_calls setup calls = left_after (S.start setup) (W.lower_of calls)

-- rooms that are asked for
module _ (setup : Setup) (at : ℕ) where
  pub record Rooms (before after : S.State) : Type 0 where
    pub opens : after.open_cons ≡ before.open_cons
    pub clock : max after.clock at ≡ max before.clock at

  one_room : (to : Endpoint) (b : Bool) (calls : List E.Call) → W.ResponseLaw setup (E.Ready at to b ∷ calls)
      → Rooms (behind_calls setup calls) (behind_calls setup (E.Ready at to b ∷ calls))
  one_room to b calls law =
      let step = last_step (S.start setup) law.left (asked at (L.Room to) (L.Is b))
      (W.lower_of calls) law.layer in
      record { opens = room_same _ _ at to (L.Is b) step; clock = omega arith }

  more_rooms : (a b c : S.State) → Rooms a b → Rooms b c → Rooms a c
  more_rooms a b c x y = record { opens = y.opens ∙ x.opens; clock = y.clock ∙ x.clock }

  pub rooms : (n : ℕ) (os : List Observer) (calls : List E.Call) → W.ResponseLaw setup (readies at n os ++ calls)
      → Rooms (behind_calls setup calls) (behind_calls setup (readies at n os ++ calls))
  rooms n [] calls law = record { opens = refl; clock = refl }
  rooms zero (o ∷ os) calls law = one_room o.to true calls law
  rooms (suc n) (o ∷ os) calls law =
      let ready : E.Call = E.Ready at o.to false in
      let e = joined (readies at n os) ready calls in
      let later = subst (W.ResponseLaw setup) e law in
      let first = one_room o.to false calls (back setup (readies at n os) (ready ∷ calls) later) in
      subst (λ z. Rooms (behind_calls setup calls) (behind_calls setup z)) (sym e)
      (more_rooms (behind_calls setup calls) (behind_calls setup (ready ∷ calls))
      (behind_calls setup (readies at n os ++ ready ∷ calls)) first (rooms n os (ready ∷ calls) later))
