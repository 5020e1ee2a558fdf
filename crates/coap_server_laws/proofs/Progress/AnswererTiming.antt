-- Time passes for the exchanges of a server (RFC 7252, sections 4.2 and 5.2.2).
use Rattle.std.proofs.Common.{◌≡◌, ℕ, max, Bool, true, false, ◌&&◌, not, Option, Some, None, List, [], ◌∷◌, ◌++◌, refl}
use Rattle.std.proofs.Common.{ap, sym, subst, ◌∙◌, arith}
use Rattle.coap_layer.specs.Machine.State as S
use Rattle.coap_layer.specs.Machine.State.{is_busy, is_free, sending, next_after, uses_after}
use Rattle.coap_layer.specs.Machine.Steps.{Steps}
use Rattle.coap_layer.specs.Trace as L
use Rattle.coap_layer.specs.Trace.{with_head}
use Rattle.coap_exchange.specs.declared.answerer.Asked.{Asked}
use Rattle.coap_exchange.specs.declared.answerer.Due.{Due}
use Rattle.coap_exchange.specs.declared.answerer.Due.TheVariants as due
use Rattle.coap_exchange.specs.declared.separate.Deferred.{Deferred}
use Rattle.coap_exchange.specs.AnswererTrace as E
use Rattle.coap_exchange.specs.AnswererSteps as P
use Rattle.coap_exchange.specs.AnswererLaw as W
use Rattle.coap_exchange.specs.AnswererLaw.{ResponseLaw}
use Rattle.coap_exchange.specs.AskerRequests.{asked}
use Rattle.coap_layer.proofs.Facts.StepsOfLayer.{steps_join}
use Rattle.std.proofs.lemmas.Bool.{and_parts}
use Rattle.coap_layer.proofs.Facts.CallsOfLayer.{left_same_nil}
use Rattle.coap_layer.specs.declared.setup.Setup.{Setup}
use Rattle.coap_exchange.proofs.Facts.AskerGoing.{left_by, answer_by, one_step}
use Rattle.coap_server.proofs.Facts.Serving.FoundReady.{found_ready}
use Rattle.coap_server_laws.proofs.Progress.AnswererGoing.{TakesCon}
use Rattle.std.proofs.lemmas.Bool.{not-true as not_true}

module _ (setup : Setup) (calls : List E.Call) (law : ResponseLaw setup calls) where
  abbrev own : E.Own
  own = W.own_of calls

  abbrev left : S.State
  left = law.left

  -- time passes
  module _ (at : ℕ) where
    abbrev below : L.Answer
    below = answer_by left at L.Ticks

    abbrev ticked : S.State
    ticked = left_by left at L.Ticks

    -- whether a CON can be sent
    record Rooms (o : Option Deferred) : Type 0 where
      room : Bool
      new : S.State
      steps : Steps ticked (P.asking_room at o room) new
      can : (d : Deferred) → o ≡ Some d → room ≡ true → TakesCon new at d.asked.from

    rooms : (o : Option Deferred) → Rooms o
    unfolding left_by
    rooms None = record { room = false; new = ticked; steps = refl; can = λ d h may. absurd (cc h) }
    rooms (Some d) = record {
      room = not (is_busy d.asked.from ticked.open_cons)
          && is_free (max ticked.clock at) ticked.upcoming ticked.last_used;
      new = left_by ticked at (L.Room d.asked.from);
      steps = (ticked, refl, one_step ticked at (L.Room d.asked.from) tt);
      can = λ x h may. (let same : d ≡ x = cc h in subst
          (λ (y : Deferred). TakesCon (left_by ticked at (L.Room d.asked.from)) at y.asked.from) same (so may));
    }
      where
        so : (not (is_busy d.asked.from ticked.open_cons)
            && is_free (max ticked.clock at) ticked.upcoming ticked.last_used) ≡ true
            → TakesCon (left_by ticked at (L.Room d.asked.from)) at d.asked.from
        so may =
            let k = and_parts (not (is_busy d.asked.from ticked.open_cons))
            (is_free (max ticked.clock at) ticked.upcoming ticked.last_used) may in
            let moment : max (max ticked.clock at) at ≡ max ticked.clock at = omega arith in
            let same : (left_by ticked at (L.Room d.asked.from)).open_cons
            ≡ ticked.open_cons = left_same_nil (S.made ticked at (L.Room d.asked.from))
            (λ c. refl) ticked.open_cons in
            record {
              alone = ap (is_busy d.asked.from) same ∙ not_true (is_busy d.asked.from ticked.open_cons) k.0;
              free = ap (λ n. is_free n ticked.upcoming ticked.last_used) moment ∙ k.1;
            }

    pub record TimePasses (answer : L.Answer) (room : Bool) (d : Due) : Type 0 where
      pub law_of : ResponseLaw setup (E.Ticks at answer room d ∷ calls)
      pub is_due : d ≡ P.due_of answer (P.ready_at own at) room
      pub can_respond : (a : Asked) → d ≡ due.Ready a → TakesCon law_of.left at a.from

    pub passes_time : (answer : L.Answer) × (room : Bool) × (d : Due) × TimePasses answer room d
    passes_time =
        let k = rooms (P.ready_if below (P.ready_at own at)) in
        let asks = P.asking_room at (P.ready_if below (P.ready_at own at)) k.room in
        let inner = steps_join left ticked k.new asks (asked at L.Ticks below ∷ [])
        (left, refl, one_step left at L.Ticks tt) k.steps in (
          below,
          k.room,
          P.due_of below (P.ready_at own at) k.room,
          record {
            law_of = record {
              rows = (refl, law.rows);
              left = k.new;
              layer = steps_join (S.start setup) left k.new (asks ++ asked at L.Ticks below ∷ [])
                  (W.lower_of calls) law.layer inner;
            };
            is_due = refl;
            can_respond = λ a is. by k.room k.can a is;
          },
        )
      where
        by : (room : Bool) → {new : S.State} → ((d : Deferred) → P.ready_if below (P.ready_at own at) ≡ Some d
            → room ≡ true → TakesCon new at d.asked.from)
            → (a : Asked) → P.due_of below (P.ready_at own at) room ≡ due.Ready a → TakesCon new at a.from
        by room {new} can a is =
            let f = found_ready below (P.ready_at own at) room a (sym is) in
            let found : P.ready_if below (P.ready_at own at)
            ≡ Some f.deferred = ap (λ u. P.ready_if u (P.ready_at own at)) f.idle ∙ f.first in
            let told : P.due_if (Some f.deferred) room ≡ due.Ready a =
            sym (ap (λ u. P.due_of u (P.ready_at own at) room) f.idle ∙ ap (λ o. P.due_if o room) f.first) ∙ is in
            subst (λ (x : Asked). TakesCon new at x.from) f.asked (can f.deferred found (so room f.deferred told))
          where
            so : (room : Bool) (d : Deferred) → P.due_if (Some d) room ≡ due.Ready a → room ≡ true
            so true d h = refl
            so false d h = absurd (cc h)
