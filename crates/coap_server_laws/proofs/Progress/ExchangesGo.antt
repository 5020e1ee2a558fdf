-- What stands in the law of a server's exchanges goes on: with a deferral that finds no place, and with notifications.
use Rattle.std.proofs.Common.{◌≡◌, inl, ℕ, max, suc, Bool, true, false, ◌&&◌, not, Some, List, [], ◌∷◌, ◌++◌, refl, ap}
use Rattle.std.proofs.Common.{sym, subst, ◌∙◌, cond, arith}
use Rattle.std.proofs.lemmas.Bool.{and_parts}
use Rattle.coap_types.specs.declared.endpoint.Endpoint.{Endpoint}
use Rattle.coap_types.specs.declared.message.Kind.TheVariants.{Con}
use Rattle.coap_layer.specs.Machine.State as S
use Rattle.coap_layer.specs.Machine.State.{is_busy, is_free, sending}
use Rattle.coap_layer.specs.Machine.Steps.{Steps}
use Rattle.coap_layer.specs.Trace as L
use Rattle.coap_observe.specs.Observers.{Observer}
use Rattle.coap_exchange.specs.declared.answerer.Asked.{Asked}
use Rattle.coap_exchange.specs.AnswererTrace as E
use Rattle.coap_exchange.specs.AnswererSteps as P
use Rattle.coap_exchange.specs.AnswererLaw as W
use Rattle.coap_exchange.specs.AnswererLaw.{ResponseLaw}
use Rattle.coap_exchange.specs.AskerRequests.{asked}
use Rattle.coap_layer.proofs.Facts.CallsOfLayer.{left_same_nil}
use Rattle.coap_layer.specs.declared.setup.Setup.{Setup}
use Rattle.coap_server.specs.Notifying.{behind, readies}
use Rattle.coap_exchange.proofs.Facts.AskerGoing.{left_by, one_step}
use Rattle.coap_server_laws.proofs.Progress.AnswererGoing.{Takes, TakesCon}
use Rattle.coap_server.proofs.Facts.Exact.Asked.{joined}
use Rattle.std.proofs.lemmas.Bool.{not-true as not_true}

module _ (setup : Setup) (calls : List E.Call) (law : ResponseLaw setup calls) where
  abbrev own : E.Own
  own = W.own_of calls

  abbrev left : S.State
  left = law.left

  -- a deferral that finds no place: the request can be answered still
  pub record Refused (at : ℕ) (a : Asked) (delay : ℕ) : Type 0 where
    pub law_of : ResponseLaw setup (E.Defers at a delay false ∷ calls)
    pub can : Takes law_of.left (W.own_of (E.Defers at a delay false ∷ calls)).clock a

  pub defers_not : (at : ℕ) (a : Asked) (delay : ℕ) → own.pending ≡ Some a → a.kind ≡ Con
      → P.may_defer own.deferred ≡ false → Takes left own.clock a → Refused at a delay
  unfolding left_by
  defers_not at a delay pending con may can = record {
    law_of = record {
      rows = ((pending, con, sym may), law.rows);
      left = left_by left at L.Pass;
      layer = subst (λ b. Steps (S.start setup)
          ((P.deferring b a ++ asked at L.Pass L.Nothing ∷ []) ++ W.lower_of calls)
          (left_by left at L.Pass)) (sym may) (left, law.layer, one_step left at L.Pass tt);
    };
    can = record { awaits = can.awaits; kind = inl con; short = can.short };
  }

  -- whether an observer can be notified
  pub record IsAsked (at : ℕ) (to : Endpoint) : Type 0 where
    pub may : Bool
    pub law_of : ResponseLaw setup (E.Ready at to may ∷ calls)
    pub can : may ≡ true → TakesCon law_of.left at to

  pub asks : (at : ℕ) (to : Endpoint) → IsAsked at to
  unfolding left_by
  asks at to = record {
    may = not (is_busy to left.open_cons) && is_free (max left.clock at) left.upcoming left.last_used;
    law_of = record {
      rows = (tt, law.rows);
      left = left_by left at (L.Room to);
      layer = (left, law.layer, one_step left at (L.Room to) tt);
    };
    can = so;
  }
    where
      so : (not (is_busy to left.open_cons) && is_free (max left.clock at) left.upcoming left.last_used) ≡ true
          → TakesCon (left_by left at (L.Room to)) at to
      so may =
          let k = and_parts (not (is_busy to left.open_cons))
          (is_free (max left.clock at) left.upcoming left.last_used) may in
          let moment : max (max left.clock at) at ≡ max left.clock at = omega arith in
          let same : (left_by left at (L.Room to)).open_cons
          ≡ left.open_cons = left_same_nil (S.made left at (L.Room to)) (λ c. refl) left.open_cons in
          record {
            alone = ap (is_busy to) same ∙ not_true (is_busy to left.open_cons) k.0;
            free = ap (λ n. is_free n left.upcoming left.last_used) moment ∙ k.1;
          }

  -- a notification
  pub notifies : (at : ℕ) (to : Endpoint) (token : List ℕ) (r : E.Response) (w : ℕ) → P.IsResponseWith token r
      → TakesCon left at to → ResponseLaw setup (E.Notifies at to token r w left.upcoming ∷ calls)
  unfolding left_by
  notifies at to token r w response can =
      let call : L.Call = L.Confirm to (P.content_with token r) w in
      record {
        rows = (response, law.rows);
        left = left_by left at call;
        layer = (
          left,
          law.layer,
          record {
            may = response.spelled;
            right = sym (ap (λ b. cond b L.Busied (sending
                (is_free (max left.clock at) left.upcoming left.last_used) left.upcoming)) can.alone
                ∙ ap (λ b. sending b left.upcoming) can.free);
            new_is = refl;
          },
        );
      }

  pub notifies_plain : (at : ℕ) (to : Endpoint) (token : List ℕ) (r : E.Response) → P.IsResponseWith token r
      → TakesCon left at to → ResponseLaw setup (E.NotifiesPlain at to token r left.upcoming ∷ calls)
  unfolding left_by
  notifies_plain at to token r response can =
      let call : L.Call = L.Plain to (P.content_with token r) in
      record {
        rows = (response, law.rows);
        left = left_by left at call;
        layer = (
          left,
          law.layer,
          record {
            may = response.spelled;
            right = sym (ap (λ b. sending b left.upcoming) can.free);
            new_is = refl;
          },
        );
      }

-- the first that can be notified
module _ (setup : Setup) (at : ℕ) where
  pub record Walked (os : List Observer) (calls : List E.Call) : Type 0 where
    pub passed : ℕ
    pub law_of : ResponseLaw setup (readies at passed os ++ calls)
    pub can : (o : Observer) → behind passed os ≡ Some o → TakesCon law_of.left at o.to

  abbrev moved : {xs ys : List E.Call} → ResponseLaw setup xs → xs ≡ ys → ResponseLaw setup ys
  moved {xs} {ys} l e = record {
    rows = subst W.AnswererLaw e l.rows;
    left = l.left;
    layer = subst (λ z. Steps (S.start setup) (W.lower_of z) l.left) e l.layer;
  }

  passes : (o : Observer) (os : List Observer) (calls : List E.Call) → Walked os (E.Ready at o.to false ∷ calls)
      → Walked (o ∷ os) calls
  passes o os calls r = record {
    passed = suc r.passed;
    law_of = moved r.law_of (sym (joined (readies at r.passed os) (E.Ready at o.to false) calls));
    can = λ x h. r.can x h;
  }

  pub walks : (os : List Observer) (calls : List E.Call) → ResponseLaw setup calls → Walked os calls
  walks [] calls law = record { passed = 0; law_of = law; can = λ o e. absurd (cc e) }
  walks (o ∷ os) calls law = by k.may k.law_of k.can (λ next. walks os (E.Ready at o.to false ∷ calls) next)
    where
      k : IsAsked setup calls law at o.to
      k = asks setup calls law at o.to

      by : (b : Bool) → (next : ResponseLaw setup (E.Ready at o.to b ∷ calls)) → (b ≡ true → TakesCon next.left at o.to)
          → (ResponseLaw setup (E.Ready at o.to false ∷ calls) → Walked os (E.Ready at o.to false ∷ calls))
          → Walked (o ∷ os) calls
      by true next can more = record {
        passed = 0;
        law_of = next;
        can = λ x e. (let same : o ≡ x = cc e in subst (λ (y : Observer). TakesCon next.left at y.to) same (can refl));
      }
      by false next can more = passes o os calls (more next)
