-- What is asked of the exchanges has one answer, whatever was said of a room that was not asked for.
use Rattle.std.proofs.Common.{◌≡◌, ℕ, zero, suc, Bool, true, false, Option, Some, None, List, [], ◌∷◌, ◌++◌, refl, ap}
use Rattle.std.proofs.Common.{sym, subst, ◌∙◌}
use Rattle.coap_layer.specs.Machine.State as S
use Rattle.coap_layer.specs.Machine.Steps as G
use Rattle.coap_layer.specs.Machine.Steps.{Steps}
use Rattle.coap_layer.specs.Trace as L
use Rattle.coap_observe.specs.Observers.{Observer}
use Rattle.coap_exchange.specs.declared.answerer.Due.{Due}
use Rattle.coap_exchange.specs.declared.separate.Deferred.{Deferred}
use Rattle.coap_exchange.specs.AskerRequests.{asked}
use Rattle.coap_exchange.specs.AnswererTrace as E
use Rattle.coap_exchange.specs.AnswererSteps as P
use Rattle.coap_exchange.specs.AnswererLaw as W
use Rattle.coap_exchange.specs.AnswererLaw.{AnswererLaw, ResponseLaw}
use Rattle.coap_exchange.proofs.Facts.ServerSide.{exact}
use Rattle.coap_layer.proofs.Facts.StepsOfLayer.{one_left, one_answer}
use Rattle.coap_layer.proofs.Facts.StepsOfLayer.{steps_split}
use Rattle.coap_layer.specs.declared.setup.Setup.{Setup}
use Rattle.coap_server.specs.Notifying.{behind, readies}

pub joined : (xs : List E.Call) (c : E.Call) (calls : List E.Call) → (xs ++ c ∷ []) ++ calls ≡ xs ++ c ∷ calls
joined [] c calls = refl
joined (x ∷ xs) c calls = ap (λ z. x ∷ z) (joined xs c calls)

module _ (setup : Setup) where
  pub one_back : (c : E.Call) (calls : List E.Call) → ResponseLaw setup (c ∷ calls) → ResponseLaw setup calls
  one_back c calls law =
      let k = steps_split (S.start setup) law.left (P.lower (W.own_of calls) c) (W.lower_of calls) law.layer in
      record { rows = law.rows.1; left = k.0; layer = k.1 }

  pub back : (xs calls : List E.Call) → ResponseLaw setup (xs ++ calls) → ResponseLaw setup calls
  back [] calls law = law
  back (x ∷ xs) calls law = back xs calls (one_back x (xs ++ calls) law)

  -- which observer can be notified
  abbrev ready : ℕ → Observer → Bool → E.Call
  ready at o may = E.Ready at o.to may

  apart : (at : ℕ) (o : Observer) (n : ℕ) (os : List Observer) (calls : List E.Call)
      → ResponseLaw setup (ready at o true ∷ calls)
      → ResponseLaw setup ((readies at n os ++ ready at o false ∷ []) ++ calls) → ⊥
  apart at o n os calls p q =
      let other = back (readies at n os) (ready at o false ∷ calls)
      (subst (ResponseLaw setup) (joined (readies at n os) (ready at o false) calls) q) in
      let e : true ≡ false = (exact setup calls).ready at o.to true false p other in cc e

  pub found : (at : ℕ) (os : List Observer) (n k : ℕ) (calls : List E.Call)
      → ResponseLaw setup (readies at n os ++ calls) → ResponseLaw setup (readies at k os ++ calls)
      → (behind n os ≡ behind k os) × (readies at n os ≡ readies at k os)
  found at [] n k calls p q = (refl, refl)
  found at (o ∷ os) zero zero calls p q = (refl, refl)
  found at (o ∷ os) zero (suc k) calls p q = absurd (apart at o k os calls p q)
  found at (o ∷ os) (suc n) zero calls p q = absurd (apart at o n os calls q p)
  found at (o ∷ os) (suc n) (suc k) calls p q =
      let e = found at os n k (ready at o false ∷ calls)
      (subst (ResponseLaw setup) (joined (readies at n os) (ready at o false) calls) p)
      (subst (ResponseLaw setup) (joined (readies at k os) (ready at o false) calls) q) in
      (e.0, ap (λ z. z ++ ready at o false ∷ []) e.1)

  -- a tick, and what is asked then
  module _ (at : ℕ) (below : L.Answer) (d : Due) (calls : List E.Call) where
    abbrev pub ticked : Bool → List E.Call
    ticked room = E.Ticks at below room d ∷ calls

    abbrev tick : List G.Asked
    tick = asked at L.Ticks below ∷ []

    abbrev before : List G.Asked
    before = W.lower_of calls

    -- whether there is room, where that is asked
    rooms_alike : (o : Option Deferred) (room space : Bool) (left other : S.State)
        → Steps (S.start setup) ((P.asking_room at o room ++ tick) ++ before) left
        → Steps (S.start setup) ((P.asking_room at o space ++ tick) ++ before) other
        → P.asking_room at o room ≡ P.asking_room at o space
    rooms_alike None room space left other p q = refl
    rooms_alike (Some x) room space left other p q =
        let c = steps_split (S.start setup) left (P.asking_room at (Some x) room ++ tick) before p in
        let e = steps_split (S.start setup) other (P.asking_room at (Some x) space ++ tick) before q in
        let f = steps_split c.0 left (P.asking_room at (Some x) room) tick c.2 in
        let g = steps_split e.0 other (P.asking_room at (Some x) space) tick e.2 in
        let first : c.0 ≡ e.0 = one_left (S.start setup) before c.0 e.0 c.1 e.1 in
        let after : f.0 ≡ g.0 = one_left c.0 tick f.0 g.0 f.1 (subst (λ z. Steps z tick g.0) (sym first) g.1) in
        let same = one_answer f.2.0 g.2.0 left other at (L.Room x.asked.from) (L.Is room) (L.Is space)
        (f.2.1 ∙ (after ∙ sym g.2.1)) f.2.2 g.2.2 in
        ap (λ z. asked at (L.Room x.asked.from) z ∷ []) same

    ticks_alike : (room space : Bool) → ResponseLaw setup (ticked room) → ResponseLaw setup (ticked space)
        → W.lower_of (ticked room) ≡ W.lower_of (ticked space)
    ticks_alike room space p q = ap (λ z. (z ++ tick) ++ before)
        (rooms_alike (P.ready_if below (P.ready_at (W.own_of calls) at)) room space p.left q.left p.layer q.layer)

    own_same : (xs : List E.Call) (room space : Bool) → W.own_of (xs ++ ticked room) ≡ W.own_of (xs ++ ticked space)
    own_same [] room space = refl
    own_same (x ∷ xs) room space = ap (λ s. P.after s x) (own_same xs room space)

    pub lower_same : (xs : List E.Call) (room space : Bool) → ResponseLaw setup (ticked room)
        → ResponseLaw setup (ticked space) → W.lower_of (xs ++ ticked room) ≡ W.lower_of (xs ++ ticked space)
    lower_same [] room space p q = ticks_alike room space p q
    lower_same (x ∷ xs) room space p q =
        ap (λ s. P.lower s x ++ W.lower_of (xs ++ ticked room)) (own_same xs room space)
        ∙ ap (λ z. P.lower (W.own_of (xs ++ ticked space)) x ++ z) (lower_same xs room space p q)

    rows_moved : (xs : List E.Call) (room space : Bool) → AnswererLaw (ticked room) → AnswererLaw (xs ++ ticked space)
        → AnswererLaw (xs ++ ticked room)
    rows_moved [] room space p q = p
    rows_moved (x ∷ xs) room space p q = (
      subst (λ s. P.IsRight s x) (sym (own_same xs room space)) q.0,
      rows_moved xs room space p q.1,
    )

    pub moved : (xs : List E.Call) (room space : Bool) → ResponseLaw setup (ticked room)
        → ResponseLaw setup (xs ++ ticked space) → ResponseLaw setup (xs ++ ticked room)
    moved xs room space p q =
        record {
          rows = rows_moved xs room space p.rows q.rows;
          left = q.left;
          layer = subst (λ z. Steps (S.start setup) z q.left)
              (sym (lower_same xs room space p (back xs (ticked space) q))) q.layer;
        }
