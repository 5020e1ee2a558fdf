-- A tick of a client, and how an observation is forgotten, by what was done for them (RFC 7252, section 4.7; RFC 7641,
-- section 3.6).
use Rattle.std.proofs.Common.{◌≡◌, ℕ, max, Bool, true, false, not, ◌||◌, cond, List, [], ◌∷◌, ◌++◌, Result, Ok, Err}
use Rattle.std.proofs.Common.{filter, map, ap, ◌∙◌, subst, refl}
use Rattle.std.specs.Prelude.{◌==◌, IfOk, OnOk}
use Rattle.coap_layer.specs.Trace as L
use Rattle.coap_exchange.specs.declared.asker.AskRefusal.{AskRefusal}
use Rattle.coap_exchange.specs.declared.asker.Turn.{Turn}
use Rattle.coap_exchange.specs.AskerTrace as E
use Rattle.coap_exchange.specs.AskerLaw as X
use Rattle.coap_exchange.proofs.Facts.ClientSide.{exchanged_join}
use Rattle.coap_client.specs.Trace.{Ticks}
use Rattle.coap_client.specs.Own.{Own, clocked}
use Rattle.coap_client.specs.Effects.{Effect}
use Rattle.coap_client.specs.Events.{passes}
use Rattle.coap_client.specs.Steps.{asking, asks, is_idle, reporting}
use Rattle.coap_client.specs.Deeds.{at, close, deeds}
use Rattle.coap_client.specs.Led.{State, Step}
use Rattle.coap_client.specs.declared.client.report.CallId.{CallId}
use Rattle.coap_client.specs.declared.client.report.Report as R
use Rattle.coap_client.specs.Object.Happens.{Comes, left}
use Rattle.coap_client.specs.Object.Shown.{shown_reported}

-- what a tick did, and whether that is anything
abbrev DoesIt : Own → ℕ → Turn → Bool → Type 0
DoesIt s m turn did = did ≡ (not (is_idle turn) || asks (passes s m turn).deed)

abbrev Ticked : State → ℕ → ℕ → L.Answer → Turn → Bool → State → Type 0
Ticked old now word below turn did new = (sent : L.Answer) × (token : Result (List ℕ) AskRefusal) × (kept : Bool)
    × Step old (Ticks now word below turn sent token kept did) new

ticked : (old new : State) (mid : X.State) (now word : ℕ) (below : L.Answer) (turn : Turn) (did : Bool)
    → X.Step old.layer (E.Ticks (max old.own.clock now) below turn) mid
    → Comes mid (passes (at now old.own) (max old.own.clock now) turn) (max old.own.clock now) word new
    → DoesIt (at now old.own) (max old.own.clock now) turn did → Ticked old now word below turn did new
ticked old new mid now word below turn did step comes does =
    let m : ℕ = max old.own.clock now in
    let e : Effect = passes (at now old.own) m turn in
    let h = comes.happens in
    let c : Effect = close m e h.token in
    let input : E.Call = E.Ticks m below turn in
    let first : List E.Call = deeds e.deed e.own m word h.sent h.token h.kept in
    let last : List E.Call = deeds c.deed c.own m word h.sent h.token h.kept in (
      h.sent,
      h.token,
      h.kept,
      record {
        right = does;
        own_is = comes.own_is ∙ (ap (λ o. asking comes.asked o) h.own_is ∙ ap (λ r. asking r (reporting c)) h.asked_is);
        under = exchanged_join old.layer h.between new.layer last (first ++ input ∷ [])
            (exchanged_join old.layer mid h.between first (input ∷ []) (old.layer, refl, step) h.first) h.last;
      },
    )

-- .. at the moment that is handed down
pub ticked_by : (s : Own) (x mid : X.State) (new : State) (now m word : ℕ) (below : L.Answer) (turn : Turn) (did : Bool)
    → m ≡ max s.clock now → X.Step x (E.Ticks m below turn) mid → Comes mid (passes (clocked m s) m turn) m word new
    → DoesIt (clocked m s) m turn did
    → Ticked (left s x) now word below turn did new
ticked_by s x mid new now m word below turn did is step comes does =
    ticked (left s x) new mid now word below turn did (subst (λ k. X.Step x (E.Ticks k below turn) mid) is step)
    (subst (λ k. Comes mid (passes (clocked k s) k turn) k word new) is comes)
    (subst (λ k. DoesIt (clocked k s) k turn did) is does)

pub ok_both : {X Y P : Type 0} {Q R : X → Type 0} (r : Result X Y) → ((x : X) → P → Q x → R x) → OnOk r P → IfOk r Q
    → IfOk r R
ok_both (Ok x) f p q = f x p q
ok_both (Err y) f p q = tt

module _ {A : Type 0} where
  pub reports_left : (number : ℕ) (rs : List (CallId × R.Report A))
      → map shown_reported (filter (λ r. not (r.0.0 == number)) rs)
      ≡ filter (λ r. not (r.number == number)) (map shown_reported rs)
  reports_left number [] = refl
  reports_left number (r ∷ rs) = by (r.0.0 == number) (reports_left number rs)
    where
      by : (b : Bool) → map (shown_reported {A = A}) (filter (λ r. not (r.0.0 == number)) rs)
          ≡ filter (λ r. not (r.number == number)) (map (shown_reported {A = A}) rs)
          → map (shown_reported {A = A}) (cond (not b) (r ∷ filter (λ r. not (r.0.0 == number)) rs)
          (filter (λ r. not (r.0.0 == number)) rs))
          ≡ cond (not b) (shown_reported {A = A} r
          ∷ filter (λ r. not (r.number == number)) (map (shown_reported {A = A}) rs))
          (filter (λ r. not (r.number == number)) (map (shown_reported {A = A}) rs))
      by true h = h
      by false h = ap (λ l. shown_reported {A = A} r ∷ l) h

  pub reports_are : (number : ℕ) (rs new : List (CallId × R.Report A)) → new ≡ filter (λ r. not (r.0.0 == number)) rs
      → map shown_reported new ≡ filter (λ r. not (r.number == number)) (map shown_reported rs)
  reports_are number rs new is = ap (λ l. map (shown_reported {A = A}) l) is ∙ reports_left number rs
