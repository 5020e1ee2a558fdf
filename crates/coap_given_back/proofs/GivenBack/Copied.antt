-- A copy of a request goes out soon behind the beginning of its exchange, or behind that from which its client keeps
-- up.
use Rattle.std.proofs.Common.{◌≡◌, ◌≤◌, ◌<◌, ℕ, ◌+◌, max, Bool, true, false, cond, Option, Some, None, List}
use Rattle.std.proofs.Common.{[], ◌∷◌, ◌++◌, refl, ap, subst, ◌∙◌, arith, Result}
use Rattle.coap_types.specs.declared.endpoint.Endpoint.{Endpoint}
use Rattle.coap_types.specs.declared.endpoint.Moment.{Moment}
use Rattle.coap_layer.specs.Machine.State as S
use Rattle.coap_layer.specs.Trace as L
use Rattle.coap_layer.specs.declared.setup.Setup.{Setup}
use Rattle.coap_block.specs.Sizes.{Sizes}
use Rattle.coap_exchange.specs.declared.asker.AskRefusal.{AskRefusal}
use Rattle.coap_exchange.specs.declared.asker.Event.TheVariants as event
use Rattle.coap_exchange.specs.declared.asker.Exchange.{Exchange}
use Rattle.coap_exchange.specs.declared.asker.Turn.TheVariants as turn_is
use Rattle.coap_exchange.specs.AskerArrivals.{turn_of, has_waited, acked_in}
use Rattle.coap_exchange.specs.AskerFollows.{last_begun}
use Rattle.coap_exchange.specs.AskerDue.{last_acked}
use Rattle.coap_exchange.specs.AskerLaw as X
use Rattle.coap_exchange.specs.AskerTrace as E
use Rattle.coap_exchange.specs.Machine.Outstanding.{Lone}
use Rattle.coap_exchange.proofs.Facts.ClientSide.{server_is, when_due, exchange_back}
use Rattle.coap_exchange.proofs.Facts.Exchanges.{fits}
use Rattle.coap_client.specs.Trace.{Call, Ticks}
use Rattle.coap_client.specs.Effects.{Effect}
use Rattle.coap_client.specs.Deeds.{close, deeds, effect}
use Rattle.coap_client.specs.Own.{Operation}
use Rattle.coap_client.specs.Law.{ClientLaw, own_of, lower_of}
use Rattle.coap_client.proofs.Facts.Places.Once.{known, beneath}
use Rattle.coap_client.proofs.Facts.Places.PlaceEffects.{Linked}
use Rattle.coap_client.proofs.Facts.Turning.Leading.{client_back}
use Rattle.coap_client_laws.proofs.Facts.Exchanges.{open_runs}
use Rattle.coap_client_laws.specs.Follows.Open.{IsOpenSince}
use Rattle.coap_given_back.specs.KeepsUp as client
use Rattle.coap_given_back.proofs.Young.AckedOnce.{heard_open}
use Rattle.coap_given_back.proofs.Young.AskerYoung.{soon_unheard}
use Rattle.coap_given_back.proofs.Young.Beneath.{laid_out, keeps_up}

module _ (server : Endpoint) (setup : Setup) where
  idle_no_copy : (b : Bool) → turn_is.Copied ≡ cond b (turn_is.End event.NoResponse) turn_is.Idle → ⊥
  idle_no_copy true h = cc h
  idle_no_copy false h = cc h

  copied_none : (u : List E.Call) (m : ℕ) (below : L.Answer)
      → X.ExchangeLaw server setup (E.Ticks m below turn_is.Copied ∷ u) → (x : Exchange)
      → (X.own_of server setup u).running ≡ Some x → (a : Moment) → x.acked ≡ Some a → ⊥
  copied_none u m below law x runs a is =
      let s : E.Own = X.own_of server setup u in
      let steps = law.layer in
      let old = fits server setup u law.rows.1 steps.0 steps.1 in
      let none : (steps.0).open_cons ≡ [] = heard_open server setup x a (steps.0).open_cons (last_begun server setup u)
      is
      (subst (λ (o : Endpoint). Lone o (Some x) (last_begun server setup u) (steps.0).open_cons) (server_is server
      setup u)
      (subst (λ r. Lone s.server r (last_begun server setup u) (steps.0).open_cons) runs old.lone)) in
      let idle : below ≡ L.Idle = (steps.2).right ∙ ap (S.tick_of (max (steps.0).clock m)) none in
      idle_no_copy (has_waited (max s.clock m) (acked_in s.running))
      (law.rows.0 ∙ ap (turn_of s (max s.clock m)) idle)

  pub copied_unheard : (u : List E.Call) (m : ℕ) (below : L.Answer)
      → X.ExchangeLaw server setup (E.Ticks m below turn_is.Copied ∷ u) → (x : Exchange)
      → (X.own_of server setup u).running ≡ Some x → last_acked server setup u ≡ None
  copied_unheard u m below law x runs = by (last_acked server setup u) refl
    where
      due : x.acked ≡ last_acked server setup u
      due = (when_due server setup (E.Ticks m below turn_is.Copied ∷ u) law.rows law.left law.layer).0.acked x runs

      by : (o : Option Moment) → last_acked server setup u ≡ o → last_acked server setup u ≡ None
      by None is = is
      by (Some a) is = absurd (copied_none u m below law x runs a (due ∙ is))

module _ (server : Endpoint) (sizes : Sizes) (setup : Setup) (t : List Call) (now w : ℕ) (below : L.Answer)
    (sent : L.Answer) (token : Result (List ℕ) AskRefusal) (kept answer : Bool)
    (law : ClientLaw server sizes setup (Ticks now w below turn_is.Copied sent token kept answer ∷ t))
    (late from_ : ℕ) (up : client.KeepsUp server sizes setup late from_
    (client.clock server sizes setup (Ticks now w below turn_is.Copied sent token kept answer ∷ t)) t)
    (later : client.clock server sizes setup t ≤ client.clock server sizes setup
    (Ticks now w below turn_is.Copied sent token kept answer ∷ t)) where
  abbrev c : Call
  c = Ticks now w below turn_is.Copied sent token kept answer

  abbrev m : ℕ
  m = max (own_of sizes t).clock now

  abbrev input : E.Call
  input = E.Ticks m below turn_is.Copied

  under : X.ExchangeLaw server setup (input ∷ lower_of sizes t)
  under =
      let e : Effect = effect (own_of sizes t) c in
      let first : List E.Call = deeds e.deed e.own m w sent token kept in
      let then : List E.Call = deeds (close m e token).deed (close m e token).own m w sent token kept in
      exchange_back server setup first (input ∷ lower_of sizes t)
      (exchange_back server setup then (first ++ (input ∷ lower_of sizes t))
      (subst (X.ExchangeLaw server setup) (laid_out server sizes setup late e m w sent token kept input (lower_of sizes
      t))
      law.exchanges))

  before : ClientLaw server sizes setup t
  before = client_back server sizes setup (c ∷ []) t law

  pub copied_soon : (op : Operation) → (own_of sizes t).running ≡ Some op
      → (since : ℕ) × IsOpenSince sizes since t × (client.clock server sizes setup (c ∷ t) < max from_ since + 93000 +
      late)
  copied_soon op runs =
      let k = known server sizes setup t before.rows before.exchanges.rows in
      let l : Linked (Some op) (own_of sizes t).observations (beneath server sizes setup t).running =
      subst (λ o. Linked o (own_of sizes t).observations (beneath server sizes setup t).running) runs k.linked in
      let o = (open_runs server sizes setup t before).is_open l.0 l.1 in
      let r = o.2 in
      let unheard = copied_unheard server setup (lower_of sizes t) m below under l.0 l.1 in
      let soon = soon_unheard server setup late from_ (client.clock server sizes setup (c ∷ t)) (lower_of sizes t)
      before.exchanges.rows l.0 l.1 unheard r.begun r.last_begun
      (keeps_up server sizes setup late from_ (client.clock server sizes setup (c ∷ t)) t later up) in
      let moment = r.moment in
      (o.0, o.1, omega (arith, soon, moment))
