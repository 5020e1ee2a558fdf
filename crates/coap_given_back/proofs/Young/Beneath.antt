-- A client that keeps up does so beneath, in the calls of its exchanges.
use Rattle.std.proofs.Common.{◌≡◌, inl, inr, ◌≤◌, ℕ, ◌+◌, max, Bool, true, false, Option, Some, None}
use Rattle.std.proofs.Common.{List, [], ◌∷◌, ◌++◌, refl, ap, sym, subst, ◌∙◌, arith, Result, Ok}
use Rattle.std.proofs.lemmas.List.{append_assoc}
use Rattle.coap_types.specs.Past.{Always}
use Rattle.coap_types.specs.declared.endpoint.Endpoint.{Endpoint}
use Rattle.coap_layer.specs.Trace as L
use Rattle.coap_layer.specs.declared.setup.Setup.{Setup}
use Rattle.coap_block.specs.Sizes.{Sizes}
use Rattle.coap_exchange.specs.declared.asker.AskRefusal.{AskRefusal}
use Rattle.coap_exchange.specs.declared.asker.Turn.{Turn}
use Rattle.coap_exchange.specs.declared.asker.Turn.TheVariants as turn_is
use Rattle.coap_exchange.specs.AskerLaw as X
use Rattle.coap_exchange.specs.AskerTrace as E
use Rattle.coap_client.specs.Trace.{Call, Calls, Observes, Cancels, Forgets, Feeds, Ticks, NextOut, NextReport, Asked}
use Rattle.coap_client.specs.Own.{Operation, Own, Observation}
use Rattle.coap_client.specs.Observations.{observation_of}
use Rattle.coap_client.specs.Observing.{releases}
use Rattle.coap_client.specs.Effects.{Deed, Rests, Asks, Keeps, Releases, Effect}
use Rattle.coap_client.specs.Deeds.{close, deeds, done_for, effect, forgets}
use Rattle.coap_client.specs.Law.{ClientLaw, own_of, lower_of}
use Rattle.coap_client_laws.specs.Follows.Clock.{moment_of}
use Rattle.coap_client_laws.proofs.Facts.Exchanges.{open_runs}
use Rattle.coap_client_laws.proofs.Facts.Laws.{clock_is}
use Rattle.coap_client_laws.proofs.Rest.Resting.{clocks, rested}
use Rattle.coap_given_back.specs.AskerYoung as asker
use Rattle.coap_given_back.specs.AskerYoung.{longest_exchange}
use Rattle.coap_given_back.specs.KeepsUp as client
use Rattle.coap_given_back.specs.KeepsUp.{has_moment}
use Rattle.coap_given_back.proofs.Young.AskerYoung.{are_young}

module _ (server : Endpoint) (sizes : Sizes) (setup : Setup) (late : ℕ) where
  abbrev clock : List Call → ℕ
  clock t = client.clock server sizes setup t

  -- the clock doesn't fall
  not_before : (s : Own) (c : Call) → s.clock ≤ moment_of s c
  not_before s (Calls now r answer) = omega arith
  not_before s (Observes now path answer) = omega arith
  not_before s (Cancels now number answer) = omega arith
  not_before s (Feeds now from bytes word up settled event sent token kept) = omega arith
  not_before s (Ticks now word below t sent token kept answer) = omega arith
  not_before s _ = omega arith

  pub rises : (t : List Call) (c : Call) → clock t ≤ clock (c ∷ t)
  rises t c =
      let is = clock_is (own_of sizes t) c in
      let k = not_before (own_of sizes t) c in
      omega (arith, is, k)

  -- a tick that does nothing is one beneath

  module _ (at_ next : ℕ) where
    rests_here : (u : List E.Call) → asker.RestsBy server setup late at_ next u
        → asker.HasRested server setup late at_ next u
    rests_here [] r = r
    rests_here (c ∷ u) r = inl r

    tick_beneath : (t : List Call) (now w : ℕ) (below : L.Answer) (turn : Turn) (sent : L.Answer)
        (token : Result (List ℕ) AskRefusal) (kept : Bool)
        → ClientLaw server sizes setup (Ticks now w below turn sent token kept false ∷ t)
        → clock (Ticks now w below turn sent token kept false ∷ t) ≤ next
        → at_ ≤ clock (Ticks now w below turn sent token kept false ∷ t) + late
        → asker.RestsBy server setup late at_ next (lower_of sizes t)
    tick_beneath t now w below turn sent token kept law before soon =
        let m : ℕ = max (own_of sizes t).clock now in
        let r = rested server sizes setup t now w below turn sent token kept law.rows.0 in
        let lower_is : lower_of sizes (Ticks now w below turn sent token kept false ∷ t)
        ≡ E.Ticks m below turn ∷ lower_of sizes t =
        ap (λ e. done_for e m w sent token kept (E.Ticks m below turn) ++ lower_of sizes t) r.effect_is in
        let idle : E.Ticks m below turn ∷ lower_of sizes t ≡ E.Ticks m below turn_is.Idle ∷ lower_of sizes t =
        ap (λ u. E.Ticks m below u ∷ lower_of sizes t) r.idle_is in
        let is = clock_is (own_of sizes t) (Ticks now w below turn sent token kept false) in
        let k = clocks server sizes setup t in
        record {
          now = m;
          below = below;
          law = subst (X.ExchangeLaw server setup) (lower_is ∙ idle) law.exchanges;
          before = omega (arith, is, k, before);
          soon = omega (arith, is, k, soon);
        }

    pub rest_beneath : (t : List Call) → client.RestsBy server sizes setup late at_ next t
        → asker.RestsBy server setup late at_ next (lower_of sizes t)
    rest_beneath t r =
        let k = r.idle in
        let is = k.7 in
        tick_beneath t k.0 k.1 k.2 k.3 k.4 k.5 k.6
        (subst (λ d. ClientLaw server sizes setup (d ∷ t)) is r.law)
        (subst (λ d. clock (d ∷ t) ≤ next) is r.before)
        (subst (λ d. at_ ≤ clock (d ∷ t) + late) is r.soon)

  -- no matter what comes next, if it comes later
  put_off : (at_ : ℕ) (u : List E.Call) (m next : ℕ) → m ≤ next → asker.HasRested server setup late at_ m u
      → asker.HasRested server setup late at_ next u
  put_off at_ [] m next le r =
      (let a = r.before in record {
        now = r.now;
        below = r.below;
        law = r.law;
        before = omega (arith, a, le);
        soon =
            r.soon;
      })
  put_off at_ (c ∷ u) m next le (inl r) =
      inl (let a = r.before in record {
        now = r.now;
        below = r.below;
        law = r.law;
        before = omega (arith, a, le);
        soon
            = r.soon;
      })
  put_off at_ (E.Keep token answer ∷ u) m next le (inr h) = inr (put_off at_ u m next le h)
  put_off at_ (E.Release token answer ∷ u) m next le (inr h) = inr (put_off at_ u m next le h)
  put_off at_ (E.Take answer ∷ u) m next le (inr h) = inr (put_off at_ u m next le h)
  put_off at_ (E.Ask now r word below answer ∷ u) m next le (inr h) = inr h
  put_off at_ (E.Receive now from bytes up settled answer ∷ u) m next le (inr h) = inr h
  put_off at_ (E.Ticks now below answer ∷ u) m next le (inr h) = inr h

  behind : (at_ : ℕ) (es v : List E.Call) (next : ℕ) → ((n : ℕ) → asker.HasRested server setup late at_ n v)
      → asker.HasRested server setup late at_ next (es ++ v)
  behind at_ [] v next f = f next
  behind at_ (e ∷ es) v next f = inr (behind at_ es v _ f)

  quiet_behind : (at_ next : ℕ) (d : Deed) (o : Own) (m w : ℕ) (sent : L.Answer) (token : Result (List ℕ) AskRefusal)
      (kept : Bool) (u : List E.Call) → ((op : Operation) → d ≡ Asks op → ⊥)
      → asker.HasRested server setup late at_ next u
      → asker.HasRested server setup late at_ next (deeds d o m w sent token kept ++ u)
  quiet_behind at_ next Rests o m w sent token kept u f h = h
  quiet_behind at_ next (Asks op) o m w sent token kept u f h = absurd (f op refl)
  quiet_behind at_ next (Keeps k) o m w sent token kept u f h = inr h
  quiet_behind at_ next (Releases k) o m w sent token kept u f h = inr h

  forgets_none : (answer : Bool) (number : ℕ) (s : Own) (op : Operation) → forgets answer number s ≡ Asks op → ⊥
  forgets_none false number s op h = cc h
  forgets_none true number s op h = releases_none (observation_of number s.observations) op h
    where
      releases_none : (o : Option Observation) (q : Operation) → releases o ≡ Asks q → ⊥
      releases_none None q h = cc h
      releases_none (Some o) q h = cc h

  -- what an input makes, laid out
  pub laid_out : (e : Effect) (m w : ℕ) (sent : L.Answer) (token : Result (List ℕ) AskRefusal) (kept : Bool)
      (input : E.Call) (u : List E.Call)
      → done_for e m w sent token kept input ++ u
      ≡ deeds (close m e token).deed (close m e token).own m w sent token kept
      ++ (deeds e.deed e.own m w sent token kept ++ (input ∷ u))
  laid_out e m w sent token kept input u =
      let later : List E.Call = deeds (close m e token).deed (close m e token).own m w sent token kept in
      let first : List E.Call = deeds e.deed e.own m w sent token kept in
      append_assoc later (first ++ input ∷ []) u ∙ ap (λ l. later ++ l) (append_assoc first (input ∷ []) u)

  has_rested : (at_ : ℕ) (t : List Call) (next : ℕ) → clock t ≤ next
      → client.HasRested server sizes setup late at_ next t
      → asker.HasRested server setup late at_ next (lower_of sizes t)
  has_rested at_ [] next le r = rest_beneath at_ next [] r
  has_rested at_ (c ∷ t) next le (inl r) = rests_here at_ next (lower_of sizes (c ∷ t)) (rest_beneath at_ next (c ∷ t)
      r)
  has_rested at_ (Calls now r answer ∷ t) next le (inr h) =
      put_off at_ (lower_of sizes t) (clock (Calls now r answer ∷ t)) next le
      (has_rested at_ t (clock (Calls now r answer ∷ t)) (rises t (Calls now r answer)) h)
  has_rested at_ (Observes now path answer ∷ t) next le (inr h) =
      put_off at_ (lower_of sizes t) (clock (Observes now path answer ∷ t)) next le
      (has_rested at_ t (clock (Observes now path answer ∷ t)) (rises t (Observes now path answer)) h)
  has_rested at_ (Cancels now number answer ∷ t) next le (inr h) =
      put_off at_ (lower_of sizes t) (clock (Cancels now number answer ∷ t)) next le
      (has_rested at_ t (clock (Cancels now number answer ∷ t)) (rises t (Cancels now number answer)) h)
  has_rested at_ (Forgets number kept answer ∷ t) next le (inr h) =
      let up = rises t (Forgets number kept answer) in
      quiet_behind at_ next (forgets answer number (own_of sizes t)) (own_of sizes t) 0 0 L.Nothing (Ok []) kept
      (lower_of sizes t) (forgets_none answer number (own_of sizes t))
      (has_rested at_ t next (omega (arith, up, le)) h)
  has_rested at_ (NextOut answer ∷ t) next le (inr h) =
      inr (has_rested at_ t next le h)
  has_rested at_ (NextReport answer ∷ t) next le (inr h) = has_rested at_ t next le h
  has_rested at_ (Asked answer ∷ t) next le (inr h) = has_rested at_ t next le h
  has_rested at_ (Feeds now from bytes w up settled event sent token kept ∷ t) next le (inr h) =
      let c : Call = Feeds now from bytes w up settled event sent token kept in
      let m : ℕ = max (own_of sizes t).clock now in
      let e : Effect = effect (own_of sizes t) c in
      let input : E.Call = E.Receive m from bytes up settled event in
      let is = clock_is (own_of sizes t) c in
      let k = clocks server sizes setup t in
      let under = has_rested at_ t (clock (c ∷ t)) (rises t c) h in
      let there : asker.HasRested server setup late at_ (asker.clock server setup (input ∷ lower_of sizes t))
      (lower_of sizes t) = put_off at_ (lower_of sizes t) (clock (c ∷ t)) _ (omega (arith, is, k)) under in
      subst (asker.HasRested server setup late at_ next) (sym (laid_out e m w sent token kept input (lower_of sizes t)))
      (behind at_ (deeds (close m e token).deed (close m e token).own m w sent token kept)
      (deeds e.deed e.own m w sent token kept ++ (input ∷ lower_of sizes t)) next
      (λ n. behind at_ (deeds e.deed e.own m w sent token kept) (input ∷ lower_of sizes t) n (λ j. inr there)))
  has_rested at_ (Ticks now w below turn sent token kept answer ∷ t) next le (inr h) =
      let c : Call = Ticks now w below turn sent token kept answer in
      let m : ℕ = max (own_of sizes t).clock now in
      let e : Effect = effect (own_of sizes t) c in
      let input : E.Call = E.Ticks m below turn in
      let is = clock_is (own_of sizes t) c in
      let k = clocks server sizes setup t in
      let under = has_rested at_ t (clock (c ∷ t)) (rises t c) h in
      let there : asker.HasRested server setup late at_ (asker.clock server setup (input ∷ lower_of sizes t))
      (lower_of sizes t) = put_off at_ (lower_of sizes t) (clock (c ∷ t)) _ (omega (arith, is, k)) under in
      subst (asker.HasRested server setup late at_ next) (sym (laid_out e m w sent token kept input (lower_of sizes t)))
      (behind at_ (deeds (close m e token).deed (close m e token).own m w sent token kept)
      (deeds e.deed e.own m w sent token kept ++ (input ∷ lower_of sizes t)) next
      (λ n. behind at_ (deeds e.deed e.own m w sent token kept) (input ∷ lower_of sizes t) n (λ j. inr there)))

  -- what holds of each call beneath

  module _ (P : List E.Call → E.Call → Type 0) where
    record Lets (m : ℕ) : Type 0 where
      asks : (u : List E.Call) (r : E.Request) (w : ℕ) (sent : L.Answer) (token : Result (List ℕ) AskRefusal)
          → P u (E.Ask m r w sent token)
      keeps : (u : List E.Call) (token : List ℕ) (kept : Bool) → P u (E.Keep token kept)
      releases_it : (u : List E.Call) (token : List ℕ) (kept : Bool) → P u (E.Release token kept)
      takes : (u : List E.Call) (answer : Option L.Packet) → P u (E.Take answer)

    in_deeds : (d : Deed) (o : Own) (m w : ℕ) (sent : L.Answer) (token : Result (List ℕ) AskRefusal) (kept : Bool)
        (u : List E.Call) → Lets m → Always P u → Always P (deeds d o m w sent token kept ++ u)
    in_deeds Rests o m w sent token kept u l h = h
    in_deeds (Asks op) o m w sent token kept u l h = (l.asks u _ w sent token, h)
    in_deeds (Keeps k) o m w sent token kept u l h = (l.keeps u k kept, h)
    in_deeds (Releases k) o m w sent token kept u l h = (l.releases_it u k kept, h)

    in_input : (e : Effect) (m w : ℕ) (sent : L.Answer) (token : Result (List ℕ) AskRefusal) (kept : Bool)
        (input : E.Call) (u : List E.Call) → Lets m → P u input → Always P u
        → Always P (done_for e m w sent token kept input ++ u)
    in_input e m w sent token kept input u l here h =
        subst (Always P) (sym (laid_out e m w sent token kept input u))
        (in_deeds (close m e token).deed (close m e token).own m w sent token kept
        (deeds e.deed e.own m w sent token kept ++ (input ∷ u)) l
        (in_deeds e.deed e.own m w sent token kept (input ∷ u) l (here, h)))

  -- at each arrival

  abbrev UpThen : ℕ → List E.Call → E.Call → Type 0
  UpThen from_ u c = asker.IsArrival server setup c → from_ ≤ asker.clock server setup (c ∷ u)
      → asker.KeepsUp server setup late from_ (asker.clock server setup (c ∷ u)) u

  up_lets : (from_ m : ℕ) → Lets (UpThen from_) m
  up_lets from_ m = record {
    asks = λ u r w sent token h. absurd h;
    keeps = λ u token kept h. absurd h;
    releases_it = λ u token kept h. absurd h;
    takes = λ u answer h. absurd h;
  }

  pub keeps_up : (from_ at_ : ℕ) (t : List Call) → clock t ≤ at_ → client.KeepsUp server sizes setup late from_ at_ t
      → asker.KeepsUp server setup late from_ at_ (lower_of sizes t)
  keeps_up from_ at_ t le (inl h) = inl (has_rested at_ t at_ le h)
  keeps_up from_ at_ t le (inr near) = inr near

  pub keeps_up_since : (from_ : ℕ) (t : List Call) → client.KeepsUpSince server sizes setup late from_ t
      → asker.KeepsUpSince server setup late from_ (lower_of sizes t)
  keeps_up_since from_ [] h = tt
  keeps_up_since from_ (Calls now r answer ∷ t) h = keeps_up_since from_ t h.1
  keeps_up_since from_ (Observes now path answer ∷ t) h = keeps_up_since from_ t h.1
  keeps_up_since from_ (Cancels now number answer ∷ t) h = keeps_up_since from_ t h.1
  keeps_up_since from_ (Forgets number kept answer ∷ t) h =
      in_deeds (UpThen from_) (forgets answer number (own_of sizes t)) (own_of sizes t) 0 0 L.Nothing (Ok []) kept
      (lower_of sizes t) (up_lets from_ 0) (keeps_up_since from_ t h.1)
  keeps_up_since from_ (NextOut answer ∷ t) h = (λ k. absurd k, keeps_up_since from_ t h.1)
  keeps_up_since from_ (NextReport answer ∷ t) h = keeps_up_since from_ t h.1
  keeps_up_since from_ (Asked answer ∷ t) h = keeps_up_since from_ t h.1
  keeps_up_since from_ (Feeds now from bytes w up settled event sent token kept ∷ t) h =
      let c : Call = Feeds now from bytes w up settled event sent token kept in
      let m : ℕ = max (own_of sizes t).clock now in
      let is = clock_is (own_of sizes t) c in
      let k = clocks server sizes setup t in
      let same : clock (c ∷ t) ≡ asker.clock server setup (E.Receive m from bytes up settled event ∷ lower_of sizes t) =
      omega (arith, is, k) in
      in_input (UpThen from_) (effect (own_of sizes t) c) m w sent token kept (E.Receive m from bytes up settled event)
      (lower_of sizes t) (up_lets from_ m)
      (λ z. subst (λ n. from_ ≤ n → asker.KeepsUp server setup late from_ n (lower_of sizes t)) same
      (λ le. keeps_up from_ (clock (c ∷ t)) t (rises t c) (h.0 refl le))) (keeps_up_since from_ t h.1)
  keeps_up_since from_ (Ticks now w below turn sent token kept answer ∷ t) h =
      let c : Call = Ticks now w below turn sent token kept answer in
      let m : ℕ = max (own_of sizes t).clock now in
      in_input (UpThen from_) (effect (own_of sizes t) c) m w sent token kept (E.Ticks m below turn)
      (lower_of sizes t) (up_lets from_ m) (λ z. absurd z) (keeps_up_since from_ t h.1)

  pub young : (t : List Call) → ClientLaw server sizes setup t → client.AreYoung server sizes setup late t
  young t law from_ up since is at_ le k =
      let r = (open_runs server sizes setup t law).runs since is in
      let young_then = are_young server setup late (lower_of sizes t) law.exchanges from_ (keeps_up_since from_ t up)
      r.exchange r.begun r.runs r.last_begun at_ (keeps_up from_ at_ t le k) in
      let moment = r.moment in
      omega (arith, young_then, moment)
