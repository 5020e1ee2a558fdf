-- Where each exchange is young, none ends by NoResponse.
use Rattle.std.proofs.Common.{◌≡◌, ◌≢◌, ◌⊎◌, inl, inr, ◌<◌, ℕ, max, Bool, true, Option, Some, None}
use Rattle.std.proofs.Common.{List, [], ◌∷◌, ◌++◌, refl, ap, subst, ◌∙◌, arith, append_assoc, Result}
use Rattle.coap_types.specs.Past.{Always}
use Rattle.coap_types.proofs.Facts.Traces.{Always_back}
use Rattle.coap_types.specs.declared.endpoint.Endpoint.{Endpoint}
use Rattle.coap_layer.specs.Trace as L
use Rattle.coap_layer.specs.declared.setup.Setup.{Setup}
use Rattle.coap_block.specs.Sizes.{Sizes}
use Rattle.coap_exchange.specs.AskerFollows as A
use Rattle.coap_exchange.specs.AskerLaw as X
use Rattle.coap_exchange.specs.AskerTrace as E
use Rattle.coap_exchange.specs.Machine.ExchangeMoves.{token_in}
use Rattle.coap_exchange.specs.declared.asker.AskRefusal.{AskRefusal}
use Rattle.coap_exchange.specs.declared.asker.Event.{Event}
use Rattle.coap_exchange.specs.declared.asker.Event.TheVariants as event_is
use Rattle.coap_exchange.specs.declared.asker.Exchange.{Exchange}
use Rattle.coap_exchange.specs.declared.asker.Turn.TheVariants as turn_is
use Rattle.coap_exchange.proofs.Facts.ClientSide.{are_exchanges}
use Rattle.coap_exchange.proofs.Facts.Exchanges.{runs_it}
use Rattle.coap_client.specs.Deeds.{close, deeds, effect}
use Rattle.coap_client_laws.specs.Follows.Ends.{ends_as}
use Rattle.coap_client_laws.specs.Follows.Open.{IsOpenSince, AllEndInTime}
use Rattle.coap_client.specs.Law.{ClientLaw, own_of, lower_of}
use Rattle.coap_client.specs.Trace as C
use Rattle.coap_client.specs.Trace.{Report, Timeout, NoResponse}
use Rattle.coap_client_laws.proofs.Facts.Exchanges.{open_runs}
use Rattle.coap_client_laws.proofs.Facts.Laws.{back}
use Rattle.coap_record.specs.Events.{Config}
use Rattle.coap_smooth.specs.Young.{max_open}
use Rattle.coap_smooth.proofs.Smoothly.Answers.YoungCalls.{YoungAt}

some_in : (o : Option Exchange) (token : List ℕ) → token_in o ≡ Some token → (x : Exchange) × (o ≡ Some x)
some_in None token h = absurd (cc h)
some_in (Some x) token h = (x, refl)

pub at_input : {T : Type 0} (P : List T → T → Type 0) (later first : List T) (input : T) (rest : List T)
    → Always P ((later ++ (first ++ input ∷ [])) ++ rest) → Always P (input ∷ rest)
at_input P later first input rest h =
    Always_back P first (input ∷ rest) (Always_back P later (first ++ input ∷ rest)
    (subst (Always P) (append_assoc later (first ++ input ∷ []) rest
    ∙ ap (λ l. later ++ l) (append_assoc first (input ∷ []) rest)) h))

-- an end by time
abbrev pub IsLate : Report → Type 0
IsLate r = (r ≡ Timeout) ⊎ (r ≡ NoResponse)

module _ (server : Endpoint) (sizes : Sizes) (setup : Setup) where
  -- an exchange runs where one ends
  pub ends_running : (t : List E.Call) (c : E.Call) → Always A.Exchanges (c ∷ t) → X.AskerLaw server setup t
      → A.ends c ≡ true
      → (x : Exchange) × ((X.own_of server setup t).running ≡ Some x)
  ends_running t c all law ends =
      let k = all.0.of_open ends in
      some_in (X.own_of server setup t).running k.0 (runs_it server setup t law k.0 k.1)

  ticked : (t : List C.Call) (now w : ℕ) (below : L.Answer) (e : Event) (sent : L.Answer)
      (token : Result (List ℕ) AskRefusal) (kept answer : Bool)
      → ClientLaw server sizes setup (C.Ticks now w below (turn_is.End e) sent token kept answer ∷ t)
      → (at : ℕ) × IsOpenSince sizes at t
  ticked t now w below e sent token kept answer law =
      let c : C.Call = C.Ticks now w below (turn_is.End e) sent token kept answer in
      let m : ℕ = max (own_of sizes t).clock now in
      let f = effect (own_of sizes t) c in
      let old = back server sizes setup (c ∷ []) t law in
      let input : E.Call = E.Ticks m below (turn_is.End e) in
      let all = at_input A.Exchanges (deeds (close m f token).deed (close m f token).own m w sent token kept)
      (deeds f.deed f.own m w sent token kept) input (lower_of sizes t)
      (are_exchanges server setup (lower_of sizes (c ∷ t)) law.exchanges.rows) in
      let x = ends_running (lower_of sizes t) input all old.exchanges.rows refl in
      let k = (open_runs server sizes setup t old).is_open x.0 x.1 in
      (k.0, k.1)

  pub open_at_end : (t : List C.Call) (c : C.Call) → ClientLaw server sizes setup (c ∷ t) → (r : Report) → ends_as c
      ≡ Some r
      → IsLate r → (at : ℕ) × IsOpenSince sizes at t
  open_at_end t (C.Ticks now w below (turn_is.End e) sent token kept answer) law r is late =
      ticked t now w below e sent token kept answer law
  open_at_end t (C.Feeds now from bytes w up settled (Some event_is.Reset) sent token kept) law r is (inl late) =
      absurd (cc (is, late))
  open_at_end t (C.Feeds now from bytes w up settled (Some event_is.Reset) sent token kept) law r is (inr late) =
      absurd (cc (is, late))
  open_at_end t _ law r is late = absurd (cc is)

-- By calls at which each exchange that is open is young, none ends so.
module _ (config : Config) where
  -- for want of a response
  abbrev pub NotLate : List C.Call → C.Call → Type 0
  NotLate past c = ends_as c ≢ Some NoResponse

  abbrev Law : List C.Call → Type 0
  Law t = ClientLaw config.addresses.server config.client_sizes config.client_setup t

  pub never_late : max_open config < 247000 → (t : List C.Call) → Law t → AllEndInTime config.client_sizes t
      → Always (YoungAt config) t
      → Always NotLate t
  never_late short [] law in_time young = tt
  never_late short (c ∷ t) law in_time young = (
    λ is. (let k = open_at_end config.addresses.server config.client_sizes config.client_setup t c law NoResponse is
        (inr refl) in
        let late = (in_time.0 k.0 k.1).no_response is in
        let old = young.0.moment k.0 k.1 in
        absurd (omega (arith, late, old, short))),
    never_late short t (back config.addresses.server config.client_sizes config.client_setup (c ∷ []) t law) in_time.1
        young.1,
  )
