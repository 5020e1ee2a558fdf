-- What is reported in a run is not old by the client's clock: of calls that stand at instants, and so of a run.
use Rattle.std.proofs.Common.{◌≡◌, ◌⊎◌, inl, inr, ◌≤◌, ℕ, ◌+◌, Some, List, [], ◌∷◌, ◌++◌, length, refl, sym, subst}
use Rattle.std.proofs.Common.{arith}
use Rattle.coap_types.specs.Past.{Always, Sometime}
use Rattle.coap_types.specs.declared.message.Kind.{Kind}
use Rattle.coap_types.specs.declared.message.Kind.TheVariants.{Con, Non}
use Rattle.coap_types.specs.declared.transmission.TheConstants.{EXCHANGE_LIFETIME_MS as exchange_lifetime}
use Rattle.coap_types.specs.declared.transmission.TheConstants.{MAX_LATENCY_MS as max_latency}
use Rattle.coap_layer.specs.Channel.{near_of}
use Rattle.coap_layer.specs.Clocks as layers
use Rattle.coap_layer.specs.Clocks.{max_gain}
use Rattle.coap_layer.specs.Rows.{LayerLaw}
use Rattle.coap_layer.specs.Trace as L
use Rattle.coap_layer.specs.Words.{clock}
use Rattle.coap_layer.specs.declared.setup.Setup.{Setup}
use Rattle.coap_layer.proofs.Facts.Paced.{near_gap}
use Rattle.coap_client.specs.Law as client_law
use Rattle.coap_client.specs.Own.{Own}
use Rattle.coap_client.specs.Steps.{reports}
use Rattle.coap_client.specs.Trace as C
use Rattle.coap_client.specs.Trace.{Body, Reported, Valid, Value}
use Rattle.coap_client_laws.specs.Follows.Holds.{moment}
use Rattle.coap_server.specs.Law.{own_of}
use Rattle.coap_promise.specs.Clocks.{AreClocks, Clocks, of_layers}
use Rattle.coap_promise.specs.Fresh.{GainsAtMost, age_in}
use Rattle.coap_promise.specs.Held.{HeldSince, ValidSince, ValueSince}
use Rattle.coap_promise.specs.Hops.{client_adds, hops_in, server_adds}
use Rattle.coap_promise.specs.Words.{ReportsAt}
use Rattle.coap_promise.proofs.Age.ReportsYoung.{body_young, valid_young, value_young}
use Rattle.coap_promise.proofs.Age.Young.{And, Young, by_ack, by_open, by_own}
use Rattle.coap_promise.proofs.Facts.Delivery.ClientInTime as client
use Rattle.coap_promise.proofs.Facts.Delivery.HopsAreEntries.{near_far, near_near}
use Rattle.coap_promise.proofs.Facts.Observations.ToldThen.{moves}
use Rattle.coap_promise.proofs.Facts.Reports.FormatsSet.{FormatsIn}
use Rattle.coap_promise.proofs.Facts.Requests.OfACall.{Lawful, lawful_back}
use Rattle.coap_record.specs.Events.{Config}
use Rattle.coap_record.specs.Legal.{max_delivery}
use Rattle.coap_record.specs.Record.{Entry, OfClient, OfServer, client_of, server_trace}
use Rattle.coap_order.specs.Fresh.{AreFresh}
use Rattle.coap_order.specs.Run.{LegalRun, RunOf}
use Rattle.coap_order.proofs.Channel.{AllGo, ran, they_rise}
use Rattle.coap_order.proofs.Lawful.{all_go, clocks_are, formats, lawful, places}

-- each type's age is at most the greatest
at_most : (kind : Kind) → age_in kind ≤ exchange_lifetime
at_most Con = omega arith
at_most Non = omega arith
at_most kind = omega arith

-- a report is no earlier than the moment of its call
reports_then : (t : ℕ) (s : Own) (c : C.Call) (r : Reported) → reports s c ≡ Some r → client.IsAt t c → t ≤ moment s c
reports_then t s (C.Feeds now from bytes word up settled event sent token kept) r is at = omega (arith, at)
reports_then t s (C.Ticks now word below turn sent token kept answer) r is at = omega (arith, at)
reports_then t s _ r is at = absurd (cc is)

grows : (setup : Setup) (xs past : List L.Entry) → LayerLaw setup (xs ++ past) → clock past ≤ clock (xs ++ past)
grows setup [] past law = omega arith
grows setup (x ∷ xs) past law = let k = grows setup xs past law.1 in let l = law.0.time in omega (arith, k, l)

-- at some call, said of its instant too; and at each
abbrev pub SometimeAt : (ℕ → List Entry → Entry → Type 0) → List ℕ → List Entry → Type 0
SometimeAt P [] es = ⊥
SometimeAt P (n ∷ is) [] = ⊥
SometimeAt P (n ∷ is) (e ∷ past) = P n past e ⊎ SometimeAt P is past

abbrev pub AlwaysAt : (ℕ → List ℕ → List Entry → Entry → Type 0) → List ℕ → List Entry → Type 0
AlwaysAt P [] es = Unit {0}
AlwaysAt P (n ∷ is) [] = Unit {0}
AlwaysAt P (n ∷ is) (e ∷ past) = P n is past e × AlwaysAt P is past

sometime_at : (P Q : ℕ → List Entry → Entry → Type 0)
    → ((n : ℕ) (past : List Entry) (e : Entry) → P n past e → Q n past e) → (is : List ℕ) (es : List Entry)
    → SometimeAt P is es → SometimeAt Q is es
sometime_at P Q f [] es h = h
sometime_at P Q f (n ∷ is) [] h = h
sometime_at P Q f (n ∷ is) (e ∷ past) (inl h) = inl (f n past e h)
sometime_at P Q f (n ∷ is) (e ∷ past) (inr h) = inr (sometime_at P Q f is past h)

module _ (config : Config) where
  -- the client's layer comes further, and the server
  near_back : (e : Entry) (t : List Entry) → Lawful config (e ∷ t)
      → clock (near_of (hops_in config t)) ≤ clock (near_of (hops_in config (e ∷ t)))
  near_back (OfServer c) t law = subst (λ (l : List L.Entry). clock (near_of (hops_in config t)) ≤ clock l)
      (sym (near_far (server_adds config (server_trace config t) c) (hops_in config t))) (omega arith)
  near_back (OfClient c) t law =
      let is = near_near (client_adds config (client_of t) c) (hops_in config t) in
      subst (λ (l : List L.Entry). clock (near_of (hops_in config t)) ≤ clock l) (sym is)
      (grows config.client_setup (client_adds config (client_of t) c) (near_of (hops_in config t))
      (subst (LayerLaw config.client_setup) is law.channel.near_law))

  abbrev server_clock : List Entry → ℕ
  server_clock t = (own_of config.limits config.server_szx (server_trace config t)).clock

  module _ (k : Clocks) (clocks : AreClocks k) (two : config.addresses.client ≡ config.addresses.server → ⊥)
      (gain max_age : ℕ) (gains : GainsAtMost k gain) where
    abbrev c : layers.Clocks
    c = of_layers k

    young_age : (n when : ℕ) (past : List Entry) (e : Entry) → Lawful config (e ∷ past)
        → clock (near_of (hops_in config (e ∷ past))) ≤ k.client n → server_clock (e ∷ past) ≤ k.server n
        → Young config c gain max_age when past e → when ≤ k.client n + max_age
    young_age n when past e law near own (by_ack s enough first low late) =
        let b = near_back e past law in
        let l = late.late in
        let gained : k.client late.taken ≤ k.client late.given + max_latency + gain =
        gains late.given late.taken max_latency (omega arith) l in
        let shown = late.shown in
        let till = late.till in
        omega (arith, b, near, low, gained, shown, till, enough)
    young_age n when past e law near own (by_open s first low soon) =
        let b = near_back e past law in
        omega (arith, b, near, low, soon)
    young_age n when past e law near own (by_own s late enough short i shown le) =
        let gained : k.client i ≤ k.client n + late + gain = gains n i late short (omega (arith, le, own)) in
        omega (arith, gained, shown, enough)

    module _ (Was : List Entry → Entry → Type 0) where
      abbrev Within : ℕ → ℕ → List Entry → Entry → Type 0
      Within when m before x = Was before x × (when ≤ k.client m + max_age)

      age_at : (when : ℕ) (is : List ℕ) (es : List Entry) → AllGo config k max_delivery is es → Lawful config es
          → Sometime (And Was (Young config c gain max_age when)) es → SometimeAt (Within when) is es
      age_at when [] [] go law h = absurd h
      age_at when [] (x ∷ before) go law h = absurd go
      age_at when (m ∷ is) [] go law h = absurd h
      age_at when (m ∷ is) (x ∷ before) go law (inl h) =
          let by = (ran config k two (they_rise k clocks) max_delivery (m ∷ is) (x ∷ before) go).by m (omega arith) in
          inl (h.0, young_age m when before x law by.near_by by.server.own h.1)
      age_at when (m ∷ is) (x ∷ before) go law (inr h) =
          inr (age_at when is before go.1 (lawful_back config before x law) h)

      module _ (r : Reported)
          (young : (past : List Entry) (b : C.Call) → (law : Lawful config (OfClient b ∷ past)) → FormatsIn past
          → ReportsAt config r past (OfClient b)
          → Sometime (And Was
          (Young config law.clocks gain max_age (moment (client_law.own_of config.client_sizes (client_of past)) b)))
          past) where
        pub fresh_at : (is : List ℕ) (es : List Entry) → AllGo config k max_delivery is es → (law : Lawful config es)
            → law.clocks ≡ c → FormatsIn es
            → AlwaysAt (λ n is past e. ReportsAt config r past e → SometimeAt (Within (k.client n)) is past) is es
        fresh_at [] [] go law same formats = tt
        fresh_at [] (e ∷ past) go law same formats = tt
        fresh_at (n ∷ is) [] go law same formats = tt
        fresh_at (n ∷ is) (OfServer b ∷ past) go law same formats = (
          λ h. absurd h,
          fresh_at is past go.1 (lawful_back config past (OfServer b) law) same formats.1,
        )
        fresh_at (n ∷ is) (OfClient b ∷ past) go law same formats = (
          λ h.
              (let own : Own = client_law.own_of config.client_sizes (client_of past) in
              let now : ℕ = moment own b in
              let early : k.client n ≤ now = reports_then (k.client n) own b r h go.0.at in
              sometime_at (Within now) (Within (k.client n)) (λ m before x w. (
                w.0,
                (let a = w.1 in omega
                    (arith, a, early)),
              ))
              is past
              (age_at now is past go.1 (lawful_back config past (OfClient b) law)
              (subst (λ (z : layers.Clocks). Sometime (And Was (Young config z gain max_age now)) past) same
              (young past b law formats h)))),
          fresh_at is past go.1 (lawful_back config past (OfClient b) law) same formats,
        )

-- while the server's clock shows so much more, the client's gains at most max_gain
in_pace : (k : Clocks) → AreClocks k → GainsAtMost k max_gain
in_pace k clocks i j passed short h = near_gap (of_layers k) clocks i j passed (omega (arith, short)) h

-- what holds of calls at instants
module _ (config : Config) (k : Clocks) (clocks : AreClocks k) (two : config.addresses.client ≡ config.addresses.server
    → ⊥)
    (small : config.server_szx ≤ 6) (is : List ℕ) (es : List Entry) (go : AllGo config k max_delivery is es)
    (law : Lawful config es) (same : law.clocks ≡ of_layers k) (formats_are : FormatsIn es) where
  abbrev pub max_age : ℕ
  max_age = exchange_lifetime + max_gain

  abbrev pub FreshAt : Reported → (List Entry → Entry → Type 0) → Type 0
  FreshAt r Was = AlwaysAt (λ n is past e. ReportsAt config r past e
      → SometimeAt (λ m before x. Was before x × (k.client n ≤ k.client m + max_age)) is past) is es

  pub bodies_at : (number : ℕ) (tag : _) (format : _) (body : List ℕ)
      → FreshAt (record { number = number; report = Body tag format body }) (HeldSince config number tag format body)
  bodies_at number tag format body = fresh_at config k clocks two max_gain max_age (in_pace k clocks)
      (HeldSince config number tag format body) (record { number = number; report = Body tag format body })
      (λ past b l f h. body_young config small past b l f max_gain max_age
      (λ m x. inl (let most = at_most m.kind in omega (arith, most))) number tag format body h)
      is es go law same formats_are

  pub valid_at : (number : ℕ) (tag : _)
      → FreshAt (record { number = number; report = Valid tag }) (ValidSince config number tag)
  valid_at number tag = fresh_at config k clocks two max_gain max_age (in_pace k clocks)
      (ValidSince config number tag) (record { number = number; report = Valid tag })
      (λ past b l f h. valid_young config small past b l f max_gain max_age
      (λ m x. inl (let most = at_most m.kind in omega (arith, most))) number tag h)
      is es go law same formats_are

  pub values_at : (number sequence : ℕ) (tag : _) (format : _) (body : List ℕ)
      → FreshAt (record { number = number; report = Value sequence tag format body })
      (ValueSince config number sequence tag format body)
  values_at number sequence tag format body = fresh_at config k clocks two max_gain max_age (in_pace k clocks)
      (ValueSince config number sequence tag format body)
      (record { number = number; report = Value sequence tag format body })
      (λ past b l f h. value_young config small past b l f max_gain max_age
      (λ m x. inl (let most = at_most m.kind in omega (arith, most))) number sequence tag format body h)
      is es go law same formats_are

-- .. and so of a run, each call of which stands at its place
some_place : (P : ℕ → List Entry → Entry → Type 0) (run : List Entry) → SometimeAt P (places run) run
    → Sometime (λ before x. P (length before) before x) run
some_place P [] h = h
some_place P (e ∷ past) (inl h) = inl h
some_place P (e ∷ past) (inr h) = inr (some_place P past h)

each_place : (Here : List Entry → Entry → Type 0) (P : ℕ → ℕ → List Entry → Entry → Type 0) (run : List Entry)
    → AlwaysAt (λ n is past e. Here past e → SometimeAt (P n) is past) (places run) run
    → Always (λ past e. Here past e → Sometime (λ before x. P (length past) (length before) before x) past) run
each_place Here P [] h = tt
each_place Here P (e ∷ past) h = (λ here. some_place (P (length past)) past (h.0 here), each_place Here P past h.1)

module _ (config : Config) (k : Clocks) (run : List Entry) where
  abbrev NotOld : (List Entry → Entry → Type 0) → ℕ → ℕ → List Entry → Entry → Type 0
  NotOld Was n m before x = Was before x × (k.client n ≤ k.client m + (exchange_lifetime + max_gain))

  pub all_fresh : LegalRun config k run → RunOf config run → AreFresh config k (exchange_lifetime + max_gain) run
  all_fresh legal runs =
      let two = legal.range.addresses.two in
      let small = legal.range.server_szx in
      let go = all_go config k max_delivery run legal.calls in
      let law = lawful config k run runs legal in
      let same = clocks_are config k run runs legal in
      let f = formats config k max_delivery run legal.calls in
      record {
        bodies = λ number tag format body. each_place
            (ReportsAt config (record { number = number; report = Body tag format body }))
            (NotOld (HeldSince config number tag format body)) run
            (bodies_at config k legal.clocks two small (places run) run go law same f number tag format body);
        valid = λ number tag. each_place (ReportsAt config (record { number = number; report = Valid tag }))
            (NotOld (ValidSince config number tag)) run
            (valid_at config k legal.clocks two small (places run) run go law same f number tag);
        values = λ number sequence tag format body. each_place
            (ReportsAt config (record { number = number; report = Value sequence tag format body }))
            (NotOld (ValueSince config number sequence tag format body)) run
            (values_at config k legal.clocks two small (places run) run go law same f number sequence tag format body);
      }
