-- From the entries of a record to its events: what is young there is not old by the client's clock.
use Rattle.std.proofs.Common.{◌≡◌, ◌⊎◌, inl, inr, ◌≤◌, ℕ, ◌+◌, Some, List, [], ◌∷◌, ◌++◌, map, length}
use Rattle.std.proofs.Common.{sym, subst, arith}
use Rattle.coap_types.specs.Past.{Sometime, Always}
use Rattle.coap_types.proofs.Facts.Traces.{Sometime_map}
use Rattle.coap_types.specs.declared.transmission.TheConstants.{MAX_LATENCY_MS as max_latency}
use Rattle.coap_layer.specs.Channel.{near_of}
use Rattle.coap_layer.specs.Clocks as layers
use Rattle.coap_layer.specs.Rows.{LayerLaw}
use Rattle.coap_layer.specs.Trace as L
use Rattle.coap_layer.specs.Words.{clock}
use Rattle.coap_layer.specs.declared.setup.Setup.{Setup}
use Rattle.coap_client.specs.Law as client_law
use Rattle.coap_client_laws.specs.Follows.Holds.{moment}
use Rattle.coap_client.specs.Own.{Own}
use Rattle.coap_client.specs.Steps.{reports}
use Rattle.coap_client.specs.Trace as C
use Rattle.coap_client.specs.Trace.{Reported}
use Rattle.coap_server.specs.Law.{own_of}
use Rattle.coap_server.specs.Trace as S
use Rattle.coap_promise.specs.Clocks.{Clocks, of_layers, AreClocks, IsLegal}
use Rattle.coap_record.specs.Events.{Config}
use Rattle.coap_promise.specs.Fresh.{Has, GainsAtMost}
use Rattle.coap_promise.specs.Hops.{hops_in, client_adds, server_adds}
use Rattle.coap_record.specs.Record.{Entry, OfClient, OfServer, Turn, client_of, server_trace, entries_of}
use Rattle.coap_promise.specs.Words.{ReportsAt}
use Rattle.coap_promise.proofs.Age.Young.{Young, by_ack, by_open, by_own, And}
use Rattle.coap_promise.proofs.Facts.Delivery.ClientInTime as client
use Rattle.coap_promise.proofs.Facts.Delivery.ClientTurns as client_turns
use Rattle.coap_promise.proofs.Facts.Delivery.EntriesInTime.{Every}
use Rattle.coap_promise.proofs.Facts.Delivery.HopsAreEntries.{near_near, near_far}
use Rattle.coap_promise.proofs.Facts.Delivery.ServerTurns as server_turns
use Rattle.coap_promise.proofs.Facts.Observations.Taken.{formats_before}
use Rattle.coap_promise.proofs.Facts.Observations.ToldThen.{moves}
use Rattle.coap_promise.proofs.Paced.GivenOutBefore.{Made, OfAnEnd, side, comes_any}
use Rattle.coap_promise.proofs.Paced.HopsAreAChannel.{Stills}
use Rattle.coap_promise.proofs.Facts.Reports.FormatsSet.{FormatsIn}
use Rattle.coap_promise.proofs.Facts.Requests.OfACall.{Lawful, lawful_back}

-- of a list and what is behind it
split : (Q : List Entry → Entry → Type 0) (xs ys : List Entry) → Sometime Q (xs ++ ys)
    → Sometime (λ p e. Q (p ++ ys) e) xs ⊎ Sometime Q ys
split Q [] ys h = inr h
split Q (x ∷ xs) ys (inl h) = inl (inl h)
split Q (x ∷ xs) ys (inr h) = elim (split Q xs ys h) [ inl k ↦ inl (inr k) | inr k ↦ inr k ]

in_turns : (Q : List Entry → Entry → Type 0) (turns : List Turn) → Sometime Q (entries_of turns)
    → Sometime (Has Q) turns
in_turns Q [] h = h
in_turns Q (t ∷ past) h = elim (split Q t.entries (entries_of past) h) [
  | inl k ↦ inl k
  | inr k ↦ inr (in_turns Q past k)
]

-- a report is no earlier than the moment of its call
reports_then : (t : ℕ) (s : Own) (c : C.Call) (r : Reported) → reports s c ≡ Some r → client.IsAt t c → t ≤ moment s c
reports_then t s (C.Feeds now from bytes word up settled event sent token kept) r is at = omega (arith, at)
reports_then t s (C.Ticks now word below turn sent token kept answer) r is at = omega (arith, at)
reports_then t s _ r is at = absurd (cc is)

grows : (setup : Setup) (xs past : List L.Entry) → LayerLaw setup (xs ++ past) → clock past ≤ clock (xs ++ past)
grows setup [] past law = omega arith
grows setup (x ∷ xs) past law = let k = grows setup xs past law.1 in let l = law.0.time in omega (arith, k, l)

module _ (config : Config) where
  -- the client's layer comes further, and the server
  near_back : (e : Entry) (t : List Entry) → Lawful config (e ∷ t)
      → clock (near_of (hops_in config t)) ≤ clock (near_of (hops_in config (e ∷ t)))
  near_back (OfServer c) t law = subst (λ l. clock (near_of (hops_in config t)) ≤ clock l)
      (sym (near_far (server_adds config (server_trace config t) c) (hops_in config t))) (omega arith)
  near_back (OfClient c) t law =
      let is = near_near (client_adds config (client_of t) c) (hops_in config t) in
      subst (λ l. clock (near_of (hops_in config t)) ≤ clock l) (sym is)
      (grows config.client_setup (client_adds config (client_of t) c) (near_of (hops_in config t))
      (subst (LayerLaw config.client_setup) is law.channel.near_law))

  abbrev server_clock : List Entry → ℕ
  server_clock t = (own_of config.limits config.server_szx (server_trace config t)).clock

  own_back : (e : Entry) (t : List Entry) → server_clock t ≤ server_clock (e ∷ t)
  own_back (OfClient c) t = omega arith
  own_back (OfServer c) t = (moves (own_of config.limits config.server_szx (server_trace config t)) c).0

  -- the laws, by these clocks
  pub record LawfulBy (c : layers.Clocks) (t : List Entry) : Type 0 where
    pub law : Lawful config t
    pub is : law.clocks ≡ c

  by_back : (c : layers.Clocks) (t : List Entry) (e : Entry) → LawfulBy c (e ∷ t) → LawfulBy c t
  by_back c t e k = record { law = lawful_back config t e k.law; is = k.is }

  by_before : (c : layers.Clocks) (xs es : List Entry) → LawfulBy c (xs ++ es) → LawfulBy c es
  by_before c [] es k = k
  by_before c (x ∷ xs) es k = by_before c xs es (by_back c (xs ++ es) x k)

  -- what holds of a record and of each past of it
  pub record Facts (k : Clocks) (clocks : AreClocks k) (turns : List Turn) : Type 0 where
    pub two : config.addresses.client ≡ config.addresses.server → ⊥
    pub law : LawfulBy (of_layers k) (entries_of turns)
    pub formats : FormatsIn (entries_of turns)
    pub made : Made config.addresses turns
    pub legal : Always (IsLegal config.addresses k) turns
    pub stills : Stills k config two clocks turns

  down : (k : Clocks) (clocks : AreClocks k) (t : Turn) (past : List Turn) → Facts k clocks (t ∷ past)
      → Facts k clocks past
  down k clocks t past f = record {
    two = f.two;
    law = by_before (of_layers k) t.entries (entries_of past) f.law;
    formats = formats_before t.entries (entries_of past) f.formats;
    made = f.made.1;
    legal = f.legal.1;
    stills = f.stills.1;
  }

  module _ (k : Clocks) (gain : ℕ) (gains : GainsAtMost k gain) (max_age : ℕ) where
    abbrev c : layers.Clocks
    c = of_layers k

    young_age : (n when : ℕ) (past : List Entry) (e : Entry) → Lawful config (e ∷ past)
        → clock (near_of (hops_in config (e ∷ past))) ≤ k.client n → server_clock (e ∷ past) ≤ k.server n
        → Young config c gain max_age when past e → when ≤ k.client n + max_age
    young_age n when past e law near own (by_ack s enough first low late) =
        let b = near_back e past law in
        let l = late.late in
        let gained : k.client late.taken ≤ k.client late.given + max_latency + gain =
        gains late.given late.taken max_latency (omega arith) l in
        let shown = late.shown in
        let till = late.till in
        omega (arith, b, near, low, gained, shown, till, enough)
    young_age n when past e law near own (by_open s first low soon) =
        let b = near_back e past law in
        omega (arith, b, near, low, soon)
    young_age n when past e law near own (by_own s late enough short i shown le) =
        let gained : k.client i ≤ k.client n + late + gain = gains n i late short (omega (arith, le, own)) in
        omega (arith, gained, shown, enough)

    module _ (Was : List Entry → Entry → Type 0) where
      abbrev IsSo : ℕ → List Entry → Entry → Type 0
      IsSo when = And Was (Young config c gain max_age when)

      age : (n when : ℕ) (xs es : List Entry) → Lawful config (xs ++ es)
          → clock (near_of (hops_in config (xs ++ es))) ≤ k.client n → server_clock (xs ++ es) ≤ k.server n
          → Sometime (λ p e. IsSo when (p ++ es) e) xs → when ≤ k.client n + max_age
      age n when [] es law near own h = absurd h
      age n when (e ∷ xs) es law near own (inl h) = young_age n when (xs ++ es) e law near own h.1
      age n when (e ∷ xs) es law near own (inr h) =
          let b = near_back e (xs ++ es) law in
          let o = own_back e (xs ++ es) in
          age n when xs es (lawful_back config (xs ++ es) e law) (omega (arith, b, near)) (omega (arith, o, own)) h

      module _ (clocks : AreClocks k) where
        aged : (when : ℕ) (turns : List Turn) → Facts k clocks turns → Sometime (Has (IsSo when)) turns
            → Sometime (λ before other. Has Was before other × (when ≤ k.client (length before) + max_age)) turns
        aged when [] f h = h
        aged when (t ∷ past) f (inr h) = inr (aged when past (down k clocks t past f) h)
        aged when (t ∷ past) f (inl h) =
            let still = f.stills.0 in
            inl (
              Sometime_map (λ p e. IsSo when (p ++ entries_of past) e) (λ p e. Was (p ++ entries_of past) e)
                  (λ p e z. z.0) t.entries h,
              age (length past) when t.entries (entries_of past) f.law.law still.near_by still.server.own h,
            )

        module _ (r : Reported) (Here : List Entry → Entry → Type 0)
            (reported : (past : List Entry) (e : Entry) → Here past e → ReportsAt config r past e)
            (young : (past : List Entry) (b : C.Call) → (law : Lawful config (OfClient b ∷ past)) → FormatsIn past
            → Here past (OfClient b)
            → Sometime (And Was
            (Young config law.clocks gain max_age (moment (client_law.own_of config.client_sizes (client_of past)) b)))
            past) where
          -- a report among these entries of the client, at this moment
          found : (at : ℕ) (bs : List C.Call) (es : List Entry) → LawfulBy c (map OfClient bs ++ es)
              → FormatsIn (map OfClient bs ++ es) → Every (client.IsAt at) bs
              → Sometime (λ p e. Here (p ++ es) e) (map OfClient bs)
              → (when : ℕ) × (at ≤ when) × Sometime (IsSo when) (map OfClient bs ++ es)
          found at [] es law formats moments h = absurd h
          found at (b ∷ bs) es law formats moments (inr h) =
              let w = found at bs es (by_back c (map OfClient bs ++ es) (OfClient b) law) formats moments.1 h in
              (w.0, w.1, inr w.2)
          found at (b ∷ bs) es law formats moments (inl h) =
              let past = map OfClient bs ++ es in
              let now = moment (client_law.own_of config.client_sizes (client_of past)) b in (
                now,
                reports_then at (client_law.own_of config.client_sizes (client_of past)) b r
                    (reported past (OfClient b) h) moments.0,
                inr (subst (λ x. Sometime (And Was (Young config x gain max_age now)) past) law.is
                    (young past b law.law formats h)),
              )

          -- none of the client's entries is the server's
          none_here : (when : ℕ) (bs : List C.Call) (es : List Entry)
              → Sometime (λ p e. IsSo when (p ++ es) e) (map OfClient bs) → ⊥
          none_here when [] es h = h
          none_here when (b ∷ bs) es (inr h) = none_here when bs es h
          none_here when (b ∷ bs) es (inl (w, by_ack s enough first low late)) = s
          none_here when (b ∷ bs) es (inl (w, by_open s first low soon)) = s
          none_here when (b ∷ bs) es (inl (w, by_own s late enough short i shown le)) = s

          no_report : (bs : List S.Call) (es : List Entry)
              → Sometime (λ p e. Here (p ++ es) e) (map OfServer bs) → ⊥
          no_report [] es h = h
          no_report (b ∷ bs) es (inl h) = absurd (reported (map OfServer bs ++ es) (OfServer b) h)
          no_report (b ∷ bs) es (inr h) = no_report bs es h

          abbrev Conclusion : List Turn → Type 0
          Conclusion past = Sometime (λ before other. Has Was before other
              × (k.client (length past) ≤ k.client (length before) + max_age)) past

          of_client : (at : ℕ) (bs : List C.Call) (past : List Turn) → k.client (length past) ≡ at → Facts k clocks past
              → LawfulBy c (map OfClient bs ++ entries_of past) → FormatsIn (map OfClient bs ++ entries_of past)
              → Every (client.IsAt at) bs
              → Sometime (λ p e. Here (p ++ entries_of past) e) (map OfClient bs) → Conclusion past
          of_client at bs past shown f law formats moments h =
              let w = found at bs (entries_of past) law formats moments h in
              let early = w.1 in
              elim (split (IsSo w.0) (map OfClient bs) (entries_of past) w.2) [
                | inl here ↦ absurd (none_here w.0 bs (entries_of past) here)
                | inr there ↦
                    Sometime_map (λ before other. Has Was before other × (w.0 ≤ k.client (length before) + max_age))
                    (λ before other. Has Was before other × (k.client (length past) ≤ k.client (length before) +
                    max_age))
                    (λ before other z. (z.0, (let a = z.1 in omega (arith, a, early, shown)))) past
                    (aged w.0 past f (in_turns (IsSo w.0) past there))
              ]

          at_turn : (t : Turn) (past : List Turn) → Facts k clocks (t ∷ past)
              → OfAnEnd k (length past) t.event.at t.entries
              → Has Here past t → Conclusion past
          at_turn t past f (inr s) h =
              absurd (no_report (server_turns.turn_calls s.0.on.outs s.0.calls) (entries_of past)
              (subst (λ es. Sometime (λ p e. Here (p ++ entries_of past) e) es) s.0.on.is h))
          at_turn t past f (inl s) h =
              let all = client_turns.turn_calls s.0.on.outs s.0.on.reports s.0.calls in
              of_client t.event.at all past s.1 (down k clocks t past f)
              (subst (λ es. LawfulBy c (es ++ entries_of past)) s.0.on.is f.law)
              (subst (λ es. FormatsIn (es ++ entries_of past)) s.0.on.is f.formats)
              (client_turns.all_at t.event.at s.0.on.outs s.0.on.reports s.0.calls s.0.at)
              (subst (λ es. Sometime (λ p e. Here (p ++ entries_of past) e) es) s.0.on.is h)

          pub fresh : (turns : List Turn) → Facts k clocks turns
              → Always (λ past turn. Has Here past turn → Conclusion past) turns
          fresh [] f = tt
          fresh (t ∷ past) f = (
            (λ h. at_turn t past f (side config.addresses f.two k past t.event.at t.event.word t.refused t.entries
                t.event.what f.made.0
                (comes_any config.addresses k past t.event.at t.event.what f.legal.0.comes)) h),
            fresh past (down k clocks t past f),
          )
