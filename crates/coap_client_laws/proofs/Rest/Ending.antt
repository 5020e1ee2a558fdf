-- At one moment, the ticks of a client end, and so do what it has out and its reports (RFC 7252, sections 4.2 and 5.2).
use Rattle.std.proofs.Common.{◌≡◌, ◌≤◌, ◌<◌, ◌↔◌, ℕ, ◌+◌, true, Some, List, [], ◌∷◌, ◌++◌, length, refl, ap, sym, subst}
use Rattle.std.proofs.Common.{◌∙◌, arith, drop, slice_get}
use Rattle.std.specs.Prelude.{Bool, Result}
use Rattle.std.proofs.lemmas.List.{append-nil}
use Rattle.coap_types.specs.declared.endpoint.Endpoint.{Endpoint}
use Rattle.coap_layer.specs.Machine.State as S
use Rattle.coap_layer.specs.Machine.Steps.{Steps, left_after}
use Rattle.coap_layer.specs.Trace as L
use Rattle.coap_layer.proofs.Facts.StepsOfLayer.{steps_split}
use Rattle.coap_layer.specs.declared.setup.Setup.{Setup}
use Rattle.coap_block.specs.Sizes.{Sizes}
use Rattle.coap_block.specs.Whole.{Each}
use Rattle.coap_exchange.specs.declared.asker.AskRefusal.{AskRefusal}
use Rattle.coap_exchange.specs.declared.asker.Turn.{Turn}
use Rattle.coap_exchange.specs.AskerTrace as E
use Rattle.coap_exchange.specs.AskerSteps as P
use Rattle.coap_exchange.specs.AskerLaw as X
use Rattle.coap_exchange.specs.AskerLaw.{ExchangeLaw}
use Rattle.coap_client.specs.Trace.{Reported, Call, Ticks, NextOut, NextReport}
use Rattle.coap_client.specs.Own.{Own}
use Rattle.coap_client.specs.Steps.{lower}
use Rattle.coap_client.specs.Law.{ClientLaw, own_of, lower_of}
use Rattle.coap_client.specs.Led.{State, Step, Led, exchanges_left, state_left}
use Rattle.coap_exchange.proofs.Facts.LastStep.{take_less}
use Rattle.coap_exchange.proofs.Facts.Adds.{left_append}
use Rattle.coap_exchange.proofs.Facts.ComesUp.{left_is}
use Rattle.coap_client.proofs.Facts.Turning.Leading.{client_back}
use Rattle.coap_client_laws.specs.Follows.Rests.{IsTick, TicksEnd}
use Rattle.coap_client.specs.Turns.Work.{work}
use Rattle.coap_client.proofs.Facts.Calls.WorkFalls.{work_falls}

-- a report that was taken is no more there
first_less : (rs : List Reported) (r : Reported) → Some r ≡ slice_get rs 0 → length (drop 1 rs) < length rs
first_less [] r h = absurd (cc h)
first_less (x ∷ rs) r h = omega arith

-- what the calls of the exchanges leave
module _ (server : Endpoint) (setup : Setup) where
  abbrev beneath : List E.Call → X.State
  beneath calls = exchanges_left server setup calls

  exchanged : (cs calls : List E.Call) → ExchangeLaw server setup (cs ++ calls)
      → X.Exchanged (beneath calls) cs (beneath (cs ++ calls))
  exchanged [] calls law = refl
  exchanged (c ∷ cs) calls law =
      let earlier = X.lower_of server setup (cs ++ calls) in
      let later = P.lower (X.own_of server setup (cs ++ calls)) c in
      let k = steps_split (S.start setup) law.left later earlier law.layer in
      let under = subst (λ s. Steps s later law.left) (left_is (S.start setup) k.0 earlier k.1) k.2 in (
        beneath (cs ++ calls),
        exchanged cs calls (record { rows = law.rows.1; left = k.0; layer = k.1 }),
        record {
          right = law.rows.0;
          own_is = refl;
          under = subst (Steps (beneath (cs ++ calls)).layer later)
              (left_is (S.start setup) law.left (later ++ earlier) law.layer) under;
        },
      )

abbrev exchanges_so : E.Own → S.State → X.State
exchanges_so own layer = record { own = own; layer = layer }

left_of : (server : Endpoint) (setup : Setup) (cs : List E.Call) (x : X.State)
    → X.Exchanged (X.fresh_state server setup) cs x → x ≡ exchanges_left server setup cs
left_of server setup [] x h = h
left_of server setup (c ∷ cs) x h =
    let before : h.0 ≡ exchanges_left server setup cs = left_of server setup cs h.0 h.1 in
    let own : x.own ≡ X.own_of server setup (c ∷ cs) = h.2.own_is ∙ ap (λ (y : X.State). P.after y.own c) before in
    let layer : x.layer ≡ left_after (S.start setup) (X.lower_of server setup (c ∷ cs)) =
    left_is h.0.layer x.layer (P.lower h.0.own c) h.2.under
    ∙ (ap (λ (y : X.State). left_after y.layer (P.lower y.own c)) before
    ∙ sym (left_append (S.start setup) (P.lower (X.own_of server setup cs) c) (X.lower_of server setup cs))) in
    ap (λ o. exchanges_so o x.layer) own ∙ ap (exchanges_so (X.own_of server setup (c ∷ cs))) layer

state_is : (s : State) (own : Own) (layer : X.State) → s.own ≡ own → s.layer ≡ layer
    → s ≡ record { own = own; layer = layer }
state_is s own layer p q = ap (λ (o : Own). record { own = o; layer = s.layer }) p
    ∙ ap (λ (l : X.State). record { own = own; layer = l }) q

module _ (server : Endpoint) (sizes : Sizes) (setup : Setup) where
  -- what the calls so far leave: each takes one step
  abbrev state : List Call → State
  state t = state_left server sizes setup t

  stepped : (t : List Call) (c : Call) → ClientLaw server sizes setup (c ∷ t) → Step (state t) c (state (c ∷ t))
  stepped t c law = record {
    right = law.rows.0;
    own_is = refl;
    under = exchanged server setup (lower (own_of sizes t) c) (lower_of sizes t) law.exchanges;
  }

  pub size : ℕ → List Call → ℕ
  size now t = work (state t) now

  pub out_count : List Call → ℕ
  out_count t = length (state t).layer.layer.queue

  pub report_count : List Call → ℕ
  report_count t = length (state t).own.reports

  pub less : (now w : ℕ) (t : List Call) (below sent : L.Answer) (token : Result (List ℕ) AskRefusal) (kept : Bool)
      (d : Turn)
      → ClientLaw server sizes setup (Ticks now w below d sent token kept true ∷ t)
      → size now (Ticks now w below d sent token kept true ∷ t) < size now t
  unfolding size
  less now w t below sent token kept d law =
      let c : Call = Ticks now w below d sent token kept true in
      work_falls (state t) (state (c ∷ t)) now w below sent token kept d (stepped t c law)

  pub out_less : (t : List Call) (p : L.Packet) → ClientLaw server sizes setup (NextOut (Some p) ∷ t)
      → out_count (NextOut (Some p) ∷ t) < out_count t
  unfolding out_count
  out_less t p law = take_less (S.start setup) law.exchanges.left p
      (X.lower_of server setup (lower_of sizes t)) law.exchanges.layer

  pub report_less : (t : List Call) (r : Reported) → ClientLaw server sizes setup (NextReport (Some r) ∷ t)
      → report_count (NextReport (Some r) ∷ t) < report_count t
  unfolding report_count
  report_less t r law = first_less (own_of sizes t).reports r law.rows.0

  so_many : (now : ℕ) (t calls : List Call) → Each (IsTick now true) calls → ClientLaw server sizes setup (calls ++ t)
      → length calls + size now (calls ++ t) ≤ size now t
  so_many now t [] h law = omega arith
  so_many now t (c ∷ calls) h law =
      let k = so_many now t calls h.1 (client_back server sizes setup (c ∷ []) (calls ++ t) law) in
      let w = h.0.0 in
      let b = h.0.1 in
      let one = less now w (calls ++ t) b.0 b.2 b.3 b.4 b.1
      (subst (λ d. ClientLaw server sizes setup (d ∷ (calls ++ t))) b.5 law) in
      let same : size now (c ∷ (calls ++ t)) ≡ size now (Ticks now w b.0 b.1 b.2 b.3 b.4 true ∷ (calls ++ t)) =
      ap (λ d. size now (d ∷ (calls ++ t))) b.5 in
      omega (arith, k, one, same)

  pub ticks_end : (t : List Call) → TicksEnd server sizes setup t
  unfolding size
  ticks_end t now calls h law = let k = so_many now t calls h law in omega (arith, k)

  -- the calls lead to this state, and to no other
  leads_there : (t : List Call) → ClientLaw server sizes setup t
      → Led server sizes setup t (state_left server sizes setup t)
  leads_there t law = record {
    rows = law.rows;
    own_is = refl;
    layer = subst (λ cs. X.Exchanged (X.fresh_state server setup) (lower_of sizes t) (exchanges_left server setup cs))
        (append-nil (lower_of sizes t))
        (exchanged server setup (lower_of sizes t) [] (subst (ExchangeLaw server setup)
        (sym (append-nil (lower_of sizes t)))
        law.exchanges));
  }

  pub one_state : (t : List Call) → ClientLaw server sizes setup t → (s : State)
      → Led server sizes setup t s ↔ (s ≡ state_left server sizes setup t)
  one_state t law s = (
    λ led. state_is s (own_of sizes t) (exchanges_left server setup (lower_of sizes t)) led.own_is
        (left_of server setup (lower_of sizes t) s.layer led.layer),
    λ same. subst (Led server sizes setup t) (sym same) (leads_there t law),
  )
