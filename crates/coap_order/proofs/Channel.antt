-- The message layers of the two ends of a run, and what goes between them, stand in the law of two layers, each with
-- its clock: what comes was sent, whenever it was taken. Each call stands at an instant.
use Rattle.std.proofs.Common.{◌≡◌, ◌⊎◌, ⊎_elim, inl, inr, ◌≤◌, ℕ, List, [], ◌∷◌, ◌++◌, refl, ap, sym, ◌∙◌}
use Rattle.std.proofs.Common.{subst, arith}
use Rattle.coap_types.specs.Past.{Always, Ever}
use Rattle.coap_types.proofs.Facts.Traces.{Ever_append, Ever_map}
use Rattle.coap_types.specs.declared.endpoint.Endpoint.{Endpoint}
use Rattle.coap_layer.specs.AtAnyTime as any_time
use Rattle.coap_layer.specs.Channel.{Far, GaveOut, Hop, Near, OnFar, OnNear, RepliesSo, far_of, near_of}
use Rattle.coap_layer.specs.Machine.State.{start}
use Rattle.coap_layer.specs.Machine.Steps.{left_after}
use Rattle.coap_layer.specs.Paced.{IsFair}
use Rattle.coap_layer.specs.Rows.{LayerLaw}
use Rattle.coap_layer.specs.Trace as L
use Rattle.coap_layer.specs.Words.{clock}
use Rattle.coap_exchange.specs.AnswererLaw as answerer
use Rattle.coap_client.specs.Law.{ClientLaw}
use Rattle.coap_client.specs.Trace as C
use Rattle.coap_client_laws.proofs.Facts.Laws as client_facts
use Rattle.coap_server.specs.Law.{ServerLaw}
use Rattle.coap_server.specs.Trace as S
use Rattle.coap_server_laws.proofs.Facts.Laws as server_facts
use Rattle.coap_promise.specs.AtAnyTime.{Rise}
use Rattle.coap_promise.specs.CameFrom.{IsChannel}
use Rattle.coap_promise.specs.Clocks.{AreClocks, Clocks, Shows, of_layers}
use Rattle.coap_promise.specs.Delivery as D
use Rattle.coap_promise.specs.Hops.{SendsAt, SentIn, client_adds, hops_in, server_adds}
use Rattle.coap_promise.proofs.Facts.Delivery.ClientInTime as client
use Rattle.coap_promise.proofs.Facts.Delivery.EntriesInTime.{Every, Timely}
use Rattle.coap_promise.proofs.Facts.Delivery.HopsAreEntries.{begins_silent, far_far, far_is, far_near, near_far}
use Rattle.coap_promise.proofs.Facts.Delivery.HopsAreEntries.{near_is}
use Rattle.coap_promise.proofs.Facts.Delivery.HopsAreEntries.{near_near}
use Rattle.coap_promise.proofs.Facts.Delivery.SentByTheLayer.{begins_by, by_client, by_server, found_in, sent_still}
use Rattle.coap_promise.proofs.Facts.Delivery.ServerInTime as server
use Rattle.coap_promise.proofs.Paced.AfterATurn.{clock_by, far_any, far_fair, near_any, near_fair}
use Rattle.coap_record.specs.Events.{Config}
use Rattle.coap_record.specs.Legal.{max_delivery}
use Rattle.coap_record.specs.Record.{Entry, Given, OfClient, OfServer, client_of, server_trace, settings}
use Rattle.coap_order.specs.Inputs.{is_client_input, is_server_input}
use Rattle.coap_order.specs.Run.{RunOf, WasMade, made_at}
use Rattle.coap_order.proofs.MadeIsSent.{client_sent, server_sent}

-- no instant of these is later
abbrev pub LastBy : ℕ → List ℕ → Type 0
LastBy n [] = Unit {0}
LastBy n (m ∷ is) = m ≤ n

pub last_later : (m n : ℕ) (is : List ℕ) → m ≤ n → LastBy m is → LastBy n is
last_later m n [] le h = tt
last_later m n (i ∷ is) le h = omega (arith, le, h)

module _ (config : Config) (c : Clocks) where
  -- what the calls made, each at its instant
  abbrev pub made_in : List ℕ → List Entry → List Given
  made_in [] past = []
  made_in (n ∷ is) [] = []
  made_in (n ∷ is) (e ∷ past) = made_at config c n past e ++ made_in is past

  -- a call is handed what its end's clock shows, and what comes from the other end was made there
  abbrev pub IsAt : ℕ → Entry → Type 0
  IsAt n (OfClient call) = client.IsAt (c.client n) call
  IsAt n (OfServer call) = server.IsAt (c.server n) call

  pub record Goes (late n : ℕ) (is : List ℕ) (past : List Entry) (e : Entry) : Type 0 where
    pub later : LastBy n is
    pub at : IsAt n e
    pub to_client : (bytes : List ℕ) → D.FedToClient config.addresses.server bytes e
        → Ever (WasMade config c late n config.addresses.server config.addresses.client bytes) (made_in is past)
    pub to_server : (bytes : List ℕ) → D.FedToServer config.addresses.client bytes e
        → Ever (WasMade config c late n config.addresses.client config.addresses.server bytes) (made_in is past)

  abbrev pub AllGo : ℕ → List ℕ → List Entry → Type 0
  AllGo late [] [] = Unit {0}
  AllGo late [] (e ∷ past) = ⊥
  AllGo late (n ∷ is) [] = ⊥
  AllGo late (n ∷ is) (e ∷ past) = Goes late n is past e × AllGo late is past

  -- no clock of an end is past what it shows at this instant
  pub record By (n : ℕ) (es : List Entry) : Type 0 where
    pub client : client.IsBy config (c.client n) (client_of es)
    pub server : server.IsBy config (c.server n) (server_trace config es)
    pub near_by : clock (near_of (hops_in config es)) ≤ c.client n
    pub far_by : clock (far_of (hops_in config es)) ≤ c.server n

  -- .. nor is what was made
  abbrev Early : ℕ → Given → Type 0
  Early n g = ((g.from ≡ config.addresses.client) × (g.at ≤ c.client n))
      ⊎ ((g.from ≡ config.addresses.server) × (g.at ≤ c.server n))

  by_first : (n : ℕ) → By n []
  by_first n =
      let none = begins_silent config (settings config) in
      record {
        client = record { own = omega arith; layer = omega arith };
        server = record {
          own = begins_by config (c.server n) (settings config);
          between = subst (λ l. (answerer.own_of l).clock ≤ c.server n) (sym none) (omega arith);
          layer = subst (λ l. (left_after (start config.server_setup) (answerer.lower_of l)).clock ≤ c.server n)
              (sym none) (omega arith);
        };
        near_by = omega arith;
        far_by = omega arith;
      }

  -- what was made was sent, whenever
  module _ (two : config.addresses.client ≡ config.addresses.server → ⊥) (hs : List Hop) (bytes : List ℕ)
      (g : Given) where
    any_server : g.from ≡ config.addresses.server
        → g.packet ≡ record { to = config.addresses.client; bytes = bytes } → SentIn config.addresses hs g
        → Ever (OnFar (any_time.WasOut config.addresses.client bytes)) hs
    any_server from is (inl h) = absurd (two (sym h.0 ∙ from))
    any_server from is (inr h) = Ever_map (OnFar (SendsAt g.at g.packet))
        (OnFar (any_time.WasOut config.addresses.client bytes)) each hs h.1
      where
        each : (e : Hop) → OnFar (SendsAt g.at g.packet) e → OnFar (any_time.WasOut config.addresses.client bytes) e
        each (Near e) k = absurd k
        each (Far e) k = subst (λ (p : L.Packet). Ever (λ q. q ≡ p) e.out) is k.out

    any_client : g.from ≡ config.addresses.client
        → g.packet ≡ record { to = config.addresses.server; bytes = bytes } → SentIn config.addresses hs g
        → Ever (OnNear (any_time.WasOut config.addresses.server bytes)) hs
    any_client from is (inr h) = absurd (two (sym from ∙ h.0))
    any_client from is (inl h) = Ever_map (OnNear (SendsAt g.at g.packet))
        (OnNear (any_time.WasOut config.addresses.server bytes)) each hs h.1
      where
        each : (e : Hop) → OnNear (SendsAt g.at g.packet) e → OnNear (any_time.WasOut config.addresses.server bytes) e
        each (Near e) k = subst (λ (p : L.Packet). Ever (λ q. q ≡ p) e.out) is k.out
        each (Far e) k = absurd k

  module _ (two : config.addresses.client ≡ config.addresses.server → ⊥) (rise : Rise c) where
    by_later : (n m : ℕ) (es : List Entry) → n ≤ m → By n es → By m es
    by_later n m es le b =
        let near = rise.client n m le in
        let far = rise.server n m le in
        let x = b.near_by in
        let y = b.far_by in
        record {
          client = client.later_by config (c.client n) (c.client m) (client_of es) near b.client;
          server = server.later_by config (c.server n) (c.server m) (server_trace config es) far b.server;
          near_by = omega (arith, near, x);
          far_by = omega (arith, far, y);
        }

    early_later : (n m : ℕ) (g : Given) → n ≤ m → Early n g → Early m g
    early_later n m g le (inl h) = let near = rise.client n m le in let k = h.1 in
        inl (h.0, omega (arith, near, k))
    early_later n m g le (inr h) = let far = rise.server n m le in let k = h.1 in
        inr (h.0, omega (arith, far, k))

    -- what the calls leave, at any later instant
    pub record Ran (is : List ℕ) (es : List Entry) : Type 0 where
      pub by : (n : ℕ) → LastBy n is → By n es
      pub early : (n : ℕ) → LastBy n is → (g : Given) → Ever (λ x. x ≡ g) (made_in is es) → Early n g
      pub sent : (g : Given) → Ever (λ x. x ≡ g) (made_in is es) → SentIn config.addresses (hops_in config es) g

    shows_server : (n now : ℕ) → Shows config.addresses c n config.addresses.server now → c.server n ≡ now
    shows_server n now (inl h) = absurd (two (sym h.0))
    shows_server n now (inr h) = h.1

    shows_client : (n now : ℕ) → Shows config.addresses c n config.addresses.client now → c.client n ≡ now
    shows_client n now (inl h) = h.1
    shows_client n now (inr h) = absurd (two h.0)

    early_server : (n : ℕ) (g : Given) → g.from ≡ config.addresses.server → Early n g → g.at ≤ c.server n
    early_server n g from (inl h) = absurd (two (sym h.0 ∙ from))
    early_server n g from (inr h) = h.1

    early_client : (n : ℕ) (g : Given) → g.from ≡ config.addresses.client → Early n g → g.at ≤ c.client n
    early_client n g from (inl h) = h.1
    early_client n g from (inr h) = absurd (two (sym from ∙ h.0))

    module _ (n : ℕ) (is : List ℕ) (past : List Entry) (before : Ran is past) (later : LastBy n is) where
      -- what comes was sent, not long before

      from_server : (bytes : List ℕ)
          → Ever (WasMade config c max_delivery n config.addresses.server config.addresses.client bytes)
          (made_in is past)
          → Ever (OnFar (GaveOut config.addresses.client bytes (c.server n))) (hops_in config past)
      from_server bytes h =
          let k = found_in _ (made_in is past) h in
          let w = k.1 in
          let shown = shows_server n w.now w.shown in
          let young = w.young in
          by_server config.addresses two (hops_in config past) bytes (c.server n) k.0
          (record {
            packet = w.packet;
            by = w.by;
            early = early_server n k.0 w.by (before.early n later k.0 k.2);
            young = omega (arith, shown, young);
          }) (before.sent k.0 k.2)

      from_client : (bytes : List ℕ)
          → Ever (WasMade config c max_delivery n config.addresses.client config.addresses.server bytes)
          (made_in is past)
          → Ever (OnNear (GaveOut config.addresses.server bytes (c.client n))) (hops_in config past)
      from_client bytes h =
          let k = found_in _ (made_in is past) h in
          let w = k.1 in
          let shown = shows_client n w.now w.shown in
          let young = w.young in
          by_client config.addresses two (hops_in config past) bytes (c.client n) k.0
          (record {
            packet = w.packet;
            by = w.by;
            early = early_client n k.0 w.by (before.early n later k.0 k.2);
            young = omega (arith, shown, young);
          }) (before.sent k.0 k.2)

      -- .. or whenever

      out_of_server : (late : ℕ) (bytes : List ℕ)
          → Ever (WasMade config c late n config.addresses.server config.addresses.client bytes) (made_in is past)
          → Ever (OnFar (any_time.WasOut config.addresses.client bytes)) (hops_in config past)
      out_of_server late bytes h =
          let k = found_in _ (made_in is past) h in
          any_server two (hops_in config past) bytes k.0 k.1.by k.1.packet (before.sent k.0 k.2)

      out_of_client : (late : ℕ) (bytes : List ℕ)
          → Ever (WasMade config c late n config.addresses.client config.addresses.server bytes) (made_in is past)
          → Ever (OnNear (any_time.WasOut config.addresses.server bytes)) (hops_in config past)
      out_of_client late bytes h =
          let k = found_in _ (made_in is past) h in
          any_client two (hops_in config past) bytes k.0 k.1.by k.1.packet (before.sent k.0 k.2)

      -- one call more

      abbrev client_added : C.Call → List L.Entry
      client_added call = client_adds config (client_of past) call

      client_times : (call : C.Call) → client.IsAt (c.client n) call
          → Every (Timely (c.client n) (client.Fed call)) (client_added call)
      client_times call at = client.adds_timely config (c.client n) (client_of past) call (before.by n later).client at

      client_by : (call : C.Call) → client.IsAt (c.client n) call → By n (OfClient call ∷ past)
      client_by call at =
          let b = before.by n later in
          let hs : List Hop = hops_in config past in
          record {
            client = client.next_by config (c.client n) (client_of past) call b.client at;
            server = b.server;
            near_by = subst (λ (l : List L.Entry). clock l ≤ c.client n) (sym (near_near (client_added call) hs))
                (clock_by (c.client n) (client.Fed call) (client_added call) (near_of hs)
                (client_times call at) b.near_by);
            far_by = subst (λ (l : List L.Entry). clock l ≤ c.server n)
                (sym (far_near (client_added call) hs)) b.far_by;
          }

      client_made : (call : C.Call) → client.IsAt (c.client n) call → (g : Given)
          → Ever (λ x. x ≡ g) (made_at config c n past (OfClient call))
          → (g.at ≡ c.client n) × (g.from ≡ config.addresses.client)
          × SentIn config.addresses (hops_in config (OfClient call ∷ past)) g
      client_made call at g h = client_sent config (c.client n) (client.Fed call) g past call (client_times call at)
          (is_client_input call) refl h

      client_more : (call : C.Call) → client.IsAt (c.client n) call → Ran (n ∷ is) (OfClient call ∷ past)
      client_more call at = record {
        by = λ m le. by_later n m (OfClient call ∷ past) le (client_by call at);
        early = λ m le g h. ⊎_elim
            (λ now. (let k = client_made call at g now in let same = k.0 in
            early_later n m g le (inl (k.1, omega (arith, same)))))
            (λ was. early_later n m g le (before.early n later g was))
            (Ever_append (λ x. x ≡ g) (made_at config c n past (OfClient call)) (made_in is past) h);
        sent = λ g h. ⊎_elim (λ now. (client_made call at g now).2)
            (λ was. sent_still config g (OfClient call ∷ []) past (before.sent g was))
            (Ever_append (λ x. x ≡ g) (made_at config c n past (OfClient call)) (made_in is past) h);
      }

      abbrev server_added : S.Call → List L.Entry
      server_added call = server_adds config (server_trace config past) call

      server_times : (call : S.Call) → server.IsAt (c.server n) call
          → Every (Timely (c.server n) (server.Fed call)) (server_added call)
      server_times call at = server.adds_timely config (c.server n) (server_trace config past) call
          (before.by n later).server at

      server_by : (call : S.Call) → server.IsAt (c.server n) call → By n (OfServer call ∷ past)
      server_by call at =
          let b = before.by n later in
          let hs : List Hop = hops_in config past in
          record {
            client = b.client;
            server = server.next_by config (c.server n) (server_trace config past) call b.server at;
            near_by = subst (λ (l : List L.Entry). clock l ≤ c.client n)
                (sym (near_far (server_added call) hs)) b.near_by;
            far_by = subst (λ (l : List L.Entry). clock l ≤ c.server n) (sym (far_far (server_added call) hs))
                (clock_by (c.server n) (server.Fed call) (server_added call) (far_of hs)
                (server_times call at) b.far_by);
          }

      server_made : (call : S.Call) → server.IsAt (c.server n) call → (g : Given)
          → Ever (λ x. x ≡ g) (made_at config c n past (OfServer call))
          → (g.at ≡ c.server n) × (g.from ≡ config.addresses.server)
          × SentIn config.addresses (hops_in config (OfServer call ∷ past)) g
      server_made call at g h = server_sent config (c.server n) (server.Fed call) g past call (server_times call at)
          (is_server_input call) refl h

      server_more : (call : S.Call) → server.IsAt (c.server n) call → Ran (n ∷ is) (OfServer call ∷ past)
      server_more call at = record {
        by = λ m le. by_later n m (OfServer call ∷ past) le (server_by call at);
        early = λ m le g h. ⊎_elim
            (λ now. (let k = server_made call at g now in let same = k.0 in
            early_later n m g le (inr (k.1, omega (arith, same)))))
            (λ was. early_later n m g le (before.early n later g was))
            (Ever_append (λ x. x ≡ g) (made_at config c n past (OfServer call)) (made_in is past) h);
        sent = λ g h. ⊎_elim (λ now. (server_made call at g now).2)
            (λ was. sent_still config g (OfServer call ∷ []) past (before.sent g was))
            (Ever_append (λ x. x ≡ g) (made_at config c n past (OfServer call)) (made_in is past) h);
      }

    pub ran : (late : ℕ) (is : List ℕ) (es : List Entry) → AllGo late is es → Ran is es
    ran late [] [] go = record {
      by = λ n last. by_first n;
      early = λ n last g h. absurd h;
      sent = λ g h. absurd h;
    }
    ran late [] (e ∷ past) go = absurd go
    ran late (n ∷ is) [] go = absurd go
    ran late (n ∷ is) (OfClient call ∷ past) go = client_more n is past (ran late is past go.1) go.0.later call go.0.at
    ran late (n ∷ is) (OfServer call ∷ past) go = server_more n is past (ran late is past go.1) go.0.later call go.0.at

    -- what comes is fair: by two clocks, and at any time

    fair : (is : List ℕ) (es : List Entry) → AllGo max_delivery is es
        → Always (IsFair (of_layers c) config.addresses.client config.addresses.server) (hops_in config es)
    fair [] [] go = tt
    fair [] (e ∷ past) go = absurd go
    fair (n ∷ is) [] go = absurd go
    fair (n ∷ is) (OfClient call ∷ past) go =
        let before = ran max_delivery is past go.1 in
        near_fair config.addresses c n (client.Fed call) (hops_in config past) (fair is past go.1)
        (before.by n go.0.later).far_by
        (λ bytes fed. from_server n is past before go.0.later bytes (go.0.to_client bytes fed))
        (client_added n is past before go.0.later call) (client_times n is past before go.0.later call go.0.at)
    fair (n ∷ is) (OfServer call ∷ past) go =
        let before = ran max_delivery is past go.1 in
        far_fair config.addresses c n (server.Fed call) (hops_in config past) (fair is past go.1)
        (before.by n go.0.later).near_by
        (λ bytes fed. from_client n is past before go.0.later bytes (go.0.to_server bytes fed))
        (server_added n is past before go.0.later call) (server_times n is past before go.0.later call go.0.at)

    fair_any : (late : ℕ) (is : List ℕ) (es : List Entry) → AllGo late is es
        → Always (any_time.IsFair config.addresses.client config.addresses.server) (hops_in config es)
    fair_any late [] [] go = tt
    fair_any late [] (e ∷ past) go = absurd go
    fair_any late (n ∷ is) [] go = absurd go
    fair_any late (n ∷ is) (OfClient call ∷ past) go =
        let before = ran late is past go.1 in
        near_any config.addresses (c.client n) (client.Fed call) (hops_in config past) (fair_any late is past go.1)
        (λ bytes fed. out_of_server n is past before go.0.later late bytes (go.0.to_client bytes fed))
        (client_added n is past before go.0.later call) (client_times n is past before go.0.later call go.0.at)
    fair_any late (n ∷ is) (OfServer call ∷ past) go =
        let before = ran late is past go.1 in
        far_any config.addresses (c.server n) (server.Fed call) (hops_in config past) (fair_any late is past go.1)
        (λ bytes fed. out_of_client n is past before go.0.later late bytes (go.0.to_server bytes fed))
        (server_added n is past before go.0.later call) (server_times n is past before go.0.later call go.0.at)

    near_law : (es : List Entry) → RunOf config es → LayerLaw config.client_setup (near_of (hops_in config es))
    near_law es runs = subst (LayerLaw config.client_setup) (sym (near_is config es))
        (client_facts.layer config.addresses.server config.client_sizes config.client_setup (client_of es) runs.client)

    far_law : (es : List Entry) → RunOf config es → LayerLaw config.server_setup (far_of (hops_in config es))
    far_law es runs = subst (LayerLaw config.server_setup) (sym (far_is config es))
        (server_facts.layer config.limits config.server_szx config.server_setup (server_trace config es) runs.server)

    near_replies : (es : List Entry) → RunOf config es → Always RepliesSo (near_of (hops_in config es))
    near_replies es runs = subst (Always RepliesSo) (sym (near_is config es))
        (client_facts.replies config.addresses.server config.client_sizes config.client_setup
        (client_of es) runs.client)

    far_replies : (es : List Entry) → RunOf config es → Always RepliesSo (far_of (hops_in config es))
    far_replies es runs = subst (Always RepliesSo) (sym (far_is config es))
        (server_facts.replies config.limits config.server_szx config.server_setup (server_trace config es) runs.server)

    pub channel : AreClocks c → (is : List ℕ) (es : List Entry) → RunOf config es → AllGo max_delivery is es
        → IsChannel (of_layers c) config es
    channel clocks is es runs go = record {
      pace = clocks;
      near_law = near_law es runs;
      far_law = far_law es runs;
      near_replies = near_replies es runs;
      far_replies = far_replies es runs;
      fair = fair is es go;
    }

    pub any_channel : (late : ℕ) (is : List ℕ) (es : List Entry) → RunOf config es → AllGo late is es
        → any_time.FairLaw config.client_setup config.server_setup config.addresses.client config.addresses.server
        (hops_in config es)
    any_channel late is es runs go = record {
      near_law = near_law es runs;
      far_law = far_law es runs;
      near_replies = near_replies es runs;
      far_replies = far_replies es runs;
      fair = fair_any late is es go;
    }

-- two clocks that keep pace rise
pub they_rise : (c : Clocks) → AreClocks c → Rise c
they_rise c clocks = record { client = clocks.near.rises; server = clocks.far.rises }
