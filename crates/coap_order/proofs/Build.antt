-- The record of a run, turn by turn.
use Rattle.std.proofs.Common.{◌≡◌, ⊎_elim, ℕ, ◌<◌, ◌^◌, Bool, true, false, Some, None, List, [], ◌∷◌}
use Rattle.std.proofs.Common.{◌++◌, refl, ap, sym, ◌∙◌, subst, map, length, reverse, append_assoc, option_to_list, cond}
use Rattle.std.proofs.Common.{suc}
use Rattle.std.proofs.lemmas.List.{append-nil, map-append}
use Rattle.coap_types.specs.Past.{Always, Ever, all_of}
use Rattle.coap_types.specs.declared.endpoint.Endpoint.{Endpoint}
use Rattle.coap_types.proofs.Facts.Traces.{Ever_append, Ever_back, Ever_front}
use Rattle.coap_layer.specs.Trace.{Packet}
use Rattle.coap_layer.specs.Machine.State as L
use Rattle.coap_client.specs.Law.{ClientLaw}
use Rattle.coap_client.specs.Led as C_led
use Rattle.coap_client.specs.Own as C_own
use Rattle.coap_client.specs.Trace as C
use Rattle.coap_client.proofs.Facts.EachCall.{client_stands}
use Rattle.coap_client.proofs.Facts.Turning.Leading.{client_start}
use Rattle.coap_server.specs.Law.{ServerLaw}
use Rattle.coap_server.specs.Led as S_led
use Rattle.coap_server.specs.Trace as S
use Rattle.coap_server.proofs.Facts.EachCall.{led_lawful}
use Rattle.coap_server.proofs.Facts.Exact.Leads.{led_empty, led_state}
use Rattle.coap_exchange.specs.AnswererLaw as X
use Rattle.coap_record.specs.Events.{Config}
use Rattle.coap_record.specs.Record.{DelayOf, Entry, Given, Makes, OfClient, OfServer, OnClient, OnServer, PlainOf}
use Rattle.coap_record.specs.Record.{Setting, Turn, begun_with, client_of, entries_of, given_in}
use Rattle.coap_record.specs.Record.{gives_it, server_of, server_trace, settings}
use Rattle.coap_record.proofs.Facts.CallsOfEnds.{client_client, client_server, server_client, server_server}
use Rattle.coap_promise.specs.Clocks.{Clocks, IsLegal}
use Rattle.coap_record.specs.Legal.{max_delivery}
use Rattle.coap_order.specs.Inputs.{is_client_input, is_server_input}
use Rattle.coap_order.specs.Reads.{HasRecord, IsAlike, Reads, inputs_of, is_input, none, out_of_client, out_of_server}
use Rattle.coap_order.specs.Reads.{taken_of}
use Rattle.coap_order.specs.Run.{LegalRun, MayMake, RunOf, given_at, made, made_by}
use Rattle.coap_order.proofs.ClientMirror as clients
use Rattle.coap_order.proofs.ServerMirror as servers
use Rattle.coap_order.proofs.ServerSteps.{waits}
use Rattle.coap_order.proofs.Givens.{client_gave, client_inputs, client_take, server_gave, server_inputs, server_take}
use Rattle.coap_order.proofs.Turns as turns_of
use Rattle.coap_order.proofs.Waiting.{IsNeat, neat_start}

module _ (config : Config) (c : Clocks) where
  abbrev ClientMirror : List C.Call → List C.Call → Type 0
  ClientMirror t u = clients.Mirror config.addresses.server config.client_sizes config.client_setup t u

  abbrev ServerMirror : List S.Call → List S.Call → Type 0
  ServerMirror t u = servers.Mirror config.limits config.server_szx config.server_setup t u

  -- the turns so far, and what is true of them
  record Built (run : List Entry) : Type 0 where
    turns : List Turn
    client : ClientMirror (client_of run) (client_of (entries_of turns))
    server : ServerMirror (server_trace config run) (server_trace config (entries_of turns))
    made_are : Always (λ past t. Makes config.addresses past t.event.at t.event.word t.event.what t.refused t.entries)
        turns
    legal : Always (IsLegal config.addresses c) turns
    len : length turns ≡ length run
    gave : (g : Given) → Ever (λ x. x ≡ g) (made config c run)
        → Ever (λ x. x ≡ g) (all_of (given_in config.addresses) turns)
    inputs : inputs_of (entries_of turns) ≡ inputs_of run
    reads : Reads config run turns

  -- with what both ends show, the record is alike
  alike : (run all : List Entry) → inputs_of all ≡ inputs_of run → ClientMirror (client_of run) (client_of all)
      → ServerMirror (server_trace config run) (server_trace config all) → IsAlike config run all
  alike run all inputs m n = record {
    inputs = inputs;
    server_keeps = sym n.mirror.own_is ∙ n.led.own_is;
    client_keeps = sym m.mirror.own_is ∙ ap (λ (o : C_own.Own). record o { reports = [] }) m.led.own_is;
    client = m.outs ∙ ap (λ (s : C_led.State). taken_of out_of_client (client_of run) ++ s.layer.layer.queue)
        (clients.led_state config.addresses.server config.client_sizes config.client_setup (client_of run) m.state
        m.led);
    server = n.outs
        ∙ ap (λ (s : S_led.State). taken_of out_of_server (server_trace config run) ++ s.layer.queue)
        (led_state config.limits config.server_szx config.server_setup (server_trace config run) n.state n.led);
    reports = subst (λ (s : C_led.State). clients.AreParts (client_of run) s.own.reports (client_of all))
        (clients.led_state config.addresses.server config.client_sizes config.client_setup (client_of run) m.state
        m.led) m.reports;
  }

  -- one turn more, of the server

  server_more : (run : List Entry) (b : Built run) (call : S.Call) (calls : List S.Call) (outs : List Packet)
      → turns_of.Is config c run b.turns b.len b.gave OnServer (c.server (length b.turns)) calls
      → c.server (length run) < 2 ^ 64
      → ServerMirror (call ∷ server_trace config run)
      (S.NextOut None ∷ (map (λ p. S.NextOut (Some p)) (reverse outs) ++ (calls ++ server_trace config
      (entries_of b.turns))))
      → inputs_of (map OfServer calls ++ entries_of b.turns) ≡ inputs_of (OfServer call ∷ run)
      → ((g : Given) → Ever (λ x. x ≡ g) (made_by config c run (OfServer call))
      → Ever (λ x. x ≡ g) (given_at (c.server (length b.turns)) config.addresses.server outs))
      → map OfServer calls ≡ cond (is_server_input call) (OfServer call ∷ []) []
      → Built (OfServer call ∷ run)
  server_more run b call calls outs is at_in mirror same_inputs from_made calls_are =
      let all : List S.Call = S.NextOut None ∷ (map (λ p. S.NextOut (Some p)) (reverse outs) ++ calls) in
      let turn : Turn = record {
        event = record { at = c.server (length b.turns); word = is.word; what = is.what };
        refused = is.refused;
        entries = map OfServer all;
      } in
      let client : ClientMirror (client_of run) (client_of (entries_of (turn ∷ b.turns))) =
      subst (ClientMirror (client_of run)) (sym (client_server all (entries_of b.turns))) b.client in
      let trace_is : server_trace config (entries_of (turn ∷ b.turns))
      ≡ S.NextOut None ∷ (map (λ p. S.NextOut (Some p)) (reverse outs)
      ++ (calls ++ server_trace config (entries_of b.turns))) =
      ap (λ (t : List S.Call). t ++ begun_with config) (server_server all (entries_of b.turns))
      ∙ (append_assoc all (server_of (entries_of b.turns)) (begun_with config)
      ∙ ap (λ (t : List S.Call). S.NextOut None ∷ t)
      (append_assoc (map (λ p. S.NextOut (Some p)) (reverse outs)) calls
      (server_trace config (entries_of b.turns)))) in
      let server : ServerMirror (server_trace config (OfServer call ∷ run))
      (server_trace config (entries_of (turn ∷ b.turns))) =
      subst (ServerMirror (call ∷ server_trace config run)) (sym trace_is) mirror in
      let inputs : inputs_of (entries_of (turn ∷ b.turns)) ≡ inputs_of (OfServer call ∷ run) =
      server_inputs (reverse outs) calls (entries_of b.turns) ∙ same_inputs in
      record {
        turns = turn ∷ b.turns;
        client = client;
        server = server;
        made_are = (is.makes (map OfServer all) (record { outs = reverse outs; is = refl }), b.made_are);
        legal = (
          record {
            at = subst (λ (n : ℕ). c.server n < 2 ^ 64) (sym b.len) at_in;
            word = is.word_in;
            range = is.range;
            comes = is.comes;
          },
          b.legal,
        );
        len = ap suc b.len;
        gave = λ g h. ⊎_elim
            (λ l. Ever_front (λ x. x ≡ g) (given_in config.addresses turn) _
            (server_gave config.addresses (c.server (length b.turns)) g outs calls (from_made g l)))
            (λ r. Ever_back (λ x. x ≡ g) (given_in config.addresses turn) _ (b.gave g r))
            (Ever_append (λ x. x ≡ g) (made_by config c run (OfServer call)) (made config c run) h);
        inputs = inputs;
        reads = (
          b.reads,
          record {
            takings = map OfServer (S.NextOut None ∷ map (λ p. S.NextOut (Some p)) (reverse outs));
            take = server_take (reverse outs);
            is = map-append OfServer (S.NextOut None ∷ map (λ p. S.NextOut (Some p)) (reverse outs)) calls
                ∙ ap (λ (es : List Entry). map OfServer (S.NextOut None ∷ map (λ p. S.NextOut (Some p)) (reverse outs))
                ++ es) calls_are;
          },
          alike (OfServer call ∷ run) (entries_of (turn ∷ b.turns)) inputs client server,
        );
      }

  -- .. of the client

  client_more : (run : List Entry) (b : Built run) (call : C.Call) (calls : List C.Call) (told : List C.Reported)
      (outs : List Packet) → turns_of.Is config c run b.turns b.len b.gave OnClient (c.client (length b.turns)) calls
      → c.client (length run) < 2 ^ 64
      → ClientMirror (call ∷ client_of run) (clients.turn_of told (reverse outs) (calls ++ client_of
      (entries_of b.turns)))
      → inputs_of (map OfClient calls ++ entries_of b.turns) ≡ inputs_of (OfClient call ∷ run)
      → ((g : Given) → Ever (λ x. x ≡ g) (made_by config c run (OfClient call))
      → Ever (λ x. x ≡ g) (given_at (c.client (length b.turns)) config.addresses.client outs))
      → map OfClient calls ≡ cond (is_client_input call) (OfClient call ∷ []) []
      → Built (OfClient call ∷ run)
  client_more run b call calls told outs is at_in mirror same_inputs from_made calls_are =
      let all : List C.Call = clients.turn_of told (reverse outs) calls in
      let turn : Turn = record {
        event = record { at = c.client (length b.turns); word = is.word; what = is.what };
        refused = is.refused;
        entries = map OfClient all;
      } in
      let server : ServerMirror (server_trace config run) (server_trace config (entries_of (turn ∷ b.turns))) =
      subst (λ (t : List S.Call). ServerMirror (server_trace config run) (t ++ begun_with config))
      (sym (server_client all (entries_of b.turns))) b.server in
      let trace_is : client_of (entries_of (turn ∷ b.turns))
      ≡ clients.turn_of told (reverse outs) (calls ++ client_of (entries_of b.turns)) =
      client_client all (entries_of b.turns)
      ∙ clients.turn_behind told (reverse outs) calls (client_of (entries_of b.turns)) in
      let client : ClientMirror (client_of (OfClient call ∷ run)) (client_of (entries_of (turn ∷ b.turns))) =
      subst (ClientMirror (call ∷ client_of run)) (sym trace_is) mirror in
      let inputs : inputs_of (entries_of (turn ∷ b.turns)) ≡ inputs_of (OfClient call ∷ run) =
      client_inputs told (reverse outs) calls (entries_of b.turns) ∙ same_inputs in
      record {
        turns = turn ∷ b.turns;
        client = client;
        server = server;
        made_are = (
          is.makes (map OfClient all)
              (record { outs = reverse outs; reports = told; is = refl }),
          b.made_are,
        );
        legal = (
          record {
            at = subst (λ (n : ℕ). c.client n < 2 ^ 64) (sym b.len) at_in;
            word = is.word_in;
            range = is.range;
            comes = is.comes;
          },
          b.legal,
        );
        len = ap suc b.len;
        gave = λ g h. ⊎_elim
            (λ l. Ever_front (λ x. x ≡ g) (given_in config.addresses turn) _
            (client_gave config.addresses (c.client (length b.turns)) g told outs calls (from_made g l)))
            (λ r. Ever_back (λ x. x ≡ g) (given_in config.addresses turn) _ (b.gave g r))
            (Ever_append (λ x. x ≡ g) (made_by config c run (OfClient call)) (made config c run) h);
        inputs = inputs;
        reads = (
          b.reads,
          record {
            takings = map OfClient (clients.turn_of told (reverse outs) []);
            take = subst (λ (cs : List C.Call). Always (λ past x. is_input x ≡ false) (map OfClient cs))
                (ap (λ (cs : List C.Call). C.NextReport None
                ∷ (map (λ r. C.NextReport (Some r)) told ++ C.NextOut None ∷ cs))
                (sym (append-nil (map (λ p. C.NextOut (Some p)) (reverse outs))))) (client_take told (reverse outs));
            is = ap (map OfClient) (sym (clients.turn_behind told (reverse outs) [] calls))
                ∙ (map-append OfClient (clients.turn_of told (reverse outs) []) calls
                ∙ ap (λ (es : List Entry). map OfClient (clients.turn_of told (reverse outs) []) ++ es) calls_are);
          },
          alike (OfClient call ∷ run) (entries_of (turn ∷ b.turns)) inputs client server,
        );
      }

  -- what a call made, by whether it is an input

  module _ (g : Given) where
    of_input : (b : Bool) (n m : ℕ) (from : Endpoint) (xs outs : List Packet) → b ≡ true → m ≡ n → xs ≡ outs
        → Ever (λ x. x ≡ g) (cond b (given_at n from xs) []) → Ever (λ x. x ≡ g) (given_at m from outs)
    of_input b n m from xs outs input same is h =
        subst (λ (ps : List Packet). Ever (λ x. x ≡ g) (given_at m from ps)) is
        (subst (λ (i : ℕ). Ever (λ x. x ≡ g) (given_at i from xs)) (sym same)
        (subst (λ (z : Bool). Ever (λ x. x ≡ g) (cond z (given_at n from xs) [])) input h))

    of_other : (b : Bool) (n m : ℕ) (from : Endpoint) (xs outs : List Packet) → b ≡ false
        → Ever (λ x. x ≡ g) (cond b (given_at n from xs) []) → Ever (λ x. x ≡ g) (given_at m from outs)
    of_other b n m from xs outs other h =
        absurd (subst (λ (z : Bool). Ever (λ x. x ≡ g) (cond z (given_at n from xs) [])) other h)

  inputs_with : (b : Bool) (e : Entry) (xs ys : List Entry) → b ≡ true → xs ≡ ys
      → cond b (e ∷ xs) xs ≡ cond b (e ∷ ys) ys
  inputs_with b e xs ys is same = ap (λ (zs : List Entry). cond b (e ∷ zs) zs) same

  inputs_without : (b : Bool) (e : Entry) (xs ys : List Entry) → b ≡ false → xs ≡ ys → xs ≡ cond b (e ∷ ys) ys
  inputs_without b e xs ys is same = same ∙ ap (λ (z : Bool). cond z (e ∷ ys) ys) (sym is)

  by_server : (run : List Entry) (b : Built run) (call : S.Call)
      → ServerLaw config.limits config.server_szx config.server_setup (call ∷ server_trace config run)
      → MayMake config c max_delivery run (OfServer call) → (input : Bool) → is_server_input call ≡ input
      → Built (OfServer call ∷ run)
  by_server run b call law may true input =
      let k = servers.input_mirrored config.limits config.server_szx config.server_setup call (server_trace config run)
      (server_trace config (entries_of b.turns)) input b.server law in
      server_more run b call (call ∷ []) k.outs (turns_of.served config c run b.turns b.len b.gave call input may.1)
      may.0 k.mirror
      (inputs_with (is_server_input call) (OfServer call) _ _ input b.inputs)
      (λ g h. of_input g (is_server_input call) (c.server (length run)) (c.server (length b.turns))
      config.addresses.server _ k.outs input (ap c.server b.len) k.made h)
      (ap (λ (z : Bool). cond z (OfServer call ∷ []) []) (sym input))
  by_server run b call law may false other =
      server_more run b call [] [] (turns_of.server_idles config c run b.turns b.len b.gave) may.0
      (servers.other_mirrored config.limits config.server_szx config.server_setup call (server_trace config run)
      (server_trace config (entries_of b.turns)) other b.server law)
      (inputs_without (is_server_input call) (OfServer call) _ _ other b.inputs)
      (λ g h. of_other g (is_server_input call) (c.server (length run)) (c.server (length b.turns))
      config.addresses.server _ [] other h)
      (ap (λ (z : Bool). cond z (OfServer call ∷ []) []) (sym other))

  by_client : (run : List Entry) (b : Built run) (call : C.Call)
      → ClientLaw config.addresses.server config.client_sizes config.client_setup (call ∷ client_of run)
      → MayMake config c max_delivery run (OfClient call) → (input : Bool) → is_client_input call ≡ input
      → Built (OfClient call ∷ run)
  by_client run b call law may true input =
      let k = clients.input_mirrored config.addresses.server config.client_sizes config.client_setup call
      (client_of run) (client_of (entries_of b.turns)) input b.client law in
      client_more run b call (call ∷ []) (option_to_list k.report) k.outs
      (turns_of.called config c run b.turns b.len b.gave call input may.1) may.0 k.mirror
      (inputs_with (is_client_input call) (OfClient call) _ _ input b.inputs)
      (λ g h. of_input g (is_client_input call) (c.client (length run)) (c.client (length b.turns))
      config.addresses.client _ k.outs input (ap c.client b.len) k.made h)
      (ap (λ (z : Bool). cond z (OfClient call ∷ []) []) (sym input))
  by_client run b call law may false other =
      client_more run b call [] [] [] (turns_of.client_idles config c run b.turns b.len b.gave) may.0
      (clients.other_mirrored config.addresses.server config.client_sizes config.client_setup call (client_of run)
      (client_of (entries_of b.turns)) other b.client law)
      (inputs_without (is_client_input call) (OfClient call) _ _ other b.inputs)
      (λ g h. of_other g (is_client_input call) (c.client (length run)) (c.client (length b.turns))
      config.addresses.client _ [] other h)
      (ap (λ (z : Bool). cond z (OfClient call ∷ []) []) (sym other))

  -- with what a server begins, nothing waits
  record Begun (t : List S.Call) : Type 0 where
    state : S_led.State
    led : S_led.Led config.limits config.server_szx config.server_setup t state
    layer_is : state.layer ≡ L.start config.server_setup

  begun : (ss : List Setting)
      → ServerLaw config.limits config.server_szx config.server_setup (map gives_it ss) → Begun (map gives_it ss)
  begun [] law = record {
    state = S_led.fresh_state config.limits config.server_szx config.server_setup;
    led = led_empty config.limits config.server_szx config.server_setup;
    layer_is = refl;
  }
  begun (DelayOf d ∷ ss) law =
      let b = begun ss (servers.law_before config.limits config.server_szx config.server_setup (gives_it (DelayOf d))
      (map gives_it ss) law) in
      let n = servers.from_there config.limits config.server_szx config.server_setup (gives_it (DelayOf d))
      (map gives_it ss) b.state b.led law in
      record { state = n.0; led = n.2; layer_is = ap (λ (x : X.State). x.layer) n.1.under ∙ b.layer_is }
  begun (PlainOf p ∷ ss) law =
      let b = begun ss (servers.law_before config.limits config.server_szx config.server_setup (gives_it (PlainOf p))
      (map gives_it ss) law) in
      let n = servers.from_there config.limits config.server_szx config.server_setup (gives_it (PlainOf p))
      (map gives_it ss) b.state b.led law in
      record { state = n.0; led = n.2; layer_is = ap (λ (x : X.State). x.layer) n.1.under ∙ b.layer_is }

  server_begins : ServerLaw config.limits config.server_szx config.server_setup (begun_with config)
      → ServerMirror (begun_with config) (begun_with config)
  server_begins law =
      let b = begun (settings config) law in
      let queue_is : b.state.layer.queue ≡ [] = ap (λ (l : L.State). l.queue) b.layer_is in
      record {
        state = b.state;
        led = b.led;
        mirror = subst (λ (q : List Packet). S_led.Led config.limits config.server_szx config.server_setup
            (begun_with config) (waits q b.state)) queue_is b.led;
        neat = subst IsNeat (sym b.layer_is) (neat_start config.server_setup);
        outs = sym (append-nil (taken_of out_of_server (begun_with config)))
            ∙ ap (λ (q : List Packet). taken_of out_of_server (begun_with config) ++ q) (sym queue_is);
      }

  build : (run : List Entry) → RunOf config run → Always (MayMake config c max_delivery) run → Built run
  build [] runs may = record {
    turns = [];
    client = record {
      state = C_led.fresh_state config.addresses.server config.client_sizes config.client_setup;
      led = client_start config.addresses.server config.client_sizes config.client_setup;
      mirror = client_start config.addresses.server config.client_sizes config.client_setup;
      neat = neat_start config.client_setup;
      outs = refl;
      reports = none;
    };
    server = server_begins runs.server;
    made_are = tt;
    legal = tt;
    len = refl;
    gave = λ g h. h;
    inputs = refl;
    reads = tt;
  }
  build (OfClient call ∷ run) runs may =
      let before : RunOf config run = record {
        client = clients.law_before config.addresses.server config.client_sizes config.client_setup call
            (client_of run) runs.client;
        server = runs.server;
      } in
      by_client run (build run before may.1) call runs.client may.0 (is_client_input call) refl
  build (OfServer call ∷ run) runs may =
      let before : RunOf config run = record {
        client = runs.client;
        server = servers.law_before config.limits config.server_szx config.server_setup call
            (server_trace config run) runs.server;
      } in
      by_server run (build run before may.1) call runs.server may.0 (is_server_input call) refl

  pub has_record : (run : List Entry) → RunOf config run → LegalRun config c run → HasRecord config c run
  has_record run runs legal =
      let b = build run runs legal.calls in record {
        events = map (λ (t : Turn). t.event) b.turns;
        turns = b.turns;
        is = record {
          events_are = refl;
          made = b.made_are;
          client = client_stands config.addresses.server config.client_sizes config.client_setup
              (client_of (entries_of b.turns)) _ b.client.mirror;
          server = led_lawful config.limits config.server_szx config.server_setup
              (server_trace config (entries_of b.turns)) _ b.server.mirror;
        };
        legal = record { clocks = legal.clocks; range = legal.range; events = b.legal };
        reads = b.reads;
      }
