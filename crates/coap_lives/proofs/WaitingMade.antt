-- What waits in a server to be taken was made by a call of its.
use Rattle.std.proofs.Common.{◌≡◌, inl, inr, ⊎_elim, ℕ, Bool, true, false, List, [], ◌∷◌, refl, ap, sym}
use Rattle.std.proofs.Common.{◌∙◌, subst, cond, drop, length, map}
use Rattle.std.proofs.Math.Seq.{drop-append_seam}
use Rattle.coap_types.specs.Past.{Ever}
use Rattle.coap_types.proofs.Facts.Traces.{Ever_append, Ever_back, Ever_front}
use Rattle.coap_layer.specs.Trace.{Packet}
use Rattle.coap_layer.specs.Machine.State as L
use Rattle.coap_exchange.specs.AnswererLaw as X
use Rattle.coap_server.specs.Law.{ServerLaw}
use Rattle.coap_server.specs.Led.{Led, State, Step, fresh_state, state_left}
use Rattle.coap_server.specs.Trace as S
use Rattle.coap_server.proofs.Facts.Exact.Leads.{led_empty, led_state}
use Rattle.coap_record.specs.Events.{Config}
use Rattle.coap_record.specs.Record.{DelayOf, Entry, OfClient, OfServer, PlainOf, Setting, gives_it, server_trace}
use Rattle.coap_record.specs.Record.{settings}
use Rattle.coap_promise.specs.Clocks.{Clocks}
use Rattle.coap_order.specs.Inputs.{is_server_input}
use Rattle.coap_order.specs.Run.{behind, given_at, made, made_by, server_waits}
use Rattle.coap_order.proofs.ServerMirror as servers
use Rattle.coap_order.proofs.ServerSteps.{given, input_puts, looks_applied, looks_gets, neat_step}
use Rattle.coap_order.proofs.Waiting.{IsNeat, neat_start}
use Rattle.coap_lives.specs.Life.{IsOut}
use Rattle.coap_lives.specs.Lives.{IsServer}

module _ (config : Config) where
  abbrev IsLedTo : List S.Call → State → Type 0
  IsLedTo t s = Led config.limits config.server_szx config.server_setup t s

  abbrev left_by : List S.Call → State
  left_by t = state_left config.limits config.server_szx config.server_setup t

  from_there : (call : S.Call) (t : List S.Call) (s : State) → IsLedTo t s
      → ServerLaw config.limits config.server_szx config.server_setup (call ∷ t)
      → (new : State) × Step s call new × IsLedTo (call ∷ t) new
  from_there call t s led law = servers.from_there config.limits config.server_szx config.server_setup call t s led law

  law_before : (call : S.Call) (t : List S.Call)
      → ServerLaw config.limits config.server_szx config.server_setup (call ∷ t)
      → ServerLaw config.limits config.server_szx config.server_setup t
  law_before call t law = servers.law_before config.limits config.server_szx config.server_setup call t law

  -- with what a server begins, nothing waits
  record Begun (t : List S.Call) : Type 0 where
    state : State
    led : IsLedTo t state
    layer_is : state.layer ≡ L.start config.server_setup

  begun : (ss : List Setting)
      → ServerLaw config.limits config.server_szx config.server_setup (map gives_it ss) → Begun (map gives_it ss)
  begun [] law = record {
    state = fresh_state config.limits config.server_szx config.server_setup;
    led = led_empty config.limits config.server_szx config.server_setup;
    layer_is = refl;
  }
  begun (DelayOf d ∷ ss) law =
      let b = begun ss (law_before (gives_it (DelayOf d)) (map gives_it ss) law) in
      let n = from_there (gives_it (DelayOf d)) (map gives_it ss) b.state b.led law in
      record { state = n.0; led = n.2; layer_is = ap (λ (x : X.State). x.layer) n.1.under ∙ b.layer_is }
  begun (PlainOf p ∷ ss) law =
      let b = begun ss (law_before (gives_it (PlainOf p)) (map gives_it ss) law) in
      let n = from_there (gives_it (PlainOf p)) (map gives_it ss) b.state b.led law in
      record { state = n.0; led = n.2; layer_is = ap (λ (x : X.State). x.layer) n.1.under ∙ b.layer_is }

  module _ (c : Clocks) (p : Packet) where
    abbrev Among : List Packet → Type 0
    Among ps = Ever (λ (q : Packet). q ≡ p) ps

    abbrev WasMade : List Entry → Type 0
    WasMade run = Ever (IsOut config p) (made config c run)

    record Waits (run : List Entry) : Type 0 where
      state : State
      led : IsLedTo (server_trace config run) state
      neat : IsNeat state.layer
      was : Among state.layer.queue → WasMade run

    as_given : (at : ℕ) (ps : List Packet) → Among ps → Ever (IsOut config p) (given_at at config.addresses.server ps)
    as_given at [] h = absurd h
    as_given at (q ∷ ps) (inl h) = inl (h, refl)
    as_given at (q ∷ ps) (inr h) = inr (as_given at ps h)

    all_but_first : (ps : List Packet) → Among (drop 1 ps) → Among ps
    all_but_first [] h = absurd h
    all_but_first (q ∷ ps) h = inr h

    older : (e : Entry) (run : List Entry) → WasMade run → WasMade (e ∷ run)
    older e run h = Ever_back (IsOut config p) (made_by config c run e) (made config c run) h

    by_input : (call : S.Call) (run : List Entry) → is_server_input call ≡ true → (w : Waits run)
        → IsServer config (OfServer call ∷ run) → Waits (OfServer call ∷ run)
    by_input call run input w law =
        let t = server_trace config run in
        let n = from_there call t w.state w.led law in
        let k = input_puts w.state n.0 call input n.1 in
        let puts : behind (server_waits config t) (server_waits config (call ∷ t)) ≡ k.0 =
        ap (λ (s : State). drop (length s.layer.queue) (left_by (call ∷ t)).layer.queue)
        (sym (led_state config.limits config.server_szx config.server_setup t w.state w.led))
        ∙ (ap (λ (s : State). drop (length w.state.layer.queue) s.layer.queue)
        (sym (led_state config.limits config.server_szx config.server_setup (call ∷ t) n.0 n.2))
        ∙ (ap (drop (length w.state.layer.queue)) k.1.behind ∙ drop-append_seam w.state.layer.queue k.0)) in
        let made_is : made_by config c run (OfServer call) ≡ given_at
        (c.server (length run)) config.addresses.server k.0 =
        ap (λ (b : Bool). cond b (given_at (c.server (length run)) config.addresses.server
        (behind (server_waits config t) (server_waits config (call ∷ t)))) []) input
        ∙ ap (given_at (c.server (length run)) config.addresses.server) puts in
        record {
          state = n.0;
          led = n.2;
          neat = neat_step w.state n.0 call w.neat n.1;
          was = λ h. ⊎_elim (λ l. older (OfServer call) run (w.was l))
              (λ r. Ever_front (IsOut config p) (made_by config c run (OfServer call)) (made config c run)
              (subst (Ever (IsOut config p)) (sym made_is) (as_given (c.server (length run)) k.0 r)))
              (Ever_append (λ (q : Packet). q ≡ p) w.state.layer.queue k.0 (subst Among k.1.behind h));
        }

    same_state : (call : S.Call) (run : List Entry) (w : Waits run) (new : State) → new ≡ w.state
        → IsLedTo (call ∷ server_trace config run) new → Waits (OfServer call ∷ run)
    same_state call run w new same led = record {
      state = new;
      led = led;
      neat = subst (λ (s : State). IsNeat s.layer) (sym same) w.neat;
      was = λ h. older (OfServer call) run (w.was (subst (λ (s : State). Among s.layer.queue) same h));
    }

    by_call : (call : S.Call) (run : List Entry) → Waits run → IsServer config (OfServer call ∷ run)
        → (input : Bool) → is_server_input call ≡ input → Waits (OfServer call ∷ run)
    by_call call run w law true input = by_input call run input w law
    by_call call run w law false other =
        let n = from_there call (server_trace config run) w.state w.led law in go call other n.0 n.1 n.2
      where
        go : (call : S.Call) → is_server_input call ≡ false → (new : State) → Step w.state call new
            → IsLedTo (call ∷ server_trace config run) new → Waits (OfServer call ∷ run)
        go (S.Gets path answer) e new step led = same_state (S.Gets path answer) run w new
            (looks_gets w.state new path answer step) led
        go (S.TellsApplied answer) e new step led = same_state (S.TellsApplied answer) run w new
            (looks_applied w.state new answer step) led
        go (S.NextOut answer) e new step led =
            let k = given w.state new answer w.neat step in record {
              state = new;
              led = led;
              neat = neat_step w.state new (S.NextOut answer) w.neat step;
              was = λ h. older (OfServer (S.NextOut answer)) run (w.was (all_but_first w.state.layer.queue
                  (subst (λ (s : State). Among s.layer.queue) k.1 h)));
            }
        go (S.Sets now path format body answer left) e new step led = absurd (cc e)
        go (S.Removes now path answer left) e new step led = absurd (cc e)
        go (S.Delays path ms answer) e new step led = absurd (cc e)
        go (S.Plains path answer) e new step led = absurd (cc e)
        go (S.Feeds now from bytes word up came h below) e new step led = absurd (cc e)
        go (S.Refuses now from bytes word code up came response below) e new step led = absurd (cc e)
        go (S.Ticks now word below room due passed h id answer) e new step led = absurd (cc e)
        go (S.Forgets peer) e new step led = absurd (cc e)

    waits_in : (run : List Entry) → IsServer config run → Waits run
    waits_in [] law =
        let b = begun (settings config) law in record {
          state = b.state;
          led = b.led;
          neat = subst IsNeat (sym b.layer_is) (neat_start config.server_setup);
          was = λ h. absurd (subst Among (ap (λ (l : L.State). l.queue) b.layer_is) h);
        }
    waits_in (OfClient call ∷ run) law =
        let w = waits_in run law in record {
          state = w.state;
          led = w.led;
          neat = w.neat;
          was = λ h. older (OfClient call) run (w.was h);
        }
    waits_in (OfServer call ∷ run) law =
        by_call call run (waits_in run (law_before call (server_trace config run) law)) law (is_server_input call) refl

    pub waiting_was_made : (run : List Entry) → IsServer config run
        → Among (server_waits config (server_trace config run)) → WasMade run
    waiting_was_made run law h =
        let w = waits_in run law in w.was (subst (λ (s : State). Among s.layer.queue)
        (sym (led_state config.limits config.server_szx config.server_setup (server_trace config run) w.state w.led)) h)
