-- A client whose datagrams and reports are taken at any moment, and one whose are taken behind each input.
use Rattle.std.proofs.Common.{◌≡◌, Bool, true, false, not, ◌==◌, Option, Some, None, List, [], ◌∷◌, ◌++◌, refl, ap, sym}
use Rattle.std.proofs.Common.{◌∙◌, subst, drop, slice_get, option_to_list, map, append_assoc, reverse, length}
use Rattle.std.proofs.Common.{inl, inr}
use Rattle.std.proofs.lemmas.List.{append-nil, reverse-append, map-append}
use Rattle.coap_types.specs.Past.{Ever}
use Rattle.coap_types.specs.declared.endpoint.Endpoint.{Endpoint}
use Rattle.coap_layer.specs.Trace.{Packet}
use Rattle.coap_layer.specs.declared.setup.Setup.{Setup}
use Rattle.coap_layer.specs.Machine.State as L
use Rattle.coap_layer.proofs.Facts.Calls.{steps_left}
use Rattle.coap_exchange.specs.AskerTrace as E
use Rattle.coap_exchange.proofs.Facts.ClientSide.{led_exchanged, led_start}
use Rattle.coap_block.specs.Sizes.{Sizes}
use Rattle.coap_exchange.specs.AskerLaw as X
use Rattle.coap_client.specs.Law.{ClientLaw, lower_of, own_of}
use Rattle.coap_client.specs.Led.{Led, State, Step, state_left}
use Rattle.coap_client.specs.Own.{Own}
use Rattle.coap_client.specs.Steps.{reports}
use Rattle.coap_client.specs.Trace as C
use Rattle.coap_client.specs.Trace.{Call, Calls, Cancels, Feeds, Forgets, NextOut, NextReport, Observes, Reported}
use Rattle.coap_client.specs.Trace.{Ticks}
use Rattle.coap_client.proofs.Facts.EachCall.{client_stands, led_client}
use Rattle.coap_order.specs.Inputs.{is_client_input, stay_by}
use Rattle.coap_order.specs.Reads.{Part, forgets_it, out_of_client, report_of, taken_of}
use Rattle.coap_order.proofs.ClientSteps.{before, given, gives, gives_none, input_puts, looks, neat_step, reported}
use Rattle.coap_order.proofs.ClientSteps.{reports_none, reports_one, waits}
use Rattle.coap_order.proofs.Parts.{part_all, part_filter, part_front, part_more, part_trans, part_weaker}
use Rattle.coap_order.proofs.ServerMirror.{behind_all, taken_first}
use Rattle.coap_order.proofs.Waiting.{IsNeat}

-- an input takes nothing

out_of_input : (c : Call) → is_client_input c ≡ true → out_of_client c ≡ None
out_of_input (Calls now r answer) e = refl
out_of_input (Observes now path answer) e = refl
out_of_input (Cancels now number answer) e = refl
out_of_input (Forgets number kept answer) e = refl
out_of_input (Feeds now from bytes word up settled event sent token kept) e = refl
out_of_input (Ticks now word below t sent token kept answer) e = refl
out_of_input (NextOut answer) e = absurd (cc e)
out_of_input (NextReport answer) e = absurd (cc e)
out_of_input (C.Asked answer) e = absurd (cc e)

report_of_input : (c : Call) → is_client_input c ≡ true → report_of c ≡ None
report_of_input (Calls now r answer) e = refl
report_of_input (Observes now path answer) e = refl
report_of_input (Cancels now number answer) e = refl
report_of_input (Forgets number kept answer) e = refl
report_of_input (Feeds now from bytes word up settled event sent token kept) e = refl
report_of_input (Ticks now word below t sent token kept answer) e = refl
report_of_input (NextOut answer) e = absurd (cc e)
report_of_input (NextReport answer) e = absurd (cc e)
report_of_input (C.Asked answer) e = absurd (cc e)

-- where none wait, none is dropped
stay_none : (c : Call) → stay_by c [] ≡ []
stay_none (Calls now r answer) = refl
stay_none (Observes now path answer) = refl
stay_none (Cancels now number answer) = refl
stay_none (Forgets number kept true) = refl
stay_none (Forgets number kept false) = refl
stay_none (Feeds now from bytes word up settled event sent token kept) = refl
stay_none (Ticks now word below t sent token kept answer) = refl
stay_none (NextOut answer) = refl
stay_none (NextReport answer) = refl
stay_none (C.Asked answer) = refl

-- what is dropped is of an observation that is forgotten

abbrev pub WasForgotten : List Call → Reported → Type 0
WasForgotten t x = Ever (λ c. forgets_it x.number c ≡ true) t

not_false : (b : Bool) → not b ≡ false → b ≡ true
not_false true e = refl
not_false false e = absurd (cc e)

stay_part : (c : Call) (t : List Call) (rs : List Reported) → Part (WasForgotten (c ∷ t)) (stay_by c rs) rs
stay_part (Forgets number kept true) t rs =
    part_filter (WasForgotten (Forgets number kept true ∷ t)) (λ (r : Reported). not (r.number == number))
    (λ x e. inl (not_false (x.number == number) e)) rs
stay_part (Forgets number kept false) t rs = part_all (WasForgotten (Forgets number kept false ∷ t)) rs
stay_part (Calls now r answer) t rs = part_all (WasForgotten (Calls now r answer ∷ t)) rs
stay_part (Observes now path answer) t rs = part_all (WasForgotten (Observes now path answer ∷ t)) rs
stay_part (Cancels now number answer) t rs = part_all (WasForgotten (Cancels now number answer ∷ t)) rs
stay_part (Feeds now from bytes word up settled event sent token kept) t rs =
    part_all (WasForgotten (Feeds now from bytes word up settled event sent token kept ∷ t)) rs
stay_part (Ticks now word below turn sent token kept answer) t rs =
    part_all (WasForgotten (Ticks now word below turn sent token kept answer ∷ t)) rs
stay_part (NextOut answer) t rs = part_all (WasForgotten (NextOut answer ∷ t)) rs
stay_part (NextReport answer) t rs = part_all (WasForgotten (NextReport answer ∷ t)) rs
stay_part (C.Asked answer) t rs = part_all (WasForgotten (C.Asked answer ∷ t)) rs

abbrev out_calls : List Packet → List Call
out_calls ps = map (λ p. NextOut (Some p)) ps

abbrev report_calls : List Reported → List Call
report_calls rs = map (λ r. NextReport (Some r)) rs

reports_first : (q taken : List Reported) (p : Option Reported) → p ≡ slice_get q 0
    → taken ++ q ≡ (taken ++ option_to_list p) ++ drop 1 q
reports_first [] taken p e = subst (λ (o : Option Reported). taken ++ [] ≡ (taken ++ option_to_list o) ++ []) (sym e)
    (sym (append-nil (taken ++ [])))
reports_first (x ∷ q) taken p e =
    subst (λ (o : Option Reported). taken ++ (x ∷ q) ≡ (taken ++ option_to_list o) ++ q) (sym e)
    (sym (append_assoc taken (x ∷ []) q))

-- a turn, where these calls made it

abbrev pub turn_of : List Reported → List Packet → List Call → List Call
turn_of rs ps calls = NextReport None ∷ (report_calls rs ++ NextOut None ∷ (out_calls ps ++ calls))

pub turn_behind : (rs : List Reported) (ps : List Packet) (calls t : List Call)
    → turn_of rs ps calls ++ t ≡ turn_of rs ps (calls ++ t)
turn_behind rs ps calls t = ap (λ (cs : List Call). NextReport None ∷ cs)
    (append_assoc (report_calls rs) (NextOut None ∷ (out_calls ps ++ calls)) t
    ∙ ap (λ (cs : List Call). report_calls rs ++ NextOut None ∷ cs) (append_assoc (out_calls ps) calls t))

-- what was taken of the reports, with what waits, is part of what the other gives
abbrev pub AreParts : List Call → List Reported → List Call → Type 0
AreParts t waiting u = Part (WasForgotten t) (taken_of report_of t ++ waiting) (taken_of report_of u)

module _ (server : Endpoint) (sizes : Sizes) (setup : Setup) where
  pub record Mirror (t u : List Call) : Type 0 where
    pub state : State
    pub led : Led server sizes setup t state
    pub mirror : Led server sizes setup u (waits [] [] state)
    pub neat : IsNeat state.layer.layer
    pub outs : taken_of out_of_client u ≡ taken_of out_of_client t ++ state.layer.layer.queue
    pub reports : Part (WasForgotten t) (taken_of report_of t ++ state.own.reports) (taken_of report_of u)

  abbrev IsLed : List Call → State → Type 0
  IsLed t s = Led server sizes setup t s

  -- all that waits is taken

  drains : (t : List Call) (s : State) (r : List Reported) (o : List Packet) → IsNeat s.layer.layer
      → IsLed t (waits r o s) → IsLed (out_calls (reverse o) ++ t) (waits r [] s)
  drains t s r [] neat led = led
  drains t s r (p ∷ o) neat led =
      subst (λ (u : List Call). IsLed u (waits r [] s))
      (sym (ap (λ (ps : List Packet). out_calls ps ++ t) (reverse-append (p ∷ []) o)
      ∙ (ap (λ (cs : List Call). cs ++ t) (map-append (λ (x : Packet). NextOut (Some x)) (reverse o) (p ∷ []))
      ∙ append_assoc (out_calls (reverse o)) (NextOut (Some p) ∷ []) t)))
      (drains (NextOut (Some p) ∷ t) s r o neat
      (led_client server sizes setup t (NextOut (Some p)) (waits r (p ∷ o) s) (waits r o s) led (gives s r p o neat)))

  drained : (t : List Call) (s : State) (r : List Reported) (o : List Packet) → IsNeat s.layer.layer
      → IsLed t (waits r o s) → IsLed (NextOut None ∷ (out_calls (reverse o) ++ t)) (waits r [] s)
  drained t s r o neat led = led_client server sizes setup (out_calls (reverse o) ++ t) (NextOut None)
      (waits r [] s) (waits r [] s) (drains t s r o neat led) (gives_none s r neat)

  told : (t : List Call) (s : State) (x : Option Reported) → IsLed t (waits (option_to_list x) [] s)
      → IsLed (NextReport None ∷ (report_calls (option_to_list x) ++ t)) (waits [] [] s)
  told t s None led = led_client server sizes setup t (NextReport None) (waits [] [] s) (waits [] [] s) led
      (reports_none s [])
  told t s (Some x) led = led_client server sizes setup (NextReport (Some x) ∷ t) (NextReport None)
      (waits [] [] s) (waits [] [] s)
      (led_client server sizes setup t (NextReport (Some x)) (waits (x ∷ []) [] s) (waits [] [] s) led
      (reports_one s x [] [])) (reports_none s [])

  -- what is taken then

  drained_outs : (t : List Call) (o : List Packet)
      → taken_of out_of_client (out_calls (reverse o) ++ t) ≡ taken_of out_of_client t ++ o
  drained_outs t [] = sym (append-nil (taken_of out_of_client t))
  drained_outs t (p ∷ o) =
      ap (λ (ps : List Packet). taken_of out_of_client (out_calls ps ++ t)) (reverse-append (p ∷ []) o)
      ∙ (ap (λ (cs : List Call). taken_of out_of_client (cs ++ t))
      (map-append (λ (x : Packet). NextOut (Some x)) (reverse o) (p ∷ []))
      ∙ (ap (taken_of out_of_client) (append_assoc (out_calls (reverse o)) (NextOut (Some p) ∷ []) t)
      ∙ (drained_outs (NextOut (Some p) ∷ t) o ∙ append_assoc (taken_of out_of_client t) (p ∷ []) o)))

  drained_reports : (t : List Call) (ps : List Packet) → taken_of report_of (out_calls ps ++ t) ≡ taken_of report_of t
  drained_reports t [] = refl
  drained_reports t (p ∷ ps) = append-nil _ ∙ drained_reports t ps

  told_outs : (t : List Call) (x : Option Reported)
      → taken_of out_of_client (NextReport None ∷ (report_calls (option_to_list x) ++ t)) ≡ taken_of out_of_client t
  told_outs t None = append-nil _
  told_outs t (Some x) = append-nil _ ∙ append-nil _

  told_reports : (t : List Call) (x : Option Reported)
      → taken_of report_of (NextReport None ∷ (report_calls (option_to_list x) ++ t))
      ≡ taken_of report_of t ++ option_to_list x
  told_reports t None = refl
  told_reports t (Some x) = append-nil _

  turn_outs : (t : List Call) (x : Option Reported) (o : List Packet)
      → taken_of out_of_client (turn_of (option_to_list x) (reverse o) t) ≡ taken_of out_of_client t ++ o
  turn_outs t x o = told_outs (NextOut None ∷ (out_calls (reverse o) ++ t)) x ∙ (append-nil _ ∙ drained_outs t o)

  turn_reports : (t : List Call) (x : Option Reported) (o : List Packet)
      → taken_of report_of (turn_of (option_to_list x) (reverse o) t) ≡ taken_of report_of t ++ option_to_list x
  turn_reports t x o = told_reports (NextOut None ∷ (out_calls (reverse o) ++ t)) x
      ∙ ap (λ (rs : List Reported). rs ++ option_to_list x) (append-nil _ ∙ drained_reports t (reverse o))

  -- the calls lead to one state

  pub led_state : (t : List Call) (s : State) → IsLed t s → s ≡ state_left server sizes setup t
  led_state t s led =
      let calls : List E.Call = lower_of sizes t in
      let below : X.Led server setup calls s.layer = subst (λ (cs : List E.Call). X.Led server setup cs s.layer)
      (append-nil calls)
      (led_exchanged server setup [] calls (X.fresh_state server setup) s.layer (led_start server setup) led.layer) in
      ap (λ (o : Own). record { own = o; layer = s.layer }) led.own_is
      ∙ (ap (λ (o : E.Own). record { own = own_of sizes t; layer = record { own = o; layer = s.layer.layer } })
      below.own_is
      ∙ ap (λ (l : L.State). record {
        own = own_of sizes t;
        layer = record { own = X.own_of server setup calls; layer = l };
      }) (steps_left (L.start setup) (X.lower_of server setup calls) s.layer.layer below.layer))

  pub from_there : (c : Call) (t : List Call) (s : State) → IsLed t s → ClientLaw server sizes setup (c ∷ t)
      → (new : State) × Step s c new × IsLed (c ∷ t) new
  from_there c t s led law =
      let b = before server sizes setup c t law in
      let step : Step s c b.new = subst (λ (x : State). Step x c b.new)
      (led_state t b.old b.led ∙ sym (led_state t s led)) b.step in
      (b.new, step, led_client server sizes setup t c s b.new led step)

  pub law_before : (c : Call) (t : List Call) → ClientLaw server sizes setup (c ∷ t) → ClientLaw server sizes setup t
  law_before c t law = let b = before server sizes setup c t law in client_stands server sizes setup t b.old b.led

  -- an input: what it makes is taken behind it
  pub record Inputs (c : Call) (t u : List Call) : Type 0 where
    pub outs : List Packet
    pub report : Option Reported
    pub made : drop (length (state_left server sizes setup t).layer.layer.queue)
        (state_left server sizes setup (c ∷ t)).layer.layer.queue ≡ outs
    pub mirror : Mirror (c ∷ t) (turn_of (option_to_list report) (reverse outs) (c ∷ u))

  pub input_mirrored : (c : Call) (t u : List Call) → is_client_input c ≡ true → Mirror t u
      → ClientLaw server sizes setup (c ∷ t) → Inputs c t u
  input_mirrored c t u input m law =
      let n = from_there c t m.state m.led law in
      let k = input_puts m.state n.0 c input n.1 in
      let neat : IsNeat n.0.layer.layer = neat_step m.state n.0 c m.neat n.1 in
      let x : Option Reported = reports m.state.own c in
      let any : Step (waits [] [] m.state) c (waits (option_to_list x) k.0 n.0) =
      subst (λ (rs : List Reported). Step (waits [] [] m.state) c (waits (rs ++ option_to_list x) k.0 n.0))
      (stay_none c) (k.1.any [] []) in
      let none_taken : taken_of report_of (c ∷ t) ≡ taken_of report_of t =
      ap (λ (o : Option Reported). taken_of report_of t ++ option_to_list o) (report_of_input c input)
      ∙ append-nil (taken_of report_of t) in
      let none_mirrored : taken_of report_of (c ∷ u) ≡ taken_of report_of u =
      ap (λ (o : Option Reported). taken_of report_of u ++ option_to_list o) (report_of_input c input)
      ∙ append-nil (taken_of report_of u) in
      record {
        outs = k.0;
        report = x;
        made = ap (λ (s : State). drop (length s.layer.layer.queue)
            (state_left server sizes setup (c ∷ t)).layer.layer.queue) (sym (led_state t m.state m.led))
            ∙ (ap (λ (s : State). drop (length m.state.layer.layer.queue) s.layer.layer.queue)
            (sym (led_state (c ∷ t) n.0 n.2))
            ∙ (ap (drop (length m.state.layer.layer.queue)) k.1.behind
            ∙ behind_all m.state.layer.layer.queue k.0));
        mirror = record {
          state = n.0;
          led = n.2;
          mirror = told (NextOut None ∷ (out_calls (reverse k.0) ++ c ∷ u)) n.0 x
              (drained (c ∷ u) n.0 (option_to_list x) k.0 neat
              (led_client server sizes setup u c (waits [] [] m.state) (waits (option_to_list x) k.0 n.0) m.mirror
              any));
          neat = neat;
          outs = turn_outs (c ∷ u) x k.0
              ∙ (ap (λ (o : Option Packet). (taken_of out_of_client u ++ option_to_list o) ++ k.0)
              (out_of_input c input)
              ∙ (ap (λ (ps : List Packet). ps ++ k.0) (append-nil (taken_of out_of_client u))
              ∙ (ap (λ (ps : List Packet). ps ++ k.0) m.outs
              ∙ (append_assoc (taken_of out_of_client t) m.state.layer.layer.queue k.0
              ∙ (ap (λ (ps : List Packet). taken_of out_of_client t ++ ps) (sym k.1.behind)
              ∙ ap (λ (ps : List Packet). ps ++ n.0.layer.layer.queue)
              (sym (append-nil (taken_of out_of_client t))
              ∙ ap (λ (o : Option Packet). taken_of out_of_client t ++ option_to_list o)
              (sym (out_of_input c input))))))));
          reports =
              subst (λ (rs : List Reported). Part (WasForgotten (c ∷ t)) rs
              (taken_of report_of (turn_of (option_to_list x) (reverse k.0) (c ∷ u))))
              (append_assoc (taken_of report_of t) (stay_by c m.state.own.reports) (option_to_list x)
              ∙ (ap (λ (rs : List Reported). taken_of report_of t ++ rs) (sym k.1.told_is)
              ∙ ap (λ (rs : List Reported). rs ++ n.0.own.reports) (sym none_taken)))
              (subst (Part (WasForgotten (c ∷ t))
              ((taken_of report_of t ++ stay_by c m.state.own.reports) ++ option_to_list x))
              (ap (λ (rs : List Reported). rs ++ option_to_list x) (sym none_mirrored)
              ∙ sym (turn_reports (c ∷ u) x k.0))
              (part_more (WasForgotten (c ∷ t)) (taken_of report_of t ++ stay_by c m.state.own.reports)
              (taken_of report_of u) (option_to_list x)
              (part_trans (WasForgotten (c ∷ t)) (taken_of report_of t ++ stay_by c m.state.own.reports)
              (taken_of report_of t ++ m.state.own.reports) (taken_of report_of u)
              (part_front (WasForgotten (c ∷ t)) (taken_of report_of t) (stay_by c m.state.own.reports)
              m.state.own.reports (stay_part c t m.state.own.reports))
              (part_weaker (WasForgotten t) (WasForgotten (c ∷ t)) (λ y h. inr h)
              (taken_of report_of t ++ m.state.own.reports) (taken_of report_of u) m.reports))));
        };
      }

  -- a call that is no input
  pub other_mirrored : (c : Call) (t u : List Call) → is_client_input c ≡ false → Mirror t u
      → ClientLaw server sizes setup (c ∷ t) → Mirror (c ∷ t) (turn_of [] [] u)
  other_mirrored c t u other m law =
      let n = from_there c t m.state m.led law in go c other n.0 n.1 n.2
    where
      -- the mirror takes, and there is nothing
      idles : (new : State) → waits [] [] new ≡ waits [] [] m.state → IsLed (turn_of [] [] u) (waits [] [] new)
      idles new same = subst (IsLed (turn_of [] [] u)) (sym same)
          (led_client server sizes setup (NextOut None ∷ u) (NextReport None) (waits [] [] m.state)
          (waits [] [] m.state)
          (led_client server sizes setup u (NextOut None) (waits [] [] m.state) (waits [] [] m.state) m.mirror
          (gives_none m.state [] m.neat)) (reports_none m.state []))

      still_outs : taken_of out_of_client (turn_of [] [] u) ≡ taken_of out_of_client u
      still_outs = append-nil _ ∙ append-nil _

      still_reports : taken_of report_of (turn_of [] [] u) ≡ taken_of report_of u
      still_reports = append-nil _ ∙ append-nil _

      -- what was taken of the reports, and what waits
      parts : (c : Call) (rs : List Reported) → taken_of report_of t ++ m.state.own.reports ≡ rs
          → Part (WasForgotten (c ∷ t)) rs (taken_of report_of (turn_of [] [] u))
      parts c rs same =
          subst (Part (WasForgotten (c ∷ t)) rs) (sym still_reports)
          (subst (λ (xs : List Reported). Part (WasForgotten (c ∷ t)) xs (taken_of report_of u)) same
          (part_weaker (WasForgotten t) (WasForgotten (c ∷ t)) (λ y h. inr h)
          (taken_of report_of t ++ m.state.own.reports) (taken_of report_of u) m.reports))

      go : (c : Call) → is_client_input c ≡ false → (new : State) → Step m.state c new → IsLed (c ∷ t) new
          → Mirror (c ∷ t) (turn_of [] [] u)
      go (NextOut answer) e new step led =
          let k = given m.state new answer m.neat step in record {
            state = new;
            led = led;
            mirror = idles new (ap (waits [] []) k.1);
            neat = neat_step m.state new (NextOut answer) m.neat step;
            outs = still_outs ∙ (m.outs
                ∙ (taken_first m.state.layer.layer.queue (taken_of out_of_client t) answer k.0
                ∙ ap (λ (s : State). (taken_of out_of_client t ++ option_to_list answer) ++ s.layer.layer.queue)
                (sym k.1)));
            reports = parts (NextOut answer) ((taken_of report_of t ++ []) ++ new.own.reports)
                (ap (λ (rs : List Reported). rs ++ m.state.own.reports) (sym (append-nil (taken_of report_of t)))
                ∙ ap (λ (s : State). (taken_of report_of t ++ []) ++ s.own.reports) (sym k.1));
          }
      go (NextReport answer) e new step led =
          let k = reported m.state new answer step in record {
            state = new;
            led = led;
            mirror = idles new (ap (waits [] []) k.1);
            neat = neat_step m.state new (NextReport answer) m.neat step;
            outs = still_outs ∙ (m.outs
                ∙ (ap (λ (ps : List Packet). ps ++ m.state.layer.layer.queue)
                (sym (append-nil (taken_of out_of_client t)))
                ∙ ap (λ (s : State). (taken_of out_of_client t ++ []) ++ s.layer.layer.queue) (sym k.1)));
            reports = parts (NextReport answer)
                ((taken_of report_of t ++ option_to_list answer) ++ new.own.reports)
                (reports_first m.state.own.reports (taken_of report_of t) answer k.0
                ∙ ap (λ (s : State). (taken_of report_of t ++ option_to_list answer) ++ s.own.reports) (sym k.1));
          }
      go (C.Asked answer) e new step led =
          let same : new ≡ m.state = looks m.state new answer step in record {
            state = new;
            led = led;
            mirror = idles new (ap (waits [] []) same);
            neat = neat_step m.state new (C.Asked answer) m.neat step;
            outs = still_outs ∙ (m.outs
                ∙ (ap (λ (ps : List Packet). ps ++ m.state.layer.layer.queue)
                (sym (append-nil (taken_of out_of_client t)))
                ∙ ap (λ (s : State). (taken_of out_of_client t ++ []) ++ s.layer.layer.queue) (sym same)));
            reports = parts (C.Asked answer) ((taken_of report_of t ++ []) ++ new.own.reports)
                (ap (λ (rs : List Reported). rs ++ m.state.own.reports) (sym (append-nil (taken_of report_of t)))
                ∙ ap (λ (s : State). (taken_of report_of t ++ []) ++ s.own.reports) (sym same));
          }
      go (Calls now r answer) e new step led = absurd (cc e)
      go (Observes now path answer) e new step led = absurd (cc e)
      go (Cancels now number answer) e new step led = absurd (cc e)
      go (Forgets number kept answer) e new step led = absurd (cc e)
      go (Feeds now from bytes word up settled event sent token kept) e new step led = absurd (cc e)
      go (Ticks now word below turn sent token kept answer) e new step led = absurd (cc e)
