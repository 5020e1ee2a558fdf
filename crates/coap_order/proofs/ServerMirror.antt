-- A server whose datagrams are taken at any moment, and one whose are taken behind each input.
use Rattle.std.proofs.Common.{◌≡◌, ℕ, true, false, Option, Some, None, List, [], ◌∷◌, ◌++◌, refl, ap, sym, ◌∙◌}
use Rattle.std.proofs.Common.{subst, drop, slice_get, option_to_list, map, append_assoc, reverse, length}
use Rattle.std.proofs.lemmas.List.{append-nil, reverse-append, map-append}
use Rattle.coap_layer.specs.Trace.{Packet}
use Rattle.coap_layer.specs.declared.setup.Setup.{Setup}
use Rattle.coap_resource.specs.Limits.{Limits}
use Rattle.coap_server.specs.Law.{ServerLaw}
use Rattle.coap_server.specs.Led.{Led, State, Step, state_left}
use Rattle.coap_server.specs.Trace.{Call, Delays, Feeds, Forgets, Gets, NextOut, Plains, Refuses, Removes, Sets}
use Rattle.coap_server.specs.Trace.{TellsApplied}
use Rattle.coap_server.specs.Trace.{Ticks}
use Rattle.coap_server.proofs.Facts.EachCall.{led_further, led_lawful}
use Rattle.coap_server.proofs.Facts.Exact.Leads.{led_state}
use Rattle.coap_order.specs.Inputs.{is_server_input}
use Rattle.coap_order.specs.Reads.{out_of_server, taken_of}
use Rattle.coap_order.proofs.ServerSteps.{before, given, gives, gives_none, input_puts, looks_applied, looks_gets}
use Rattle.coap_order.proofs.ServerSteps.{neat_step, waits}
use Rattle.coap_order.proofs.Waiting.{IsNeat}

-- lists

pub behind_all : {A : Type 0} (xs ys : List A) → drop (length xs) (xs ++ ys) ≡ ys
behind_all [] ys = refl
behind_all (x ∷ xs) ys = behind_all xs ys

-- what was taken is not longer, and the first of what waits stands behind it, where one waits
pub taken_first : (q taken : List Packet) (p : Option Packet) → p ≡ slice_get q 0
    → taken ++ q ≡ (taken ++ option_to_list p) ++ drop 1 q
taken_first [] taken p e = subst (λ (o : Option Packet). taken ++ [] ≡ (taken ++ option_to_list o) ++ []) (sym e)
    (sym (append-nil (taken ++ [])))
taken_first (x ∷ q) taken p e =
    subst (λ (o : Option Packet). taken ++ (x ∷ q) ≡ (taken ++ option_to_list o) ++ q) (sym e)
    (sym (append_assoc taken (x ∷ []) q))

out_of_input : (c : Call) → is_server_input c ≡ true → out_of_server c ≡ None
out_of_input (Sets now path format body answer left) e = refl
out_of_input (Removes now path answer left) e = refl
out_of_input (Delays path ms answer) e = refl
out_of_input (Plains path answer) e = refl
out_of_input (Feeds now from bytes word up came h below) e = refl
out_of_input (Refuses now from bytes word code up came response below) e = refl
out_of_input (Ticks now word below room due passed h id answer) e = refl
out_of_input (NextOut answer) e = absurd (cc e)
out_of_input (Gets path answer) e = absurd (cc e)
out_of_input (TellsApplied answer) e = absurd (cc e)
out_of_input (Forgets peer) e = refl

module _ (limits : Limits) (szx : ℕ) (setup : Setup) where
  -- these calls, in the first list in their order, in the second one with each datagram behind the input that made it
  pub record Mirror (t u : List Call) : Type 0 where
    pub state : State
    pub led : Led limits szx setup t state
    pub mirror : Led limits szx setup u (waits [] state)
    pub neat : IsNeat state.layer
    pub outs : taken_of out_of_server u ≡ taken_of out_of_server t ++ state.layer.queue

  -- all that waits is taken
  drains : (t : List Call) (s : State) (o : List Packet) → IsNeat s.layer → Led limits szx setup t (waits o s)
      → Led limits szx setup (map (λ p. NextOut (Some p)) (reverse o) ++ t) (waits [] s)
  drains t s [] neat led = led
  drains t s (p ∷ o) neat led =
      subst (λ (u : List Call). Led limits szx setup u (waits [] s))
      (sym (ap (λ (ps : List Packet). map (λ (x : Packet). NextOut (Some x)) ps ++ t) (reverse-append (p ∷ []) o)
      ∙ (ap (λ (cs : List Call). cs ++ t) (map-append (λ (x : Packet). NextOut (Some x)) (reverse o) (p ∷ []))
      ∙ append_assoc (map (λ (x : Packet). NextOut (Some x)) (reverse o)) (NextOut (Some p) ∷ []) t)))
      (drains (NextOut (Some p) ∷ t) s o neat
      (led_further limits szx setup t (NextOut (Some p)) (waits (p ∷ o) s) (waits o s) led (gives s p o neat)))

  pub drained : (t : List Call) (s : State) (o : List Packet) → IsNeat s.layer → Led limits szx setup t (waits o s)
      → Led limits szx setup (NextOut None ∷ (map (λ p. NextOut (Some p)) (reverse o) ++ t)) (waits [] s)
  drained t s o neat led = led_further limits szx setup (map (λ p. NextOut (Some p)) (reverse o) ++ t) (NextOut None)
      (waits [] s) (waits [] s) (drains t s o neat led) (gives_none s neat)

  drained_outs : (t : List Call) (o : List Packet)
      → taken_of out_of_server (map (λ p. NextOut (Some p)) (reverse o) ++ t) ≡ taken_of out_of_server t ++ o
  drained_outs t [] = sym (append-nil (taken_of out_of_server t))
  drained_outs t (p ∷ o) =
      ap (λ (ps : List Packet). taken_of out_of_server (map (λ (x : Packet). NextOut (Some x)) ps ++ t))
      (reverse-append (p ∷ []) o)
      ∙ (ap (λ (cs : List Call). taken_of out_of_server (cs ++ t))
      (map-append (λ (x : Packet). NextOut (Some x)) (reverse o) (p ∷ []))
      ∙ (ap (taken_of out_of_server)
      (append_assoc (map (λ (x : Packet). NextOut (Some x)) (reverse o)) (NextOut (Some p) ∷ []) t)
      ∙ (drained_outs (NextOut (Some p) ∷ t) o
      ∙ append_assoc (taken_of out_of_server t) (p ∷ []) o)))

  -- the step that a call was, from the state that the calls before it left
  pub from_there : (c : Call) (t : List Call) (s : State) → Led limits szx setup t s
      → ServerLaw limits szx setup (c ∷ t) → (new : State) × Step s c new × Led limits szx setup (c ∷ t) new
  from_there c t s led law =
      let b = before limits szx setup c t law in
      let step : Step s c b.new = subst (λ (x : State). Step x c b.new)
      (led_state limits szx setup t b.old b.led ∙ sym (led_state limits szx setup t s led)) b.step in
      (b.new, step, led_further limits szx setup t c s b.new led step)

  pub law_before : (c : Call) (t : List Call) → ServerLaw limits szx setup (c ∷ t) → ServerLaw limits szx setup t
  law_before c t law = let b = before limits szx setup c t law in led_lawful limits szx setup t b.old b.led

  -- an input: what it makes is taken behind it
  pub record Inputs (c : Call) (t u : List Call) : Type 0 where
    pub outs : List Packet
    pub made : drop (length (state_left limits szx setup t).layer.queue)
        (state_left limits szx setup (c ∷ t)).layer.queue ≡ outs
    pub mirror : Mirror (c ∷ t) (NextOut None ∷ (map (λ p. NextOut (Some p)) (reverse outs) ++ c ∷ u))

  pub input_mirrored : (c : Call) (t u : List Call) → is_server_input c ≡ true → Mirror t u
      → ServerLaw limits szx setup (c ∷ t) → Inputs c t u
  input_mirrored c t u input m law =
      let n = from_there c t m.state m.led law in
      let k = input_puts m.state n.0 c input n.1 in
      let neat : IsNeat n.0.layer = neat_step m.state n.0 c m.neat n.1 in
      record {
        outs = k.0;
        made = ap (λ (s : State). drop (length s.layer.queue) (state_left limits szx setup (c ∷ t)).layer.queue)
            (sym (led_state limits szx setup t m.state m.led))
            ∙ (ap (λ (s : State). drop (length m.state.layer.queue) s.layer.queue)
            (sym (led_state limits szx setup (c ∷ t) n.0 n.2))
            ∙ (ap (drop (length m.state.layer.queue)) k.1.behind ∙ behind_all m.state.layer.queue k.0));
        mirror = record {
          state = n.0;
          led = n.2;
          mirror = drained (c ∷ u) n.0 k.0 neat
              (led_further limits szx setup u c (waits [] m.state) (waits k.0 n.0) m.mirror (k.1.any []));
          neat = neat;
          outs = append-nil _ ∙ (drained_outs (c ∷ u) k.0
              ∙ (ap (λ (o : Option Packet). (taken_of out_of_server u ++ option_to_list o) ++ k.0)
              (out_of_input c input)
              ∙ (ap (λ (x : List Packet). x ++ k.0) (append-nil (taken_of out_of_server u))
              ∙ (ap (λ (x : List Packet). x ++ k.0) m.outs
              ∙ (append_assoc (taken_of out_of_server t) m.state.layer.queue k.0
              ∙ (ap (λ (x : List Packet). taken_of out_of_server t ++ x) (sym k.1.behind)
              ∙ ap (λ (x : List Packet). x ++ n.0.layer.queue)
              (sym (append-nil (taken_of out_of_server t))
              ∙ ap (λ (o : Option Packet). taken_of out_of_server t ++ option_to_list o)
              (sym (out_of_input c input)))))))));
        };
      }

  -- a call that is no input
  pub other_mirrored : (c : Call) (t u : List Call) → is_server_input c ≡ false → Mirror t u
      → ServerLaw limits szx setup (c ∷ t) → Mirror (c ∷ t) (NextOut None ∷ u)
  other_mirrored c t u other m law =
      let n = from_there c t m.state m.led law in go c other n.0 n.1 n.2
    where
      same_state : (c : Call) (new : State) → out_of_server c ≡ None → new ≡ m.state
          → Led limits szx setup (c ∷ t) new → Mirror (c ∷ t) (NextOut None ∷ u)
      same_state c new none same led = record {
        state = m.state;
        led = subst (Led limits szx setup (c ∷ t)) same led;
        mirror = led_further limits szx setup u (NextOut None) (waits [] m.state) (waits [] m.state) m.mirror
            (gives_none m.state m.neat);
        neat = m.neat;
        outs = append-nil _ ∙ (m.outs ∙ ap (λ (x : List Packet). x ++ m.state.layer.queue)
            (sym (append-nil (taken_of out_of_server t))
            ∙ ap (λ (o : Option Packet). taken_of out_of_server t ++ option_to_list o) (sym none)));
      }

      go : (c : Call) → is_server_input c ≡ false → (new : State) → Step m.state c new
          → Led limits szx setup (c ∷ t) new → Mirror (c ∷ t) (NextOut None ∷ u)
      go (Gets path answer) e new step led = same_state (Gets path answer) new refl
          (looks_gets m.state new path answer step) led
      go (TellsApplied answer) e new step led = same_state (TellsApplied answer) new refl
          (looks_applied m.state new answer step) led
      go (NextOut answer) e new step led =
          let k = given m.state new answer m.neat step in record {
            state = new;
            led = led;
            mirror = subst (Led limits szx setup (NextOut None ∷ u)) (ap (waits []) (sym k.1))
                (led_further limits szx setup u (NextOut None) (waits [] m.state) (waits [] m.state) m.mirror
                (gives_none m.state m.neat));
            neat = neat_step m.state new (NextOut answer) m.neat step;
            outs = append-nil _ ∙ (m.outs
                ∙ (taken_first m.state.layer.queue (taken_of out_of_server t) answer k.0
                ∙ ap (λ (s : State). (taken_of out_of_server t ++ option_to_list answer) ++ s.layer.queue) (sym k.1)));
          }
      go (Sets now path format body answer left) e new step led = absurd (cc e)
      go (Removes now path answer left) e new step led = absurd (cc e)
      go (Delays path ms answer) e new step led = absurd (cc e)
      go (Plains path answer) e new step led = absurd (cc e)
      go (Feeds now from bytes word up came h below) e new step led = absurd (cc e)
      go (Refuses now from bytes word code up came response below) e new step led = absurd (cc e)
      go (Ticks now word below room due passed h id answer) e new step led = absurd (cc e)
      go (Forgets peer) e new step led = absurd (cc e)
