-- The history that replaying makes.
use Rattle.std.proofs.Common.{◌≡◌, ℕ, List, [], ◌∷◌, ◌++◌, Option, Some, None, refl, sym, ap, subst, ◌∙◌, append_assoc}
use Rattle.std.proofs.Common.{option_to_list}
use Rattle.std.proofs.lemmas.List.{append-nil}
use Rattle.coap_layer.specs.Trace.{Packet}
use Rattle.coap_layer.specs.declared.setup.Setup.{Setup}
use Rattle.coap_resource.specs.Limits.{Limits}
use Rattle.coap_server.specs.Led.{Led, State, Step}
use Rattle.coap_server.specs.Trace.{Call, Delays, Feeds, Gets, NextOut, Plains, Refuses, Removes, Sets, TellsApplied}
use Rattle.coap_server.specs.Trace.{Forgets, Ticks}
use Rattle.coap_server.proofs.Facts.EachCall.{led_further}
use Rattle.coap_journal.specs.Input.{Delay, Feed, Input, Plain, Remove, Set, Tick}
use Rattle.coap_journal.specs.Records.{Begun, Record, Turn, Woke}
use Rattle.coap_replay.specs.Replaying.{GivesOut, Replays, Takes, TakesAll, Turned, input_of}
use Rattle.coap_replay_laws.specs.Leading.{LeadsOn, given_by, inputs_in, inputs_of, outs_of}

inputs_append : (u v : List Call) → inputs_of (u ++ v) ≡ inputs_of v ++ inputs_of u
inputs_append [] v = sym (append-nil (inputs_of v))
inputs_append (c ∷ u) v =
    ap (λ (r : List Input). r ++ option_to_list (input_of c)) (inputs_append u v)
    ∙ append_assoc (inputs_of v) (inputs_of u) (option_to_list (input_of c))

outs_append : (u v : List Call) → outs_of (u ++ v) ≡ outs_of v ++ outs_of u
outs_append [] v = sym (append-nil (outs_of v))
outs_append (c ∷ u) v =
    ap (λ (r : List Packet). r ++ option_to_list (given_by c)) (outs_append u v)
    ∙ append_assoc (outs_of v) (outs_of u) (option_to_list (given_by c))

some_is : (c : Call) (input : Input) → input_of c ≡ Some input → given_by c ≡ None
some_is (Sets now path format body answer left) input e = refl
some_is (Removes now path answer left) input e = refl
some_is (Delays path ms answer) input e = refl
some_is (Plains path answer) input e = refl
some_is (Feeds now from bytes word up came h below) input e = refl
some_is (Refuses now from bytes word code up p response below) input e = refl
some_is (Ticks now word below room due passed h id answer) input e = refl
some_is (NextOut answer) input e = absurd cc
some_is (Gets path answer) input e = refl
some_is (TellsApplied answer) input e = refl
some_is (Forgets peer) input e = refl

module _ (limits : Limits) (szx : ℕ) (setup : Setup) where
  leads_none : (t : List Call) (old new : State) → Led limits szx setup t old → new ≡ old
      → LeadsOn limits szx setup t [] [] new
  leads_none t old new led is =
      record { calls = []; led = subst (Led limits szx setup t) (sym is) led; inputs_are = refl; outs_are = refl }

  pub leads_both : (t : List Call) (inputs others : List Input) (out outs : List Packet) (new : State) (u : List Call)
      → inputs_of u ≡ inputs → outs_of u ≡ out → LeadsOn limits szx setup (u ++ t) others outs new
      → LeadsOn limits szx setup t (inputs ++ others) (out ++ outs) new
  leads_both t inputs others out outs new u are given more = record {
    calls = more.calls ++ u;
    led = subst (λ (h : List Call). Led limits szx setup h new) (sym (append_assoc more.calls u t)) more.led;
    inputs_are = inputs_append more.calls u ∙ ap (λ (r : List Input). r ++ inputs_of more.calls) are
        ∙ ap (λ (r : List Input). inputs ++ r) more.inputs_are;
    outs_are = outs_append more.calls u ∙ ap (λ (r : List Packet). r ++ outs_of more.calls) given
        ∙ ap (λ (r : List Packet). out ++ r) more.outs_are;
  }

  pub takes_leads : (t : List Call) (old : State) (inputs : List Input) (new : State) → Led limits szx setup t old
      → TakesAll old inputs new → LeadsOn limits szx setup t inputs [] new
  takes_leads t old [] new led is = leads_none t old new led is
  takes_leads t old (input ∷ inputs) new led all =
      leads_both t (input ∷ []) inputs [] [] new (all.1.call ∷ []) (ap option_to_list all.1.handed)
      (ap option_to_list (some_is all.1.call input all.1.handed))
      (takes_leads (all.1.call ∷ t) all.0 inputs new
      (led_further limits szx setup t all.1.call old all.0 led all.1.step) all.2)

  pub gives_leads : (t : List Call) (old : State) (ps : List Packet) (new : State) → Led limits szx setup t old
      → GivesOut old ps new → LeadsOn limits szx setup t [] ps new
  gives_leads t old [] new led is = leads_none t old new led is
  gives_leads t old (p ∷ ps) new led all =
      leads_both t [] [] (p ∷ []) ps new (NextOut (Some p) ∷ []) refl refl
      (gives_leads (NextOut (Some p) ∷ t) all.0 ps new
      (led_further limits szx setup t (NextOut (Some p)) old all.0 led all.1.step) all.2)

  pub turn_leads : (t : List Call) (old : State) (taken : ℕ) (inputs : List Input) (out : List Packet) (new : State)
      → Led limits szx setup t old → Turned old taken inputs out new → LeadsOn limits szx setup t inputs out new
  turn_leads t old taken inputs out new led turned =
      let first = gives_leads t old out turned.between led turned.gives in
      let both = leads_both t [] inputs out [] new first.calls first.inputs_are first.outs_are
      (takes_leads (first.calls ++ t) turned.between inputs new first.led turned.takes) in
      subst (λ (r : List Packet). LeadsOn limits szx setup t inputs r new) (append-nil out) both

  pub replays_lead : (t : List Call) (old : State) (records : List Record) (out : List Packet) (new : State)
      → Led limits szx setup t old → Replays old records out new
      → LeadsOn limits szx setup t (inputs_in records) out new
  replays_lead t old [] out new led is =
      subst (λ (r : List Packet). LeadsOn limits szx setup t [] r new) (sym is.0) (leads_none t old new led is.1)
  replays_lead t old (Begun b life ∷ records) out new led all = absurd all.3
  replays_lead t old (Woke life ∷ records) out new led all =
      let rest = replays_lead t all.0 records all.2 new (subst (Led limits szx setup t) (sym all.3.1) led) all.5 in
      subst (λ (r : List Packet). LeadsOn limits szx setup t (inputs_in records) r new)
      (sym (all.4 ∙ ap (λ (r : List Packet). r ++ all.2) all.3.0)) rest
  replays_lead t old (Turn moment taken inputs ∷ records) out new led all =
      let first = turn_leads t old taken inputs all.1 all.0 led all.3 in
      subst (λ (r : List Packet). LeadsOn limits szx setup t (inputs ++ inputs_in records) r new) (sym all.4)
      (leads_both t inputs (inputs_in records) all.1 all.2 new first.calls first.inputs_are first.outs_are
      (replays_lead (first.calls ++ t) all.0 records all.2 new first.led all.5))
