-- A server that is handed the same, with other endpoints in the place of theirs, does the same.
use Rattle.std.proofs.Common.{◌≡◌, ◌↔◌, ℕ, List, [], ◌∷◌, map, refl, ap, ap₂, sym, subst, ◌∙◌}
use Rattle.coap_types.specs.declared.endpoint.Endpoint.{Endpoint}
use Rattle.coap_layer.specs.declared.setup.Setup.{Setup}
use Rattle.coap_resource.specs.Limits.{Limits}
use Rattle.coap_server.specs.Follows.Exact.{IsExact}
use Rattle.coap_server.specs.Law.{ServerLaw}
use Rattle.coap_server.specs.Led.{Led, State, Step, fresh_state, state_left}
use Rattle.coap_server.specs.Trace as T
use Rattle.coap_server.specs.Trace.{Call}
use Rattle.coap_server.proofs.Facts.EachCall.{led_further, led_lawful}
use Rattle.coap_opaque.specs.Renaming.Endpoints.{TellsApart}
use Rattle.coap_opaque.specs.Renaming.OfServer as S
use Rattle.coap_opaque.specs.Runs.OfServer as I
use Rattle.coap_opaque.specs.Runs.OfServer.{Input, Output, Runs, RunsTheSame, input_of, output_of}
use Rattle.coap_opaque.proofs.Renaming.ServerHistory.{server_renamed}
use Rattle.coap_opaque.proofs.Renaming.Lists.{parts_of}
use Rattle.coap_opaque.proofs.Runs.ServerInputs.{same_input}

module _ (rename : Endpoint → Endpoint) where
  pub input_same : (c : Call) → input_of (S.call rename c) ≡ I.input rename (input_of c)
  input_same (T.Sets now path format body answer left) = refl
  input_same (T.Removes now path answer left) = refl
  input_same (T.Delays path ms answer) = refl
  input_same (T.Plains path answer) = refl
  input_same (T.Feeds now from bytes word up came h below) = refl
  input_same (T.Refuses now from bytes word code up p response below) = refl
  input_same (T.Ticks now word below room due passed h id answer) = refl
  input_same (T.NextOut answer) = refl
  input_same (T.Gets path answer) = refl
  input_same (T.TellsApplied answer) = refl
  input_same (T.Forgets peer) = refl

  pub output_same : (c : Call) → output_of (S.call rename c) ≡ I.output rename (output_of c)
  output_same (T.Sets now path format body answer left) = refl
  output_same (T.Removes now path answer left) = refl
  output_same (T.Delays path ms answer) = refl
  output_same (T.Plains path answer) = refl
  output_same (T.Feeds now from bytes word up came h below) = refl
  output_same (T.Refuses now from bytes word code up p response below) = refl
  output_same (T.Ticks now word below room due passed h id answer) = refl
  output_same (T.NextOut answer) = refl
  output_same (T.Gets path answer) = refl
  output_same (T.TellsApplied answer) = refl
  output_same (T.Forgets peer) = refl

module _ (limits : Limits) (szx : ℕ) (setup : Setup)
    (start : Led limits szx setup [] (fresh_state limits szx setup))
    (exact : (past : List Call) → IsExact limits szx setup past)
    (left : (t : List Call) → ServerLaw limits szx setup t → (s : State)
    → Led limits szx setup t s ↔ (s ≡ state_left limits szx setup t))
    (rename : Endpoint → Endpoint) (apart : TellsApart rename) where
  abbrev fresh : State
  fresh = fresh_state limits szx setup

  runs_led : (t : List Call) (s : State) → Runs fresh t s → Led limits szx setup t s
  runs_led [] s h = subst (Led limits szx setup []) (sym h) start
  runs_led (c ∷ t) s h = led_further limits szx setup t c h.0 s (runs_led t h.0 h.1) h.2

  abbrev renamed : List Call → List Call
  renamed t = map (S.call rename) t

  -- what led to a server leads to the renamed one
  led_renamed : (t : List Call) (s : State) → Led limits szx setup t s → Led limits szx setup (renamed t)
      (S.state rename s)
  led_renamed t s led =
      let law = led_lawful limits szx setup t s led in
      let k = server_renamed rename apart limits szx setup t law in
      (left (renamed t) k.law (S.state rename s)).1
      (ap (S.state rename) ((left t law s).0 led) ∙ sym k.left)

  -- one call
  one_same : (t : List Call) (s m n : State) (c d : Call) → Led limits szx setup t s → Step s c m
      → Step (S.state rename s) d n → input_of d ≡ I.input rename (input_of c)
      → (output_of d ≡ I.output rename (output_of c)) × (n ≡ S.state rename m)
  one_same t s m n c d led step other e =
      let past : List Call = renamed t in
      let on = led_renamed (c ∷ t) m (led_further limits szx setup t c s m led step) in
      let law = led_lawful limits szx setup (S.call rename c ∷ past) (S.state rename m) on in
      let also = led_further limits szx setup past d (S.state rename s) n (led_renamed t s led) other in
      let lawful = led_lawful limits szx setup (d ∷ past) n also in
      let same = same_input limits szx setup past (exact past) (S.call rename c) d (e ∙ sym (input_same rename c)) law
      lawful in (
        same.0 ∙ output_same rename c,
        (left (d ∷ past) lawful n).0 also
            ∙ (same.1 ∙ sym ((left (S.call rename c ∷ past) law (S.state rename m)).0 on)),
      )

  pub runs_the_same : RunsTheSame rename limits szx setup
  runs_the_same [] [] s n h k e = (refl, k ∙ ap (S.state rename) (sym h))
  runs_the_same [] (d ∷ u) s n h k e = absurd (cc e)
  runs_the_same (c ∷ t) [] s n h k e = absurd (cc e)
  runs_the_same (c ∷ t) (d ∷ u) s n h k e =
      let parts = parts_of (input_of d) (I.input rename (input_of c)) (map input_of u)
      (map (I.input rename) (map input_of t)) e in
      let before = runs_the_same t u h.0 k.0 h.1 k.1 parts.1 in
      let here = one_same t h.0 s n c d (runs_led t h.0 h.1) h.2
      (subst (λ (x : State). Step x d n) before.1 k.2) parts.0 in
      (ap₂ (λ (x : Output) (xs : List Output). x ∷ xs) here.0 before.0, here.1)
