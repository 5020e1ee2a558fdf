-- A client that is handed the same, with other endpoints in the place of theirs, does the same.
use Rattle.std.proofs.Common.{◌≡◌, ◌↔◌, List, [], ◌∷◌, map, refl, ap, ap₂, sym, subst, ◌∙◌}
use Rattle.coap_types.specs.declared.endpoint.Endpoint.{Endpoint}
use Rattle.coap_layer.specs.declared.setup.Setup.{Setup}
use Rattle.coap_block.specs.Sizes.{Sizes}
use Rattle.coap_client.specs.Law.{ClientLaw}
use Rattle.coap_client.specs.Led.{Led, State, Step, fresh_state, state_left}
use Rattle.coap_client.specs.Trace as T
use Rattle.coap_client.specs.Trace.{Call}
use Rattle.coap_client.proofs.Facts.Turning.Leading.{client_start, client_stands, led_client}
use Rattle.coap_client_laws.specs.Follows.Exact.{IsExact}
use Rattle.coap_opaque.specs.Renaming.Endpoints.{TellsApart}
use Rattle.coap_opaque.specs.Renaming.OfClient as C
use Rattle.coap_opaque.specs.Runs.OfClient as I
use Rattle.coap_opaque.specs.Runs.OfClient.{Output, Runs, RunsTheSame, input_of, output_of}
use Rattle.coap_opaque.proofs.Renaming.ClientCalls.{client_renamed}
use Rattle.coap_opaque.proofs.Renaming.Lists.{parts_of}
use Rattle.coap_opaque.proofs.Runs.ClientInputs.{same_input}

module _ (rename : Endpoint → Endpoint) where
  input_same : (c : Call) → input_of (C.call rename c) ≡ I.input rename (input_of c)
  input_same (T.Calls now r answer) = refl
  input_same (T.Observes now path answer) = refl
  input_same (T.Cancels now number answer) = refl
  input_same (T.Forgets number kept answer) = refl
  input_same (T.Feeds now from bytes word up settled event sent token kept) = refl
  input_same (T.Ticks now word below turn sent token kept answer) = refl
  input_same (T.NextOut answer) = refl
  input_same (T.NextReport answer) = refl
  input_same (T.Asked answer) = refl

  output_same : (c : Call) → output_of (C.call rename c) ≡ I.output rename (output_of c)
  output_same (T.Calls now r answer) = refl
  output_same (T.Observes now path answer) = refl
  output_same (T.Cancels now number answer) = refl
  output_same (T.Forgets number kept answer) = refl
  output_same (T.Feeds now from bytes word up settled event sent token kept) = refl
  output_same (T.Ticks now word below turn sent token kept answer) = refl
  output_same (T.NextOut answer) = refl
  output_same (T.NextReport answer) = refl
  output_same (T.Asked answer) = refl

module _ (sizes : Sizes) (setup : Setup)
    (exact : (server : Endpoint) (past : List Call) → IsExact server sizes setup past)
    (left : (server : Endpoint) (t : List Call) → ClientLaw server sizes setup t → (s : State)
    → Led server sizes setup t s ↔ (s ≡ state_left server sizes setup t))
    (rename : Endpoint → Endpoint) (apart : TellsApart rename) (server : Endpoint) where
  abbrev renamed : List Call → List Call
  renamed t = map (C.call rename) t

  runs_led : (t : List Call) (s : State) → Runs (fresh_state server sizes setup) t s → Led server sizes setup t s
  runs_led [] s h = subst (Led server sizes setup []) (sym h) (client_start server sizes setup)
  runs_led (c ∷ t) s h = led_client server sizes setup t c h.0 s (runs_led t h.0 h.1) h.2

  -- what led to a client leads to the renamed one
  led_renamed : (t : List Call) (s : State) → Led server sizes setup t s → Led (rename server) sizes setup (renamed t)
      (C.state rename s)
  led_renamed t s led =
      let law = client_stands server sizes setup t s led in
      let k = client_renamed rename sizes apart server setup t law in
      (left (rename server) (renamed t) k.law (C.state rename s)).1
      (ap (C.state rename) ((left server t law s).0 led) ∙ sym k.left)

  -- one call
  one_same : (t : List Call) (s m n : State) (c d : Call) → Led server sizes setup t s → Step s c m
      → Step (C.state rename s) d n → input_of d ≡ I.input rename (input_of c)
      → (output_of d ≡ I.output rename (output_of c)) × (n ≡ C.state rename m)
  one_same t s m n c d led step other e =
      let there : Endpoint = rename server in
      let past : List Call = renamed t in
      let on = led_renamed (c ∷ t) m (led_client server sizes setup t c s m led step) in
      let law = client_stands there sizes setup (C.call rename c ∷ past) (C.state rename m) on in
      let also = led_client there sizes setup past d (C.state rename s) n (led_renamed t s led) other in
      let lawful = client_stands there sizes setup (d ∷ past) n also in
      let same = same_input there sizes setup past (exact there past) (C.call rename c) d
      (e ∙ sym (input_same rename c)) law lawful in (
        same.0 ∙ output_same rename c,
        (left there (d ∷ past) lawful n).0 also
            ∙ (same.1 ∙ sym ((left there (C.call rename c ∷ past) law (C.state rename m)).0 on)),
      )

  pub runs_the_same : RunsTheSame rename server sizes setup
  runs_the_same [] [] s n h k e = (refl, k ∙ ap (C.state rename) (sym h))
  runs_the_same [] (d ∷ u) s n h k e = absurd (cc e)
  runs_the_same (c ∷ t) [] s n h k e = absurd (cc e)
  runs_the_same (c ∷ t) (d ∷ u) s n h k e =
      let parts = parts_of (input_of d) (I.input rename (input_of c)) (map input_of u)
      (map (I.input rename) (map input_of t)) e in
      let before = runs_the_same t u h.0 k.0 h.1 k.1 parts.1 in
      let here = one_same t h.0 s n c d (runs_led t h.0 h.1) h.2
      (subst (λ (x : State). Step x d n) before.1 k.2) parts.0 in
      (ap₂ (λ (x : Output) (xs : List Output). x ∷ xs) here.0 before.0, here.1)
