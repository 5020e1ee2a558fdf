-- One call of the client, and what leads to it then: what it sent under each token is noted.
use Rattle.std.proofs.Common.{◌≡◌, ℕ, Bool, true, false, cond, Option, Some, None, List, [], ◌∷◌, ◌++◌, refl, sym, ap}
use Rattle.std.proofs.Common.{subst, ◌∙◌, Result, Ok, Err, map}
use Rattle.std.specs.BTreeMap.{is_at}
use Rattle.std.specs.Cmp.Lexicographic.{slice_cmp, texts_ties}
use Rattle.std.specs.Option.{option_map}
use Rattle.std.specs.Ordering.{nat_cmp}
use Rattle.coap_exchange.specs.Tokens.{same_token}
use Rattle.coap_client.specs.declared.client.report.CallId.{CallId}
use Rattle.coap_types.specs.Past.{all_of}
use Rattle.coap_types.specs.declared.endpoint.Endpoint.{Endpoint}
use Rattle.coap_layer.specs.Trace.{Packet}
use Rattle.coap_exchange.specs.declared.asker.AskRefusal.{AskRefusal}
use Rattle.coap_client.specs.declared.refusals.CallRefusal.{CallRefusal}
use Rattle.coap_client.specs.declared.refusals.CancelRefusal.{CancelRefusal}
use Rattle.coap_client.specs.Deeds.{effect}
use Rattle.coap_client.specs.Effects.{Deed, Asks, Effect}
use Rattle.coap_client.specs.Law.{own_of}
use Rattle.coap_client.specs.Own.{Own}
use Rattle.coap_client.specs.Led as client
use Rattle.coap_client.specs.Steps.{after, requested}
use Rattle.coap_client.specs.Trace as C
use Rattle.coap_client.specs.Sendings.{sent_by, sends}
use Rattle.coap_client.proofs.Facts.EachCall.{led_client}
use Rattle.coap_record.specs.Record.{OfClient, ClientTick, FeedsClient, given_by}
use Rattle.coap_run.specs.Run.Acts.{Moves, Acts, Fed, Taken, TakesAll}
use Rattle.coap_run.specs.Run.Ends.{ClientLed}
use Rattle.coap_run.specs.Run.Inputs.{IsCall, IsObservation, IsCancel, IsForgetting}
use Rattle.coap_run.specs.Run.Log.{Log, Takes, Cancels, Forgets, Reports, client_lines, given_put, line_put}
use Rattle.coap_run.specs.Run.Senders.{noted, number_if, sender_in, sender_of, sent_as}
use Rattle.coap_run.specs.Run.Turning.{of_client}
use Rattle.coap_run.specs.declared.running.ends.ClientEnd.{ClientEnd}
use Rattle.coap_run.specs.declared.running.senders.Senders.{Senders}
use Rattle.coap_run.proofs.Recording.Acting.{acts_join, quiet_acts, one_acts, one_fed, one_taken}
use Rattle.coap_record.specs.declared.addresses.Addresses.{Addresses}

-- what a client says that it asked is what it sent
asked_so : (e : Effect) (d : Deed) (token : Result (List ℕ) AskRefusal)
    → requested d token ≡ sent_as (sent_by e d token)
asked_so e (Asks op) (Ok token) = refl
asked_so e (Asks op) (Err why) = refl
asked_so e _ token = refl

-- a datagram or a tick
abbrev pub IsInput : C.Call → Type 0
IsInput (C.Feeds now from bytes word up settled event sent token kept) = Unit {0}
IsInput (C.Ticks now word below turn sent token kept answer) = Unit {0}
IsInput c = ⊥

asked_is : (s : Own) (c : C.Call) → IsInput c → (after s c).asked ≡ sent_as (sends s c)
asked_is s (C.Feeds now from bytes word up settled event sent token kept) h =
    let e = effect s (C.Feeds now from bytes word up settled event sent token kept) in asked_so e e.deed token
asked_is s (C.Ticks now word below turn sent token kept answer) h =
    let e = effect s (C.Ticks now word below turn sent token kept answer) in asked_so e e.deed token
asked_is s _ h = absurd h

module _ {A : Type 0} where
  -- a datagram or a tick, and then what it sent is noted
  pub input_moves :
      (c : C.Call) (old mid new : ClientEnd A) → IsInput c → client.Step old.client c mid.client
      → mid.senders ≡ old.senders → new.client ≡ mid.client
      → ((token : List ℕ) → sender_in new.senders token
      ≡ noted token mid.client.own.asked (sender_in mid.senders token)) → Moves ClientLed old (c ∷ []) new
  input_moves c old mid new input step same client_is notes config t h =
      record {
        led = subst (client.Led config.addresses.server config.client_sizes config.client_setup (c ∷ t)) (sym client_is)
            (led_client config.addresses.server config.client_sizes config.client_setup t c old.client mid.client h.led
            step);
        senders = λ token.
            notes token
            ∙ ap (λ (s : Senders A). noted token mid.client.own.asked (sender_in s token)) same
            ∙ ap (λ o. noted token o (sender_in old.senders token))
            (ap (λ (o : Own). o.asked) step.own_is ∙ asked_is old.client.own c input
            ∙ ap (λ (s : Own). sent_as (sends s c)) h.led.own_is)
            ∙ ap (noted token (sent_as (sends (own_of config.client_sizes t) c))) (h.senders token);
      }

  -- another call, which sends nothing
  pub still_moves :
      (c : C.Call) (old new : ClientEnd A) → ((s : Own) → sends s c ≡ None) → client.Step old.client c new.client
      → new.senders ≡ old.senders → Moves ClientLed old (c ∷ []) new
  still_moves c old new none step same config t h =
      record {
        led = led_client config.addresses.server config.client_sizes config.client_setup t c old.client new.client h.led
            step;
        senders = λ token.
            ap (λ (s : Senders A). sender_in s token) same
            ∙ h.senders token
            ∙ ap (λ o. noted token (sent_as o) (sender_of config.client_sizes token t))
            (sym (none (own_of config.client_sizes t)));
      }

-- what an input tells
module _ (addresses : Addresses) {A : Type 0} where
  told_taken :
      (at : ℕ) (Is : C.Call → Type 0) (c : C.Call) (old new : ClientEnd A) (log left : Log) → Is c
      → ((s : Own) → sends s c ≡ None) → client.Step old.client c new.client → new.senders ≡ old.senders
      → left ≡ record { given = log.given; lines = log.lines ++ client_lines c }
      → all_of (given_by addresses at) (OfClient c ∷ []) ≡ []
      → Taken addresses ClientLed OfClient of_client at Is false old log new left
  told_taken at Is c old new log left is none step same told quiet =
      one_taken addresses ClientLed OfClient of_client at Is c old new log left is
      (one_acts addresses ClientLed OfClient of_client at c (client_lines c) old new log left quiet
      (still_moves c old new none step same) (λ config t h. refl) told)

  pub client_called :
      (at : ℕ) (r : C.Request) (answer : Result ℕ CallRefusal) (old new : ClientEnd A) (log left : Log)
      → client.Step old.client (C.Calls at r answer) new.client → new.senders ≡ old.senders
      → left ≡ line_put (Takes answer) log → Taken addresses ClientLed OfClient of_client at (IsCall at r) false old log
      new left
  client_called at r answer old new log left step same is =
      told_taken at (IsCall at r) (C.Calls at r answer) old new log left (answer, refl) (λ s. refl) step same is refl

  pub client_observed :
      (at : ℕ) (path : List (List ℕ)) (answer : Result ℕ CallRefusal) (old new : ClientEnd A) (log left : Log)
      → client.Step old.client (C.Observes at path answer) new.client → new.senders ≡ old.senders
      → left ≡ line_put (Takes answer) log → Taken addresses ClientLed OfClient of_client at
      (IsObservation at path) false old log new left
  client_observed at path answer old new log left step same is =
      told_taken at (IsObservation at path) (C.Observes at path answer) old new log left (answer, refl)
      (λ s. refl) step same is refl

  pub client_cancelled :
      (at number : ℕ) (answer : Option CancelRefusal) (old new : ClientEnd A) (log left : Log)
      → client.Step old.client (C.Cancels at number answer) new.client → new.senders ≡ old.senders
      → left ≡ line_put (Cancels answer) log → Taken addresses ClientLed OfClient of_client at
      (IsCancel at number) false old log new left
  client_cancelled at number answer old new log left step same is =
      told_taken at (IsCancel at number) (C.Cancels at number answer) old new log left (answer, refl)
      (λ s. refl) step same is refl

  pub client_forgot :
      (at number : ℕ) (answer : Bool) (old new : ClientEnd A) (log left : Log)
      → (kept : Bool) × client.Step old.client (C.Forgets number kept answer) new.client → new.senders ≡ old.senders
      → left ≡ line_put (Forgets answer) log → Taken addresses ClientLed OfClient of_client at
      (IsForgetting number) false old log new left
  client_forgot at number answer old new log left (kept, step) same is =
      told_taken at (IsForgetting number) (C.Forgets number kept answer) old new log left (kept, answer, refl)
      (λ s. refl) step same is refl

  -- what an end gives

  pub client_out :
      (at : ℕ) (p : Packet) (old new : ClientEnd A) (log left : Log)
      → client.Step old.client (C.NextOut (Some p)) new.client → new.senders ≡ old.senders
      → left ≡ given_put (record { at = at; from = addresses.client; packet = p }) log
      → Acts addresses ClientLed OfClient of_client at (C.NextOut (Some p) ∷ []) old log new left
  client_out at p old new log left step same is =
      record {
        moves = still_moves (C.NextOut (Some p)) old new (λ s. refl) step same;
        given = ap (λ (l : Log). l.given) is;
        lines = λ config t h. ap (λ (l : Log). l.lines) is;
      }

  pub client_report :
      (at : ℕ) (r : C.Reported) (old new : ClientEnd A) (log left : Log)
      → client.Step old.client (C.NextReport (Some r)) new.client → new.senders ≡ old.senders
      → left ≡ line_put (Reports r) log → Acts addresses ClientLed OfClient of_client at
      (C.NextReport (Some r) ∷ []) old log new left
  client_report at r old new log left step same is =
      one_acts addresses ClientLed OfClient of_client at (C.NextReport (Some r)) (Reports r ∷ []) old new log left refl
      (still_moves (C.NextReport (Some r)) old new (λ s. refl) step same) (λ config t h. refl) is

  pub client_reports_end :
      (at : ℕ) (a old new : ClientEnd A) (l log : Log) → (taken : List C.Reported)
      × Acts addresses ClientLed OfClient of_client at (map (λ r. C.NextReport (Some r)) taken) a l old log
      → client.Step old.client (C.NextReport None) new.client → new.senders ≡ old.senders
      → TakesAll addresses ClientLed OfClient of_client at C.NextReport a l new log
  client_reports_end at a old new l log (taken, acts) step same =
      record {
        taken = taken;
        acts = acts_join addresses ClientLed OfClient of_client at (C.NextReport None ∷ [])
            (map (λ r. C.NextReport (Some r)) taken) a old new l log log acts
            (quiet_acts addresses ClientLed OfClient of_client at (C.NextReport None ∷ []) old new log
            (still_moves (C.NextReport None) old new (λ s. refl) step same) refl (λ config t. refl));
      }

-- an input of which nothing is told
module _ {A : Type 0} where
  pub client_fed :
      (at word : ℕ) (from : Endpoint) (bytes : List ℕ) (old mid new : ClientEnd A)
      → (up : _) × (settled : _) × (event : _) × (sent : _) × (token : _) × (kept : _)
      × client.Step old.client (C.Feeds at from bytes word up settled event sent token kept) mid.client
      → mid.senders ≡ old.senders → new.client ≡ mid.client
      → ((token : List ℕ) → sender_in new.senders token
      ≡ noted token mid.client.own.asked (sender_in mid.senders token))
      → Fed ClientLed (FeedsClient at word from bytes) false old new
  client_fed at word from bytes old mid new (up, settled, event, sent, token, kept, step) same client_is notes =
      let c : C.Call = C.Feeds at from bytes word up settled event sent token kept in
      one_fed ClientLed (FeedsClient at word from bytes) c old new (up, settled, event, sent, token, kept, refl)
      (input_moves c old mid new tt step same client_is notes)

  pub client_ticked :
      (at word : ℕ) (answer : Bool) (old mid new : ClientEnd A)
      → (below : _) × (due : _) × (sent : _) × (token : _) × (kept : _)
      × client.Step old.client (C.Ticks at word below due sent token kept answer) mid.client
      → mid.senders ≡ old.senders → new.client ≡ mid.client
      → ((token : List ℕ) → sender_in new.senders token
      ≡ noted token mid.client.own.asked (sender_in mid.senders token))
      → (c : C.Call) × ClientTick at word answer c × Moves ClientLed old (c ∷ []) new
  client_ticked at word answer old mid new (below, due, sent, token, kept, step) same client_is notes =
      let c : C.Call = C.Ticks at word below due sent token kept answer in
      (c, (below, due, sent, token, kept, refl), input_moves c old mid new tt step same client_is notes)

-- .. in the map by token
pub noted_so :
    (token other : List ℕ) (id : CallId) (before after : Option CallId)
    → after ≡ cond (is_at (slice_cmp nat_cmp token) other) (Some id) before
    → option_map (λ (i : CallId). i.0) after ≡ number_if (same_token token other) id.0
    (option_map (λ (i : CallId). i.0) before)
noted_so token other id before after is =
    ap (option_map (λ (i : CallId). i.0)) is
    ∙ by (is_at (slice_cmp nat_cmp token) other)
    ∙ ap (λ b. number_if b id.0 (option_map (λ (i : CallId). i.0) before)) (sym (texts_ties token other))
  where
    by : (b : Bool) → option_map (λ (i : CallId). i.0) (cond b (Some id) before)
        ≡ number_if b id.0 (option_map (λ (i : CallId). i.0) before)
    by true = refl
    by false = refl
