-- Where the input of an event met want of memory, it is one that may.
use Rattle.std.proofs.Common.{◌≡◌, ◌≢◌, inl, inr, ℕ, max, ◌^◌, ◌-◌, ◌&&◌, not, nat_le, nat_lt, Bool, true, false}
use Rattle.std.proofs.Common.{if◌then◌else◌, Option, Some, None, List, length, is_ok, is_some, refl, sym, ap, subst}
use Rattle.std.proofs.Common.{◌∙◌}
use Rattle.coap_types.specs.declared.endpoint.Endpoint.{Endpoint}
use Rattle.coap_layer.specs.Machine.State.{made}
use Rattle.coap_layer.specs.Machine.Ups.{IsQuiet}
use Rattle.coap_layer.specs.Trace as below
use Rattle.coap_resource.specs.Content.{Content, put_refusal}
use Rattle.coap_resource.specs.Rate.{used}
use Rattle.coap_resource.specs.declared.refusal.StoreRefusal.{StoreRefusal}
use Rattle.coap_resource.specs.declared.refusal.StoreRefusal.TheVariants as refusal
use Rattle.coap_resource.specs.declared.store.TheConstants.{MAX_PATHS as max_paths}
use Rattle.coap_client.specs.Queue.{call_answer, observe_answer}
use Rattle.coap_client.specs.Trace as C
use Rattle.coap_client.specs.Turns.Quiet.{IsIdle, TellsNothing}
use Rattle.coap_server.specs.Led.{State}
use Rattle.coap_server.specs.Object.Shown.{state_of}
use Rattle.coap_server.specs.Trace as S
use Rattle.coap_server.specs.Turns.Idle.{IsIdle as IsServerIdle}
use Rattle.coap_record.specs.Events.{Event, What, Calls, Observes, Sets, TickClient, TickServer, Deliver}
use Rattle.coap_record.specs.Events.{StrangerToClient, StrangerToServer}
use Rattle.coap_record.specs.Record.{Entry, Given, Turn, IsNumber, AreTicks, ClientTick, ServerTick, OnClient, OnServer}
use Rattle.coap_record.specs.Record.{entries_of, client_of, server_trace}
use Rattle.coap_run.specs.Run.Acts.{Moves, Passed}
use Rattle.coap_run.specs.Run.Ends.{ClientLed, ServerLed}
use Rattle.coap_run.specs.Run.Turning.{EndLacks, client_trace}
use Rattle.coap_run.specs.declared.running.ends.ClientEnd.{ClientEnd}
use Rattle.coap_run.specs.declared.running.ends.ServerEnd.{ServerEnd}
use Rattle.coap_record.specs.declared.addresses.Addresses.{Addresses}

-- an event of this kind
abbrev pub event_at : ℕ → ℕ → What → Event
event_at at word what = record { at = at; word = word; what = what }

clash : (r : Bool) → r ≡ false → r ≡ true → ⊥
clash r e f = cc (e, f)

yes_then : (b refused : Bool) → (b ≡ false → refused ≡ false) → refused ≡ true → b ≡ true
yes_then true refused h is = refl
yes_then false refused h is = absurd (clash refused (h refl) is)

-- a store's own reasons are not want of memory
abbrev reason_of : (large many fast spent : Bool) → Option StoreRefusal
reason_of large many fast spent =
    if large then Some refusal.TooLarge
    else (if many then Some refusal.TooManyPaths
    else (if fast then Some refusal.RateExceeded
    else (if spent then Some refusal.VersionsSpent else None)))

never : (large many fast spent : Bool) → reason_of large many fast spent ≡ Some refusal.Memory → ⊥
never true many fast spent e = cc e
never false true fast spent e = cc e
never false false true spent e = cc e
never false false false true e = cc e
never false false false false e = cc e

never_memory : (s : Content) (now : ℕ) (path : List (List ℕ)) (len : ℕ) → put_refusal s now path len
    ≡ Some refusal.Memory → ⊥
never_memory s now path len e =
    never (nat_lt s.tally.limits.body len) (not (is_some (s.holds path)) && nat_le max_paths s.paths)
    (nat_le s.tally.limits.changes (used s.tally now)) (nat_le (2 ^ 64 - 1) s.tally.version) e

none_left : (o : Option StoreRefusal) (refused : Bool) → (o ≡ Some refusal.Memory → ⊥)
    → ((why : StoreRefusal) → why ≢ refusal.Memory → o ≡ Some why → refused ≡ false) → refused ≡ true → o ≡ None
none_left None refused never h is = refl
none_left (Some why) refused never h is = absurd (clash refused (h why (λ e. never (ap Some e)) refl) is)

module _ (addresses : Addresses) {A : Type 0} (past : List Turn) (at word : ℕ) (refused : Bool) (a : ClientEnd A)
    (entries : List Entry) where
  -- a copy of the request is called with
  pub call_lacks :
      (r q : C.Request) → r ≡ q → (is_ok (call_answer a.client.own r) ≡ false → refused ≡ false)
      → EndLacks addresses ClientLed client_trace past (event_at at word (Calls q)) refused a entries
  call_lacks r q same right config here led is = (
    a.client,
    led.led,
    yes_then (is_ok (call_answer a.client.own q)) refused
        (λ e. right (ap (λ x. is_ok (call_answer a.client.own x)) same ∙ e)) is,
  )

  pub observation_lacks :
      (p path : List (List ℕ)) → p ≡ path → (is_ok (observe_answer a.client.own p) ≡ false → refused ≡ false)
      → EndLacks addresses ClientLed client_trace past (event_at at word (Observes path)) refused a entries
  observation_lacks p path same right config here led is = (
    a.client,
    led.led,
    yes_then (is_ok (observe_answer a.client.own path)) refused
        (λ e. right (ap (λ x. is_ok (observe_answer a.client.own x)) same ∙ e)) is,
  )

  pub client_heeds :
      (from : Endpoint) (bytes : List ℕ) → (TellsNothing a.client at from bytes → refused ≡ false)
      → EndLacks addresses ClientLed client_trace past (event_at at word (StrangerToClient from bytes)) refused a
      entries
  client_heeds from bytes quiet config here led is = (
    a.client,
    led.led,
    λ drops. clash refused (quiet drops) is,
  )

  -- .. one that was given out, from there
  pub client_heeds_it :
      (n : ℕ) (g : Given) (from : Endpoint) (bytes : List ℕ) → IsNumber addresses n g past
      → g.packet.to ≡ addresses.client → from ≡ g.from → bytes ≡ g.packet.bytes
      → (TellsNothing a.client at from bytes → refused ≡ false)
      → EndLacks addresses ClientLed client_trace past (event_at at word (Deliver n)) refused a entries
  client_heeds_it n g from bytes number to of are quiet config here led is = (
    g,
    subst (λ x. IsNumber x n g past) (sym here) number,
    inr (
      to ∙ ap (λ (x : Addresses). x.client) (sym here),
      (
        a.client,
        led.led,
        λ drops. clash refused (quiet (subst (λ b. TellsNothing a.client at from b) (sym are)
            (subst (λ f. TellsNothing a.client at f g.packet.bytes) (sym of) drops))) is,
      ),
    ),
  )

  pub client_due :
      (b : ClientEnd A) (p : Passed ClientLed (ClientTick at word) refused a b)
      → (refused ≡ true → IsIdle b.client at → ⊥) → OnClient p.calls entries
      → EndLacks addresses ClientLed client_trace past (event_at at word TickClient) refused a entries
  client_due b p due on config here led is = (
    p.calls,
    subst (λ r. AreTicks (ClientTick at word) r p.calls) is p.are,
    on,
    (b.client, (p.moves config (client_of (entries_of past)) led).led, due is),
  )

module _ (addresses : Addresses) {K A : Type 0} (content : K → Content) (past : List Turn) (at word : ℕ)
    (refused : Bool) (a : ServerEnd K A) (entries : List Entry) where
  abbrev state : ServerEnd K A → State
  state e = state_of content e.server

  abbrev drops_it : Endpoint → List ℕ → Type 0
  drops_it from bytes = IsQuiet (made (state a).layer (max (state a).own.clock at) (below.Receive from bytes))

  pub change_lacks :
      (path : List (List ℕ)) (format : Option ℕ) (body : List ℕ)
      → ((why : StoreRefusal) → why ≢ refusal.Memory
      → put_refusal (state_of content a.server).own.store (max (state_of content a.server).own.clock at) path
      (length body) ≡ Some why → refused ≡ false)
      → EndLacks addresses (ServerLed content) server_trace past (event_at at word (Sets path format body)) refused a
      entries
  change_lacks path format body other config here led is =
      let now : ℕ = max (state a).own.clock at in (
        state a,
        led.led,
        none_left (put_refusal (state a).own.store now path (length body)) refused
            (never_memory (state a).own.store now path (length body)) other is,
      )

  pub server_heeds :
      (from : Endpoint) (bytes : List ℕ)
      → (IsQuiet (made a.server.exchanges.layer (max a.server.clock at) (below.Receive from bytes)) → refused ≡ false)
      → EndLacks addresses (ServerLed content) server_trace past (event_at at word (StrangerToServer from bytes))
      refused a entries
  server_heeds from bytes quiet config here led is = (
    state a,
    led.led,
    λ drops. clash refused (quiet drops) is,
  )

  -- .. one that was given out, from there
  pub server_heeds_it :
      (n : ℕ) (g : Given) (from : Endpoint) (bytes : List ℕ) → IsNumber addresses n g past
      → g.packet.to ≡ addresses.server → from ≡ g.from → bytes ≡ g.packet.bytes
      → (IsQuiet (made a.server.exchanges.layer (max a.server.clock at) (below.Receive from bytes)) → refused ≡ false)
      → EndLacks addresses (ServerLed content) server_trace past (event_at at word (Deliver n)) refused a entries
  server_heeds_it n g from bytes number to of are quiet config here led is = (
    g,
    subst (λ x. IsNumber x n g past) (sym here) number,
    inl (
      to ∙ ap (λ (x : Addresses). x.server) (sym here),
      (
        state a,
        led.led,
        λ drops. clash refused (quiet (subst (λ b. drops_it from b) (sym are)
            (subst (λ f. drops_it f g.packet.bytes) (sym of) drops))) is,
      ),
    ),
  )

  pub server_due :
      (b : ServerEnd K A) (calls : List S.Call) → AreTicks (ServerTick at word) refused calls
      → Moves (ServerLed content) a calls b → (refused ≡ true → IsServerIdle (state_of content b.server) at → ⊥)
      → OnServer calls entries
      → EndLacks addresses (ServerLed content) server_trace past (event_at at word TickServer) refused a entries
  server_due b calls are moves due on config here led is = (
    calls,
    subst (λ r. AreTicks (ServerTick at word) r calls) is are,
    on,
    (state b, (moves config (server_trace config (entries_of past)) led).led, due is),
  )
