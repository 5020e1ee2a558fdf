-- Two programs make a run.
use Rattle.std.proofs.Common.{◌≡◌, inl, inr, ℕ, Option, Some, None, List, [], ◌∷◌, ◌++◌, ap, sym, ◌∙◌, subst}
use Rattle.std.proofs.Common.{append_assoc}
use Rattle.std.proofs.Common.{Ok}
use Rattle.coap_types.specs.Past.{Always, Sometime}
use Rattle.coap_client.specs.Sendings.{Taken, WasTaken, takes}
use Rattle.coap_client.specs.Trace as C
use Rattle.coap_client.proofs.Facts.EachCall.{client_stands}
use Rattle.coap_server.specs.Led as S_led
use Rattle.coap_server.specs.Trace as S
use Rattle.coap_server.proofs.Facts.EachCall.{led_further, led_lawful}
use Rattle.coap_resource.specs.RequestOptions.{tag_of}
use Rattle.coap_promise.specs.Words.{WasCalled, holds_at}
use Rattle.coap_record.specs.Events.{Config}
use Rattle.coap_record.specs.Record.{Entry, OfClient, OfServer, begun_with, client_of, server_of, server_trace}
use Rattle.coap_order.specs.Held.{BodiesHeld, HoldsBody}
use Rattle.coap_programs.specs.Programs.{Got, Leads, Served, WasHeldAt}
use Rattle.coap_order.specs.Run.{RunOf}

module _ (config : Config) where
  abbrev ServerLed : List S.Call → S_led.State → Type 0
  ServerLed t s = S_led.Led config.limits config.server_szx config.server_setup t s

  leads_led : (t calls : List S.Call) (old new : S_led.State) → ServerLed t old → Leads old calls new
      → ServerLed (calls ++ t) new
  leads_led t [] old new led h = subst (ServerLed t) (sym h) led
  leads_led t (c ∷ calls) old new led h = led_further config.limits config.server_szx config.server_setup (calls ++ t) c
      h.0 new (leads_led t calls old h.0 led h.1) h.2

  pub run_of : (run : List Entry) (number : ℕ) (request : C.Request) (tag : Option (List ℕ)) (format : Option ℕ)
      (body : List ℕ) → Served config (server_of run) → Got config number request tag format body (client_of run)
      → RunOf config run
  run_of run number request tag format body served got =
      let t : List S.Call = served.sets ++ begun_with config in
      let same : served.serving ++ t ≡ server_trace config run =
      sym (append_assoc served.serving served.sets (begun_with config))
      ∙ ap (λ (x : List S.Call). x ++ begun_with config) (sym served.is) in
      record {
        client = client_stands config.addresses.server config.client_sizes config.client_setup (client_of run) got.last
            got.led;
        server = led_lawful config.limits config.server_szx config.server_setup (server_trace config run) served.last
            (subst (λ (x : List S.Call). ServerLed x served.last) same
            (leads_led t served.serving served.first served.last served.set_up served.leads));
      }

  module _ (number : ℕ) (request : C.Request) (tag : Option (List ℕ)) (format : Option ℕ) (body : List ℕ) where
    abbrev x : C.Reported
    x = record { number = number; report = C.Body tag format body }

    -- the only call
    one_call : (between : List C.Call) (now : ℕ) (other : C.Request) → Always (λ past c. takes c ≡ None) between
        → WasTaken (record { number = number; request = other }) (between ++ C.Calls now request (Ok number) ∷ [])
        → other ≡ request
    one_call [] now other quiet (inl h) = sym (ap (λ (t : Taken). t.request) (some_is h))
      where
        some_is : {a b : Taken} → Some a ≡ Some b → a ≡ b
        some_is e = cc e
    one_call [] now other quiet (inr h) = absurd h
    one_call (c ∷ between) now other quiet (inl h) = let none = quiet.0 in absurd (cc (none, h))
    one_call (c ∷ between) now other quiet (inr h) = one_call between now other quiet.1 h

    -- what was called before was called
    still_called : (other : C.Request) (e : Entry) (es : List Entry)
        → WasCalled number other es → WasCalled number other (e ∷ es)
    still_called other (OfClient c) es h = inr h
    still_called other (OfServer c) es h = h

    -- where the body was held, it was so at the path of the request
    abbrev HeldThere : List Entry → Type 0
    HeldThere all = WasCalled number request all × (version : ℕ) × (tag ≡ Some (tag_of version))
        × (holds_at config request.path all ≡ Some (record { version = version; format = format; body = body }))

    at_path : (run : List Entry) → ((other : C.Request) → WasCalled number other run → other ≡ request)
        → Sometime (λ before y. HoldsBody config number tag format body (y ∷ before)) run
        → Sometime (λ before y. HeldThere (y ∷ before)) run
    at_path [] one h = h
    at_path (e ∷ run) one (inl h) = inl (subst (λ (r : C.Request). WasCalled number r (e ∷ run)
        × (version : ℕ) × (tag ≡ Some (tag_of version)) × (holds_at config r.path (e ∷ run)
        ≡ Some (record { version = version; format = format; body = body }))) (one h.request h.called)
        (h.called, h.version, h.tag_is, h.there))
    at_path (e ∷ run) one (inr h) = inr (at_path run (λ other k. one other (still_called other e run k)) h)

    -- the newest of the client's calls took it
    newest : (run : List Entry) (earlier : List C.Call) → client_of run ≡ C.NextReport (Some x) ∷ earlier
        → ((other : C.Request) → WasCalled number other run → other ≡ request)
        → Always (λ past e. e ≡ OfClient (C.NextReport (Some x))
        → Sometime (λ before y. HoldsBody config number tag format body (y ∷ before)) past) run
        → WasHeldAt config number request tag format body run
    newest [] earlier e one all = absurd (cc e)
    newest (OfServer c ∷ run) earlier e one all =
        inr (newest run earlier e (λ other k. one other (still_called other (OfServer c) run k)) all.1)
    newest (OfClient c ∷ run) earlier e one all =
        let same : OfClient c ≡ OfClient (C.NextReport (Some x)) = ap (λ (z : C.Call). OfClient z) (head e) in
        inl (same, at_path run (λ other k. one other (still_called other (OfClient c) run k)) (all.0 same))
      where
        head : c ∷ client_of run ≡ C.NextReport (Some x) ∷ earlier → c ≡ C.NextReport (Some x)
        head k = cc k

    pub got_was_held : (run : List Entry) → Got config number request tag format body (client_of run)
        → BodiesHeld config run → WasHeldAt config number request tag format body run
    got_was_held run got held =
        newest run (got.between ++ C.Calls got.now request (Ok number) ∷ []) got.is
        (λ other h. one_of other (subst (WasTaken (record { number = number; request = other })) got.is h))
        (held number tag format body)
      where
        one_of : (other : C.Request) → WasTaken (record { number = number; request = other })
            (C.NextReport (Some x) ∷ (got.between ++ C.Calls got.now request (Ok number) ∷ [])) → other ≡ request
        one_of other (inl h) = absurd (cc h)
        one_of other (inr h) = one_call got.between got.now other got.quiet h
