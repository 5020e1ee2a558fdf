-- When the calls of the client, at one moment, have their entries in its layer.
use Rattle.std.proofs.Common.{◌≡◌, ◌≤◌, ℕ, Option, Some, None, List, [], ◌∷◌, ◌++◌, subst, ◌∙◌, arith, max, Bool, true}
use Rattle.std.proofs.Common.{false, Result, refl, ap, sym, append_assoc}
use Rattle.coap_types.specs.declared.endpoint.Endpoint.{Endpoint}
use Rattle.coap_exchange.specs.AskerRequests.{asked, beneath, opening_of, request_token, content_of}
use Rattle.coap_exchange.specs.AskerArrivals.{replying, settling, acts, verdict_on, settles, id_in, reply_by}
use Rattle.coap_promise.proofs.Facts.Delivery.EntriesInTime.{Every, Wish, every_join, Timely, Done, Ends, ends_over}
use Rattle.coap_promise.proofs.Facts.Delivery.EntriesInTime.{done}
use Rattle.coap_promise.proofs.Facts.Delivery.EntriesInTime.{nothing_done, takes}
use Rattle.coap_layer.specs.Machine.State.{State, start}
use Rattle.coap_layer.specs.Machine.Steps.{left_after}
use Rattle.coap_exchange.specs.declared.asker.AskRefusal.{AskRefusal}
use Rattle.coap_exchange.specs.declared.asker.Exchange.{Exchange}
use Rattle.coap_exchange.specs.declared.matching.Opening.{Opening}
use Rattle.coap_exchange.specs.declared.matching.Opening.TheVariants.{Running}
use Rattle.coap_client.specs.Trace.{Call, Calls, Observes, Cancels, Forgets, Feeds, Ticks, NextOut, NextReport, Asked}
use Rattle.coap_client.specs.Own.{Own, Observation}
use Rattle.coap_client.specs.Effects.{Deed, Rests, Asks, Effect}
use Rattle.coap_client.specs.Observing.{releases}
use Rattle.coap_client.specs.Observations.{observation_of}
use Rattle.coap_client.specs.Deeds.{deeds, done_for, close, effect}
use Rattle.coap_client.specs.Law.{own_of, lower_of}
use Rattle.coap_exchange.specs.Adds.{asked_by_client}
use Rattle.coap_client_laws.specs.Follows.Clock.{moment_of}
use Rattle.coap_exchange.proofs.Facts.Adds.{left_append}
use Rattle.coap_client_laws.proofs.Facts.Laws.{clock_is}
use Rattle.coap_promise.specs.Delivery.{FedToClient}
use Rattle.coap_record.specs.Events.{Config}
use Rattle.coap_record.specs.Record.{OfClient}
use Rattle.coap_promise.specs.Hops.{client_asks, client_asked, client_adds}
use Rattle.coap_promise.proofs.Facts.Delivery.HopsAreEntries.{client_asked_next}
use Rattle.coap_layer.specs.Trace as L
use Rattle.coap_layer.specs.declared.setup.Setup.{Setup}
use Rattle.coap_exchange.specs.AskerTrace as A
use Rattle.coap_exchange.specs.AskerLaw as asker
use Rattle.coap_exchange.specs.AskerSteps as asker_steps

module _ (t : ℕ) (F : Endpoint → List ℕ → Type 0) where
  pub replying_wish : (from : Endpoint) (id : ℕ) (o : Option (List ℕ)) → Every (Wish t F) (replying from id o)
  replying_wish from id None = tt
  replying_wish from id (Some b) = (record { now = omega arith; fed = λ from bytes is. absurd (cc is) }, tt)

  pub timed_wish : (now : ℕ) (up : L.Answer) → now ≤ t → Wish t F (asked now L.Ticks up)
  timed_wish now up h = record { now = h; fed = λ from bytes is. absurd (cc is) }

  pub receive_wish : (now : ℕ) (from : Endpoint) (bytes : List ℕ) (up : L.Answer) → now ≤ t → F from bytes
      → Wish t F (asked now (L.Receive from bytes) up)
  receive_wish now from bytes up h fed =
      record {
        now = h;
        fed = λ f b is. let same : from ≡ f = cc is in let alike : bytes
            ≡ b = cc is in subst (λ y. F y b) same (subst (F from) alike fed);
      }

-- the moment that it is handed
abbrev pub IsAt : ℕ → Call → Type 0
IsAt t (Calls now r answer) = now ≡ t
IsAt t (Observes now path answer) = now ≡ t
IsAt t (Cancels now number answer) = now ≡ t
IsAt t (Feeds now from bytes word up settled event sent token kept) = now ≡ t
IsAt t (Ticks now word below turn sent token kept answer) = now ≡ t
IsAt t _ = Unit {0}

abbrev pub Fed : Call → Endpoint → List ℕ → Type 0
Fed c from bytes = FedToClient from bytes (OfClient c)

-- a forgetting asks nothing of the layer: a token is kept no more, or nothing is done
forgets_nothing : (to : Endpoint) (setup : Setup) (past : List A.Call) (o : Option Observation) (s : Own) (now w : ℕ)
    (sent : L.Answer) (token : Result (List ℕ) AskRefusal) (kept : Bool)
    → asked_by_client to setup past (deeds (releases o) s now w sent token kept) ≡ []
forgets_nothing to setup past None s now w sent token kept = refl
forgets_nothing to setup past (Some o) s now w sent token kept = refl

module _ (t : ℕ) (F : Endpoint → List ℕ → Type 0) where
  -- what is asked of the exchanges
  abbrev AsksAt : A.Call → Type 0
  AsksAt (A.Ask now r word below answer) = now ≤ t
  AsksAt (A.Receive now from bytes up settled answer) = (now ≤ t) × F from bytes
  AsksAt (A.Ticks now below answer) = now ≤ t
  AsksAt _ = Unit {0}

  settling_wish : (b : Bool) (server : Endpoint) (o : Option Exchange) (settled : Bool)
      → Every (Wish t F) (settling b server o settled)
  settling_wish true server (Some x) settled = (record { now = omega arith; fed = λ from bytes is. absurd (cc is) }, tt)
  settling_wish true server None settled = tt
  settling_wish false server o settled = tt

  beneath_wish : (now : ℕ) (o : Opening) (server : Endpoint) (content : L.Content) (word : ℕ) (sent : L.Answer)
      → now ≤ t → Wish t F (asked now (beneath o server content word) sent)
  beneath_wish now Running server content word sent h = record { now = h; fed = λ from bytes is. absurd (cc is) }
  beneath_wish now _ server content word sent h = record { now = h; fed = λ from bytes is. absurd (cc is) }

  lower_wish : (s : A.Own) (c : A.Call) → AsksAt c → Every (Wish t F) (asker_steps.lower s c)
  lower_wish s (A.Ask now r word below answer) h =
      (beneath_wish now (opening_of s r) s.server (content_of (request_token s r) r) word below h, tt)
  lower_wish s (A.Receive now from bytes up settled answer) h =
      let v = verdict_on s from up in
      every_join (Wish t F) (acts s from up settled v) (asked now (L.Receive from bytes) up ∷ [])
      (every_join (Wish t F) (settling (settles v) s.server s.running settled) _
      (settling_wish (settles v) s.server s.running settled)
      (replying_wish t F from (id_in up) (reply_by v (id_in up))))
      (receive_wish t F now from bytes up h.0 h.1, tt)
  lower_wish s (A.Ticks now below answer) h = (timed_wish t F now below h, tt)
  lower_wish s (A.Take answer) h = (record { now = omega arith; fed = λ from bytes is. absurd (cc is) }, tt)
  lower_wish s _ h = tt

  wishes : (to : Endpoint) (setup : Setup) (past later : List A.Call) → Every AsksAt later
      → Every (Wish t F) (asked_by_client to setup past later)
  wishes to setup past [] h = tt
  wishes to setup past (c ∷ later) h =
      every_join (Wish t F) (asker_steps.lower (asker.own_of to setup (later ++ past)) c)
      (asked_by_client to setup past later) (lower_wish (asker.own_of to setup (later ++ past)) c h.0)
      (wishes to setup past later h.1)

  -- the oldest is an arrival or a tick
  abbrev Begins : A.Call → Type 0
  Begins (A.Receive now from bytes up settled answer) = t ≤ now
  Begins (A.Ticks now below answer) = t ≤ now
  Begins _ = ⊥

  first_ends : (s : A.Own) (c : A.Call) → Begins c → Ends t F (asker_steps.lower s c ++ [])
  first_ends s (A.Receive now from bytes up settled answer) k =
      let v = verdict_on s from up in
      subst (Ends t F) (sym (append_assoc (acts s from up settled v) (asked now (L.Receive from bytes) up ∷ []) []))
      (ends_over t F (acts s from up settled v) (asked now (L.Receive from bytes) up ∷ []) (k, tt))
  first_ends s (A.Ticks now below answer) k = (k, tt)
  first_ends s _ k = absurd k

  ends : (to : Endpoint) (setup : Setup) (past later : List A.Call) (c : A.Call) → Begins c
      → Ends t F (asked_by_client to setup past (later ++ c ∷ []))
  ends to setup past [] c k = first_ends (asker.own_of to setup past) c k
  ends to setup past (d ∷ later) c k =
      ends_over t F (asker_steps.lower (asker.own_of to setup ((later ++ c ∷ []) ++ past)) d)
      (asked_by_client to setup past (later ++ c ∷ [])) (ends to setup past later c k)

  deed_asks : (d : Deed) (s : Own) (now word : ℕ) (sent : L.Answer) (token : Result (List ℕ) AskRefusal) (kept : Bool)
      → now ≤ t → Every AsksAt (deeds d s now word sent token kept)
  deed_asks Rests s now word sent token kept h = tt
  deed_asks (Asks op) s now word sent token kept h = (h, tt)
  deed_asks _ s now word sent token kept h = (tt, tt)

  -- an input at the exchanges, and what is done for it
  input_done : (to : Endpoint) (setup : Setup) (past : List A.Call) (e : Effect) (now word : ℕ) (sent : L.Answer)
      (token : Result (List ℕ) AskRefusal) (kept : Bool) (input : A.Call) → now ≤ t → AsksAt input → Begins input
      → Every (Wish t F) (asked_by_client to setup past (done_for e now word sent token kept input))
      × Ends t F (asked_by_client to setup past (done_for e now word sent token kept input))
  input_done to setup past e now word sent token kept input h a b =
      let c = close now e token in
      let later : List A.Call = deeds c.deed c.own now word sent token kept in
      let first : List A.Call = deeds e.deed e.own now word sent token kept in (
        wishes to setup past (later ++ (first ++ input ∷ []))
            (every_join AsksAt later (first ++ input ∷ []) (deed_asks c.deed c.own now word sent token kept h)
            (every_join AsksAt first (input ∷ []) (deed_asks e.deed e.own now word sent token kept h) (a, tt))),
        subst (λ l. Ends t F (asked_by_client to setup past l)) (append_assoc later first (input ∷ []))
            (ends to setup past (later ++ first) input b),
      )

module _ (config : Config) where
  abbrev own : List Call → Own
  own past = own_of config.client_sizes past

  abbrev exchanges : List Call → List A.Call
  exchanges past = lower_of config.client_sizes past

  abbrev before : List Call → State
  before past = left_after (start config.client_setup) (client_asked config past)

  -- no clock of the client is past this moment
  pub record IsBy (t : ℕ) (past : List Call) : Type 0 where
    pub own : (own past).clock ≤ t
    pub layer : (before past).clock ≤ t

  forgets_done : (t : ℕ) (past : List Call) (number : ℕ) (kept answer : Bool) → IsBy t past
      → Done t (Fed (Forgets number kept answer)) (before past) (client_asks config past (Forgets number kept answer))
  forgets_done t past number kept true by =
      subst (Done t (Fed (Forgets number kept true)) (before past))
      (sym (forgets_nothing config.addresses.server config.client_setup (exchanges past)
      (observation_of number (own past).observations) (own past) 0 0 _ _ kept))
      (nothing_done t (Fed (Forgets number kept true)) (before past) by.layer)
  forgets_done t past number kept false by = nothing_done t (Fed (Forgets number kept false)) (before past) by.layer

  asks_done : (t : ℕ) (past : List Call) (c : Call) → IsBy t past → IsAt t c
      → Done t (Fed c) (before past) (client_asks config past c)
  asks_done t past (Forgets number kept answer) by at = forgets_done t past number kept answer by
  asks_done t past (NextOut answer) by at = takes t (Fed (NextOut answer)) (before past) (L.Gives answer) by.layer
  asks_done t past (Feeds now from bytes word up settled event sent token kept) by at =
      let o = by.own in
      let m : ℕ = max (own past).clock now in
      let h : m ≤ t = omega (arith, o, at) in
      let k : t ≤ m = omega (arith, at) in
      let c : Call = Feeds now from bytes word up settled event sent token kept in
      let w = input_done t (Fed c) config.addresses.server config.client_setup (exchanges past)
      (effect (own past) c) m word sent token kept (A.Receive m from bytes up settled event) h
      (h, (now, word, up, settled, event, sent, token, kept, refl)) k in
      done t (Fed c) (before past) _ by.layer w.0 w.1
  asks_done t past (Ticks now word below turn sent token kept answer) by at =
      let o = by.own in
      let m : ℕ = max (own past).clock now in
      let h : m ≤ t = omega (arith, o, at) in
      let k : t ≤ m = omega (arith, at) in
      let c : Call = Ticks now word below turn sent token kept answer in
      let w = input_done t (Fed c) config.addresses.server config.client_setup (exchanges past)
      (effect (own past) c) m word sent token kept (A.Ticks m below turn) h h k in
      done t (Fed c) (before past) _ by.layer w.0 w.1
  asks_done t past c by at = nothing_done t (Fed c) (before past) by.layer

  moment_by : (t : ℕ) (s : Own) (c : Call) → s.clock ≤ t → IsAt t c → moment_of s c ≤ t
  moment_by t s (Forgets number kept answer) h at = h
  moment_by t s (NextOut answer) h at = h
  moment_by t s (NextReport answer) h at = h
  moment_by t s (Asked answer) h at = h
  moment_by t s _ h at = omega (arith, h, at)

  pub next_by : (t : ℕ) (past : List Call) (c : Call) → IsBy t past → IsAt t c → IsBy t (c ∷ past)
  next_by t past c by at =
      record {
        own = subst (λ (n : ℕ). n ≤ t) (sym (clock_is (own past) c)) (moment_by t (own past) c by.own at);
        layer = subst (λ (s : State). s.clock ≤ t)
            (sym (ap (left_after (start config.client_setup)) (client_asked_next config past c)
            ∙ left_append (start config.client_setup) (client_asks config past c) (client_asked config past)))
            (asks_done t past c by at).till;
      }

  pub later_by : (t u : ℕ) (past : List Call) → t ≤ u → IsBy t past → IsBy u past
  later_by t u past h by = let a = by.own in let b =
      by.layer in record { own = omega (arith, a, h); layer = omega (arith, b, h) }

  pub adds_timely : (t : ℕ) (past : List Call) (c : Call) → IsBy t past → IsAt t c
      → Every (Timely t (Fed c)) (client_adds config past c)
  adds_timely t past c by at = (asks_done t past c by at).timely
