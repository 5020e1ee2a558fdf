-- When the calls of the server, at one moment, have their entries in its layer.
use Rattle.std.proofs.Common.{◌≡◌, ◌≤◌, ℕ, zero, suc, max, Bool, true, false, Option, Some, None, List, [], ◌∷◌, refl}
use Rattle.std.proofs.Common.{ap, sym, subst, ◌∙◌, arith}
use Rattle.coap_types.specs.declared.endpoint.Endpoint.{Endpoint}
use Rattle.coap_codec.specs.Message.{Message}
use Rattle.coap_layer.specs.Trace as L
use Rattle.coap_layer.specs.Machine.State.{State, start}
use Rattle.coap_layer.specs.Machine.Steps.{left_after}
use Rattle.coap_observe.specs.Observers.{Observer}
use Rattle.coap_exchange.specs.declared.answerer.Asked as request
use Rattle.coap_exchange.specs.declared.answerer.Due.{Due}
use Rattle.coap_exchange.specs.declared.answerer.Due.TheVariants as due
use Rattle.coap_exchange.specs.AnswererTrace as R
use Rattle.coap_exchange.specs.AnswererLaw as answerer
use Rattle.coap_server.specs.Asks.{answering, notifies_by, responding}
use Rattle.coap_server.specs.Asks as asks_of
use Rattle.coap_server.specs.Deferring.{deferral_by, deferral}
use Rattle.coap_server.specs.Handling.{incoming, ticking, heard}
use Rattle.coap_server.specs.Law.{own_of, lower_of}
use Rattle.coap_server.specs.Notifying.{marked, notification, readies}
use Rattle.coap_server.specs.Plain.{by_plain}
use Rattle.coap_server.specs.Steps as steps
use Rattle.coap_server.specs.Trace.{Own, Handling, Silent, Replies, Serves, Waits, Notifies, Call, Sets, Removes}
use Rattle.coap_server.specs.Refusing.{refusing}
use Rattle.coap_server.specs.Trace.{Feeds, Refuses, Ticks, NextOut}
use Rattle.coap_exchange.proofs.Facts.Adds.{left_append}
use Rattle.coap_promise.specs.Delivery.{FedToServer}
use Rattle.coap_record.specs.Events.{Config}
use Rattle.coap_promise.specs.Hops.{server_asks, server_asked, server_adds}
use Rattle.coap_record.specs.Record.{OfServer}
use Rattle.coap_promise.proofs.Facts.Delivery.EntriesInTime.{Every, every_join, Timely, Done, done, nothing_done, takes}
use Rattle.coap_promise.proofs.Delivery.ResponsesInTime.{Asks, owns_by, wishes, ends}
use Rattle.coap_promise.proofs.Facts.Delivery.HopsAreEntries.{server_asked_next}
use Rattle.coap_server.specs.Trace.{Forgets}

-- the moment that it is handed
abbrev pub IsAt : ℕ → Call → Type 0
IsAt t (Sets now path format body answer left) = now ≡ t
IsAt t (Removes now path answer left) = now ≡ t
IsAt t (Feeds now from bytes word up came h below) = now ≡ t
IsAt t (Refuses now from bytes word code up p response below) = now ≡ t
IsAt t (Ticks now word below room d passed h id answer) = now ≡ t
IsAt t _ = Unit {0}

-- the moment that counts: an earlier one than the last counts as the last
abbrev pub Counts : ℕ → ℕ → Call → Type 0
Counts t clock (Sets now path format body answer left) = max clock now ≡ t
Counts t clock (Removes now path answer left) = max clock now ≡ t
Counts t clock (Feeds now from bytes word up came h below) = max clock now ≡ t
Counts t clock (Refuses now from bytes word code up p response below) = max clock now ≡ t
Counts t clock (Ticks now word below room d passed h id answer) = max clock now ≡ t
Counts t clock _ = Unit {0}

counts : (t clock : ℕ) (c : Call) → clock ≤ t → IsAt t c → Counts t clock c
counts t clock (Sets now path format body answer left) h at = omega (arith, h, at)
counts t clock (Removes now path answer left) h at = omega (arith, h, at)
counts t clock (Feeds now from bytes word up came w below) h at = omega (arith, h, at)
counts t clock (Refuses now from bytes word code up p response below) h at = omega (arith, h, at)
counts t clock (Ticks now word below room d passed w id answer) h at = omega (arith, h, at)
counts t clock _ h at = tt

abbrev pub Fed : Call → Endpoint → List ℕ → Type 0
Fed c from bytes = FedToServer from bytes (OfServer c)

module _ (t : ℕ) (F : Endpoint → List ℕ → Type 0) where
  deferring_asks : (o : Option ℕ) (place : Bool) (at : ℕ) (a : request.Asked) → at ≤ t
      → Every (Asks t F) (deferral_by o place at a)
  deferring_asks None place at a k = tt
  deferring_asks (Some delay) place at a k = (k, tt)

  deferral_asks : (s : Own) (a : request.Asked) (q : _) → s.clock ≤ t → Every (Asks t F) (deferral s a q)
  deferral_asks s a q k = deferring_asks _ _ s.clock a k

  answering_asks : (s : Own) (came : Option (request.Asked × Message)) (h : Handling) (below : L.Answer) → s.clock ≤ t
      → Every (Asks t F) (answering s came h below)
  answering_asks s (Some p) (Replies response) below k = (tt, tt)
  answering_asks s (Some p) (Serves q reply left) below k = (tt, deferral_asks s p.0 q k)
  answering_asks s (Some p) (Waits q delay) below k = deferral_asks s p.0 q k
  answering_asks s _ _ below k = tt

  refusing_asks : (a : request.Asked) (response : Option ℕ) (below : L.Answer)
      → Every (Asks t F) (refusing a response below)
  refusing_asks a None below = tt
  refusing_asks a (Some code) below = (tt, tt)

  readies_asks : (at passed : ℕ) (os : List Observer) → at ≤ t → Every (Asks t F) (readies at passed os)
  readies_asks at passed [] k = tt
  readies_asks at zero (o ∷ os) k = (k, tt)
  readies_asks at (suc passed) (o ∷ os) k = every_join (Asks t F) (readies at passed os) (R.Ready at o.to false ∷ [])
      (readies_asks at passed os k) (k, tt)

  notifying_asks : (plain : Bool) (at : ℕ) (o : Observer) (r : R.Response) (word id : ℕ) → at ≤ t
      → Asks t F (notifies_by plain at o r word id)
  notifying_asks true at o r word id k = k
  notifying_asks false at o r word id k = k

  responding_asks : (s : Own) (d : Due) (passed : ℕ) (h : Handling) (word id : ℕ) → s.clock ≤ t
      → Every (Asks t F) (responding s d passed h word id)
  responding_asks s (due.Ready a) passed (Serves q reply left) word id k = (k, tt)
  responding_asks s due.Idle passed (Notifies o reply) word id k = (
    notifying_asks (by_plain s o) s.clock o (notification s.store o reply) word id k,
    readies_asks s.clock passed (marked s.observers) k,
  )
  responding_asks s due.Idle passed (Serves q reply left) word id k = readies_asks s.clock passed (marked s.observers) k
  responding_asks s due.Idle passed Silent word id k = readies_asks s.clock passed (marked s.observers) k
  responding_asks s due.Idle passed (Replies response) word id k = readies_asks s.clock passed (marked s.observers) k
  responding_asks s due.Idle passed (Waits q delay) word id k = readies_asks s.clock passed (marked s.observers) k
  responding_asks s _ passed _ word id k = tt

  -- what a call asks of the exchanges
  lower_asks : (s : Own) (c : Call) → s.clock ≤ t → Counts t s.clock c
      → ((from : Endpoint) (bytes : List ℕ) → Fed c from bytes → F from bytes) → Every (Asks t F) (asks_of.lower s c)
  lower_asks s (Feeds now from bytes word up came w below) h at f =
      let k : max s.clock now ≤ t = omega (arith, at) in
      let z : Own = heard s now (incoming s now from bytes up came) in
      every_join (Asks t F) (answering z came w below) (incoming s now from bytes up came ∷ [])
      (answering_asks z came w below k) ((k, f from bytes refl), tt)
  lower_asks s (Refuses now from bytes word code up p response below) h at f =
      let k : max s.clock now ≤ t = omega (arith, at) in
      every_join (Asks t F) (refusing p.0 response below) (incoming s now from bytes up (Some p) ∷ [])
      (refusing_asks p.0 response below) ((k, f from bytes refl), tt)
  lower_asks s (Ticks now word below room d passed w id answer) h at f =
      let k : max s.clock now ≤ t = omega (arith, at) in
      let z : Own = heard s now (ticking s now below room d) in
      every_join (Asks t F) (responding z d passed w word id) (ticking s now below room d ∷ [])
      (responding_asks z d passed w word id k) (k, tt)
  lower_asks s (NextOut answer) h at f = (tt, tt)
  lower_asks s (Forgets peer) h at f = (tt, tt)
  lower_asks s _ h at f = tt

module _ (config : Config) where
  abbrev own : List Call → Own
  own past = own_of config.limits config.server_szx past

  abbrev exchanges : List Call → List R.Call
  exchanges past = lower_of config.limits config.server_szx past

  abbrev before : List Call → State
  before past = left_after (start config.server_setup) (server_asked config past)

  -- no clock of the server is past this moment
  pub record IsBy (t : ℕ) (past : List Call) : Type 0 where
    pub own : (own past).clock ≤ t
    pub between : (answerer.own_of (exchanges past)).clock ≤ t
    pub layer : (before past).clock ≤ t

  asks : (t : ℕ) (past : List Call) (c : Call) → IsBy t past → Counts t (own past).clock c
      → Every (Asks t (Fed c)) (asks_of.lower (own past) c)
  asks t past c by at = lower_asks t (Fed c) (own past) c by.own at (λ from bytes f. f)

  asks_done : (t : ℕ) (past : List Call) (c : Call) → IsBy t past → Counts t (own past).clock c
      → Done t (Fed c) (before past) (server_asks config past c)
  asks_done t past (NextOut answer) by at = takes t (Fed (NextOut answer)) (before past) (L.Gives answer) by.layer
  asks_done t past (Feeds now from bytes word up came w below) by at =
      let F = Fed (Feeds now from bytes word up came w below) in
      let k : t ≤ max (own past).clock now = omega (arith, at) in
      done t F (before past) _ by.layer (wishes t F (exchanges past)
      (asks_of.lower (own past) (Feeds now from bytes word up came w below)) by.between
      (asks t past (Feeds now from bytes word up came w below) by at))
      (ends t F (exchanges past) (answering (heard (own past) now (incoming (own past) now from bytes up came)) came w
      below) (incoming (own past) now from bytes up came) k)
  asks_done t past (Refuses now from bytes word code up p response below) by at =
      let c : Call = Refuses now from bytes word code up p response below in
      let F = Fed c in
      let k : t ≤ max (own past).clock now = omega (arith, at) in
      done t F (before past) _ by.layer (wishes t F (exchanges past) (asks_of.lower (own past) c) by.between
      (asks t past c by at))
      (ends t F (exchanges past) (refusing p.0 response below) (incoming (own past) now from bytes up (Some p)) k)
  asks_done t past (Ticks now word below room d passed w id answer) by at =
      let F = Fed (Ticks now word below room d passed w id answer) in
      let k : t ≤ max (own past).clock now = omega (arith, at) in
      done t F (before past) _ by.layer (wishes t F (exchanges past)
      (asks_of.lower (own past) (Ticks now word below room d passed w id answer)) by.between
      (asks t past (Ticks now word below room d passed w id answer) by at))
      (ends t F (exchanges past) (responding (heard (own past) now (ticking (own past) now below room d)) d passed w
      word id) (ticking (own past) now below room d) k)
  asks_done t past c by at = nothing_done t (Fed c) (before past) by.layer

  end_by : (t : ℕ) (s : Own) (c : Call) → s.clock ≤ t → Counts t s.clock c → (steps.after s c).clock ≤ t
  end_by t s (Sets now path format body answer left) h at = omega (arith, at)
  end_by t s (Removes now path answer left) h at = omega (arith, at)
  end_by t s (Feeds now from bytes word up came w below) h at = omega (arith, at)
  end_by t s (Refuses now from bytes word code up p response below) h at = omega (arith, at)
  end_by t s (Ticks now word below room d passed w id answer) h at = omega (arith, at)
  end_by t s _ h at = h

  pub next_counted : (t : ℕ) (past : List Call) (c : Call) → IsBy t past → Counts t (own past).clock c
      → IsBy t (c ∷ past)
  next_counted t past c by at =
      record {
        own = end_by t (own past) c by.own at;
        between = owns_by t (Fed c) (exchanges past) (asks_of.lower (own past) c) by.between (asks t past c by at);
        layer = subst (λ (s : State). s.clock ≤ t)
            (sym (ap (left_after (start config.server_setup)) (server_asked_next config past c)
            ∙ left_append (start config.server_setup) (server_asks config past c) (server_asked config past)))
            (asks_done t past c by at).till;
      }

  pub next_by : (t : ℕ) (past : List Call) (c : Call) → IsBy t past → IsAt t c → IsBy t (c ∷ past)
  next_by t past c by at = next_counted t past c by (counts t (own past).clock c by.own at)

  pub later_by : (t u : ℕ) (past : List Call) → t ≤ u → IsBy t past → IsBy u past
  later_by t u past h by =
      let a = by.own in
      let b = by.layer in
      let c = by.between in
      record { own = omega (arith, a, h); between = omega (arith, c, h); layer = omega (arith, b, h) }

  pub adds_counted : (t : ℕ) (past : List Call) (c : Call) → IsBy t past → Counts t (own past).clock c
      → Every (Timely t (Fed c)) (server_adds config past c)
  adds_counted t past c by at = (asks_done t past c by at).timely

  pub adds_timely : (t : ℕ) (past : List Call) (c : Call) → IsBy t past → IsAt t c
      → Every (Timely t (Fed c)) (server_adds config past c)
  adds_timely t past c by at = adds_counted t past c by (counts t (own past).clock c by.own at)
