-- Of the calls of an end NextOut alone takes what its message layer sent, and of what is fed the layer receives that
-- datagram alone.
use Rattle.std.proofs.Common.{◌≡◌, ℕ, zero, suc, max, Bool, true, false, Option, Some, None, List, [], ◌∷◌, ◌++◌}
use Rattle.std.proofs.Common.{Result, refl, ap, sym, subst, ◌∙◌, append_assoc}
use Rattle.std.proofs.lemmas.List.{append-nil}
use Rattle.coap_types.specs.declared.endpoint.Endpoint.{Endpoint}
use Rattle.coap_types.specs.declared.message.Kind.{Kind}
use Rattle.coap_types.specs.declared.message.Kind.TheVariants.{Con}
use Rattle.coap_codec.specs.Message.{Message}
use Rattle.coap_layer.specs.Trace as L
use Rattle.coap_layer.specs.Words.{handed, handed_in, takes_in}
use Rattle.coap_layer.specs.Machine.State.{State, made}
use Rattle.coap_layer.specs.Machine.Steps.{Asked, left_after, entries}
use Rattle.coap_layer.specs.declared.setup.Setup.{Setup}
use Rattle.coap_observe.specs.Observers.{Observer}
use Rattle.coap_exchange.specs.declared.answerer.Asked as request
use Rattle.coap_exchange.specs.declared.answerer.Due.{Due}
use Rattle.coap_exchange.specs.declared.answerer.Due.TheVariants as due
use Rattle.coap_exchange.specs.declared.asker.AskRefusal.{AskRefusal}
use Rattle.coap_exchange.specs.declared.asker.Exchange.{Exchange}
use Rattle.coap_exchange.specs.declared.matching.Opening.{Opening}
use Rattle.coap_exchange.specs.declared.matching.Opening.TheVariants.{Running}
use Rattle.coap_exchange.specs.declared.separate.Deferred.{Deferred}
use Rattle.coap_exchange.specs.AnswererLaw as answerer
use Rattle.coap_exchange.specs.AnswererSteps as answerer_steps
use Rattle.coap_exchange.specs.AnswererSteps.{reject_by, deferring, may_defer, asking_room, ready_if, ready_at}
use Rattle.coap_exchange.specs.AnswererTrace as R
use Rattle.coap_exchange.specs.AskerArrivals.{replying, settling, acts, verdict_on, settles, id_in, reply_by}
use Rattle.coap_exchange.specs.AskerLaw as asker
use Rattle.coap_exchange.specs.AskerRequests.{asked, beneath, opening_of, request_token, content_of}
use Rattle.coap_exchange.specs.AskerSteps as asker_steps
use Rattle.coap_exchange.specs.AskerTrace as A
use Rattle.coap_exchange.specs.Adds.{asked_by_client, asked_by_server}
use Rattle.coap_client.specs.Deeds.{deeds, done_for, close, effect, forgets}
use Rattle.coap_client.specs.Effects.{Deed, Rests, Effect}
use Rattle.coap_client.specs.Law as client_law
use Rattle.coap_client.specs.Own as client_own
use Rattle.coap_client.specs.Trace as C
use Rattle.coap_server.specs.Asks.{answering, notifies_by, responding}
use Rattle.coap_server.specs.Deferring.{deferral_by, deferral}
use Rattle.coap_server.specs.Handling.{incoming, ticking, heard}
use Rattle.coap_server.specs.Refusing.{refusing}
use Rattle.coap_server.specs.Law as server_law
use Rattle.coap_server.specs.Notifying.{marked, notification, readies}
use Rattle.coap_server.specs.Plain.{by_plain}
use Rattle.coap_server.specs.Trace as S
use Rattle.coap_record.specs.Events.{Config}
use Rattle.coap_promise.specs.Hops.{client_asks, server_asks}
use Rattle.coap_promise.proofs.Facts.Delivery.EntriesInTime.{Every, every_join, every_map}

-- it takes nothing and hands nothing up
pub record IsQuiet (a : Asked) : Type 0 where
  pub takes : takes_in a.call ≡ 0
  pub hands : (answer : L.Answer) → handed_in a.call answer ≡ None

pub record IsSilent (e : L.Entry) : Type 0 where
  pub takes : takes_in e.call ≡ 0
  pub hands : handed e ≡ None

pub quiet_entries : (old : State) (asks : List Asked) → Every IsQuiet asks → Every IsSilent (entries old asks)
quiet_entries old [] h = tt
quiet_entries old (a ∷ asks) h = (
  record { takes = h.0.takes; hands = h.0.hands (made (left_after old asks) a.now a.call).answer },
  quiet_entries old asks h.1,
)

-- all but the oldest are quiet, and that is this call
pub record Behind (call : L.Call) (answer : L.Answer) (asks : List Asked) : Type 0 where
  pub takes : takes_in call ≡ 0
  pub front : List Asked
  pub now : ℕ
  pub is : asks ≡ front ++ asked now call answer ∷ []
  pub quiet : Every IsQuiet front

behind_more : (call : L.Call) (answer : L.Answer) (xs asks : List Asked) → Every IsQuiet xs → Behind call answer asks
    → Behind call answer (xs ++ asks)
behind_more call answer xs asks h k =
    record {
      takes = k.takes;
      front = xs ++ k.front;
      now = k.now;
      is = ap (λ l. xs ++ l) k.is ∙ sym (append_assoc xs k.front (asked k.now call answer ∷ []));
      quiet = every_join IsQuiet xs k.front h k.quiet;
    }

behind_last : (call : L.Call) (answer : L.Answer) (xs : List Asked) (now : ℕ) → takes_in call ≡ 0 → Every IsQuiet xs
    → Behind call answer ((xs ++ asked now call answer ∷ []) ++ [])
behind_last call answer xs now takes h = record {
  takes = takes;
  front = xs;
  now = now;
  is = append-nil (xs ++ asked now call answer ∷ []);
  quiet = h;
}

-- the client's exchanges

quiet_reply : (from : Endpoint) (id : ℕ) (o : Option (List ℕ)) → Every IsQuiet (replying from id o)
quiet_reply from id None = tt
quiet_reply from id (Some b) = (record { takes = refl; hands = λ answer. refl }, tt)

quiet_settle : (b : Bool) (server : Endpoint) (o : Option Exchange) (settled : Bool)
    → Every IsQuiet (settling b server o settled)
quiet_settle true server (Some x) settled = (record { takes = refl; hands = λ answer. refl }, tt)
quiet_settle true server None settled = tt
quiet_settle false server o settled = tt

quiet_beneath : (now : ℕ) (o : Opening) (server : Endpoint) (content : L.Content) (word : ℕ) (sent : L.Answer)
    → IsQuiet (asked now (beneath o server content word) sent)
quiet_beneath now Running server content word sent = record { takes = refl; hands = λ answer. refl }
quiet_beneath now _ server content word sent = record { takes = refl; hands = λ answer. refl }

-- it is no arrival, and takes nothing
abbrev pub IsDeed : A.Call → Type 0
IsDeed (A.Receive now from bytes up settled answer) = ⊥
IsDeed (A.Take answer) = ⊥
IsDeed _ = Unit {0}

quiet_deed : (s : A.Own) (c : A.Call) → IsDeed c → Every IsQuiet (asker_steps.lower s c)
quiet_deed s (A.Ask now r word below answer) h =
    (quiet_beneath now (opening_of s r) s.server (content_of (request_token s r) r) word below, tt)
quiet_deed s (A.Ticks now below answer) h = (record { takes = refl; hands = λ a. refl }, tt)
quiet_deed s (A.Keep token answer) h = tt
quiet_deed s (A.Release token answer) h = tt
quiet_deed s _ h = absurd h

quiet_deeds : (to : Endpoint) (setup : Setup) (past later : List A.Call) → Every IsDeed later
    → Every IsQuiet (asked_by_client to setup past later)
quiet_deeds to setup past [] h = tt
quiet_deeds to setup past (c ∷ later) h =
    every_join IsQuiet (asker_steps.lower (asker.own_of to setup (later ++ past)) c)
    (asked_by_client to setup past later) (quiet_deed (asker.own_of to setup (later ++ past)) c h.0)
    (quiet_deeds to setup past later h.1)

pub deed_deeds : (d : Deed) (s : client_own.Own) (now word : ℕ) (sent : L.Answer) (token : Result (List ℕ) AskRefusal)
    (kept : Bool) → Every IsDeed (deeds d s now word sent token kept)
deed_deeds Rests s now word sent token kept = tt
deed_deeds _ s now word sent token kept = (tt, tt)

-- an arrival, and what is done for it
behind_arrival : (to : Endpoint) (setup : Setup) (past later : List A.Call) (now : ℕ) (from : Endpoint) (bytes : List ℕ)
    (up : L.Answer) (settled : Bool) (event : _) → Every IsDeed later
    → Behind (L.Receive from bytes) up
    (asked_by_client to setup past (later ++ A.Receive now from bytes up settled event ∷ []))
behind_arrival to setup past [] now from bytes up settled event h =
    let s : A.Own = asker.own_of to setup past in
    let v = verdict_on s from up in
    behind_last (L.Receive from bytes) up (acts s from up settled v) now refl
    (every_join IsQuiet (settling (settles v) s.server s.running settled) _
    (quiet_settle (settles v) s.server s.running settled) (quiet_reply from (id_in up) (reply_by v (id_in up))))
behind_arrival to setup past (d ∷ later) now from bytes up settled event h =
    behind_more (L.Receive from bytes) up
    (asker_steps.lower (asker.own_of to setup ((later ++ A.Receive now from bytes up settled event ∷ []) ++ past)) d)
    (asked_by_client to setup past (later ++ A.Receive now from bytes up settled event ∷ []))
    (quiet_deed (asker.own_of to setup ((later ++ A.Receive now from bytes up settled event ∷ []) ++ past)) d h.0)
    (behind_arrival to setup past later now from bytes up settled event h.1)

-- a tick, and what is done for it
behind_tick : (to : Endpoint) (setup : Setup) (past later : List A.Call) (now : ℕ) (below : L.Answer) (turn : _)
    → Every IsDeed later
    → Behind L.Ticks below (asked_by_client to setup past (later ++ A.Ticks now below turn ∷ []))
behind_tick to setup past [] now below turn h = behind_last L.Ticks below [] now refl tt
behind_tick to setup past (d ∷ later) now below turn h =
    behind_more L.Ticks below
    (asker_steps.lower (asker.own_of to setup ((later ++ A.Ticks now below turn ∷ []) ++ past)) d)
    (asked_by_client to setup past (later ++ A.Ticks now below turn ∷ []))
    (quiet_deed (asker.own_of to setup ((later ++ A.Ticks now below turn ∷ []) ++ past)) d h.0)
    (behind_tick to setup past later now below turn h.1)

module _ (to : Endpoint) (setup : Setup) (past : List A.Call) (e : Effect) (now word : ℕ) (sent : L.Answer)
    (token : Result (List ℕ) AskRefusal) (kept : Bool) where
  abbrev later : List A.Call
  later = let c = close now e token in deeds c.deed c.own now word sent token kept

  abbrev first : List A.Call
  first = deeds e.deed e.own now word sent token kept

  both_deeds : Every IsDeed (later ++ first)
  both_deeds =
      let c = close now e token in
      every_join IsDeed later first (deed_deeds c.deed c.own now word sent token kept)
      (deed_deeds e.deed e.own now word sent token kept)

  fed_behind : (m : ℕ) (from : Endpoint) (bytes : List ℕ) (up : L.Answer) (settled : Bool) (event : _)
      → Behind (L.Receive from bytes) up
      (asked_by_client to setup past (done_for e now word sent token kept (A.Receive m from bytes up settled event)))
  fed_behind m from bytes up settled event =
      subst (λ l. Behind (L.Receive from bytes) up (asked_by_client to setup past l))
      (append_assoc later first (A.Receive m from bytes up settled event ∷ []))
      (behind_arrival to setup past (later ++ first) m from bytes up settled event both_deeds)

  ticked_behind : (m : ℕ) (below : L.Answer) (turn : _)
      → Behind L.Ticks below
      (asked_by_client to setup past (done_for e now word sent token kept (A.Ticks m below turn)))
  ticked_behind m below turn =
      subst (λ l. Behind L.Ticks below (asked_by_client to setup past l))
      (append_assoc later first (A.Ticks m below turn ∷ []))
      (behind_tick to setup past (later ++ first) m below turn both_deeds)

  ticked_quiet : (m : ℕ) (below : L.Answer) (turn : _)
      → Every IsQuiet (asked_by_client to setup past (done_for e now word sent token kept (A.Ticks m below turn)))
  ticked_quiet m below turn =
      subst (λ l. Every IsQuiet (asked_by_client to setup past l))
      (append_assoc later first (A.Ticks m below turn ∷ []))
      (quiet_deeds to setup past ((later ++ first) ++ A.Ticks m below turn ∷ [])
      (every_join IsDeed (later ++ first) (A.Ticks m below turn ∷ []) both_deeds (tt, tt)))

-- the server's exchanges

abbrev IsWork : R.Call → Type 0
IsWork (R.Incoming now from bytes up answer) = ⊥
IsWork (R.Take answer) = ⊥
IsWork _ = Unit {0}

quiet_answering : (s : R.Own) (kind : Kind) (a : request.Asked) (r : R.Response) (now : ℕ) (below : L.Answer)
    → IsQuiet (asked now (answerer_steps.answering s kind a r) below)
quiet_answering s Con a r now below = record { takes = refl; hands = λ answer. refl }
quiet_answering s _ a r now below = record { takes = refl; hands = λ answer. refl }

quiet_deferring : (b : Bool) (a : request.Asked) → Every IsQuiet (deferring b a)
quiet_deferring true a = (record { takes = refl; hands = λ answer. refl }, tt)
quiet_deferring false a = tt

quiet_room : (now : ℕ) (o : Option Deferred) (room : Bool) → Every IsQuiet (asking_room now o room)
quiet_room now None room = tt
quiet_room now (Some d) room = (record { takes = refl; hands = λ answer. refl }, tt)

quiet_work : (s : R.Own) (c : R.Call) → IsWork c → Every IsQuiet (answerer_steps.lower s c)
quiet_work s (R.Incoming now from bytes up answer) h = absurd h
quiet_work s (R.Answers a r below) h = (quiet_answering s a.kind a r s.clock below, tt)
quiet_work s (R.Defers now a delay answer) h =
    every_join IsQuiet (deferring (may_defer s.deferred) a) (asked now L.Pass L.Nothing ∷ [])
    (quiet_deferring (may_defer s.deferred) a) (record { takes = refl; hands = λ x. refl }, tt)
quiet_work s (R.Ticks now below room answer) h =
    every_join IsQuiet (asking_room now (ready_if below (ready_at s now)) room) (asked now L.Ticks below ∷ [])
    (quiet_room now (ready_if below (ready_at s now)) room) (record { takes = refl; hands = λ x. refl }, tt)
quiet_work s (R.Ready now to answer) h = (record { takes = refl; hands = λ x. refl }, tt)
quiet_work s (R.Take answer) h = absurd h
quiet_work s (R.Forgets peer) h = tt
quiet_work s _ h = (record { takes = refl; hands = λ answer. refl }, tt)

quiet_works : (past later : List R.Call) → Every IsWork later → Every IsQuiet (asked_by_server past later)
quiet_works past [] h = tt
quiet_works past (c ∷ later) h =
    every_join IsQuiet (answerer_steps.lower (answerer.own_of (later ++ past)) c) (asked_by_server past later)
    (quiet_work (answerer.own_of (later ++ past)) c h.0) (quiet_works past later h.1)

behind_incoming : (past later : List R.Call) (now : ℕ) (from : Endpoint) (bytes : List ℕ) (up : L.Answer) (came : _)
    → Every IsWork later
    → Behind (L.Receive from bytes) up (asked_by_server past (later ++ R.Incoming now from bytes up came ∷ []))
behind_incoming past [] now from bytes up came h = behind_last (L.Receive from bytes) up
    (replying from (id_in up) (reject_by up)) now refl (quiet_reply from (id_in up) (reject_by up))
behind_incoming past (d ∷ later) now from bytes up came h =
    behind_more (L.Receive from bytes) up
    (answerer_steps.lower (answerer.own_of ((later ++ R.Incoming now from bytes up came ∷ []) ++ past)) d)
    (asked_by_server past (later ++ R.Incoming now from bytes up came ∷ []))
    (quiet_work (answerer.own_of ((later ++ R.Incoming now from bytes up came ∷ []) ++ past)) d h.0)
    (behind_incoming past later now from bytes up came h.1)

work_deferral_by : (o : Option ℕ) (place : Bool) (at : ℕ) (a : request.Asked) → Every IsWork (deferral_by o place at a)
work_deferral_by None place at a = tt
work_deferral_by (Some delay) place at a = (tt, tt)

work_deferral : (s : S.Own) (a : request.Asked) (q : _) → Every IsWork (deferral s a q)
work_deferral s a q = work_deferral_by _ _ s.clock a

work_answering : (s : S.Own) (came : Option (request.Asked × Message)) (h : S.Handling) (below : L.Answer)
    → Every IsWork (answering s came h below)
work_answering s (Some p) (S.Replies response) below = (tt, tt)
work_answering s (Some p) (S.Serves q reply left) below = (tt, work_deferral s p.0 q)
work_answering s (Some p) (S.Waits q delay) below = work_deferral s p.0 q
work_answering s _ _ below = tt

work_refusing : (a : request.Asked) (response : Option ℕ) (below : L.Answer) → Every IsWork (refusing a response below)
work_refusing a None below = tt
work_refusing a (Some code) below = (tt, tt)

work_readies : (at passed : ℕ) (os : List Observer) → Every IsWork (readies at passed os)
work_readies at passed [] = tt
work_readies at zero (o ∷ os) = (tt, tt)
work_readies at (suc passed) (o ∷ os) = every_join IsWork (readies at passed os) (R.Ready at o.to false ∷ [])
    (work_readies at passed os) (tt, tt)

work_notice : (plain : Bool) (at : ℕ) (o : Observer) (r : R.Response) (word id : ℕ)
    → IsWork (notifies_by plain at o r word id)
work_notice true at o r word id = tt
work_notice false at o r word id = tt

work_responding : (s : S.Own) (d : Due) (passed : ℕ) (h : S.Handling) (word id : ℕ)
    → Every IsWork (responding s d passed h word id)
work_responding s (due.Ready a) passed (S.Serves q reply left) word id = (tt, tt)
work_responding s due.Idle passed (S.Notifies o reply) word id = (
  work_notice (by_plain s o) s.clock o (notification s.store o reply) word id,
  work_readies s.clock passed (marked s.observers),
)
work_responding s due.Idle passed (S.Serves q reply left) word id = work_readies s.clock passed (marked s.observers)
work_responding s due.Idle passed S.Silent word id = work_readies s.clock passed (marked s.observers)
work_responding s due.Idle passed (S.Replies response) word id = work_readies s.clock passed (marked s.observers)
work_responding s due.Idle passed (S.Waits q delay) word id = work_readies s.clock passed (marked s.observers)
work_responding s _ passed _ word id = tt

-- what a call makes of its message layer: it takes, it is fed, or neither
pub data Makes (Out : Type 0) (call : L.Call) (answer : L.Answer) (asks : List Asked) : Type 0 where
  makes_out : Out → Makes Out call answer asks
  makes_fed : Behind call answer asks → Makes Out call answer asks
  makes_none : Every IsQuiet asks → Makes Out call answer asks

abbrev pub TakesNone : L.Entry → Type 0
TakesNone e = takes_in e.call ≡ 0

takes_entries : (old : State) (asks : List Asked) → Every (λ a. takes_in a.call ≡ 0) asks
    → Every TakesNone (entries old asks)
takes_entries old [] h = tt
takes_entries old (a ∷ asks) h = (h.0, takes_entries old asks h.1)

-- what does not take leaves all that waits
pub none_taken : (call : L.Call) (answer : L.Answer) (old : State) (asks : List Asked) → Behind call answer asks
    → Every TakesNone (entries old asks)
none_taken call answer old asks k =
    takes_entries old asks (subst (Every (λ (a : Asked). takes_in a.call ≡ 0)) (sym k.is)
    (every_join (λ (a : Asked). takes_in a.call ≡ 0) k.front (asked k.now call answer ∷ [])
    (every_map IsQuiet (λ a. takes_in a.call ≡ 0) (λ a q. q.takes) k.front k.quiet) (k.takes, tt)))

pub quiet_taken : (old : State) (asks : List Asked) → Every IsQuiet asks → Every TakesNone (entries old asks)
quiet_taken old asks h = takes_entries old asks (every_map IsQuiet (λ a. takes_in a.call ≡ 0) (λ a q. q.takes) asks h)

-- the datagram that is fed, and what becomes of it
abbrev pub client_call : C.Call → L.Call
client_call (C.Feeds now from bytes word up settled event sent token kept) = L.Receive from bytes
client_call c = L.Pass

abbrev pub client_up : C.Call → L.Answer
client_up (C.Feeds now from bytes word up settled event sent token kept) = up
client_up c = L.Nothing

abbrev pub server_call : S.Call → L.Call
server_call (S.Feeds now from bytes word up came h below) = L.Receive from bytes
server_call (S.Refuses now from bytes word code up p response below) = L.Receive from bytes
server_call c = L.Pass

abbrev pub server_up : S.Call → L.Answer
server_up (S.Feeds now from bytes word up came h below) = up
server_up (S.Refuses now from bytes word code up p response below) = up
server_up c = L.Nothing

abbrev pub ClientOut : C.Call → Type 0
ClientOut c = (answer : Option L.Packet) × (c ≡ C.NextOut answer)

abbrev pub ServerOut : S.Call → Type 0
ServerOut c = (answer : Option L.Packet) × (c ≡ S.NextOut answer)

module _ (config : Config) where
  pub client_feeds : (past : List C.Call) (now : ℕ) (from : Endpoint) (bytes : List ℕ) (word : ℕ) (up : L.Answer)
      (settled : Bool) (event : _) (sent : L.Answer) (token : Result (List ℕ) AskRefusal) (kept : Bool)
      → Behind (L.Receive from bytes) up
      (client_asks config past (C.Feeds now from bytes word up settled event sent token kept))
  client_feeds past now from bytes word up settled event sent token kept =
      let c : C.Call = C.Feeds now from bytes word up settled event sent token kept in
      let s = client_law.own_of config.client_sizes past in
      fed_behind config.addresses.server config.client_setup (client_law.lower_of config.client_sizes past) (effect s c)
      (max s.clock now) word sent token kept (max s.clock now) from bytes up settled event

  pub client_ticks : (past : List C.Call) (now word : ℕ) (below : L.Answer) (turn : _) (sent : L.Answer)
      (token : Result (List ℕ) AskRefusal) (kept answer : Bool)
      → Behind L.Ticks below (client_asks config past (C.Ticks now word below turn sent token kept answer))
  client_ticks past now word below turn sent token kept answer =
      let c : C.Call = C.Ticks now word below turn sent token kept answer in
      let s = client_law.own_of config.client_sizes past in
      ticked_behind config.addresses.server config.client_setup (client_law.lower_of config.client_sizes past)
      (effect s c)
      (max s.clock now) word sent token kept (max s.clock now) below turn

  pub client_makes : (past : List C.Call) (c : C.Call)
      → Makes (ClientOut c) (client_call c) (client_up c) (client_asks config past c)
  client_makes past (C.Forgets number kept answer) =
      let s = client_law.own_of config.client_sizes past in
      makes_none (quiet_deeds config.addresses.server config.client_setup (client_law.lower_of config.client_sizes past)
      _
      (deed_deeds (forgets answer number s) s 0 0 L.Nothing _ kept))
  client_makes past (C.NextOut answer) = makes_out (answer, refl)
  client_makes past (C.Feeds now from bytes word up settled event sent token kept) =
      makes_fed (client_feeds past now from bytes word up settled event sent token kept)
  client_makes past (C.Ticks now word below turn sent token kept answer) =
      let c : C.Call = C.Ticks now word below turn sent token kept answer in
      let s = client_law.own_of config.client_sizes past in
      makes_none (ticked_quiet config.addresses.server config.client_setup
      (client_law.lower_of config.client_sizes past) (effect s c)
      (max s.clock now) word sent token kept (max s.clock now) below turn)
  client_makes past _ = makes_none tt

  pub server_makes : (past : List S.Call) (c : S.Call)
      → Makes (ServerOut c) (server_call c) (server_up c) (server_asks config past c)
  server_makes past (S.NextOut answer) = makes_out (answer, refl)
  server_makes past (S.Feeds now from bytes word up came h below) =
      let s = server_law.own_of config.limits config.server_szx past in
      let z : S.Own = heard s now (incoming s now from bytes up came) in
      makes_fed (behind_incoming (server_law.lower_of config.limits config.server_szx past)
      (answering z came h below) (max s.clock now) from bytes up came (work_answering z came h below))
  server_makes past (S.Refuses now from bytes word code up p response below) =
      let s = server_law.own_of config.limits config.server_szx past in
      makes_fed (behind_incoming (server_law.lower_of config.limits config.server_szx past)
      (refusing p.0 response below) (max s.clock now) from bytes up (Some p) (work_refusing p.0 response below))
  server_makes past (S.Ticks now word below room d passed h id answer) =
      let s = server_law.own_of config.limits config.server_szx past in
      let z : S.Own = heard s now (ticking s now below room d) in
      makes_none (quiet_works (server_law.lower_of config.limits config.server_szx past)
      (responding z d passed h word id ++ ticking s now below room d ∷ [])
      (every_join IsWork (responding z d passed h word id) (ticking s now below room d ∷ [])
      (work_responding z d passed h word id) (tt, tt)))
  server_makes past _ = makes_none tt
