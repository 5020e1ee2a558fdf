-- What a client asks of its message layer is of its server, or of a peer of which a datagram arrives.
use Rattle.std.proofs.Common.{ℕ, Bool, true, false, Option, Some, None, List, [], ◌∷◌, ◌++◌, sym, subst}
use Rattle.std.proofs.Common.{max, Ok, Result}
use Rattle.coap_types.specs.declared.endpoint.Endpoint.{Endpoint}
use Rattle.coap_layer.specs.Machine.Steps as G
use Rattle.coap_layer.specs.Trace as L
use Rattle.coap_layer.specs.declared.setup.Setup.{Setup}
use Rattle.coap_block.specs.Whole.{Each}
use Rattle.coap_exchange.specs.declared.asker.AskRefusal.{AskRefusal}
use Rattle.coap_exchange.specs.declared.asker.Exchange.{Exchange}
use Rattle.coap_exchange.specs.declared.matching.Opening.{Opening}
use Rattle.coap_exchange.specs.declared.matching.Opening.TheVariants.{Running, Spent, Sends}
use Rattle.coap_exchange.specs.declared.matching.Verdict.{Verdict}
use Rattle.coap_exchange.specs.Adds.{asked_by_client}
use Rattle.coap_exchange.proofs.Facts.ClientSide.{server_is}
use Rattle.coap_exchange.specs.AskerArrivals.{id_in, reply_by, replying, settles, settling, verdict_on}
use Rattle.coap_exchange.specs.AskerLaw as W
use Rattle.coap_exchange.specs.AskerRequests.{asked, beneath, content_of, opening_of, request_token}
use Rattle.coap_exchange.specs.AskerSteps as P
use Rattle.coap_exchange.specs.AskerTrace as E
use Rattle.coap_client.specs.Deeds.{close, deeds, done_for, effect, forgets}
use Rattle.coap_client.specs.Effects.{Deed, Rests, Asks, Keeps, Releases, Effect}
use Rattle.coap_client.specs.Own.{Own}
use Rattle.coap_client.specs.Steps.{lower}
use Rattle.coap_client.specs.Trace.{Call, Forgets, Feeds, Ticks, NextOut}
use Rattle.coap_server.proofs.Facts.Calls.EachOf.{each_join}
use Rattle.coap_server_laws.proofs.Facts.Silence.{Else}
use Rattle.coap_opaque.specs.Silent.{HearsElse}

module _ (peer : Endpoint) (K : L.Call → Type 0) where
  -- what holds of each call of the message layer where none comes from the peer
  pub record Holds (server : Endpoint) : Type 0 where
    pub receive : (from : Endpoint) (bytes : List ℕ) → Else peer from → K (L.Receive from bytes)
    pub reply : (to : Endpoint) (id : ℕ) (bytes : List ℕ) → Else peer to → K (L.Reply to id bytes)
    pub settle : (id : ℕ) → K (L.Settle server id)
    pub confirm : (content : L.Content) (word : ℕ) → K (L.Confirm server content word)
    pub pass : K L.Pass
    pub free : K L.AsksFree
    pub ticks : K L.Ticks
    pub take : K L.Take

  -- no datagram of the peer arrives
  abbrev BringsElse : E.Call → Type 0
  BringsElse (E.Receive now from bytes up settled answer) = Else peer from
  BringsElse _ = Unit {0}

  abbrev OfIt : G.Asked → Type 0
  OfIt b = K b.call

  -- what the exchanges ask

  requests : (server : Endpoint) → Holds server → (o : Opening) (content : L.Content) (word : ℕ)
      → K (beneath o server content word)
  requests server h Running content word = h.pass
  requests server h Spent content word = h.free
  requests server h Sends content word = h.confirm content word

  replies : (server : Endpoint) → Holds server → (from : Endpoint) (id : ℕ) (o : Option (List ℕ)) → Else peer from
      → Each OfIt (replying from id o)
  replies server h from id None e = tt
  replies server h from id (Some bytes) e = (h.reply from id bytes e, tt)

  ends : (server : Endpoint) → Holds server → (b : Bool) (running : Option Exchange) (settled : Bool)
      → Each OfIt (settling b server running settled)
  ends server h true (Some x) settled = (h.settle x.id.0, tt)
  ends server h true None settled = tt
  ends server h false running settled = tt

  lower_holds : (s : E.Own) → Holds s.server → (c : E.Call) → BringsElse c → Each OfIt (P.lower s c)
  lower_holds s h (E.Ask now r word below answer) e =
      (requests s.server h (opening_of s r) (content_of (request_token s r) r) word, tt)
  lower_holds s h (E.Receive now from bytes up settled answer) e =
      let v : Verdict = verdict_on s from up in
      let first : G.Asked = asked now (L.Receive from bytes) up in
      let ended : List G.Asked = settling (settles v) s.server s.running settled in
      let replied : List G.Asked = replying from (id_in up) (reply_by v (id_in up)) in
      each_join OfIt (ended ++ replied) (first ∷ [])
      (each_join OfIt ended replied (ends s.server h (settles v) s.running settled)
      (replies s.server h from (id_in up) (reply_by v (id_in up)) e))
      (h.receive from bytes e, tt)
  lower_holds s h (E.Ticks now below answer) e = (h.ticks, tt)
  lower_holds s h (E.Keep token answer) e = tt
  lower_holds s h (E.Release token answer) e = tt
  lower_holds s h (E.Take answer) e = (h.take, tt)

  asks_hold : (server : Endpoint) (setup : Setup) → Holds server → (past later : List E.Call) → Each BringsElse later
      → Each OfIt (asked_by_client server setup past later)
  asks_hold server setup h past [] e = tt
  asks_hold server setup h past (c ∷ later) e =
      let s : E.Own = W.own_of server setup (later ++ past) in
      each_join OfIt (P.lower s c) (asked_by_client server setup past later)
      (lower_holds s (subst Holds (sym (server_is server setup (later ++ past))) h) c e.0)
      (asks_hold server setup h past later e.1)

  -- what a call of the client asks of its exchanges

  deeds_bring : (d : Deed) (s : Own) (now word : ℕ) (sent : L.Answer) (token : Result (List ℕ) AskRefusal) (kept : Bool)
      → Each BringsElse (deeds d s now word sent token kept)
  deeds_bring Rests s now word sent token kept = tt
  deeds_bring (Asks op) s now word sent token kept = (tt, tt)
  deeds_bring (Keeps t) s now word sent token kept = (tt, tt)
  deeds_bring (Releases t) s now word sent token kept = (tt, tt)

  done_brings : (e : Effect) (now word : ℕ) (sent : L.Answer) (token : Result (List ℕ) AskRefusal) (kept : Bool)
      (input : E.Call) → BringsElse input → Each BringsElse (done_for e now word sent token kept input)
  done_brings e now word sent token kept input k =
      let c : Effect = close now e token in
      let soon : List E.Call = deeds e.deed e.own now word sent token kept in
      each_join BringsElse (deeds c.deed c.own now word sent token kept) (soon ++ input ∷ [])
      (deeds_bring c.deed c.own now word sent token kept)
      (each_join BringsElse soon (input ∷ []) (deeds_bring e.deed e.own now word sent token kept) (k, tt))

  call_brings : (s : Own) (c : Call) → HearsElse peer c → Each BringsElse (lower s c)
  call_brings s (Feeds now from bytes word up settled event sent token kept) e =
      done_brings (effect s (Feeds now from bytes word up settled event sent token kept)) (max s.clock now) word sent
      token kept (E.Receive (max s.clock now) from bytes up settled event) e
  call_brings s (Ticks now word below t sent token kept answer) e =
      done_brings (effect s (Ticks now word below t sent token kept answer)) (max s.clock now) word sent token kept
      (E.Ticks (max s.clock now) below t) tt
  call_brings s (Forgets number kept answer) e = deeds_bring (forgets answer number s) s 0 0 L.Nothing (Ok []) kept
  call_brings s (NextOut answer) e = (tt, tt)
  call_brings s _ e = tt

  -- .. and so of the message layer
  pub call_holds : (server : Endpoint) (setup : Setup) → Holds server → (past : List E.Call) (s : Own) (c : Call)
      → HearsElse peer c → Each OfIt (asked_by_client server setup past (lower s c))
  call_holds server setup h past s c e = asks_hold server setup h past (lower s c) (call_brings s c e)
