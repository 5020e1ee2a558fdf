-- What a server's exchanges ask of the message layer is not of a peer where their calls are not.
use Rattle.std.proofs.Common.{ℕ, Bool, true, false, Option, Some, None, List, [], ◌∷◌, ◌++◌}
use Rattle.coap_types.specs.declared.endpoint.Endpoint.{Endpoint}
use Rattle.coap_types.specs.declared.message.Kind.{Kind}
use Rattle.coap_types.specs.declared.message.Kind.TheVariants.{Con}
use Rattle.coap_layer.specs.Trace as L
use Rattle.coap_layer.specs.Machine.Steps as G
use Rattle.coap_block.specs.Whole.{Each}
use Rattle.coap_exchange.specs.declared.answerer.Asked.{Asked}
use Rattle.coap_exchange.specs.declared.separate.Deferred.{Deferred}
use Rattle.coap_exchange.specs.Adds.{asked_by_server}
use Rattle.coap_exchange.specs.AnswererTrace as E
use Rattle.coap_exchange.specs.AnswererSteps as P
use Rattle.coap_exchange.specs.AnswererLaw as W
use Rattle.coap_exchange.specs.AskerRequests.{asked}
use Rattle.coap_exchange.specs.AskerArrivals.{id_in, replying}
use Rattle.coap_server.proofs.Facts.Calls.EachOf.{each_join}
use Rattle.coap_server_laws.proofs.Silence.LayerApart.{Else, Elsewhere}

module _ (peer : Endpoint) where
  -- what it is about is another's
  abbrev pub AboutElse : E.Call → Type 0
  AboutElse (E.Incoming now from bytes up answer) = Else peer from
  AboutElse (E.Answers a r below) = Else peer a.from
  AboutElse (E.Defers now a delay answer) = Else peer a.from
  AboutElse (E.Responds now a r word id) = Else peer a.from
  AboutElse (E.Notifies now to token r word id) = Else peer to
  AboutElse (E.NotifiesPlain now to token r id) = Else peer to
  AboutElse _ = Unit {0}

  abbrev Asks : G.Asked → Type 0
  Asks b = Elsewhere peer b.call

  replies : (from : Endpoint) (id : ℕ) (o : Option (List ℕ)) → Else peer from → Each Asks (replying from id o)
  replies from id None e = tt
  replies from id (Some bytes) e = (e, tt)

  answers : (s : E.Own) (kind : Kind) (a : Asked) (r : E.Response) → Else peer a.from
      → Elsewhere peer (P.answering s kind a r)
  answers s Con a r e = e
  answers s _ a r e = e

  defers : (b : Bool) (a : Asked) → Else peer a.from → Each Asks (P.deferring b a)
  defers true a e = (e, tt)
  defers false a e = tt

  asks_room : (now : ℕ) (o : Option Deferred) (room : Bool) → Each Asks (P.asking_room now o room)
  asks_room now None room = tt
  asks_room now (Some d) room = (tt, tt)

  lower_apart : (s : E.Own) (c : E.Call) → AboutElse c → Each Asks (P.lower s c)
  lower_apart s (E.Incoming now from bytes up answer) e =
      each_join Asks (replying from (id_in up) (P.reject_by up)) (asked now (L.Receive from bytes) up ∷ [])
      (replies from (id_in up) (P.reject_by up) e) (e, tt)
  lower_apart s (E.Answers a r below) e = (answers s a.kind a r e, tt)
  lower_apart s (E.Defers now a delay answer) e =
      each_join Asks (P.deferring (P.may_defer s.deferred) a) (asked now L.Pass L.Nothing ∷ [])
      (defers (P.may_defer s.deferred) a e) (tt, tt)
  lower_apart s (E.Ticks now below room answer) e =
      each_join Asks (P.asking_room now (P.ready_if below (P.ready_at s now)) room) (asked now L.Ticks below ∷ [])
      (asks_room now (P.ready_if below (P.ready_at s now)) room) (tt, tt)
  lower_apart s (E.Responds now a r word id) e = (e, tt)
  lower_apart s (E.Ready now to answer) e = (tt, tt)
  lower_apart s (E.Notifies now to token r word id) e = (e, tt)
  lower_apart s (E.NotifiesPlain now to token r id) e = (e, tt)
  lower_apart s (E.Take answer) e = (tt, tt)
  lower_apart s (E.Forgets other) e = tt

  pub asks_apart : (past later : List E.Call) → Each AboutElse later → Each Asks (asked_by_server past later)
  asks_apart past [] h = tt
  asks_apart past (c ∷ later) h =
      each_join Asks (P.lower (W.own_of (later ++ past)) c) (asked_by_server past later)
      (lower_apart (W.own_of (later ++ past)) c h.0) (asks_apart past later h.1)
