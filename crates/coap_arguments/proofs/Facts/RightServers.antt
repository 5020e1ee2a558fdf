-- An order that names a server has nothing wrong in that: there is a PATH behind a PORT, and the URI and what stands
-- beside it are right.
use Rattle.std.proofs.Common.{◌≡◌, ◌∙◌, ◌≤◌, ◌⊎◌, sym, inl, inr, ℕ, List, [], codes, refl, true}
use Rattle.clap.proofs.OnLiterals.{clap_on_literals}
use Rattle.clap.specs.Words.{Row, Text}
use Rattle.coap_arguments.proofs.Facts.RightValues.{host_or_not}
use Rattle.coap_arguments.proofs.Facts.UriOrNot.{beside_or_not, uri_or_not}
use Rattle.coap_arguments.proofs.Facts.Takes.{no_value, none_take, untaken}
use Rattle.coap_arguments.proofs.Facts.WhoTakes.{another, askers, is_asker, named, names_of, place_asks}
use Rattle.coap_arguments.specs.Addresses.{HasHost, HasNoAddress}
use Rattle.coap_arguments.specs.Asking.{HasNoUri, HasNothingBeside, HasUri, IsAsk, IsWrongBeside}
use Rattle.coap_arguments.specs.Uris.{IsPlace, IsWrongUri}
use Rattle.coap_arguments.specs.Values.{Enters, HasNumber}
use Rattle.coap_arguments.specs.Words.{AsksByPort, AsksByUri, AsksForIn, IsServer, IsWrongIn}
use Rattle.coap_arguments.specs.declared.hosts.Server.{Server}
use Rattle.coap_arguments.specs.declared.orders.Order.{Order}
use Rattle.coap_arguments.specs.declared.orders.Order.TheVariants.{Version, Show, Dump, DumpCapture, Answer, Pair}
use Rattle.coap_arguments.specs.declared.orders.Order.TheVariants.{Serve, Ask, Discover, Ping, Sim}
use Rattle.coap_arguments.specs.declared.orders.What.{What}
use Rattle.coap_arguments.specs.declared.orders.Wrong.TheVariants.{NoPath, Uri, Beside}
use Rattle.coap_arguments.specs.declared.refusals.AddressRefusal.TheVariants as address
use Rattle.coap_arguments.specs.declared.refusals.BesideRefusal.{BesideRefusal}
use Rattle.coap_arguments.specs.declared.refusals.NumberRefusal.TheVariants.{ServerPort}
use Rattle.coap_arguments.specs.declared.refusals.UriRefusal.{UriRefusal}

-- a server, by a PORT, or by a URI of this path; one that has a path asks for a resource
record Place (name : Text) (v : List Row) : Type 0 where
  server : Server
  path : List (List ℕ)
  on : HasNumber ServerPort v server.port
  by : (HasNoUri v × HasHost v server.host)
      ⊎ ((text rest : Text) × HasUri v text rest × IsPlace text rest server path × HasNothingBeside name v)
  whole : IsAsk name ⊎ (path ≡ [])

asked_place : (name : Text) (v : List Row) (server : Server) (path : List (List ℕ)) (what : What)
    → HasNumber ServerPort v server.port
    → AsksByPort name v server.host path what ⊎ AsksByUri name v server path what → Place name v
asked_place name v server path what on (inl by) =
    record {
      server = server;
      path = path;
      on = on;
      by = inl (by.0, by.3);
      whole = inl (place_asks name v server path what (inl by));
    }
asked_place name v server path what on (inr by) =
    record {
      server = server;
      path = path;
      on = on;
      by = inr (by.0, by.1, by.2, by.3, by.4);
      whole = inl (place_asks name v server path what (inr by));
    }

own_place : (name : Text) (v : List Row) (server : Server) → IsServer name v server → Place name v
own_place name v server h = record { server = server; path = []; on = h.0; by = h.1; whole = inr refl }

no_path_at : (name : Text) (v : List Row) (server : Server) (path : List (List ℕ)) (what : What)
    → AsksByPort name v server.host path what ⊎ AsksByUri name v server path what → IsWrongIn name v NoPath
    → ⊥
no_path_at name v server path what (inl by) (asks, uriless, none) = absurd (cc (sym none ∙ by.1.1))
no_path_at name v server path what (inr by) (asks, uriless, none) = uriless by.0 by.1 by.2

pub not_no_path : (order : Order) (name : Text) (v : List Row) → AsksForIn name v order → IsWrongIn name v NoPath → ⊥
not_no_path Version name v h wrong = h
not_no_path (Show datagram) name v h wrong = another askers (Show datagram) name v h refl (is_asker name wrong.0)
not_no_path Dump name v h wrong = another askers Dump name v h refl (is_asker name wrong.0)
not_no_path (DumpCapture file chart) name v h wrong =
    another askers (DumpCapture file chart) name v h refl (is_asker name wrong.0)
not_no_path (Answer path body datagram) name v h wrong =
    another askers (Answer path body datagram) name v h refl (is_asker name wrong.0)
not_no_path (Pair path body word limit remembered) name v h wrong =
    another askers (Pair path body word limit remembered) name v h refl (is_asker name wrong.0)
not_no_path (Serve port count options script pcap journal) name v h wrong =
    another askers (Serve port count options script pcap journal) name v h refl (is_asker name wrong.0)
not_no_path (Ask server path what options pcap) name v h wrong = no_path_at name v server path what h.1 wrong
not_no_path (Discover server options pcap) name v h wrong =
    another askers (Discover server options pcap) name v h refl (is_asker name wrong.0)
not_no_path (Ping server options pcap) name v h wrong =
    another askers (Ping server options pcap) name v h refl (is_asker name wrong.0)
not_no_path (Sim file store plains remembered chart client server pcap) name v h wrong =
    another askers (Sim file store plains remembered chart client server pcap) name v h refl (is_asker name wrong.0)

uri_at : (why : UriRefusal) (name : Text) (v : List Row) → Place name v → (text rest : Text) → HasUri v text rest
    → IsWrongUri why text rest → ⊥
uri_at why name v p text rest uri wrong = elim p.by [
  | inl by ↦ by.0 text rest uri
  | inr by ↦
      (let fits : p.server.port ≤ 65535 = p.on.2.2 in
      uri_or_not why v by.0 by.1 text rest p.server p.path fits by.2 by.3 uri wrong)
]

beside_at : (why : BesideRefusal) (name : Text) (v : List Row) → Place name v → (text rest : Text) → HasUri v text rest
    → IsWrongBeside why name v → ⊥
beside_at why name v p text rest uri wrong = elim p.by [
  | inl by ↦ by.0 text rest uri
  | inr by ↦ beside_or_not why name v by.0 by.1 p.server p.path by.2 by.3 by.4 p.whole wrong
]

host_at : (name : Text) (v : List Row) → Place name v → HasNoAddress address.Host v → ⊥
host_at name v p none = elim p.by [
  | inl by ↦ host_or_not v p.server.host by.1 none
  | inr by ↦ absurd (cc (sym by.4.0 ∙ none.1))
]

-- ---- by the words

module _ (words : List Text) (name : Text) (v : List Row) (e : Enters words name v) where
  -- an order whose subcommands name no server has no URI
  without : (order : Order) → AsksForIn name v order → none_take (names_of order) (codes "PORT|URI") ≡ true
      → (text rest : Text) → HasUri v text rest → ⊥
  without order h none text rest uri =
      no_value (codes "PORT|URI") v text
      (untaken (names_of order) words name v e (named order name v h) (codes "PORT|URI")
      none) uri.0

  place_of : (order : Order) → AsksForIn name v order → (text rest : Text) → HasUri v text rest → Place name v
  unfolding clap_on_literals
  place_of Version h text rest uri = absurd h
  place_of (Show datagram) h text rest uri = absurd (without (Show datagram) h refl text rest uri)
  place_of Dump h text rest uri = absurd (without Dump h refl text rest uri)
  place_of (DumpCapture file chart) h text rest uri = absurd (without (DumpCapture file chart) h refl text rest uri)
  place_of (Answer path body datagram) h text rest uri =
      absurd (without (Answer path body datagram) h refl text rest uri)
  place_of (Pair path body word limit remembered) h text rest uri =
      absurd (without (Pair path body word limit remembered) h refl text rest uri)
  place_of (Serve port count options script pcap journal) h text rest uri =
      absurd (without (Serve port count options script pcap journal) h refl text rest uri)
  place_of (Ask server path what options pcap) h text rest uri = asked_place name v server path what h.0 h.1
  place_of (Discover server options pcap) h text rest uri = own_place name v server h.1
  place_of (Ping server options pcap) h text rest uri = own_place name v server h.1
  place_of (Sim file store plains remembered chart client server pcap) h text rest uri =
      absurd (without (Sim file store plains remembered chart client server pcap) h refl text rest uri)

  pub not_uri : (order : Order) (why : UriRefusal) → AsksForIn name v order → IsWrongIn name v (Uri why) → ⊥
  not_uri order why h (text, rest, uri, wrong) =
      uri_at why name v (place_of order h text rest uri) text rest uri wrong

  pub not_beside : (order : Order) (why : BesideRefusal) → AsksForIn name v order → IsWrongIn name v (Beside why) → ⊥
  not_beside order why h (text, rest, uri, wrong) =
      beside_at why name v (place_of order h text rest uri) text rest uri wrong

  -- an order whose subcommands take no host has none
  hostless : (order : Order) → AsksForIn name v order → none_take (names_of order) (codes "host") ≡ true
      → HasNoAddress address.Host v → ⊥
  hostless order h none wrong =
      no_value (codes "host") v wrong.0
      (untaken (names_of order) words name v e (named order name v h) (codes "host") none) wrong.1

  -- the host of a URI stands beside no other one
  pub not_host : (order : Order) → AsksForIn name v order → HasNoAddress address.Host v → ⊥
  unfolding clap_on_literals
  not_host Version h wrong = h
  not_host (Show datagram) h wrong = hostless (Show datagram) h refl wrong
  not_host Dump h wrong = hostless Dump h refl wrong
  not_host (DumpCapture file chart) h wrong = hostless (DumpCapture file chart) h refl wrong
  not_host (Answer path body datagram) h wrong = hostless (Answer path body datagram) h refl wrong
  not_host (Pair path body word limit remembered) h wrong = hostless (Pair path body word limit remembered) h refl wrong
  not_host (Serve port count options script pcap journal) h wrong = hostless (Serve port count options script pcap journal) h refl wrong
  not_host (Ask server path what options pcap) h wrong =
      host_at name v (asked_place name v server path what h.0 h.1) wrong
  not_host (Discover server options pcap) h wrong = host_at name v (own_place name v server h.1) wrong
  not_host (Ping server options pcap) h wrong = host_at name v (own_place name v server h.1) wrong
  not_host (Sim file store plains remembered chart client server pcap) h wrong =
      hostless (Sim file store plains remembered chart client server pcap) h refl wrong
