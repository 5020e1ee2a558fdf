-- The options of an order go together.
use Rattle.std.proofs.Common.{◌≡◌, ◌∙◌, inl, inr, sym, refl, List, codes, true≢false}
use Rattle.clap.specs.Words.{Row, Text}
use Rattle.coap_arguments.proofs.Facts.WhoTakes.{alone, another, is_alone, out}
use Rattle.coap_arguments.specs.Asking.{IsWhat}
use Rattle.coap_arguments.specs.Together.{AreApart, GoObserved, GoServed, GoTogether}
use Rattle.coap_arguments.specs.Words.{AsksForIn, IsWrongIn}
use Rattle.coap_arguments.specs.declared.orders.Order.{Order}
use Rattle.coap_arguments.specs.declared.orders.Order.TheVariants.{Version, Show, Dump, DumpCapture, Answer, Pair}
use Rattle.coap_arguments.specs.declared.orders.Order.TheVariants.{Serve, Ask, Discover, Ping, Sim}
use Rattle.coap_arguments.specs.declared.orders.What.{What}
use Rattle.coap_arguments.specs.declared.orders.What.TheVariants.{Get, Put, Post, Delete, Observe}
use Rattle.coap_arguments.specs.declared.orders.Wrong.TheVariants.{Together}
use Rattle.coap_arguments.specs.declared.refusals.TogetherRefusal.{TogetherRefusal}
use Rattle.coap_arguments.specs.declared.refusals.TogetherRefusal.TheVariants.{Count, Etag, Hex, Json, Trace, Chart}
use Rattle.coap_arguments.specs.declared.refusals.TogetherRefusal.TheVariants.{Renew, Script}

-- ---- what is asked for

what_goes : (word name : Text) (v : List Row) (what : What) → IsWhat word name v what → name ≡ codes "get"
    → GoTogether v
what_goes word name v Get h get = h.1
what_goes word name v (Put content) h get =
    absurd (out (alone (codes "get")) (codes "put") name refl h.0 (is_alone (codes "get") name get))
what_goes word name v (Post content) h get =
    absurd (out (alone (codes "get")) (codes "post") name refl h.0 (is_alone (codes "get") name get))
what_goes word name v Delete h get =
    absurd (out (alone (codes "get")) (codes "delete") name refl h (is_alone (codes "get") name get))
what_goes word name v Observe h get =
    absurd (out (alone (codes "get")) (codes "observe") name refl h.0 (is_alone (codes "get") name get))

what_is_observed : (word name : Text) (v : List Row) (what : What) → IsWhat word name v what → name ≡ codes "observe"
    → GoObserved v
what_is_observed word name v Get h is =
    absurd (out (alone (codes "observe")) (codes "get") name refl h.0 (is_alone (codes "observe") name is))
what_is_observed word name v (Put content) h is =
    absurd (out (alone (codes "observe")) (codes "put") name refl h.0 (is_alone (codes "observe") name is))
what_is_observed word name v (Post content) h is =
    absurd (out (alone (codes "observe")) (codes "post") name refl h.0 (is_alone (codes "observe") name is))
what_is_observed word name v Delete h is =
    absurd (out (alone (codes "observe")) (codes "delete") name refl h (is_alone (codes "observe") name is))
what_is_observed word name v Observe h is = h.1

-- ---- by subcommands

of_get : (order : Order) (name : Text) (v : List Row) → AsksForIn name v order → name ≡ codes "get" → GoTogether v
of_get Version name v h get = absurd h
of_get (Show datagram) name v h get =
    absurd (another (alone (codes "get")) (Show datagram) name v h refl (is_alone (codes "get") name get))
of_get Dump name v h get = absurd (another (alone (codes "get")) Dump name v h refl (is_alone (codes "get") name get))
of_get (DumpCapture file chart) name v h get =
    absurd (another (alone (codes "get")) (DumpCapture file chart) name v h refl (is_alone (codes "get") name get))
of_get (Answer path body datagram) name v h get =
    absurd (another (alone (codes "get")) (Answer path body datagram) name v h refl (is_alone (codes "get") name get))
of_get (Pair path body word limit remembered) name v h get =
    absurd (another (alone (codes "get")) (Pair path body word limit remembered) name v h
    refl (is_alone (codes "get") name get))
of_get (Serve port count options script pcap journal) name v h get =
    absurd (another (alone (codes "get")) (Serve port count options script pcap journal) name v h
    refl (is_alone (codes "get") name get))
of_get (Ask server path what options pcap) name v h get =
    elim h.1 [
      | inl by ↦ what_goes (codes "BODY") name v what by.4 get
      | inr by ↦ what_goes (codes "PATH") name v what by.5 get
    ]
of_get (Discover server options pcap) name v h get =
    absurd (another (alone (codes "get")) (Discover server options pcap) name v h
    refl (is_alone (codes "get") name get))
of_get (Ping server options pcap) name v h get =
    absurd (another (alone (codes "get")) (Ping server options pcap) name v h refl (is_alone (codes "get") name get))
of_get (Sim file store plains remembered chart client server pcap) name v h get =
    absurd (another (alone (codes "get")) (Sim file store plains remembered chart client server pcap) name v h
    refl (is_alone (codes "get") name get))

of_observe : (order : Order) (name : Text) (v : List Row) → AsksForIn name v order → name ≡ codes "observe"
    → GoObserved v
of_observe Version name v h is = absurd h
of_observe (Show datagram) name v h is =
    absurd (another (alone (codes "observe")) (Show datagram) name v h refl (is_alone (codes "observe") name is))
of_observe Dump name v h is =
    absurd (another (alone (codes "observe")) Dump name v h refl (is_alone (codes "observe") name is))
of_observe (DumpCapture file chart) name v h is =
    absurd (another (alone (codes "observe")) (DumpCapture file chart) name v h
    refl (is_alone (codes "observe") name is))
of_observe (Answer path body datagram) name v h is =
    absurd (another (alone (codes "observe")) (Answer path body datagram) name v h
    refl (is_alone (codes "observe") name is))
of_observe (Pair path body word limit remembered) name v h is =
    absurd (another (alone (codes "observe")) (Pair path body word limit remembered) name v h
    refl (is_alone (codes "observe") name is))
of_observe (Serve port count options script pcap journal) name v h is =
    absurd (another (alone (codes "observe")) (Serve port count options script pcap journal) name v h
    refl (is_alone (codes "observe") name is))
of_observe (Ask server path what options pcap) name v h is =
    elim h.1 [
      | inl by ↦ what_is_observed (codes "BODY") name v what by.4 is
      | inr by ↦ what_is_observed (codes "PATH") name v what by.5 is
    ]
of_observe (Discover server options pcap) name v h is =
    absurd (another (alone (codes "observe")) (Discover server options pcap) name v h
    refl (is_alone (codes "observe") name is))
of_observe (Ping server options pcap) name v h is =
    absurd (another (alone (codes "observe")) (Ping server options pcap) name v h
    refl (is_alone (codes "observe") name is))
of_observe (Sim file store plains remembered chart client server pcap) name v h is =
    absurd (another (alone (codes "observe")) (Sim file store plains remembered chart client server pcap) name v h
    refl (is_alone (codes "observe") name is))

of_serve : (order : Order) (name : Text) (v : List Row) → AsksForIn name v order → name ≡ codes "serve" → GoServed v
of_serve Version name v h serves = absurd h
of_serve (Show datagram) name v h serves =
    absurd (another (alone (codes "serve")) (Show datagram) name v h refl (is_alone (codes "serve") name serves))
of_serve Dump name v h serves =
    absurd (another (alone (codes "serve")) Dump name v h refl (is_alone (codes "serve") name serves))
of_serve (DumpCapture file chart) name v h serves =
    absurd (another (alone (codes "serve")) (DumpCapture file chart) name v h
    refl (is_alone (codes "serve") name serves))
of_serve (Answer path body datagram) name v h serves =
    absurd (another (alone (codes "serve")) (Answer path body datagram) name v h
    refl (is_alone (codes "serve") name serves))
of_serve (Pair path body word limit remembered) name v h serves =
    absurd (another (alone (codes "serve")) (Pair path body word limit remembered) name v h
    refl (is_alone (codes "serve") name serves))
of_serve (Serve port count options script pcap journal) name v h serves = h.3
of_serve (Ask server path what options pcap) name v h serves =
    absurd (another (alone (codes "serve")) (Ask server path what options pcap) name v h
    refl (is_alone (codes "serve") name serves))
of_serve (Discover server options pcap) name v h serves =
    absurd (another (alone (codes "serve")) (Discover server options pcap) name v h
    refl (is_alone (codes "serve") name serves))
of_serve (Ping server options pcap) name v h serves =
    absurd (another (alone (codes "serve")) (Ping server options pcap) name v h
    refl (is_alone (codes "serve") name serves))
of_serve (Sim file store plains remembered chart client server pcap) name v h serves =
    absurd (another (alone (codes "serve")) (Sim file store plains remembered chart client server pcap) name v h
    refl (is_alone (codes "serve") name serves))

of_dump : (order : Order) (name : Text) (v : List Row) → AsksForIn name v order → AreApart Chart name v → ⊥
of_dump Version name v h apart = absurd h
of_dump (Show datagram) name v h apart =
    absurd (another (alone (codes "dump")) (Show datagram) name v h refl (is_alone (codes "dump") name apart.0))
of_dump Dump name v h apart = true≢false (sym (h.2.1 apart.1))
of_dump (DumpCapture file chart) name v h apart = absurd (cc (sym apart.2 ∙ h.1))
of_dump (Answer path body datagram) name v h apart =
    absurd (another (alone (codes "dump")) (Answer path body datagram) name v h
    refl (is_alone (codes "dump") name apart.0))
of_dump (Pair path body word limit remembered) name v h apart =
    absurd (another (alone (codes "dump")) (Pair path body word limit remembered) name v h
    refl (is_alone (codes "dump") name apart.0))
of_dump (Serve port count options script pcap journal) name v h apart =
    absurd (another (alone (codes "dump")) (Serve port count options script pcap journal) name v h
    refl (is_alone (codes "dump") name apart.0))
of_dump (Ask server path what options pcap) name v h apart =
    absurd (another (alone (codes "dump")) (Ask server path what options pcap) name v h
    refl (is_alone (codes "dump") name apart.0))
of_dump (Discover server options pcap) name v h apart =
    absurd (another (alone (codes "dump")) (Discover server options pcap) name v h
    refl (is_alone (codes "dump") name apart.0))
of_dump (Ping server options pcap) name v h apart =
    absurd (another (alone (codes "dump")) (Ping server options pcap) name v h
    refl (is_alone (codes "dump") name apart.0))
of_dump (Sim file store plains remembered chart client server pcap) name v h apart =
    absurd (another (alone (codes "dump")) (Sim file store plains remembered chart client server pcap) name v h
    refl (is_alone (codes "dump") name apart.0))

-- ---- options that go together are not apart

pub not_together : (order : Order) (why : TogetherRefusal) (name : Text) (v : List Row) → AsksForIn name v order
    → IsWrongIn name v (Together why) → ⊥
not_together order Count name v h (get, none, count, value) = elim (of_get order name v h get) [
  | inl once ↦ absurd (cc (sym once.1 ∙ value))
  | inr again ↦ absurd (cc (sym none ∙ again.1))
]
not_together order Etag name v h (get, every, etag, value, tag) = elim (of_get order name v h get) [
  | inl once ↦ absurd (cc (sym once.0 ∙ value))
  | inr again ↦ absurd (cc (sym again.2 ∙ tag))
]
not_together order Hex name v h (observes, json, hex) = elim (of_observe order name v h observes) [
  | inl no_json ↦ no_json json
  | inr no_hex ↦ no_hex hex
]
not_together order Json name v h (serves, json, no_changes) = elim (of_serve order name v h serves).0 [
  | inl no_json ↦ no_json json
  | inr both ↦ no_changes both.0
]
not_together order Trace name v h (serves, json, trace) = elim (of_serve order name v h serves).0 [
  | inl no_json ↦ no_json json
  | inr both ↦ both.1 trace
]
not_together order Chart name v h apart = of_dump order name v h apart
not_together order Script name v h (serves, journal, script, kept, said) = elim (of_serve order name v h serves).1 [
  | inl none ↦ absurd (cc (sym none ∙ kept))
  | inr none ↦ absurd (cc (sym none ∙ said))
]
not_together order Renew name v h (serves, renew, none) = elim (of_serve order name v h serves).2 [
  | inl no_renew ↦ no_renew renew
  | inr kept ↦ absurd (cc (sym none ∙ kept.1))
]
