-- The server's trace at each position of a run of many.
use Rattle.std.proofs.Common.{◌≡◌, ◌≤◌, ◌+◌, ℕ, Option, List, [], ◌∷◌, ◌++◌, refl, sym, ap, ◌∙◌, arith}
use Rattle.coap_resource.specs.Content.{Held}
use Rattle.coap_server.specs.Follows.Tags.{AreStamped}
use Rattle.coap_server.specs.Follows.Holds.{held_at}
use Rattle.coap_server.specs.Law.{ServerRows}
use Rattle.coap_server.proofs.Facts.Holds.{held_is}
use Rattle.coap_many.specs.Clients.{Config}
use Rattle.coap_many.specs.Entries.{Entry, OfClient, OfServer, server_of, server_trace}
use Rattle.coap_many.specs.Words.{holds_at, changes_in}

module _ (config : Config) where
  abbrev pub Rows : List Entry → Type 0
  Rows es = ServerRows config.limits config.szx (server_trace config es)

  pub rows_back : (e : Entry) (past : List Entry) → Rows (e ∷ past) → Rows past
  rows_back (OfClient who c) past rows = rows
  rows_back (OfServer c) past rows = rows.1

  abbrev pub Stamped : List Entry → Type 0
  Stamped es = AreStamped config.limits config.szx (server_trace config es)

  pub stamped_back : (e : Entry) (past : List Entry) → Stamped (e ∷ past) → Stamped past
  stamped_back (OfClient who c) past h = h
  stamped_back (OfServer c) past h = h.1

  pub count_grows : (e : Entry) (past : List Entry) → changes_in config past ≤ changes_in config (e ∷ past)
  count_grows (OfClient who c) past = omega arith
  count_grows (OfServer c) past = omega arith

  -- .. after some entries
  pub served_behind : (mid es : List Entry) → server_trace config (mid ++ es) ≡ server_of mid ++ server_trace config es
  served_behind [] es = refl
  served_behind (OfClient who c ∷ mid) es = served_behind mid es
  served_behind (OfServer c ∷ mid) es = ap (λ l. c ∷ l) (served_behind mid es)

  -- .. and before them
  pub rows_of : (mid es : List Entry) → Rows (mid ++ es) → Rows es
  rows_of [] es h = h
  rows_of (e ∷ mid) es h = rows_of mid es (rows_back e (mid ++ es) h)

  pub stamps_of : (mid es : List Entry) → Stamped (mid ++ es) → Stamped es
  stamps_of [] es h = h
  stamps_of (e ∷ mid) es h = stamps_of mid es (stamped_back e (mid ++ es) h)

  -- what is held, by the trace
  pub held_by : (path : List (List ℕ)) (es : List Entry) → Rows es → (o : Option Held) → holds_at config path es ≡ o
      → held_at config.limits config.szx path (server_trace config es) ≡ o
  held_by path es rows o is = sym (held_is config.limits config.szx (server_trace config es) rows path) ∙ is
