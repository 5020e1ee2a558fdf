-- What an observer is told in the first of the histories: the answer that registers it, and a notification (RFC 7641,
-- section 4.2).
use Rattle.std.specs.Prelude.{◌≡◌, true, false, Some, None, List, [], ◌∷◌, ◌++◌, Ok, codes}
use Rattle.coap_layer.specs.Trace as L
use Rattle.coap_exchange.specs.declared.answerer.Due.TheVariants as due
use Rattle.coap_server.specs.Trace.{Serves, Notifies, Call, Sets, Feeds, Ticks, NextOut}
use Rattle.coap_server.specs.Law.{own_of}
use Rattle.coap_server.specs.Follows.Tells.{InCon, InReply, NoneMade, telling}
use Rattle.coap_server_laws.specs.Examples.Observation.{limits, client, token, path, get, request, asked, question}
use Rattle.coap_server_laws.specs.Examples.Observation.{content_of, observer, a, b, response, sends}

abbrev pub first : Call
first = Feeds 1 client get 0 (L.Becomes (L.Request request true)) (Some (asked, request))
    (Serves question (content_of 1 (codes "a")) a) L.Nothing

abbrev pub older : List Call
older = Sets 0 path (Some 0) (codes "a") (Ok 1) a ∷ []

abbrev pub between : List Call
between = Sets 3 path (Some 0) (codes "b") (Ok 2) b ∷ NextOut None ∷ sends response ∷ []

abbrev pub next : Call
next = Ticks 3 0 L.Idle false due.Idle 0 (Notifies observer (content_of 2 (codes "b"))) 0 true

pub record IsTold : Type 0 where
  pub told_first : telling (own_of limits 6 older) first
      ≡ Some (record { to = client; token = token; path = path; version = 1; way = InReply; at = 1; registers = true })
  pub told_next : telling (own_of limits 6 (between ++ first ∷ older)) next
      ≡ Some (record { to = client; token = token; path = path; version = 2; way = InCon 0; at = 3; registers = false })
  pub none_made : NoneMade limits 6 client token between (first ∷ older)
