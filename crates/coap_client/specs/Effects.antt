-- What an input makes of a client: what it is left as, what it reports, and what it asks of its exchanges next (RFC
-- 7252, section 5.2).
use Rattle.std.specs.Prelude.{ℕ, Bool, false, ◌&&◌, nat_lt, Option, Some, None, List, if◌then◌else◌}
use Rattle.coap_client.specs.Trace.{Report, Reported}
use Rattle.coap_client.specs.Own.{Transfer, Uploads, Operation, Own}
use Rattle.coap_client.specs.Requests.{is_longer}

-- nothing; that the request of the operation that runs be sent; that a token be kept, or be kept no more
pub data Deed : Type 0 where
  Rests : Deed
  Asks : (op : Operation) → Deed
  Keeps : (token : List ℕ) → Deed
  Releases : (token : List ℕ) → Deed

pub record Effect : Type 0 where
  pub own : Own
  pub report : Option Reported
  pub deed : Deed

abbrev pub stays : Own → Effect
stays s = record { own = s; report = None; deed = Rests }

-- the operation runs, and its next request is sent
abbrev pub runs : Operation → Own → Effect
runs op s = record { own = record s { running = Some op }; report = None; deed = Asks op }

-- what ran is over
abbrev pub ends : Option Reported → Own → Effect
ends report s = record { own = record s { running = None }; report = report; deed = Rests }

abbrev pub of : ℕ → Report → Option Reported
of number report = Some (record { number = number; report = report })

-- The upload hold (profile): a Block1 transfer that sent a datagram and ended without a final response holds back the
-- later ones, for MAX_LATENCY from its last datagram on (RFC 7252, section 4.8.2).

abbrev pub is_upload : Transfer → Bool
is_upload (Uploads u) = is_longer u
is_upload t = false

abbrev pub held_by : Bool → Transfer → Own → Own
held_by unanswered t s = if unanswered && is_upload t then record s { hold = Some s.sent } else s

abbrev pub has_sent : Transfer → Bool
has_sent (Uploads u) = nat_lt 0 u.num
has_sent t = false
