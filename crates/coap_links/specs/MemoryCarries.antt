-- A link in memory: what it is handed it keeps, and what it is to give it gives, one after the other; a call that was
-- told to fail fails.
use Rattle.std.specs.Prelude.{ℕ, Bool, true, false, List, [], ◌∷◌, ◌++◌, ◌≡◌, ◌⊎◌, ◌==◌, ◌-◌, length, nat_lt}
use Rattle.std.specs.Prelude.{if◌then◌else◌, Option, Some, None}
use Rattle.coap_types.specs.declared.endpoint.Endpoint.{Endpoint}
use Rattle.coap_links.specs.Carried.{Packet}
use Rattle.coap_links.specs.Faults.{raised}
use Rattle.coap_links.specs.declared.link.TheConstants.{MAX_DATAGRAM_LEN as max_datagram_len}

-- where it receives; what it was handed and what it is to give, each the oldest first; which send and which receive
-- from now is to fail, from 1, or 0 for none; how many calls failed; and how many buffers of the longest datagram are
-- left
pub record Memory : Type 0 where
  pub address : Endpoint
  pub handed : List Packet
  pub coming : List Packet
  pub failing_send : ℕ
  pub failing_receive : ℕ
  pub faults : ℕ
  pub reserved : ℕ

-- the call that is to fail is this one
abbrev pub falls_due : ℕ → Bool
falls_due n = n == 1

-- a send, also where it is told to fail
abbrev pub sent : Memory → Memory
sent m = record m { failing_send = m.failing_send - 1 }

-- a receive, also where it is told to fail
abbrev pub asked : Memory → Memory
asked m = record m { failing_receive = m.failing_receive - 1 }

abbrev pub failed : Memory → Memory
failed m = record m { faults = raised m.faults }

-- the datagram is longer than a buffer
abbrev pub is_long : List ℕ → Bool
is_long bytes = nat_lt max_datagram_len (length bytes)

-- the buffers that are left where it is kept: it takes one, unless it is longer
abbrev pub left : List ℕ → ℕ → ℕ
left bytes buffers = if is_long bytes then buffers else buffers - 1

-- a send may fail: it was told to; or no buffer is left that holds the datagram, so that it takes memory
abbrev pub MayFail : Memory → List ℕ → Type 0
MayFail a bytes = (falls_due a.failing_send ≡ true) ⊎ (a.reserved ≡ 0) ⊎ (is_long bytes ≡ true)

-- A send: the datagram is kept, or the send fails and the datagram is lost, which each does that was told to.
pub data SendsToMemory (a : Memory) (to : Endpoint) (bytes : List ℕ) (b : Memory) : Type 0 where
  kept : falls_due a.failing_send ≡ false
      → b ≡ record (sent a) { handed = a.handed ++ (to, bytes) ∷ []; reserved = left bytes a.reserved }
      → SendsToMemory a to bytes b
  lost : MayFail a bytes → b ≡ failed (sent a) → SendsToMemory a to bytes b

-- what a receive finds: the first of what is to come, but none that is too long
abbrev pub found_in : List Packet → Option Packet
found_in [] = None
found_in (p ∷ ps) = if is_long p.1 then None else Some p

abbrev pub behind : List Packet → List Packet
behind [] = []
behind (p ∷ ps) = ps

-- A receive: it fails where it was told to, and then nothing is lost; or the first that is to come is given, or dropped
-- as too long.
pub data ReceivesFromMemory (a : Memory) (came : Option Packet) (b : Memory) : Type 0 where
  fails : falls_due a.failing_receive ≡ true → came ≡ None → b ≡ failed (asked a) → ReceivesFromMemory a came b
  gives : falls_due a.failing_receive ≡ false → came ≡ found_in a.coming
      → b ≡ record (asked a) { coming = behind a.coming } → ReceivesFromMemory a came b
