-- Where a Message ID was free for what the server sends, after each event more than 1,000 ms before another (RFC 7252,
-- section 4.4).
use Rattle.std.specs.Prelude.{◌≡◌, ◌<◌, ℕ, ◌+◌, List, ◌++◌}
use Rattle.coap_types.specs.Past.{Always}
use Rattle.coap_server.specs.Follows.Attended.{NoId}
use Rattle.coap_server.specs.Trace as S
use Rattle.coap_record.specs.Events.{Config}
use Rattle.coap_record.specs.Record.{Turn, entries_of, server_trace}
use Rattle.coap_smooth.specs.Smooth.{max_age}

-- .. after each call so far, whatever the moment
abbrev pub HadId : Config → Turn → List Turn → Turn → Type 0
HadId config turn past then =
    then.event.at + max_age < turn.event.at → (now : ℕ) (later t : List S.Call)
    → server_trace config (then.entries ++ entries_of past) ≡ later ++ t
    → NoId config.limits config.server_szx config.server_setup t now → ⊥

abbrev pub HadIds : Config → List Turn → Type 0
HadIds config turns = Always (λ past (turn : Turn). Always (HadId config turn) past) turns
