-- Where, after each event, a Message ID is free for what the server sends (RFC 7252, section 4.4).
use Rattle.std.specs.Prelude.{◌≡◌, ℕ, List, ◌++◌}
use Rattle.coap_types.specs.Past.{Always}
use Rattle.coap_server.specs.Follows.Attended.{NoId}
use Rattle.coap_server.specs.Trace as S
use Rattle.coap_record.specs.Events.{Config}
use Rattle.coap_record.specs.Record.{Turn, entries_of, server_trace}

-- .. after each call so far, whatever the moment
abbrev pub HasIds : Config → List Turn → Type 0
HasIds config turns =
    Always (λ past (turn : Turn). (now : ℕ) (later t : List S.Call)
    → server_trace config (turn.entries ++ entries_of past) ≡ later ++ t
    → NoId config.limits config.server_szx config.server_setup t now → ⊥) turns
