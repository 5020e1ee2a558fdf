-- At which events of a run of many the events stand that one client and the server see.
use Rattle.std.specs.Prelude.{ℕ, nat_le, List, [], ◌∷◌, length, if◌then◌else◌}
use Rattle.coap_types.specs.declared.endpoint.Endpoint.{Endpoint}
use Rattle.coap_many.specs.Clients.{Config}
use Rattle.coap_many.specs.Entries.{Turn}
use Rattle.coap_many.specs.View.{view}

-- The event of the view before which there were so many stands at the event of the run before which there were this
-- many. What has no event in the view yet stands at the run's last.
abbrev pub place : Config → Endpoint → List Turn → ℕ → ℕ
place config me [] n = 0
place config me (t ∷ past) n =
    if nat_le (length (view config me past)) n then length past else place config me past n
