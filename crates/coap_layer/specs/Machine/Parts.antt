-- What the parts of a layer stand for.
use Rattle.std.specs.Prelude.{ℕ, Option, Some, None, List, take, map, filter, is_some, cond}
use Rattle.std.specs.List.{filter_map}
use Rattle.coap_layer.specs.declared.lists.Lists.{Lists}
use Rattle.coap_layer.specs.declared.mark.Awaiting.{Awaiting}
use Rattle.coap_layer.specs.declared.mark.FoundIds.{FoundIds}
use Rattle.coap_layer.specs.declared.mark.Mark.{Mark}
use Rattle.coap_layer.specs.declared.retransmission.Sending.{Sending}
use Rattle.coap_layer.specs.Machine.Entries.{arrivals_in}
use Rattle.coap_layer.specs.Machine.IdState.{IdState}
use Rattle.coap_layer.specs.Machine.Sendings.{open_at, open_now}
use Rattle.coap_layer.specs.Machine.State.{Arrived, State, forgotten}
use Rattle.coap_layer.specs.Trace.{Packet}
use Rattle.coap_layer.specs.Words.{Awaited, Open}

abbrev pub awaited : Option Awaiting → Option Awaited
awaited None = None
awaited (Some a) = Some (record { from = a.from; id = a.id.0 })

-- the outstanding CONs as the last input found them
abbrev pub open_before : {Z : Type 0} → List (Sending Z) → List Open
open_before cs = filter_map (λ c. open_at c c.before) cs

-- what the last input finds is noted, and put back
abbrev pub settled : {Z : Type 0} → Sending Z → Sending Z
settled c = record c { before = c.last }

-- what an input leaves of the list: what has ended goes, and the rest is noted
abbrev pub noted : {Z : Type 0} → List (Sending Z) → List (Sending Z)
noted cs = map settled (filter (λ c. is_some c.last) cs)

abbrev pub put_back : {Z : Type 0} → Sending Z → Sending Z
put_back c = record c { last = c.before }

-- what is kept, with what is no longer remembered still there
abbrev pub state_of_parts : ℕ → ℕ → Option Awaited → IdState → List Arrived → List Open → List Packet → State
state_of_parts most clock awaits ids es cs q =
    record {
      most = most;
      clock = clock;
      awaits = awaits;
      upcoming = ids.upcoming;
      last_used = ids.last_used;
      arrived = es;
      open_cons = cs;
      queue = q;
    }

-- .. by an object's parts
abbrev pub held : {Z X Y : Type 0} → ℕ → ℕ → Option Awaiting → IdState → Lists Z X Y → State
held most clock awaits ids lists =
    state_of_parts most clock (awaited awaits) ids (arrivals_in lists.entries) (open_now lists.sendings.items)
    lists.waiting.items

-- the source of Message IDs as the last input found it: it is noted once a number is given
abbrev pub found_ids : FoundIds → IdState → IdState
found_ids f ids = cond f.is_noted f.ids ids

-- what `undo` would leave, where these are settled
abbrev pub before_of : {Z : Type 0} → ℕ → Option Mark → IdState → List Arrived → List (Sending Z) → List Packet
    → Option State
before_of most None ids es cs q = None
before_of most (Some m) ids es cs q =
    Some (forgotten (state_of_parts most m.clock.0 (awaited m.awaits) ids es (open_before cs) (take m.queued q)))
