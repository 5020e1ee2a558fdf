-- What an input makes of a client, and what is asked of its exchanges for that (RFC 7252, sections 4.7 and 5.2).
use Rattle.std.specs.Prelude.{ℕ, ◌==◌, max, Bool, true, false, not, List, [], ◌∷◌, ◌++◌, filter, Result}
use Rattle.coap_exchange.specs.declared.asker.AskRefusal.{AskRefusal}
use Rattle.coap_exchange.specs.AskerTrace as E
use Rattle.coap_layer.specs.Trace as L
use Rattle.coap_client.specs.Trace.{Call, Feeds, Ticks}
use Rattle.coap_client.specs.Own.{Own}
use Rattle.coap_client.specs.Requests.{message_of}
use Rattle.coap_client.specs.Observations.{observation_of, over}
use Rattle.coap_client.specs.Effects.{Deed, Rests, Asks, Keeps, Releases, Effect, stays}
use Rattle.coap_client.specs.Observing.{releases}
use Rattle.coap_client.specs.Events.{happened, passes, closed}

-- every moment that is handed in counts
abbrev pub at : ℕ → Own → Own
at now s = record s { clock = max s.clock now }

-- a forgotten observation is over, and no report of it is given any more
abbrev pub forgotten : Bool → ℕ → Own → Own
forgotten true number s = let t = over number s in record t
    { reports = filter (λ r. not (r.number == number)) t.reports }
forgotten false number s = s

abbrev pub forgets : Bool → ℕ → Own → Deed
forgets true number s = releases (observation_of number s.observations)
forgets false number s = Rests

-- what a datagram or time makes of it, and then what the sending of the next request makes of that
abbrev pub effect : Own → Call → Effect
effect s (Feeds now from bytes word up settled event sent token kept) = happened (at now s) (max s.clock now) event
effect s (Ticks now word below t sent token kept answer) = passes (at now s) (max s.clock now) t
effect s c = stays s

abbrev pub close : ℕ → Effect → Result (List ℕ) AskRefusal → Effect
close now e token = closed now e e.deed token

-- what is asked of the exchanges for a deed

abbrev pub deeds : Deed → Own → ℕ → ℕ → L.Answer → Result (List ℕ) AskRefusal → Bool → List E.Call
deeds Rests s now word sent token kept = []
deeds (Asks op) s now word sent token kept = E.Ask now (message_of s.observations op) word sent token ∷ []
deeds (Keeps t) s now word sent token kept = E.Keep t kept ∷ []
deeds (Releases t) s now word sent token kept = E.Release t kept ∷ []

-- .. for an effect and then for what the sending makes of it, behind an input: the newest first
abbrev pub done_for : Effect → ℕ → ℕ → L.Answer → Result (List ℕ) AskRefusal → Bool → E.Call → List E.Call
done_for e now word sent token kept input =
    let c = close now e token in deeds c.deed c.own now word sent token kept
    ++ (deeds e.deed e.own now word sent token kept ++ input ∷ [])
