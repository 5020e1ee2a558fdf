-- What a client is handed for what the words ask for comes to what they ask for.
use Rattle.std.proofs.Common.{ℕ, List, Option, Result, Ok, Err, IfOk}
use Rattle.coap_types.specs.declared.endpoint.Endpoint.{Endpoint}
use Rattle.coap_arguments.specs.declared.hosts.Server.{Server}
use Rattle.coap_arguments.specs.declared.orders.AskOptions.{AskOptions}
use Rattle.coap_arguments.specs.declared.orders.What.{What}
use Rattle.coap_wires.specs.Hosts.{IsServer}
use Rattle.coap_asking.specs.Tasks.{Does, DoesAt, IsAskedBy, IsDiscoveredBy, IsDiscovery, IsTask}
use Rattle.coap_asking.specs.Watches.{Again, IsRegisteredNext, anew, first}
use Rattle.coap_asking.specs.declared.asking.Task.{Task}
use Rattle.coap_asking.specs.declared.asking.Task.TheVariants.{Discovery, Observation, Polling, Request, Watch}
use Rattle.coap_asking.specs.declared.anew.Left.{Left}
use Rattle.coap_status.specs.declared.status.Status.{Status}
use Rattle.coap_status.specs.declared.status.Stop.{Stop}

-- a task that needs one link is done at the server that the link knows
done_at : (old new : Option (List ℕ)) (Stands : Endpoint → Type 0) (server : Endpoint) (options : AskOptions)
    (word : ℕ) (task : Task) (s : Status)
    → Stands server → DoesAt old new server options word task s → Does old new Stands options word task s
done_at old new Stands server options word (Request made) s stands h = (server, stands, h)
done_at old new Stands server options word (Observation of) s stands h = (server, stands, h)
done_at old new Stands server options word (Watch of again) s stands h = absurd h
done_at old new Stands server options word (Polling of every) s stands h = (server, stands, h)
done_at old new Stands server options word (Discovery made) s stands h = (server, stands, h)

pub done_there : (old new : Option (List ℕ)) (Stands : Endpoint → Type 0) (server : Endpoint) (options : AskOptions)
    (word : ℕ) (task : Task)
    (ended : Result Status Stop) → Stands server → IfOk ended (DoesAt old new server options word task)
    → IfOk ended (Does old new Stands options word task)
done_there old new Stands server options word task (Ok s) stands h = done_at old new Stands server options word task s
    stands h
done_there old new Stands server options word task (Err stop) stands h = tt

-- ---- of fewer endpoints that stand for a server, and of more

module _ (P Q : Endpoint → Type 0) (more : (e : Endpoint) → P e → Q e) (word : ℕ) (path : List (List ℕ))
    (options : AskOptions) (again since : ℕ)
  where
    next_of : (n begin before : ℕ) (old : Option (List ℕ)) (ended : Left) (values : ℕ) (new : Option (List ℕ))
        → IsRegisteredNext P word path options again since n begin before old ended values new
        → IsRegisteredNext Q word path options again since n begin before old ended values new
    next_of n begin before old ended values new h = (h.0, more h.0 h.1, h.2)

    again_of : (start : Option (List ℕ)) {n before begin : ℕ} {held : Option (List ℕ)}
        → Again P word path options again since start n before begin held
        → Again Q word path options again since start n before begin held
    again_of start first = first
    again_of start (anew n before begin old ended values held more_values next new earlier is follows) =
        anew n before begin old ended values held more_values next new (again_of start earlier)
        (next_of n begin before old ended values held is) follows

does_of : (old new : Option (List ℕ)) (P Q : Endpoint → Type 0) (more : (e : Endpoint) → P e → Q e)
    (options : AskOptions) (word : ℕ) (task : Task)
    (s : Status) → Does old new P options word task s → Does old new Q options word task s
does_of old new P Q more options word (Request made) s h = (h.0, more h.0 h.1, h.2)
does_of old new P Q more options word (Observation of) s h = (h.0, more h.0 h.1, h.2)
does_of old new P Q more options word (Watch of again) s h =
    let ends = h.1 in (
      h.0,
      (
        ends.0,
        ends.1,
        ends.2,
        ends.3,
        again_of P Q more word of.now options again h.0 old ends.4,
        ends.5,
        ends.6,
        ends.7,
        next_of P Q more word of.now options again h.0 ends.0 ends.2 ends.1 ends.3 ends.5 ends.6 ends.7 ends.8,
        ends.9,
        ends.10,
        ends.11,
      ),
    )
does_of old new P Q more options word (Polling of every) s h = (h.0, more h.0 h.1, h.2)
does_of old new P Q more options word (Discovery made) s h = (h.0, more h.0 h.1, h.2)

pub done_of : (old new : Option (List ℕ)) (P Q : Endpoint → Type 0) (more : (e : Endpoint) → P e → Q e)
    (options : AskOptions) (word : ℕ)
    (task : Task) (ended : Result Status Stop) → IfOk ended (Does old new P options word task)
    → IfOk ended (Does old new Q options word task)
done_of old new P Q more options word task (Ok s) h = does_of old new P Q more options word task s h
done_of old new P Q more options word task (Err stop) h = tt

-- ---- what the words ask for

pub asked_task : (IsChosen : ℕ → Type 0) (old new : Option (List ℕ)) (server : Server) (path : List (List ℕ))
    (what : What) (options : AskOptions) (word : ℕ) (task : Task) (ended : Result Status Stop) → IsChosen word
    → IsTask what path options task → IfOk ended (Does old new (IsServer server) options word task)
    → IfOk ended (IsAskedBy IsChosen old new server path what options)
asked_task IsChosen old new server path what options word task (Ok s) chosen is does = (word, chosen, task, is, does)
asked_task IsChosen old new server path what options word task (Err stop) chosen is does = tt

pub discovered_task : (IsChosen : ℕ → Type 0) (old new : Option (List ℕ)) (server : Server) (options : AskOptions)
    (word : ℕ) (task : Task) (ended : Result Status Stop) → IsChosen word → IsDiscovery options task
    → IfOk ended (Does old new (IsServer server) options word task)
    → IfOk ended (IsDiscoveredBy IsChosen old new server options)
discovered_task IsChosen old new server options word task (Ok s) chosen is does = (word, chosen, task, is, does)
discovered_task IsChosen old new server options word task (Err stop) chosen is does = tt
