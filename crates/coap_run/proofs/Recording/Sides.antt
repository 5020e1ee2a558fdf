-- The events that are alike for both ends, as the specification sees them.
use Rattle.std.proofs.Common.{◌≡◌, ◌≢◌, ℕ, List, refl, sym, subst}
use Rattle.coap_types.specs.declared.endpoint.Endpoint.{Endpoint}
use Rattle.coap_resource.specs.Content.{Content}
use Rattle.coap_record.specs.declared.addresses.Addresses.{Addresses}
use Rattle.coap_record.specs.Events.{What}
use Rattle.coap_record.specs.Legal.{MayCome}
use Rattle.coap_record.specs.Record.{Turn}
use Rattle.coap_run.specs.Run.Ends.{ClientLed, ServerLed}
use Rattle.coap_run.specs.Run.Happening.{what_of}
use Rattle.coap_run.specs.Run.Log.{Log}
use Rattle.coap_run.specs.Run.Sides.{stranger_to, ticks_of}
use Rattle.coap_run.specs.Run.Turning.{Turned}
use Rattle.coap_run.specs.declared.running.ends.ClientEnd.{ClientEnd}
use Rattle.coap_run.specs.declared.running.ends.ServerEnd.{ServerEnd}
use Rattle.coap_run.specs.declared.running.event.Side.{Side}
use Rattle.coap_run.specs.declared.running.event.Side.TheVariants as side
use Rattle.coap_run.specs.declared.running.event.What.TheVariants.{Tick, Stranger}
use Rattle.coap_run.proofs.Recording.Lacking.{event_at}

pub ticks_are : (A : Type 0) (s : Side) → what_of {A = A} (Tick s) ≡ ticks_of s
ticks_are A side.Client = refl
ticks_are A side.Server = refl

pub stranger_is : (A : Type 0) (s : Side) (from : Endpoint) (bytes : List ℕ) → what_of {A = A} (Stranger s from bytes)
    ≡ stranger_to s from bytes
stranger_is A side.Client from bytes = refl
stranger_is A side.Server from bytes = refl

-- it has no end's address
pub is_strange : (addresses : Addresses) (past : List Turn) (at : ℕ) (s : Side) (from : Endpoint) (bytes : List ℕ)
    → MayCome addresses past at (stranger_to s from bytes) → (from ≢ addresses.client) × (from ≢ addresses.server)
is_strange addresses past at side.Client from bytes may = may
is_strange addresses past at side.Server from bytes may = may

-- a turn of what is the same event
pub of_same : (addresses : Addresses) {A K : Type 0} (content : K → Content) (past : List Turn) (at word : ℕ)
    (v w : What) → v ≡ w → (log left : Log) (a b : ClientEnd A) (s u : ServerEnd K A)
    → Turned addresses ClientLed (ServerLed content) past (event_at at word w) a s log b u left
    → Turned addresses ClientLed (ServerLed content) past (event_at at word v) a s log b u left
of_same addresses content past at word v w is log left a b s u t =
    subst (λ x. Turned addresses ClientLed (ServerLed content) past (event_at at word x) a s log b u left) (sym is) t
