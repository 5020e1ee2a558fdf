-- What a smooth run says of Confirmable messages: each is taken within 1,000 ms, and the server's are over within 2,000
-- (RFC 7252, section 4.2).
use Rattle.std.specs.Prelude.{◌≡◌, ◌<◌, ◌+◌, Some, List}
use Rattle.coap_types.specs.Past.{Ever, Always}
use Rattle.coap_layer.specs.Channel.{near_of, far_of, OnNear, OnFar}
use Rattle.coap_layer.specs.Sends.{IsOpen}
use Rattle.coap_layer.specs.Taking.{TakesWithin}
use Rattle.coap_layer.specs.Words.{Open, begun}
use Rattle.coap_record.specs.Events.{Config}
use Rattle.coap_promise.specs.Hops.{hops_of}
use Rattle.coap_record.specs.Record.{Turn}
use Rattle.coap_smooth.specs.Smooth.{max_age}

module _ (config : Config) where
  -- of what was sent for the first time before an event
  pub record TakenInTime (past : List Turn) (turn : Turn) : Type 0 where
    -- each of the client that was sent more than 1,000 ms ago the server took, at most 1,000 ms later, ..
    pub by_server : (con : Open) → Ever (λ b. begun b ≡ Some con) (near_of (hops_of config past))
        → con.first + max_age < turn.event.at → Ever (OnFar (TakesWithin max_age config.addresses.client con))
        (hops_of config past)
    -- .. so with each of the server to the client, ..
    pub by_client : (con : Open) → Ever (λ b. begun b ≡ Some con) (far_of (hops_of config past)) → con.to
        ≡ config.addresses.client
        → con.first + max_age < turn.event.at → Ever (OnNear (TakesWithin max_age config.addresses.server con))
        (hops_of config past)
    -- .. and that is not outstanding after 2,000 ms.
    pub over : (con : Open) → Ever (λ b. begun b ≡ Some con) (far_of (hops_of config past)) → con.to
        ≡ config.addresses.client
        → con.first + max_age + max_age < turn.event.at → IsOpen (far_of (hops_of config past)) con → ⊥

  abbrev pub AllTakenInTime : List Turn → Type 0
  AllTakenInTime turns = Always TakenInTime turns
