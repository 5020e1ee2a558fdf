-- What a notification shows that is taken of an observation that runs alone: all of what its path held as the server
-- told it (RFC 7641, sections 3.2 and 4.2; RFC 7959, section 2.2).
use Rattle.std.specs.Prelude.{◌≡◌, ◌≤◌, ℕ, Some, List, ◌∷◌, ◌++◌, length}
use Rattle.coap_codec.specs.Message.{Message}
use Rattle.coap_resource.specs.Content.{Held}
use Rattle.coap_client_laws.specs.Follows.LastValue.{shown_by}
use Rattle.coap_client_laws.specs.Follows.Newer.{Newly, notifies}
use Rattle.coap_client_laws.specs.Follows.Noticed.{IsAllOf}
use Rattle.coap_client_laws.specs.Follows.OfObservations.{Observed}
use Rattle.coap_client.specs.Law as clients
use Rattle.coap_client.specs.Trace as C
use Rattle.coap_server.specs.Follows.Tells.{Telling, telling}
use Rattle.coap_server.specs.Law.{own_of}
use Rattle.coap_server.specs.Trace as S
use Rattle.coap_smooth.specs.Current.{shown_as}
use Rattle.coap_record.specs.Events.{Config}
use Rattle.coap_record.specs.Record.{Entry, OfClient, OfServer, client_of, server_trace}
use Rattle.coap_promise.specs.Words.{holds_at}

module _ (config : Config) where
  -- This call of the server tells it, of this path, to the client under the token of the message; the path holds it
  -- before and behind that call.
  pub record TellsHeld (path : List (List ℕ)) (m : Message) (held : Held) (past : List Entry) (c : S.Call) : Type 0
    where
      pub told : Telling
      pub here : telling (own_of config.limits config.server_szx (server_trace config past)) c ≡ Some told
      pub to_is : told.to ≡ config.addresses.client
      pub token_is : told.token ≡ m.token
      pub path_is : told.path ≡ path
      pub version_is : told.version ≡ held.version
      pub before : holds_at config path past ≡ Some held
      pub behind : holds_at config path (OfServer c ∷ past) ≡ Some held

  -- the server told before what it shows, and it has all of that
  pub record ShowsAllHeld (path : List (List ℕ)) (n : Newly) (older : List Entry) : Type 0 where
    pub held : Held
    pub between : List Entry
    pub call : S.Call
    pub oldest : List Entry
    pub split : older ≡ between ++ OfServer call ∷ oldest
    pub told : TellsHeld path n.message held oldest call
    pub shown : shown_by n ≡ shown_as held
    pub all : IsAllOf n.message
    pub short : length n.message.payload ≤ config.client_sizes.limit

  -- Each notification that was taken of this observation shows so.
  abbrev pub AllShown : Observed → List Entry → Type 0
  AllShown x all =
      (newer older : List Entry) (c : C.Call) (n : Newly) → all ≡ newer ++ OfClient c ∷ older
      → notifies (clients.own_of config.client_sizes (client_of older)) c ≡ Some n → n.number ≡ x.number
      → ShowsAllHeld x.path n older
