-- Which calls can leave an end of a run as it is (RFC 7252, section 5).
use Rattle.std.specs.Prelude.{◌≡◌, ℕ, List}
use Rattle.coap_resource.specs.Content.{Content}
use Rattle.coap_server.specs.Object.Shown.{state_of}
use Rattle.coap_client.specs.Led as client
use Rattle.coap_client.specs.Trace as C
use Rattle.coap_server.specs.Follows.Holds.{changes}
use Rattle.coap_server.specs.Led as server
use Rattle.coap_server.specs.Trace as S
use Rattle.coap_record.specs.Events.{Config}
use Rattle.coap_run.specs.Run.Senders.{sender_in, sender_of}
use Rattle.coap_run.specs.declared.running.ends.ClientEnd.{ClientEnd}
use Rattle.coap_run.specs.declared.running.ends.ServerEnd.{ServerEnd}

-- the client, and what was sent under each token
pub record ClientLed {A : Type 0} (config : Config) (t : List C.Call) (e : ClientEnd A) : Type 0 where
  pub led : client.Led config.addresses.server config.client_sizes config.client_setup t e.client
  pub senders : (token : List ℕ) → sender_in e.senders token ≡ sender_of config.client_sizes token t

-- a server over a store, by what that holds, and the version of the last change
pub record ServerLed {K A : Type 0} (content : K → Content) (config : Config) (t : List S.Call)
    (e : ServerEnd K A) : Type 0 where
  pub led : server.Led config.limits config.server_szx config.server_setup t (state_of content e.server)
  pub version : e.version ≡ changes config.limits config.server_szx t
