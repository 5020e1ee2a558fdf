-- Which reports are taken in a record.
use Rattle.std.specs.Prelude.{◌≡◌, List, []}
use Rattle.coap_client_laws.specs.Follows.Gives.{given, made}
use Rattle.coap_client.specs.Law.{own_of}
use Rattle.coap_record.specs.Events.{Config}
use Rattle.coap_record.specs.Record.{Entry, client_of}

module _ (config : Config) where
  -- None waits: what is taken of the client's reports is what it reported, in order, each once.
  pub record AllGiven (all : List Entry) : Type 0 where
    pub none_left : (own_of config.client_sizes (client_of all)).reports ≡ []
    pub given_all : given (client_of all) ≡ made config.client_sizes (client_of all)
