-- What a smooth run says of its message layers: what one sends comes to the other within 1,000 ms, behind its sending,
-- and few messages come (RFC 7252, sections 4.2 and 4.5).
use Rattle.std.specs.Prelude.{List}
use Rattle.coap_types.specs.Past.{Always}
use Rattle.coap_layer.specs.Channel.{near_of, far_of}
use Rattle.coap_layer.specs.Taking.{ArriveWithin, ComeBackWithin, FewCome}
use Rattle.coap_record.specs.Events.{Config}
use Rattle.coap_promise.specs.Hops.{hops_of, across}
use Rattle.coap_record.specs.Record.{Turn}
use Rattle.coap_smooth.specs.Smooth.{max_age, most_that_come}

module _ (config : Config) where
  -- what was sent more than 1,000 ms ago arrived, at most 1,000 ms later ..
  pub record ArriveInTime (past : List Turn) (turn : Turn) : Type 0 where
    pub to_server : ArriveWithin max_age config.addresses.client config.addresses.server turn.event.at
        (hops_of config past)
    pub to_client : ArriveWithin max_age config.addresses.server config.addresses.client turn.event.at
        (across (hops_of config past))
    -- .. and behind its sending
    pub back_to_client : ComeBackWithin max_age config.addresses.client config.addresses.server turn.event.at
        (hops_of config past)
    pub back_to_server : ComeBackWithin max_age config.addresses.server config.addresses.client turn.event.at
        (across (hops_of config past))

  abbrev pub AllInTime : List Turn → Type 0
  AllInTime turns = Always ArriveInTime turns

  -- in EXCHANGE_LIFETIME fewer messages come than can be remembered ..
  pub record FewArrive (turns : List Turn) : Type 0 where
    pub at_server : FewCome config.server_setup.remembered (far_of (hops_of config turns))
    pub at_client : FewCome config.client_setup.remembered (near_of (hops_of config turns))
    -- .. and than one group of Message IDs has, for their answers
    pub with_ids_at_server : FewCome most_that_come (far_of (hops_of config turns))
    pub with_ids_at_client : FewCome most_that_come (near_of (hops_of config turns))
