use Rattle.std.proofs.Common.{[], subst}
use Rattle.coap_client.specs.Led.{Led}
use Rattle.coap_record.specs.Events.{Config}
use Rattle.coap_run.proofs.running.begin.client_of.Goals as goal

pub returns : goal.returns
returns g c =
    record {
      led = subst (λ (k : Config). Led k.addresses.server k.client_sizes k.client_setup [] c.with_setup-client.result)
          c.config.view_is
          c.with_setup-client.ensures.led;
      senders = c.new-2.ensures;
    }
