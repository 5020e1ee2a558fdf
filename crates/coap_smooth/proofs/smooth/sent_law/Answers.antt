use Rattle.coap_record.specs.Record.{client_of, entries_of}
use Rattle.coap_smooth.proofs.Smoothly.Requests.AllSent.{all_sent}
use Rattle.coap_smooth.proofs.smooth.sent_law.Goals as goal

pub returns : goal.returns
returns c = record {
  all = λ config events turns run legal smooth none.
      all_sent config events turns run legal smooth none
      (c.client_follows_law.ensures.own_tokens config.addresses.server config.client_sizes config.client_setup)
      (c.client_follows_law.ensures.calls_alone config.addresses.server config.client_sizes config.client_setup)
      (c.client_exchanges_law.ensures.sent_where_answered config.addresses.server config.client_sizes
      config.client_setup
      (client_of (entries_of turns)) run.client);
}
