use Rattle.std.proofs.Common.{◌≤◌, ◌<◌, ℕ, ◌+◌, ◌*◌, arith}
use Rattle.coap_record.specs.Record.{entries_of, client_of}
use Rattle.coap_promise.specs.Hops.{hops_of}
use Rattle.coap_promise.proofs.Facts.Delivery.HopsAreAChannel as joined
use Rattle.coap_smooth.specs.SmoothAnswers.{AllAnswer}
use Rattle.coap_fair.specs.FairLoss.{last_copy, longest_way}
use Rattle.coap_fair.proofs.Answers.AllSent.{all_sent}
use Rattle.coap_fair.proofs.Answers.ByAnswers.{by_answers}
use Rattle.coap_fair.proofs.Runs.Stands.{stands, legal_of, record_of}
use Rattle.coap_fair.proofs.Young.{Goes, Laws, are_young}
use Rattle.coap_fair.proofs.laws.fair_law.Goals as goal

short : (ms : ℕ) → ms ≤ longest_way → last_copy + 2 * ms < 62000
short ms soon = omega (arith, soon)

pub returns : goal.returns
returns c ms config events turns run legal fair =
    let s = stands config events turns run legal in
    let laws : Laws = record {
      taking = c.channel_law.ensures.taking;
      acks = c.layer_law.ensures.acks;
      acks_replied = c.channel_law.ensures.replied;
      replied_once = c.channel_law.ensures.replied_once;
      heard = c.client_exchanges_law.ensures.answers_heard;
      own = c.client_follows_law.ensures.own_tokens;
      observed = c.client_values_law.ensures.of_observations;
      handed_on = c.server_law.ensures.handed_on;
    } in
    let goes : Goes ms config turns = record {
      stands = s;
      fair = fair.fair;
      in_time = fair.in_time;
      few = fair.few;
    } in
    let young = are_young ms config laws fair.no_delays fair.soon turns goes fair.none_observed in
    let answers = by_answers config (last_copy + 2 * ms) (short ms fair.soon) turns s young
    (c.client_exchanges_law.ensures.ends_in_time config.addresses.server config.client_sizes config.client_setup
    (client_of (entries_of turns)) run.client)
    (c.channel_law.ensures.resets config.client_setup config.server_setup config.addresses.client
    config.addresses.server (hops_of config turns)
    (joined.channel config _ turns (record_of config turns s) (legal_of config turns s))) in
    let sent = all_sent config events turns run legal fair.few fair.none_observed
    (c.client_follows_law.ensures.own_tokens config.addresses.server config.client_sizes config.client_setup)
    (c.client_follows_law.ensures.calls_alone config.addresses.server config.client_sizes config.client_setup)
    (c.client_exchanges_law.ensures.sent_where_answered config.addresses.server config.client_sizes config.client_setup
    (client_of (entries_of turns)) run.client) answers in
    let all : AllAnswer config turns = record {
      none = fair.none_observed;
      by_answers = answers;
      all_sent = sent;
    } in
    record {
      young = young;
      none_fails = answers;
      all_sent = sent;
      gets = c.answered_law.ensures.gets config events turns run legal all;
      changes = c.answered_law.ensures.changes config events turns run legal all;
    }
