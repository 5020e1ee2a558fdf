use Rattle.coap_promise.specs.Hops.{hops_of}
use Rattle.coap_record.specs.Record.{entries_of, client_of}
use Rattle.coap_promise.proofs.Facts.Delivery.HopsAreAChannel as joined
use Rattle.coap_smooth.proofs.Smoothly.Arriving.AllTaken.{all_taken, goes_in, Beneath}
use Rattle.coap_smooth.proofs.Smoothly.Arriving.ArrivesInTime.{all_in_time}
use Rattle.coap_smooth.proofs.Smoothly.Requests.AtOnce.{old_wait, Laws}
use Rattle.coap_smooth.proofs.Smoothly.Answers.ByAnswers.{by_answers}
use Rattle.coap_smooth.proofs.Smoothly.Requests.DelaysAreShort.{open_within}
use Rattle.coap_smooth.proofs.Smoothly.Arriving.FewArrive.{few_arrive}
use Rattle.coap_smooth.proofs.Smoothly.MessageIds.IdsFree.{has_ids, few_told}
use Rattle.coap_smooth.proofs.Smoothly.Answers.NoTimeout.{no_timeouts}
use Rattle.coap_smooth.proofs.Smoothly.Answers.SeparateEnds.{separate_ends}
use Rattle.coap_smooth.proofs.Smoothly.Ticks.NothingIsLeft.{stands, legal_of, record_of}
use Rattle.coap_smooth.proofs.Smoothly.Ticks.TicksAnswer.{ticks_answer}
use Rattle.coap_smooth.proofs.Smoothly.Ticks.KeepsUp.{keeps_up_in_time}
use Rattle.coap_smooth.proofs.Smoothly.Ticks.TicksInTime.{ticks_in_time}
use Rattle.coap_smooth.proofs.Smoothly.Ticks.TicksLeave.{ticks_leave}
use Rattle.coap_smooth.proofs.Smoothly.Answers.Young.{are_young}
use Rattle.coap_smooth.proofs.smooth.open_law.Goals.{After-server_law}
use Rattle.coap_smooth.proofs.smooth.open_law.Goals as goal

-- what the laws beneath say
beneath : After-server_law → Beneath
beneath c = record {
  within = c.channel_law.ensures.within;
  ended = c.channel_law.ensures.ended;
  replies = c.client_exchanges_law.ensures.replies_to_con;
}

laws : After-server_law → Laws
laws c = record {
  beneath = beneath c;
  acks = c.layer_law.ensures.acks;
  acks_replied = c.channel_law.ensures.replied;
  replied_once = c.channel_law.ensures.replied_once;
  heard = c.client_exchanges_law.ensures.answers_heard;
  own = c.client_follows_law.ensures.own_tokens;
  observed = c.client_values_law.ensures.of_observations;
  handed_on = c.server_law.ensures.handed_on;
}

pub returns-clause-arrive : goal.returns-clause-arrive
returns-clause-arrive c config events turns run legal smooth =
    all_in_time config turns (stands config events turns run legal smooth)

pub returns-clause-few : goal.returns-clause-few
returns-clause-few c config events turns run legal smooth =
    few_arrive config turns (stands config events turns run legal smooth) smooth.few_to_client smooth.few_to_server

pub returns-clause-taken : goal.returns-clause-taken
returns-clause-taken c config events turns run legal smooth =
    all_taken config
    (beneath (goal.at.returns-clause-taken c).After-server_law)
    turns (goes_in config events turns run legal smooth)

pub returns-clause-by_answers : goal.returns-clause-by_answers
returns-clause-by_answers c config events turns run legal smooth none young =
    let s = stands config events turns run legal smooth in
    by_answers config (open_within config.delays smooth.delays) turns s young
    (no_timeouts config (laws (goal.at.returns-clause-by_answers c).After-server_law)
    c.client_exchanges_law.ensures.ends_in_time turns (goes_in config events turns run legal smooth) none)
    (c.client_exchanges_law.ensures.ends_in_time config.addresses.server config.client_sizes config.client_setup
    (client_of (entries_of turns)) run.client)
    (c.channel_law.ensures.resets config.client_setup config.server_setup config.addresses.client
    config.addresses.server
    (hops_of config turns) (joined.channel config _ turns (record_of config turns s) (legal_of config turns s)))

pub returns-clause-at_once : goal.returns-clause-at_once
returns-clause-at_once c config events turns run legal smooth none =
    old_wait config
    (laws (goal.at.returns-clause-at_once c).After-server_law)
    turns
    (goes_in config events turns run legal smooth)
    none

pub returns-clause-separate : goal.returns-clause-separate
returns-clause-separate c config events turns run legal smooth none =
    separate_ends config
    (laws (goal.at.returns-clause-separate c).After-server_law)
    turns
    (goes_in config events turns run legal smooth)
    none

pub returns-clause-ticks : goal.returns-clause-ticks
returns-clause-ticks c config events turns run legal = ticks_answer config legal.range (entries_of turns) run.server

pub returns-clause-leaves : goal.returns-clause-leaves
returns-clause-leaves c config events turns run legal = ticks_leave config turns run.made run.server

pub returns-clause-often : goal.returns-clause-often
returns-clause-often c config events turns run legal often = ticks_in_time config.addresses turns legal.events often

pub returns-clause-keeps_up : goal.returns-clause-keeps_up
returns-clause-keeps_up c config events turns run legal smooth = keeps_up_in_time config turns legal.events smooth.goes

pub returns-clause-ids : goal.returns-clause-ids
returns-clause-ids c config events turns run legal smooth told none =
    let goes = goes_in config events turns run legal smooth in
    let observed = c.client_values_law.ensures.of_observations config.addresses.server config.client_sizes
    config.client_setup
    (client_of (entries_of turns)) run.client in
    has_ids config (λ t. c.server_law.ensures.observers config.limits config.server_szx t)
    (λ t law. c.answerer_law.ensures.id_free config.server_setup t law) turns goes
    (few_told config (λ t. c.server_law.ensures.observers config.limits config.server_szx t)
    (λ t law. c.answerer_law.ensures.id_free config.server_setup t law) turns goes observed none told)

pub returns-clause-young : goal.returns-clause-young
returns-clause-young c config events turns run legal smooth told none =
    are_young config legal.range
    (record {
      laws = laws (goal.at.returns-clause-young c).After-server_law;
      in_time = c.client_exchanges_law.ensures.ends_in_time;
      resets = c.channel_law.ensures.resets;
      hears = c.client_exchanges_law.ensures.hears_of_open;
      observers = c.server_law.ensures.observers;
    })
    (open_within config.delays smooth.delays)
    turns
    (goes_in config events turns run legal smooth)
    (returns-clause-ids c config events turns run legal smooth told none)
    none
