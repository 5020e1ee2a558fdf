use Rattle.std.proofs.Common.{◌≤◌, List}
use Rattle.coap_client_laws.specs.Follows.OfObservations.{Observed}
use Rattle.coap_smooth.specs.Current.{Alone, FitsABlock}
use Rattle.coap_record.specs.Events.{Config, Event}
use Rattle.coap_record.specs.Legal.{Legal}
use Rattle.coap_record.specs.Record.{Turn, RecordOf, client_of, entries_of}
use Rattle.coap_promise.proofs.Facts.Reports.FormatsSet.{formats_in}
use Rattle.coap_promise.proofs.Facts.Requests.Promised.{lawful}
use Rattle.coap_smooth.proofs.Smoothly.Arriving.AllTaken.{all_taken, goes_in}
use Rattle.coap_smooth.proofs.Smoothly.Ticks.NothingIsLeft.{stands, record_of}
use Rattle.coap_smooth.proofs.Watching.Values.AllShown.{Stands, all_shown, have_all}
use Rattle.coap_smooth.proofs.Watching.Requests.SentForOne.{sent_for_it}
use Rattle.coap_smooth.proofs.Watching.MessageIds.HadIds.{had_ids}
use Rattle.coap_smooth.proofs.Watching.Values.HeldVersions.{versions_rise, versions_are_numbers}
use Rattle.coap_smooth.proofs.Watching.Values.LastIsCurrent.{last_is_current}
use Rattle.coap_smooth.proofs.Watching.Notifications.NoticesCome.{notices_come}
use Rattle.coap_smooth.proofs.Watching.Requests.NoticesToClient.{notices_go_to_client}
use Rattle.coap_smooth.proofs.Watching.Requests.OfIt.{notices_are_of_it, requests_are_of_it}
use Rattle.coap_smooth.proofs.Watching.Values.SmoothBefore.{goes_of}
use Rattle.coap_smooth.proofs.Watching.StillThere.AllThere.{all_there}
use Rattle.coap_smooth.proofs.Watching.StillThere.Premises.{heard_for, served_for}
use Rattle.coap_smooth.proofs.Watching.Requests.TakenIn.{notices_are_taken}
use Rattle.coap_smooth.proofs.watches.watch_law.Goals as goal

shows_in : (config : Config) (events : List Event) (turns : List Turn) (run : RecordOf config events turns)
    (legal : Legal config turns) (x : Observed) (limit : config.limits.body ≤ config.client_sizes.limit)
    → Alone x (client_of (entries_of turns)) → FitsABlock config x.path (entries_of turns)
    → Stands config legal.range.server_szx x limit (entries_of turns)
shows_in config events turns run legal x limit alone fits =
    record {
      law = lawful config events turns run legal;
      formats = formats_in config.addresses turns run.made legal.events;
      fits = fits;
      alone = alone;
    }

pub returns-clause-ids : goal.returns-clause-ids
returns-clause-ids c config events turns run legal smooth =
    had_ids config
    (record {
      beneath = record {
        within = c.channel_law.ensures.within;
        ended = c.channel_law.ensures.ended;
        replies = c.client_exchanges_law.ensures.replies_to_con;
      };
      nons = c.channel_law.ensures.within_nons;
      held = c.layer_law.ensures.held;
      observers = λ k t. c.server_law.ensures.observers k.limits k.server_szx t;
    })
    (λ t law. c.answerer_law.ensures.id_free config.server_setup t law)
    turns
    (goes_in config events turns run legal smooth.smooth)
    smooth.told

pub returns-clause-comes : goal.returns-clause-comes
returns-clause-comes c config events turns run legal smooth =
    notices_come config
    (record {
      beneath = record {
        within = c.channel_law.ensures.within;
        ended = c.channel_law.ensures.ended;
        replies = c.client_exchanges_law.ensures.replies_to_con;
      };
      within_nons = c.channel_law.ensures.within_nons;
      begun = c.channel_law.ensures.begun;
      nons = c.channel_law.ensures.plain;
      small = c.layer_law.ensures.small;
    })
    turns
    (goes_in config events turns run legal smooth.smooth)

pub returns-clause-alone : goal.returns-clause-alone
returns-clause-alone c config events turns run legal smooth none =
    notices_go_to_client config (λ t. c.server_law.ensures.observers config.limits config.server_szx t) turns
    (stands config events turns run legal smooth) none

pub returns-clause-of_it : goal.returns-clause-of_it
returns-clause-of_it c config events turns run legal smooth x alone =
    notices_are_of_it config x (λ t. c.server_law.ensures.observers config.limits config.server_szx t)
    turns (stands config events turns run legal smooth.smooth) alone

pub returns-clause-requests : goal.returns-clause-requests
returns-clause-requests c config events turns run legal smooth x alone =
    requests_are_of_it config x (λ t. c.server_law.ensures.observers config.limits config.server_szx t)
    turns (stands config events turns run legal smooth.smooth) alone

pub returns-clause-notices : goal.returns-clause-notices
returns-clause-notices c config events turns run legal smooth x alone =
    notices_are_taken config x c.client_exchanges_law.ensures.answers_heard
    c.client_watches_law.ensures.notices_heard (λ t. c.server_law.ensures.observers config.limits config.server_szx t)
    turns (stands config events turns run legal smooth.smooth) alone
    (returns-clause-comes c config events turns run legal smooth)

pub returns-clause-there : goal.returns-clause-there
returns-clause-there c config events turns run legal smooth x alone =
    all_there
    (record {
      reset = record {
        says = record {
          told = c.answerer_law.ensures.told;
          back = c.answerer_law.ensures.back;
          alone = c.answerer_law.ensures.alone;
          kept = c.server_law.ensures.exchanges;
        };
        meant = c.channel_law.ensures.resets;
        sent = c.channel_law.ensures.sent;
        acked = c.client_watches_law.ensures.acked;
        small = c.layer_law.ensures.small;
        on_reset = c.server_must_law.ensures.ends_on_reset;
      };
      stays = c.server_law.ensures.stays;
      observers = c.server_law.ensures.observers;
      heard = c.client_exchanges_law.ensures.answers_heard;
      own = c.client_follows_law.ensures.own_tokens;
      beneath = record {
        within = c.channel_law.ensures.within;
        ended = c.channel_law.ensures.ended;
        replies = c.client_exchanges_law.ensures.replies_to_con;
      };
    })
    config legal.range x turns
    (record {
      goes = record {
        stands = stands config events turns run legal smooth.smooth;
        few_client = smooth.smooth.few_to_client;
        few_server = smooth.smooth.few_to_server;
      };
      law = lawful config events turns run legal;
      formats = formats_in config.addresses turns run.made legal.events;
      alone = alone;
      of_it = returns-clause-of_it c config events turns run legal smooth x alone;
      served = served_for config x (entries_of turns)
          (returns-clause-requests c config events turns run legal smooth x alone);
    })
    (returns-clause-comes c config events turns run legal smooth)
    (heard_for config x c.client_exchanges_law.ensures.answers_heard c.client_watches_law.ensures.notices_heard turns
    (stands config events turns run legal smooth.smooth) alone)

pub returns-clause-rise : goal.returns-clause-rise
returns-clause-rise c config events turns run legal = versions_rise config (entries_of turns) run.server

pub returns-clause-numbers : goal.returns-clause-numbers
returns-clause-numbers c config events turns run legal smooth =
    versions_are_numbers config (entries_of turns) run.server legal.range.base smooth.smooth.versions

pub returns-clause-shows : goal.returns-clause-shows
returns-clause-shows c config events turns run legal x alone fits limit =
    all_shown config legal.range.server_szx x limit (entries_of turns)
    (shows_in config events turns run legal x limit alone fits)

pub returns-clause-have_all : goal.returns-clause-have_all
returns-clause-have_all c config events turns run legal x alone fits limit =
    have_all config legal.range.server_szx x limit (entries_of turns)
    (shows_in config events turns run legal x limit alone fits)

-- all of that together
pub returns-clause-current : goal.returns-clause-current
returns-clause-current c config events turns run legal smooth x alone fits limits =
    last_is_current config x
    (record {
      ids = λ us r. returns-clause-ids c config _ us r.run r.legal r.smooth;
      taken = λ us r. all_taken config
          (record {
            within = c.channel_law.ensures.within;
            ended = c.channel_law.ensures.ended;
            replies = c.client_exchanges_law.ensures.replies_to_con;
          }) us (goes_of config us r);
      there = λ us r. returns-clause-there c config _ us r.run r.legal r.smooth x;
      of_it = λ us r. returns-clause-of_it c config _ us r.run r.legal r.smooth x;
      requests = λ us r. returns-clause-requests c config _ us r.run r.legal r.smooth x;
      notices = λ us r. returns-clause-notices c config _ us r.run r.legal r.smooth x;
      sent = λ t law alone s sent. (sent_for_it config.addresses.server config.client_sizes config.client_setup x t law
          alone s sent).for_it;
      none_fetched = λ t law all. c.client_watches_law.ensures.none_fetched config.addresses.server config.client_sizes
          config.client_setup t law x.number all;
      shown = λ us r. returns-clause-shows c config _ us r.run r.legal x;
      have_all = λ us r. returns-clause-have_all c config _ us r.run r.legal x;
      rise = λ us r. returns-clause-rise c config _ us r.run r.legal;
      numbers = λ us r. returns-clause-numbers c config _ us r.run r.legal r.smooth;
    })
    limits turns
    (record {
      run = record_of config turns (stands config events turns run legal smooth.smooth);
      legal = legal;
      smooth
          = smooth;
    })
    alone.alone fits
