use Rattle.coap_layer.proofs.Facts.Laws.{copies_in_time}
use Rattle.coap_client.specs.Law.{lower_of, layer_of}
use Rattle.coap_client_laws.proofs.Sending.NoNons.{no_nons}
use Rattle.coap_exchange.proofs.Facts.AskerReplies.{replies_so}
use Rattle.coap_client.proofs.Facts.Turning.Leading.{client_start, led_client, client_stands, client_layer, client_back}
use Rattle.coap_client_laws.proofs.Exact.Exactly.{is_exact}
use Rattle.coap_client.proofs.Facts.Places.Once.{known}
use Rattle.coap_client_laws.proofs.Places.ReportedOnce.{reported_once}
use Rattle.coap_client_laws.proofs.Places.Gives.{waits}
use Rattle.coap_client_laws.proofs.Hearing.FromServer.{are_from_server}
use Rattle.coap_client_laws.proofs.Places.Numbers.{numbers_once}
use Rattle.coap_client_laws.proofs.Uploading.Holds.{all_hold}
use Rattle.coap_client_laws.proofs.Rest.Resting.{are_resting}
use Rattle.coap_client_laws.proofs.Places.Answered.{are_answered}
use Rattle.coap_client_laws.proofs.Uploading.Pieces.{none_after, answers_last, sends_pieces}
use Rattle.coap_client_laws.proofs.laws.client_law.Goals as goal

pub returns-clause-start : goal.returns-clause-start
returns-clause-start c = client_start

pub returns-clause-step : goal.returns-clause-step
returns-clause-step c = led_client

pub returns-clause-law : goal.returns-clause-law
returns-clause-law c = client_stands

pub returns-clause-layer : goal.returns-clause-layer
returns-clause-layer c = client_layer

pub returns-clause-exact : goal.returns-clause-exact
returns-clause-exact c = is_exact

pub returns-clause-back : goal.returns-clause-back
returns-clause-back c = client_back

pub returns-clause-places : goal.returns-clause-places
returns-clause-places c server sizes setup t law = (known server sizes setup t law.rows law.exchanges.rows).one

pub returns-clause-once : goal.returns-clause-once
returns-clause-once c = reported_once

pub returns-clause-none_after : goal.returns-clause-none_after
returns-clause-none_after c server sizes setup t law = none_after sizes server setup t law

pub returns-clause-answers : goal.returns-clause-answers
returns-clause-answers c server sizes setup t law = answers_last sizes server setup t law

pub returns-clause-pieces : goal.returns-clause-pieces
returns-clause-pieces c server sizes setup t law = sends_pieces sizes server setup t law

pub returns-clause-holds : goal.returns-clause-holds
returns-clause-holds c = all_hold

pub returns-clause-resting : goal.returns-clause-resting
returns-clause-resting c = are_resting

pub returns-clause-answered : goal.returns-clause-answered
returns-clause-answered c = are_answered

pub returns-clause-copies : goal.returns-clause-copies
returns-clause-copies c server sizes setup t law =
    copies_in_time setup (layer_of server sizes setup t) (client_layer server sizes setup t law)

pub returns-clause-nons : goal.returns-clause-nons
returns-clause-nons c server sizes setup t law = no_nons server setup (lower_of sizes t)

pub returns-clause-replies : goal.returns-clause-replies
returns-clause-replies c server sizes setup t law =
    replies_so server setup (lower_of sizes t) law.exchanges.rows law.exchanges.left law.exchanges.layer

pub returns-clause-numbers : goal.returns-clause-numbers
returns-clause-numbers c server sizes setup t law = numbers_once server sizes setup t law.rows law.exchanges.rows

pub returns-clause-from_server : goal.returns-clause-from_server
returns-clause-from_server c = are_from_server

pub returns-clause-in_order : goal.returns-clause-in_order
returns-clause-in_order c server sizes setup t law = waits sizes t law.rows
