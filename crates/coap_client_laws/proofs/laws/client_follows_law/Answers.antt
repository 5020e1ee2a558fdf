use Rattle.coap_client_laws.proofs.Counting.AsksOnce.{ask_once}
use Rattle.coap_client_laws.proofs.Counting.Bounds.{are_bounded}
use Rattle.coap_client_laws.proofs.Uploading.Continued.{are_continued}
use Rattle.coap_client_laws.proofs.Reporting.ByTable.{reports_by_table}
use Rattle.coap_client_laws.proofs.Reporting.CallsAlone.{calls_alone}
use Rattle.coap_client_laws.proofs.Reporting.EachValid.{each_is_valid}
use Rattle.coap_client_laws.proofs.Reporting.EachWhole.{whole_are_reported}
use Rattle.coap_client_laws.proofs.Reporting.Valid.{valid_of_tags}
use Rattle.coap_client_laws.proofs.Observing.Marks.{are_newer}
use Rattle.coap_client_laws.proofs.Hearing.HandedUp.{are_handed_up}
use Rattle.coap_client_laws.proofs.Reporting.Bodies.{bodies_are_whole}
use Rattle.coap_client_laws.proofs.Sending.OfCalls.{are_of_calls, others_are_gets}
use Rattle.coap_client_laws.proofs.Sending.OneCon.{one_con}
use Rattle.coap_client_laws.proofs.Sending.Tokens.{own_tokens, one_of_token, short_tokens}
use Rattle.coap_client_laws.proofs.Hearing.HeardOnce.{heard_once}
use Rattle.coap_client_laws.proofs.Queueing.OneByOne.{are_in_order, one_last}
use Rattle.coap_client_laws.proofs.Sending.Begun.{begin_at_once, cons_are_requests}
use Rattle.coap_client_laws.proofs.laws.client_follows_law.Goals as goal
use Rattle.coap_client_laws.proofs.Uploading.BlocksApart.{blocks_apart}
use Rattle.coap_client_laws.proofs.Reporting.Codes.{reports_codes}
use Rattle.coap_client_laws.proofs.Reporting.Ends.{all_ends}
use Rattle.coap_client_laws.proofs.Queueing.FetchesFirst.{fetches_first}
use Rattle.coap_client_laws.proofs.Queueing.Wanted.{all_want}
use Rattle.coap_client_laws.proofs.Queueing.Taken.{all_taken}
use Rattle.coap_client_laws.proofs.Hearing.Types.{are_of_types}

pub returns-clause-begins_now : goal.returns-clause-begins_now
returns-clause-begins_now c = begin_at_once

pub returns-clause-begins : goal.returns-clause-begins
returns-clause-begins c = cons_are_requests

pub returns-clause-order : goal.returns-clause-order
returns-clause-order c server sizes setup t law = are_in_order sizes server setup t law

pub returns-clause-one_last : goal.returns-clause-one_last
returns-clause-one_last c server sizes setup t law = one_last sizes server setup t law

pub returns-clause-own_tokens : goal.returns-clause-own_tokens
returns-clause-own_tokens c server sizes setup t law = own_tokens sizes server setup t law

pub returns-clause-tokens : goal.returns-clause-tokens
returns-clause-tokens c server sizes setup t law = one_of_token sizes server setup t law

pub returns-clause-short_tokens : goal.returns-clause-short_tokens
returns-clause-short_tokens c server sizes setup t law = short_tokens sizes server setup t law

pub returns-clause-heard_once : goal.returns-clause-heard_once
returns-clause-heard_once c = heard_once

pub returns-clause-one_con : goal.returns-clause-one_con
returns-clause-one_con c = one_con

pub returns-clause-bodies : goal.returns-clause-bodies
returns-clause-bodies c = bodies_are_whole

pub returns-clause-heard : goal.returns-clause-heard
returns-clause-heard c = are_handed_up

pub returns-clause-newer : goal.returns-clause-newer
returns-clause-newer c = are_newer

pub returns-clause-valid : goal.returns-clause-valid
returns-clause-valid c = valid_of_tags

pub returns-clause-each_valid : goal.returns-clause-each_valid
returns-clause-each_valid c = each_is_valid

pub returns-clause-whole : goal.returns-clause-whole
returns-clause-whole c = whole_are_reported

pub returns-clause-table : goal.returns-clause-table
returns-clause-table c = reports_by_table

pub returns-clause-continued : goal.returns-clause-continued
returns-clause-continued c = are_continued

pub returns-clause-of_calls : goal.returns-clause-of_calls
returns-clause-of_calls c server sizes setup t law = are_of_calls sizes t

pub returns-clause-others : goal.returns-clause-others
returns-clause-others c server sizes setup t law = others_are_gets sizes t

pub returns-clause-bounded : goal.returns-clause-bounded
returns-clause-bounded c = are_bounded

pub returns-clause-asks_once : goal.returns-clause-asks_once
returns-clause-asks_once c = ask_once

pub returns-clause-apart : goal.returns-clause-apart
returns-clause-apart c = blocks_apart

pub returns-clause-codes : goal.returns-clause-codes
returns-clause-codes c = reports_codes

pub returns-clause-types : goal.returns-clause-types
returns-clause-types c = are_of_types

pub returns-clause-ends : goal.returns-clause-ends
returns-clause-ends c = all_ends

pub returns-clause-taken : goal.returns-clause-taken
returns-clause-taken c = all_taken

pub returns-clause-fetches_first : goal.returns-clause-fetches_first
returns-clause-fetches_first c = fetches_first

pub returns-clause-wants : goal.returns-clause-wants
returns-clause-wants c = all_want

pub returns-clause-calls_alone : goal.returns-clause-calls_alone
returns-clause-calls_alone c = calls_alone
