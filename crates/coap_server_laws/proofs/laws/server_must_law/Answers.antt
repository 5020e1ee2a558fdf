use Rattle.coap_server_laws.proofs.Answering.DelaysStay.{delays_stay}
use Rattle.coap_server_laws.proofs.Answering.NothingDone.{all_leave}
use Rattle.coap_server_laws.proofs.Answering.NextBegun.{all_begin_next, first_is_notified, none_left}
use Rattle.coap_server_laws.proofs.Answering.WaitOn.{wait_on}
use Rattle.coap_server_laws.proofs.Holding.BodiesShort.{bodies_short}
use Rattle.coap_server_laws.proofs.Observing.ChangesMark.{all_mark}
use Rattle.coap_server_laws.proofs.Observing.LastRegistered.{all_register}
use Rattle.coap_server_laws.proofs.Observing.MarksStay.{stay_due}
use Rattle.coap_server_laws.proofs.Observing.NoticesGoSo.{plains_stay, ways_are}
use Rattle.coap_server_laws.proofs.Observing.ResetsEnd.{ends_on_reset}
use Rattle.coap_server_laws.proofs.Observing.UnmarkedAreCurrent.{are_current}
use Rattle.coap_server_laws.proofs.Replying.AllRecognised.{all_recognised}
use Rattle.coap_server_laws.proofs.Replying.BlocksContinued.{all_continues_fit}
use Rattle.coap_server_laws.proofs.Replying.RepliesAtOnce.{rejects_responses}
use Rattle.coap_server_laws.proofs.Telling.ResponsesGoOut.{all_go_out}
use Rattle.coap_server_laws.proofs.Telling.SentSo.{all_sent_so}
use Rattle.coap_server_laws.proofs.laws.server_must_law.Goals as goal

pub returns-clause-registers : goal.returns-clause-registers
returns-clause-registers c limits szx setup t law = all_register limits szx setup t law

pub returns-clause-marks : goal.returns-clause-marks
returns-clause-marks c limits szx setup t law = all_mark limits szx setup t law

pub returns-clause-stays_due : goal.returns-clause-stays_due
returns-clause-stays_due c limits szx setup t law = stay_due limits szx t law.rows

pub returns-clause-current : goal.returns-clause-current
returns-clause-current c limits szx setup t law = are_current limits szx setup t law

pub returns-clause-waits_on : goal.returns-clause-waits_on
returns-clause-waits_on c limits szx setup t law = wait_on limits szx setup t law

pub returns-clause-delays_stay : goal.returns-clause-delays_stay
returns-clause-delays_stay c limits szx t = delays_stay limits szx t

pub returns-clause-rejects_responses : goal.returns-clause-rejects_responses
returns-clause-rejects_responses c limits szx setup t law = rejects_responses limits szx setup t law

pub returns-clause-continues_fits : goal.returns-clause-continues_fits
returns-clause-continues_fits c limits szx setup t law = all_continues_fit limits szx setup t law

pub returns-clause-short : goal.returns-clause-short
returns-clause-short c limits szx setup t law = bodies_short limits szx t law.rows

pub returns-clause-recognised : goal.returns-clause-recognised
returns-clause-recognised c limits szx setup t law = all_recognised limits szx setup t law

pub returns-clause-sent_as : goal.returns-clause-sent_as
returns-clause-sent_as c limits szx setup t law = all_sent_so limits szx setup t law

pub returns-clause-goes_out : goal.returns-clause-goes_out
returns-clause-goes_out c limits szx setup t law = all_go_out limits szx setup t law

pub returns-clause-none_left : goal.returns-clause-none_left
returns-clause-none_left c limits szx setup t law = none_left limits szx setup t law

pub returns-clause-leaves : goal.returns-clause-leaves
returns-clause-leaves c limits szx setup t law = all_leave limits szx setup t law

pub returns-clause-notified : goal.returns-clause-notified
returns-clause-notified c limits szx setup t law = first_is_notified limits szx setup t law

pub returns-clause-begins : goal.returns-clause-begins
returns-clause-begins c limits szx setup t law = all_begin_next limits szx setup t law

pub returns-clause-plains_stay : goal.returns-clause-plains_stay
returns-clause-plains_stay c limits szx t = plains_stay limits szx t

pub returns-clause-ways : goal.returns-clause-ways
returns-clause-ways c limits szx setup t law = ways_are limits szx setup t law

pub returns-clause-ends_on_reset : goal.returns-clause-ends_on_reset
returns-clause-ends_on_reset c limits szx setup t law = ends_on_reset limits szx setup t law
