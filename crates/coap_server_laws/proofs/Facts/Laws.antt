-- What follows from the whole law of a server: the clauses of `server_law` and `server_must_law`, for proofs above, and
-- some that rest on its rows alone.
use Rattle.std.proofs.Common.{◌≡◌, ℕ, List, ◌++◌}
use Rattle.coap_types.specs.Past.{Always}
use Rattle.coap_layer.specs.Channel.{RepliesSo}
use Rattle.coap_layer.specs.Rows.{LayerLaw}
use Rattle.coap_layer.specs.declared.setup.Setup.{Setup}
use Rattle.coap_resource.specs.Limits.{Limits}
use Rattle.coap_exchange.specs.declared.answerer.Asked.{Asked}
use Rattle.coap_exchange.specs.AnswererFollows as A
use Rattle.coap_exchange.proofs.Facts.ServerSide as E
use Rattle.coap_server.specs.Trace.{Call}
use Rattle.coap_server.specs.Law.{ServerLaw, lower_of, layer_of}
use Rattle.coap_server.specs.Follows.Attended.{AllAttended, FirstIsAnswered}
use Rattle.coap_server_laws.specs.Follows.Begins.{AllBeginNext, FirstIsNotified, NoneLeft}
use Rattle.coap_server.specs.Follows.Brings.{AreHandedUp, BlocksCome}
use Rattle.coap_server_laws.specs.Follows.Continues.{AllContinuesFit}
use Rattle.coap_server_laws.specs.Follows.Current.{AreCurrent}
use Rattle.coap_server_laws.specs.Follows.Delayed.{DelaysStay}
use Rattle.coap_server_laws.specs.Follows.HandedUpAsOften.{Counted}
use Rattle.coap_server_laws.specs.Follows.Gives.{NoneContinues, SentResponses}
use Rattle.coap_server_laws.specs.Follows.GoesOn.{GoesOn}
use Rattle.coap_server_laws.specs.Follows.GoesOut.{AllGoOut}
use Rattle.coap_server.specs.Follows.Holds.{AllServed}
use Rattle.coap_server_laws.specs.Follows.Leaves.{AllLeave}
use Rattle.coap_server_laws.specs.Follows.Marks.{AllMark, StayDue}
use Rattle.coap_server_laws.specs.Follows.Reads.{VerdictsRead}
use Rattle.coap_server_laws.specs.Follows.Recognised.{AllRecognised, BodiesShort}
use Rattle.coap_server_laws.specs.Follows.Registered.{AllRegister}
use Rattle.coap_server_laws.specs.Follows.Rejects.{RejectsSo}
use Rattle.coap_server.specs.Follows.Rests.{ComesToRest}
use Rattle.coap_server_laws.specs.Follows.SentAs.{AllSentSo}
use Rattle.coap_server.specs.Follows.Serves.{ServedOnce, times_handed}
use Rattle.coap_server_laws.specs.Follows.Table.{AllMethods, AllUploads, VerdictsAsk}
use Rattle.coap_server.specs.Follows.Tags.{AreStamped, OneTag}
use Rattle.coap_server.specs.Follows.Tells.{Follows}
use Rattle.coap_server.specs.Follows.Waits.{ReadyAreServed, WaitOn}
use Rattle.coap_server_laws.proofs.Answering.AttendedAtOnce.{all_attended}
use Rattle.coap_server_laws.proofs.Answering.DelaysStay as D
use Rattle.coap_server_laws.proofs.Answering.FirstAnswered.{first_answered}
use Rattle.coap_server_laws.proofs.Answering.NextBegun as N
use Rattle.coap_server_laws.proofs.Answering.NothingDone.{all_leave}
use Rattle.coap_server_laws.proofs.Answering.WaitOn.{wait_on}
use Rattle.coap_server_laws.proofs.Holding.BodiesShort.{bodies_short}
use Rattle.coap_server_laws.proofs.Holding.OneTag.{one_tag}
use Rattle.coap_server.proofs.Facts.Holding.Holds as H
use Rattle.coap_server.proofs.Facts.Holding.Stamps.{are_stamped}
use Rattle.coap_server_laws.proofs.Observing.ChangesMark.{all_mark}
use Rattle.coap_server_laws.proofs.Observing.EndsObservation.{none_continues}
use Rattle.coap_server_laws.proofs.Observing.LastRegistered.{all_register}
use Rattle.coap_server_laws.proofs.Observing.MarksStay.{stay_due}
use Rattle.coap_server_laws.proofs.Observing.ToldInOrder as O
use Rattle.coap_server_laws.proofs.Observing.UnmarkedAreCurrent.{are_current}
use Rattle.coap_server_laws.proofs.Progress.GoesOn.{goes_on}
use Rattle.coap_server_laws.proofs.Replying.AllRecognised.{all_recognised}
use Rattle.coap_server_laws.proofs.Replying.BlocksContinued.{all_continues_fit}
use Rattle.coap_server_laws.proofs.Replying.RepliesAtOnce as R
use Rattle.coap_server_laws.proofs.Replying.ResponsesHaveRequests.{sent_responses}
use Rattle.coap_server_laws.proofs.Rest.Resting.{comes_to_rest}
use Rattle.coap_server_laws.proofs.Serving.HandedUpAsOften.{counted}
use Rattle.coap_server_laws.proofs.Serving.MethodsServed.{all_methods, all_uploads, verdicts_ask}
use Rattle.coap_server_laws.proofs.Serving.ServedOnce.{handed_is, served_once}
use Rattle.coap_server_laws.proofs.Serving.ServedWasHandedUp.{handed_up, blocks_come}
use Rattle.coap_server.proofs.Facts.Serving.Brought.{servers_back}
use Rattle.coap_server_laws.proofs.Serving.Reads.{verdicts_read}
use Rattle.coap_server.proofs.Facts.Serving.Waiting.{ready_are_served}
use Rattle.coap_server_laws.proofs.Telling.ResponsesGoOut.{all_go_out}
use Rattle.coap_server_laws.proofs.Telling.SentSo.{all_sent_so}

pub reads : VerdictsRead
reads = verdicts_read

pub questions : VerdictsAsk
questions = verdicts_ask

pub delays_stay : (limits : Limits) (szx : ℕ) (t : List Call) → DelaysStay limits szx t
delays_stay = D.delays_stay

pub handed_as_often : (limits : Limits) (szx : ℕ) (a : Asked) (t : List Call)
    → A.times_handed a (lower_of limits szx t) ≡ times_handed limits szx a t
handed_as_often limits szx a t = handed_is limits szx a t

module _ (limits : Limits) (szx : ℕ) (setup : Setup) where
  pub back : (calls t : List Call) → ServerLaw limits szx setup (calls ++ t) → ServerLaw limits szx setup t
  back calls t law = servers_back limits szx setup calls t law

  module _ (t : List Call) (law : ServerLaw limits szx setup t) where
    pub layer : LayerLaw setup (layer_of limits szx setup t)
    layer = E.layer_stands setup (lower_of limits szx t) law.exchanges

    pub goes : GoesOn limits szx setup t
    goes = goes_on limits szx setup t law

    pub rests : ComesToRest limits szx setup t
    rests = comes_to_rest limits szx setup t law

    pub replies : Always RepliesSo (layer_of limits szx setup t)
    replies = R.replies_at_once limits szx setup t law

    pub rejects_responses : Always RejectsSo (layer_of limits szx setup t)
    rejects_responses = R.rejects_responses limits szx setup t law

    pub continues_fits : AllContinuesFit limits szx t
    continues_fits = all_continues_fit limits szx setup t law

    pub short : BodiesShort limits szx t
    short = bodies_short limits szx t law.rows

    pub recognised : AllRecognised limits szx t
    recognised = all_recognised limits szx setup t law

    pub handed : AreHandedUp limits szx setup t
    handed = handed_up limits szx setup t law

    pub blocks : BlocksCome limits szx setup t
    blocks = blocks_come limits szx setup t law

    pub attended : AllAttended limits szx t
    attended = all_attended limits szx setup t law

    pub answered : FirstIsAnswered limits szx setup t
    answered = first_answered limits szx setup t law

    pub ready : ReadyAreServed limits szx t
    ready = ready_are_served limits szx setup t law

    pub counts : Counted limits szx setup t
    counts = counted limits szx setup t law

    pub served : ServedOnce limits szx t
    served = served_once limits szx t (E.are_responses (lower_of limits szx t) law.exchanges.rows)

    pub right : AllServed limits szx t
    right = H.all_served limits szx t law.rows

    pub stamped : AreStamped limits szx t
    stamped = are_stamped limits szx t law.rows

    pub tags : OneTag limits szx t
    tags = one_tag limits szx t law.rows

    pub gives : SentResponses limits szx setup t
    gives = sent_responses limits szx setup t law

    pub continues : NoneContinues limits szx t
    continues = none_continues limits szx setup t law

    pub follows : Follows limits szx t
    follows = O.follows limits szx setup t law

    pub methods : AllMethods limits szx t
    methods = all_methods limits szx t law.rows

    pub uploads : AllUploads limits szx t
    uploads = all_uploads limits szx t law.rows

    pub registers : AllRegister limits szx t
    registers = all_register limits szx setup t law

    pub marks : AllMark limits szx t
    marks = all_mark limits szx setup t law

    pub stays_due : StayDue limits szx t
    stays_due = stay_due limits szx t law.rows

    pub current : AreCurrent limits szx t
    current = are_current limits szx setup t law

    pub waits_on : WaitOn limits szx t
    waits_on = wait_on limits szx setup t law

    pub goes_out : AllGoOut limits szx setup t
    goes_out = all_go_out limits szx setup t law

    pub sent_as : AllSentSo limits szx setup t
    sent_as = all_sent_so limits szx setup t law

    pub none_left : NoneLeft limits szx setup t
    none_left = N.none_left limits szx setup t law

    pub leaves : AllLeave limits szx setup t
    leaves = all_leave limits szx setup t law

    pub notified : FirstIsNotified limits szx setup t
    notified = N.first_is_notified limits szx setup t law

    pub begins : AllBeginNext limits szx setup t
    begins = N.all_begin_next limits szx setup t law
