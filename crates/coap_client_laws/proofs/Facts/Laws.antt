-- What follows from the whole law of a client: the clauses of `client_law` and `client_follows_law`, for proofs above;
-- and what its calls add to its message layer, and when.
use Rattle.std.proofs.Common.{◌≡◌, max, true, false, Some, None, List, ◌∷◌, ◌++◌, refl, Ok, Err}
use Rattle.coap_types.specs.Past.{Always}
use Rattle.coap_types.specs.declared.endpoint.Endpoint.{Endpoint}
use Rattle.coap_layer.specs.Channel.{RepliesSo}
use Rattle.coap_layer.specs.Rows.{LayerLaw}
use Rattle.coap_layer.specs.declared.setup.Setup.{Setup}
use Rattle.coap_block.specs.Sizes.{Sizes}
use Rattle.coap_client_laws.specs.Follows.Sendings.{NoNons}
use Rattle.coap_client_laws.specs.Follows.Adds.{call_asks, all_asked, call_adds}
use Rattle.coap_client_laws.specs.Follows.Answered.{NoneAfter, ReportedOnce}
use Rattle.coap_client_laws.specs.Follows.Begins.{BeginAtOnce, ConsAreRequests}
use Rattle.coap_client_laws.specs.Follows.Blocks.{SendsPieces}
use Rattle.coap_client_laws.specs.Follows.Bodies.{BodiesAreWhole}
use Rattle.coap_client_laws.specs.Follows.Clock.{moment_of}
use Rattle.coap_client_laws.specs.Follows.Continued.{AreContinued}
use Rattle.coap_client.specs.Deeds.{effect, at}
use Rattle.coap_client_laws.specs.Follows.Gives.{GivesInOrder}
use Rattle.coap_client_laws.specs.Follows.FromServer.{AreFromServer}
use Rattle.coap_client.specs.Law.{ClientLaw, ClientRows, lower_of, layer_of}
use Rattle.coap_client_laws.specs.Follows.Numbers.{NumbersOnce}
use Rattle.coap_client_laws.specs.Follows.OfCalls.{AreOfCalls, OthersAreGets}
use Rattle.coap_client_laws.specs.Follows.Order.{AreInOrder, OneLast}
use Rattle.coap_client_laws.specs.Follows.HandedUp.{AreHandedUp}
use Rattle.coap_client_laws.specs.Follows.Tokens.{OneConOrCancel, OneOfToken}
use Rattle.coap_client.specs.Trace.{Call, Calls, Observes, Cancels, Forgets, Feeds, Ticks, NextOut, NextReport, Asked}
use Rattle.coap_client.specs.Own.{Own}
use Rattle.coap_client.specs.Steps.{after}
use Rattle.coap_client_laws.specs.Follows.Valid.{ValidOfTags}
use Rattle.coap_exchange.proofs.Facts.AskerReplies.{replies_so}
use Rattle.coap_client_laws.proofs.Sending.NoNons.{no_nons}
use Rattle.coap_client_laws.proofs.Sending.Begun as begun
use Rattle.coap_client_laws.proofs.Reporting.Bodies.{bodies_are_whole}
use Rattle.coap_client_laws.proofs.Uploading.Continued.{are_continued}
use Rattle.coap_client_laws.proofs.Places.Gives as gives
use Rattle.coap_client_laws.proofs.Hearing.HandedUp.{are_handed_up}
use Rattle.coap_client_laws.proofs.Hearing.FromServer.{are_from_server}
use Rattle.coap_client.proofs.Facts.Uploading.Holding.{happened_steady, passes_steady, steadied}
use Rattle.coap_client.proofs.Facts.Turning.Leading.{client_layer, client_back}
use Rattle.coap_client_laws.proofs.Places.Numbers.{numbers_once}
use Rattle.coap_client_laws.proofs.Sending.OfCalls.{are_of_calls, others_are_gets}
use Rattle.coap_client_laws.proofs.Places.ReportedOnce as once_of
use Rattle.coap_client_laws.proofs.Queueing.OneByOne as one_by_one
use Rattle.coap_client_laws.proofs.Sending.OneCon as cons
use Rattle.coap_client_laws.proofs.Uploading.Pieces as blocks
use Rattle.coap_client_laws.proofs.Sending.Tokens as token
use Rattle.coap_client_laws.proofs.Reporting.Valid.{valid_of_tags}

module _ (server : Endpoint) (sizes : Sizes) (setup : Setup) where
  pub back : (calls t : List Call) → ClientLaw server sizes setup (calls ++ t) → ClientLaw server sizes setup t
  back calls t law = client_back server sizes setup calls t law

  -- whatever the calls are
  pub nons : (t : List Call) → NoNons (layer_of server sizes setup t)
  nons t = no_nons server setup (lower_of sizes t)

  -- what a call asks of the layer, and adds there, stands in front
  pub asked_next : (past : List Call) (c : Call)
      → all_asked server sizes setup (c ∷ past) ≡ call_asks server sizes setup past c
      ++ all_asked server sizes setup past
  asked_next past c = begun.adds_front server sizes setup past c

  pub layer_next : (past : List Call) (c : Call)
      → layer_of server sizes setup (c ∷ past) ≡ call_adds server sizes setup past c ++ layer_of server sizes setup past
  layer_next past c = begun.layer_next server sizes setup past c

  module _ (t : List Call) (law : ClientLaw server sizes setup t) where
    pub layer : LayerLaw setup (layer_of server sizes setup t)
    layer = client_layer server sizes setup t law

    pub replies : Always RepliesSo (layer_of server sizes setup t)
    replies = replies_so server setup (lower_of sizes t) law.exchanges.rows law.exchanges.left law.exchanges.layer

    pub begins : ConsAreRequests server sizes setup t
    begins = begun.cons_are_requests server sizes setup t law

    pub begins_now : BeginAtOnce server sizes setup t
    begins_now = begun.begin_at_once server sizes setup t law

    pub one_con : OneConOrCancel server sizes setup t
    one_con = cons.one_con server sizes setup t law

    pub tokens : OneOfToken sizes t
    tokens = token.one_of_token sizes server setup t law

    pub order : AreInOrder sizes t
    order = one_by_one.are_in_order sizes server setup t law

    pub one_last : OneLast sizes t
    one_last = one_by_one.one_last sizes server setup t law

    pub handed_up : AreHandedUp server sizes setup t
    handed_up = are_handed_up server sizes setup t law

    pub from_server : AreFromServer server t
    from_server = are_from_server server sizes setup t law

    pub pieces : SendsPieces sizes t
    pieces = blocks.sends_pieces sizes server setup t law

    pub continued : AreContinued sizes t
    continued = are_continued server sizes setup t law

    pub numbers : NumbersOnce t
    numbers = numbers_once server sizes setup t law.rows law.exchanges.rows

    pub once : ReportedOnce server sizes setup t
    once = once_of.reported_once server sizes setup t law

    pub none_after : NoneAfter server sizes setup t
    none_after = blocks.none_after sizes server setup t law

    pub bodies : BodiesAreWhole sizes t
    bodies = bodies_are_whole server sizes setup t law

    pub valid : ValidOfTags sizes t
    valid = valid_of_tags server sizes setup t law

-- whatever the calls are
pub of_calls : (sizes : Sizes) (t : List Call) → AreOfCalls sizes t
of_calls sizes t = are_of_calls sizes t

pub others : (sizes : Sizes) (t : List Call) → OthersAreGets sizes t
others sizes t = others_are_gets sizes t

-- the reports that were made and not given wait
pub waits : (sizes : Sizes) (t : List Call) → ClientRows sizes t → GivesInOrder sizes t
waits sizes t rows = gives.waits sizes t rows

-- The moment of a call counts.
pub clock_is : (s : Own) (c : Call) → (after s c).clock ≡ moment_of s c
clock_is s (Calls now r (Ok number)) = refl
clock_is s (Observes now path (Ok number)) = refl
clock_is s (Cancels now number None) = refl
clock_is s (Forgets number kept true) = refl
clock_is s (Feeds now from bytes word up settled event sent token kept) =
    let e = effect s (Feeds now from bytes word up settled event sent token kept) in
    (steadied (at now s) (max s.clock now) e token e.deed refl
    (happened_steady (at now s) (max s.clock now) event)).clock
clock_is s (Ticks now word below t sent token kept answer) =
    let e = effect s (Ticks now word below t sent token kept answer) in
    (steadied (at now s) (max s.clock now) e token e.deed refl (passes_steady (at now s) (max s.clock now) t)).clock
clock_is s _ = refl
