-- What the law functions say of parts, of a fetch, of an upload and of an assembly.
use Rattle.coap_block.specs.Whole.{OneBody, OneBodyAtServer}
use Rattle.coap_block.specs.Gathered.{GatheredByPart, WholeByParts}
use Rattle.coap_block.specs.FetchTrace.{BodyIsShort, GatheredIsShort, PartsAreGathered, WholeByHistory}
use Rattle.coap_block.specs.UploadStep.{ContinuesIsTested}
use Rattle.coap_block.specs.Sent.{SentByPart, WholeBySent}
use Rattle.coap_block.specs.AssemblyTrace.{FewPartials, NoneLeft, OneForAKey, OthersStay, PartialsByHistory}
use Rattle.coap_block.specs.AssemblyTrace.{ForgettingLeaves, ForgottenHasNone, WholeByBlocks}
use Rattle.coap_block.specs.PartialTimes.{ThereAtMoment, ThereByHistory}
use Rattle.coap_block.proofs.Joining.OneBody as wholes
use Rattle.coap_block.proofs.Fetching.WholeByParts as fetches
use Rattle.coap_block.proofs.Fetching.PartsOfHistory as histories
use Rattle.coap_block.proofs.Fetching.BodiesAreShort as shorts
use Rattle.coap_block.proofs.Sending.SentInOrder as uploads
use Rattle.coap_block.proofs.Joining.BlocksOfHistory as assemblies
use Rattle.coap_block.proofs.Joining.OthersOfAPeer as peers
use Rattle.coap_block.proofs.Joining.ThereExactly as times

pub one_body : OneBody
one_body = wholes.one_body

pub one_body_at_server : OneBodyAtServer
one_body_at_server = wholes.one_body_at_server

pub gathered_by_part : GatheredByPart
gathered_by_part = fetches.gathered_by_part

pub whole_by_parts : WholeByParts
whole_by_parts = fetches.whole_by_parts

pub parts_are_gathered : PartsAreGathered
parts_are_gathered = histories.parts_are_gathered

pub whole_by_history : WholeByHistory
whole_by_history = histories.whole_by_history

pub gathered_is_short : GatheredIsShort
gathered_is_short = shorts.gathered_is_short

pub body_is_short : BodyIsShort
body_is_short = shorts.body_is_short

-- whether an answer lets an upload go on
pub continues_is_tested : ContinuesIsTested
continues_is_tested = uploads.continues_is_tested

pub sent_by_part : SentByPart
sent_by_part = uploads.sent_by_part

pub whole_by_sent : WholeBySent
whole_by_sent = uploads.whole_by_sent

pub partials_by_history : PartialsByHistory
partials_by_history = assemblies.partials_by_history

pub few_partials : FewPartials
few_partials = assemblies.few_partials

pub one_for_a_key : OneForAKey
one_for_a_key = assemblies.one_for_a_key

pub whole_by_blocks : WholeByBlocks
whole_by_blocks = assemblies.whole_by_blocks

pub none_left : NoneLeft
none_left = assemblies.none_left

pub others_stay : OthersStay
others_stay = assemblies.others_stay

-- when a partial body is there
pub there_by_history : ThereByHistory
there_by_history = times.there_by_history

pub there_at_moment : ThereAtMoment
there_at_moment = times.there_at_moment

-- what is left where an endpoint is forgotten
pub forgotten_has_none : ForgottenHasNone
forgotten_has_none = peers.forgotten_has_none

pub forgetting_leaves : ForgettingLeaves
forgetting_leaves = peers.forgetting_leaves
