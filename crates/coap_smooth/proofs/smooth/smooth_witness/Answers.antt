use Rattle.coap_smooth.proofs.Delivery.SmoothGaps.{times_out_roughly}
use Rattle.coap_smooth.proofs.Witness.DefersByDue.{deferred_by_due}
use Rattle.coap_smooth.proofs.Witness.DefersLate.{deferred_late}
use Rattle.coap_smooth.proofs.Witness.DefersLongest.{deferred_longest}
use Rattle.coap_smooth.proofs.Witness.PutsInBlocks.{put_in_blocks}
use Rattle.coap_smooth.proofs.Facts.Witness.PutsLate.{put_late}
use Rattle.coap_smooth.proofs.Witness.ShowsLate.{shows_late}
use Rattle.coap_smooth.proofs.Witness.ShowsPlain.{shown_plain}
use Rattle.coap_smooth.proofs.Witness.StaysOld.{stays_old}
use Rattle.coap_smooth.proofs.Witness.Unanswered.{unanswered}
use Rattle.coap_smooth.proofs.smooth.smooth_witness.Goals as goal

pub returns : goal.returns
returns c = record {
  late = deferred_late;
  longest = deferred_longest;
  by_due = deferred_by_due;
  put = put_late;
  rough = times_out_roughly;
  unanswered = unanswered;
  shown = shows_late;
  plain = shown_plain;
  blocks = put_in_blocks;
  old = stays_old;
}
