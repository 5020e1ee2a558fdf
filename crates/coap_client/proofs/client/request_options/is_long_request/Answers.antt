use Rattle.std.proofs.Common.{Some, [], ◌∷◌, subst, sym, arith}
use Rattle.coap_client.specs.Object.CallShown.{IsGood, shown_request}
use Rattle.coap_client.proofs.Facts.Calls.AskableRequests.{good_call, good_tail, ranges_of}
use Rattle.coap_client.proofs.client.request_options.is_long_request.Goals as goal

pub exceed-requires : goal.exceed-requires
exceed-requires g c =
    subst (IsGood 0) (sym c.push_call.ensures)
    (good_call (shown_request c.args.request.now) _ (ranges_of c.args.request.now c.ranges-2.ensures)
    (good_tail c.block_option_number-number.result
    (Some (255 ∷ 255 ∷ 255 ∷ [])) c.block_option_number-number.ensures.least c.block_option_number-number.ensures.most
    (omega arith)))
