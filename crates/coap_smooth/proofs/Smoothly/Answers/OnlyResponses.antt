-- What a server sends in a CON or in a NON is a response (RFC 7252, section 5.2).
use Rattle.std.proofs.Common.{◌≡◌, List, [], ◌∷◌}
use Rattle.coap_types.specs.Roles.{role_of}
use Rattle.coap_types.specs.declared.endpoint.Endpoint.{Endpoint}
use Rattle.coap_types.specs.declared.role.Role.TheVariants as role
use Rattle.coap_layer.specs.Machine.State.{start}
use Rattle.coap_layer.specs.Trace as L
use Rattle.coap_layer.specs.declared.setup.Setup.{Setup}
use Rattle.coap_exchange.specs.AnswererLaw as answerer
use Rattle.coap_exchange.specs.AnswererSteps as P
use Rattle.coap_exchange.specs.AnswererTrace as R
use Rattle.coap_promise.proofs.Facts.Delivery.EntriesInTime.{Every, every_join}
use Rattle.coap_smooth.proofs.Smoothly.Answers.Confirms.{IsAskedSo, IsEntrySo, SendsSo, sends_so, entries_so}

abbrev pub IsResponse : Endpoint → L.Content → Type 0
IsResponse to content = role_of content.code ≡ role.Response

responds_so : (s : R.Own) (c : R.Call) → P.IsRight s c → SendsSo IsResponse IsResponse c
responds_so s (R.Answers a r below) right = right.1.code
responds_so s (R.Responds now a r word id) right = right.1.code
responds_so s (R.Notifies now to token r word id) right = right.code
responds_so s (R.NotifiesPlain now to token r id) right = right.code
responds_so s _ right = tt

asked_so : (t : List R.Call) → answerer.AnswererLaw t → Every (IsAskedSo IsResponse IsResponse) (answerer.lower_of t)
asked_so [] law = tt
asked_so (c ∷ t) law =
    every_join (IsAskedSo IsResponse IsResponse) (P.lower (answerer.own_of t) c) (answerer.lower_of t)
    (sends_so IsResponse IsResponse (answerer.own_of t) c (responds_so (answerer.own_of t) c law.0)) (asked_so t law.1)

pub all_respond : (setup : Setup) (t : List R.Call) → answerer.AnswererLaw t
    → Every (IsEntrySo IsResponse IsResponse) (answerer.below_of setup t)
all_respond setup t law = entries_so IsResponse IsResponse (start setup) (answerer.lower_of t) (asked_so t law)
