-- What each call of the client's side asks of the message layer, answers and leaves (RFC 7252, sections 4.2, 5.2, 5.3).
use Rattle.std.specs.Prelude.{◌≡◌, max, List, [], ◌∷◌, ◌++◌}
use Rattle.coap_layer.specs.Trace as L
use Rattle.coap_layer.specs.Machine.Steps.{Asked}
use Rattle.coap_exchange.specs.AskerTrace.{Own, Call, Ask, Receive, Ticks, Keep, Release, Take}
use Rattle.coap_exchange.specs.Tokens.{is_kept, may_keep, kept_with, kept_without}
use Rattle.coap_exchange.specs.AskerRequests.{asked, opening_of, request_token, content_of, beneath, sent_as}
use Rattle.coap_exchange.specs.AskerRequests.{ask_answer, opened}
use Rattle.coap_exchange.specs.AskerArrivals.{verdict_on, acts, told, running_after, turn_of, running_unless}

abbrev pub lower : Own → Call → List Asked
lower s (Ask now r word below answer) =
    asked now (beneath (opening_of s r) s.server (content_of (request_token s r) r) word) below ∷ []
lower s (Receive now from bytes up settled answer) =
    acts s from up settled (verdict_on s from up) ++ asked now (L.Receive from bytes) up ∷ []
lower s (Ticks now below answer) = asked now L.Ticks below ∷ []
lower s (Keep token answer) = []
lower s (Release token answer) = []
lower s (Take answer) = asked 0 L.Take (L.Gives answer) ∷ []

abbrev pub IsRight : Own → Call → Type 0
IsRight s (Ask now r word below answer) = answer ≡ ask_answer (opening_of s r) below (request_token s r)
IsRight s (Receive now from bytes up settled answer) = answer ≡ told (verdict_on s from up) up
IsRight s (Ticks now below answer) = answer ≡ turn_of s (max s.clock now) below
IsRight s (Keep token answer) = answer ≡ may_keep token s.kept
IsRight s (Release token answer) = answer ≡ is_kept token s.kept
IsRight s (Take answer) = Unit {0}

abbrev pub after : Own → Call → Own
after s (Ask now r word below answer) =
    let t = opened s r (sent_as (opening_of s r) below) in record t { clock = max s.clock now }
after s (Receive now from bytes up settled answer) =
    record s { clock = max s.clock now; running = running_after (max s.clock now) (verdict_on s from up) s.running }
after s (Ticks now below answer) = record s { clock = max s.clock now; running = running_unless answer s.running }
after s (Keep token answer) = record s { kept = kept_with token s.kept }
after s (Release token answer) = record s { kept = kept_without token s.kept }
after s (Take answer) = s
