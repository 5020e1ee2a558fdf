-- What hands up a request ends no separate response and no notification.
use Rattle.std.proofs.Common.{◌≡◌, ℕ, Option, Some, None, List, [], ◌∷◌, IfSome, refl}
use Rattle.coap_types.specs.declared.endpoint.Endpoint.{Endpoint}
use Rattle.coap_codec.specs.Message.{Message}
use Rattle.coap_layer.specs.Trace as T
use Rattle.coap_exchange.specs.declared.answerer.Asked.{Asked}
use Rattle.coap_exchange.specs.declared.separate.Separate.{Separate}
use Rattle.coap_exchange.specs.AnswererTrace.{Call, Incoming}
use Rattle.coap_exchange.specs.AnswererSteps.{handed_up, reset_by}
use Rattle.coap_exchange.specs.AnswererLaw.{own_of, AnswererLaw}
use Rattle.coap_exchange.specs.AnswererFollows.{hands, end_told}
use Rattle.coap_exchange.specs.AnswererTells.{HandsOrEnds}

pub none_ended : (from : Endpoint) (up : T.Answer) (p : Asked × Message) (xs : List Separate)
    → Some p ≡ handed_up from up → reset_by from up xs ≡ None
none_ended from (T.Becomes (T.Reset id)) p xs e = absurd (cc e)
none_ended from _ p xs e = refl

by : (past : List Call) (now : ℕ) (from : Endpoint) (bytes : List ℕ) (up : T.Answer) (answer : Option (Asked × Message))
    → answer ≡ handed_up from up
    → IfSome (hands (Incoming now from bytes up answer))
    (λ asked. (end_told past (Incoming now from bytes up answer) ≡ None)
    × ((own_of (Incoming now from bytes up answer ∷ past)).ended ≡ None))
by past now from bytes up None h = tt
by past now from bytes up (Some p) h = let none = none_ended from up p (own_of past).separate h in (none, none)

pub hands_or_ends : (t : List Call) → AnswererLaw t → HandsOrEnds t
hands_or_ends [] law = tt
hands_or_ends (Incoming now from bytes up answer ∷ t) law = (by t now from bytes up answer law.0, hands_or_ends t law.1)
hands_or_ends (_ ∷ t) law = (tt, hands_or_ends t law.1)
