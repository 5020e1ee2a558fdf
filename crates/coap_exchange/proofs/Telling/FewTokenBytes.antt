-- The token of what the client's side tells has at most 8 bytes.
use Rattle.std.proofs.Common.{◌≡◌, ◌≤◌, ℕ, Option, Some, None, IfSome, List, length, refl, sym, subst}
use Rattle.coap_types.specs.declared.endpoint.Endpoint.{Endpoint}
use Rattle.coap_types.specs.declared.token.TheConstants.{MAX_TOKEN_LEN as max_token_len}
use Rattle.coap_codec.specs.Message.{Message}
use Rattle.coap_layer.specs.Machine.State as L
use Rattle.coap_layer.specs.Trace as T
use Rattle.coap_exchange.specs.declared.matching.Verdict.{Verdict}
use Rattle.coap_exchange.specs.declared.matching.Verdict.TheVariants.{AnswerCon, Answer}
use Rattle.coap_exchange.specs.declared.matching.Verdict.TheVariants.{NoticeCon, Notice}
use Rattle.coap_exchange.specs.AskerTrace.{Own}
use Rattle.coap_exchange.specs.AskerArrivals.{told, verdict_on}
use Rattle.coap_exchange.specs.AskerFollows.{message_told}
use Rattle.coap_layer.specs.Machine.Calls.{message_in}
use Rattle.coap_layer.proofs.Facts.HandedUp.{spelled}
use Rattle.coap_exchange.proofs.Facts.Verdicts.{Fits, verdict_fits}

-- what is told is what was handed up
abbrev IsIn : T.Answer → Verdict → Type 0
IsIn up v = IfSome (message_told (told v up)) (λ m. message_in up ≡ Some m)

told_in : (s : Own) (from : Endpoint) (up : T.Answer) (v : Verdict) → Fits s from up v → IsIn up v
told_in s from up AnswerCon f = subst (λ u. IsIn u AnswerCon) (sym f.is) refl
told_in s from up Answer f = subst (λ u. IsIn u Answer) (sym f.is) refl
told_in s from up NoticeCon f = subst (λ u. IsIn u NoticeCon) (sym f.is) refl
told_in s from up Notice f = subst (λ u. IsIn u Notice) (sym f.is) refl
told_in s from up _ f = tt

each : (o : Option Message) (P Q : Message → Type 0) → IfSome o P → ((m : Message) → P m → Q m) → IfSome o Q
each None P Q h f = tt
each (Some m) P Q h f = f m h

pub told_few : (s : Own) (old new : L.State) (now : ℕ) (from : Endpoint) (bytes : List ℕ) (up : T.Answer)
    → L.Step old now (T.Receive from bytes) up new
    → IfSome (message_told (told (verdict_on s from up) up)) (λ m. length m.token ≤ max_token_len)
told_few s old new now from bytes up step =
    each (message_told (told (verdict_on s from up) up)) (λ m. message_in up ≡ Some m)
    (λ m. length m.token ≤ max_token_len)
    (told_in s from up (verdict_on s from up) (verdict_fits s from up))
    (λ m h. (spelled old new now from bytes up m step h).token)
