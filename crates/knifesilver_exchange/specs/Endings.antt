-- What is told of what a server sent, and a Reset or a failure ended (RFC 7252, section 5.2.2; RFC 7641, sections 3.6
-- and 4.5).
use Rattle.std.specs.Prelude.{◌≡◌, ℕ, ℤ, pos, Bool, Option, Some, None}
use Rattle.coap_exchange.specs.declared.answerer.Ended.{Ended}
use Rattle.coap_exchange.specs.AnswererTrace.{Sending}
use Rattle.coap_handlers.specs.Shown.{Shown}
use Rattle.knifesilver_exchange.specs.ShortBytes.{AreIn}
use Rattle.knifesilver_exchange.specs.declared.crossing.KsAddress.{KsAddress}
use Rattle.knifesilver_exchange.specs.declared.crossing.KsToken.{KsToken}

-- where it went, its token, and whether it carried Observe
abbrev pub IsEnd : KsAddress → KsToken → Bool → Ended → Type 0
IsEnd to token observe x = (to ≡ record { ip = x.to.ip; port = x.to.port }) × AreIn x.token token.bytes token.len
    × (observe ≡ x.observe)

-- nothing ended, and the answer is 0; or something did, and it is told
abbrev pub EndAnswers : ℤ → KsAddress → KsToken → Bool → Option Ended → Type 0
EndAnswers answer to token observe None = answer ≡ pos 0
EndAnswers answer to token observe (Some x) = (answer ≡ pos 1) × IsEnd to token observe x

abbrev pub HasEnded : ℤ → KsAddress → KsToken → Bool → Shown → Type 0
HasEnded answer to token observe s = EndAnswers answer to token observe s.state.own.ended

-- no Reset of what is not outstanding came, and the answer is 0; or one did, and it is told from where, with its
-- Message ID
abbrev pub ResetAnswers : ℤ → KsAddress → ℕ → Option Sending → Type 0
ResetAnswers answer from id None = answer ≡ pos 0
ResetAnswers answer from id (Some x) =
    (answer ≡ pos 1) × (from ≡ record { ip = x.to.ip; port = x.to.port }) × (id ≡ x.id)

abbrev pub HasUnmatched : ℤ → KsAddress → ℕ → Shown → Type 0
HasUnmatched answer from id s = ResetAnswers answer from id s.state.own.unmatched
