-- What is told of a response or a notification that ended.
use Rattle.std.specs.Prelude.{◌≡◌, ℤ, pos, Option, Some, None}
use Rattle.coap_exchange.specs.declared.answerer.Ended.{Ended}
use Rattle.coap_server.specs.Led.{State}
use Rattle.knifesilver.specs.ShortBytes.{AreIn}
use Rattle.knifesilver.specs.declared.server.ended.KsEnded.{KsEnded}

-- where it went, its token, and whether it carried Observe
pub record IsEnding (told : KsEnded) (ended : Ended) : Type 0 where
  pub to : told.to ≡ record { ip = ended.to.ip; port = ended.to.port }
  pub token : AreIn ended.token told.token told.token_len
  pub observe : told.observe ≡ ended.observe

-- none ended, and the answer is 0; or the answer is 1, and it is told
abbrev pub EndedAnswers : ℤ → KsEnded → Option Ended → Type 0
EndedAnswers answer told None = answer ≡ pos 0
EndedAnswers answer told (Some ended) = (answer ≡ pos 1) × IsEnding told ended

-- what the last input of a server in this state ended
abbrev pub TellsEnded : ℤ → KsEnded → State → Type 0
TellsEnded answer told s = EndedAnswers answer told s.own.exchanges.ended
