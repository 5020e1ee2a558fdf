-- The numbers of the refusals of a request that is to be sent.
use Rattle.std.specs.Prelude.{ℕ}
use Rattle.coap_exchange.specs.declared.asker.AskRefusal.{AskRefusal}
use Rattle.coap_exchange.specs.declared.asker.AskRefusal.TheVariants as ask

-- the number of the refusal of a request
abbrev pub ask_refusal_number : AskRefusal → ℕ
ask_refusal_number ask.Running = 1
ask_refusal_number ask.NoIds = 2
ask_refusal_number ask.Memory = 3
ask_refusal_number ask.TokensSpent = 4
