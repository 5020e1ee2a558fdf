-- Why an answer was refused, of the server in a handle.
use Rattle.std.proofs.Common.{◌≡◌, ℕ, ℤ, List, Some, subst}
use Rattle.coap_types.specs.CoapOption.{CoapOption}
use Rattle.coap_codec.specs.Message.{Message, Spells}
use Rattle.coap_exchange.specs.declared.answerer.Asked.{Asked}
use Rattle.coap_exchange.specs.AnswererTrace.{Response}
use Rattle.coap_handlers.specs.Refusals.{IsAnswerRefused, IsRespondRefused}
use Rattle.knifesilver_exchange.specs.declared.crossing.KsAsked.{KsAsked}
use Rattle.knifesilver_exchange.specs.declared.held.Held.{Held}
use Rattle.knifesilver_exchange.specs.declared.held.Held.TheVariants.{Answerer, Asker, Fetch, Upload, Assembly}
use Rattle.knifesilver_exchange.specs.Calls.{RefusesAnswer, RefusesRespond, response_in}
use Rattle.knifesilver_exchange.specs.Crossing.{AreAsked}
use Rattle.knifesilver_exchange.specs.Held.{IsNamedFor}

-- what is sent is what the message says
pub same_response : (code d : ℕ) (options os : List CoapOption) (payload p : List ℕ) → code ≡ d → options ≡ os → payload
    ≡ p
    → ◌≡◌ {A = Response} (record { code = code; options = options; payload = payload })
    (record { code = d; options = os; payload = p })
same_response code d options os payload p a b e = λ i. record { code = a i; options = b i; payload = e i }

pub answer_named : (answer : ℤ) (told : KsAsked) (message : List ℕ) (a : Asked) (m : Message) (r : Response)
    (held : Held)
    → AreAsked told a → Spells message m → r ≡ response_in m
    → IsNamedFor answer (λ why s. IsAnswerRefused why s a r) (Some held)
    → IsNamedFor answer (RefusesAnswer told message) (Some held)
answer_named answer told message a m r (Answerer s) asked spells same h =
    (h.0, h.1, (a, m, asked, spells, subst (λ (x : Response). IsAnswerRefused h.0 s a x) same h.2))
answer_named answer told message a m r (Asker x) asked spells same h = absurd h.2
answer_named answer told message a m r (Fetch x) asked spells same h = absurd h.2
answer_named answer told message a m r (Upload x) asked spells same h = absurd h.2
answer_named answer told message a m r (Assembly x) asked spells same h = absurd h.2

pub respond_named : (answer : ℤ) (told : KsAsked) (message : List ℕ) (a : Asked) (m : Message) (r : Response)
    (held : Held)
    → AreAsked told a → Spells message m → r ≡ response_in m
    → IsNamedFor answer (λ why s. IsRespondRefused why s a r) (Some held)
    → IsNamedFor answer (RefusesRespond told message) (Some held)
respond_named answer told message a m r (Answerer s) asked spells same h =
    (h.0, h.1, (a, m, asked, spells, subst (λ (x : Response). IsRespondRefused h.0 s a x) same h.2))
respond_named answer told message a m r (Asker x) asked spells same h = absurd h.2
respond_named answer told message a m r (Fetch x) asked spells same h = absurd h.2
respond_named answer told message a m r (Upload x) asked spells same h = absurd h.2
respond_named answer told message a m r (Assembly x) asked spells same h = absurd h.2
