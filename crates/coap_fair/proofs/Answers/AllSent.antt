-- Where nothing is observed, few messages come and each exchange ends by an answer, each request is sent.
use Rattle.std.proofs.Common.{◌≡◌, ℕ, ◌+◌, true, false, cond, Option, Some, None, List, [], ◌∷◌, refl, ap, sym, ◌∙◌}
use Rattle.std.proofs.Common.{arith, is_some, ◌&&◌}
use Rattle.coap_types.specs.Past.{Always}
use Rattle.coap_layer.specs.Taking.{is_then}
use Rattle.coap_exchange.specs.Counts.{count_then}
use Rattle.coap_client_laws.specs.Follows.CallsAlone.{CallsAlone}
use Rattle.coap_client_laws.specs.Follows.Free.{clock_of, is_answered, SentWhereAnswered}
use Rattle.coap_client_laws.specs.Follows.Tokens.{OwnTokens}
use Rattle.coap_client.specs.Law.{ClientLaw}
use Rattle.coap_client.specs.Trace as C
use Rattle.coap_smooth.specs.EndsSmoothly.{SentByAnswers}
use Rattle.coap_record.specs.Events.{Config, Event}
use Rattle.coap_record.specs.Legal.{Legal}
use Rattle.coap_record.specs.Record.{Turn, RecordOf, entries_of, client_of, server_of}
use Rattle.coap_smooth.specs.Smooth as W
use Rattle.coap_smooth.specs.Smooth.{FewCome, NoneObserved, count_came, to_server}
use Rattle.coap_promise.proofs.Facts.Requests.Promised.{lawful}
use Rattle.coap_fair.proofs.Runs.FewHeard.{AtClock, few_heard, of_turns, clock_small}
use Rattle.coap_smooth.proofs.Smoothly.MessageIds.HandedBetween.{answered_at, handed_between}
use Rattle.coap_fair.proofs.Runs.Stands.{stands}
use Rattle.coap_exchange.specs.declared.asker.Event.TheVariants as event_of

-- a call is answered where it has a moment for that
answered_when : (c : C.Call) → is_some (answered_at c) ≡ is_answered c
answered_when (C.Feeds now from bytes word up settled None sent token kept) = refl
answered_when (C.Feeds now from bytes word up settled (Some (event_of.Answer m)) sent token kept) = refl
answered_when _ = refl

module _ (config : Config) (u : ℕ) where
  -- counted by the clock, as by these moments
  same_count : (t : List C.Call) → Always (AtClock config.client_sizes) t
      → count_then (clock_of config.client_sizes) is_answered u t ≡ count_came answered_at u t
  same_count [] at = refl
  same_count (c ∷ t) at = by (answered_at c) refl (same_count t at.1)
    where
      n : ℕ
      n = count_then (clock_of config.client_sizes) is_answered u t

      k : ℕ
      k = count_came answered_at u t

      by : (o : Option ℕ) → answered_at c ≡ o → n ≡ k
          → count_then (clock_of config.client_sizes) is_answered u (c ∷ t) ≡ count_came answered_at u (c ∷ t)
      by None is same =
          let none : is_answered c ≡ false = sym (answered_when c) ∙ ap is_some is in
          ap (λ b. cond (b && is_then u (clock_of config.client_sizes (c ∷ t))) (1 + n) n) none
          ∙ (same ∙ sym (ap (λ o. cond (W.is_then u o) (1 + k) k) is))
      by (Some m) is same =
          let some : is_answered c ≡ true = sym (answered_when c) ∙ ap is_some is in
          ap (λ b. cond (b && is_then u (clock_of config.client_sizes (c ∷ t))) (1 + n) n) some
          ∙ (ap (λ at. cond (is_then u at) (1 + n) n) (at.0 m is)
          ∙ (ap (λ z. cond (is_then u m) (1 + z) z) same ∙ sym (ap (λ o. cond (W.is_then u o) (1 + k) k) is)))

pub all_sent : (config : Config) (events : List Event) (turns : List Turn) → RecordOf config events turns
    → Legal config turns → FewCome config.server_setup to_server (server_of (entries_of turns)) → NoneObserved turns
    → ((t : List C.Call) → ClientLaw config.addresses.server config.client_sizes config.client_setup t
    → OwnTokens config.client_sizes t)
    → ((t : List C.Call) → ClientLaw config.addresses.server config.client_sizes config.client_setup t
    → CallsAlone config.client_sizes t)
    → SentWhereAnswered config.client_sizes (client_of (entries_of turns)) → SentByAnswers config turns
all_sent config events turns run legal few none own alone sent by_answers =
    let s = stands config events turns run legal in
    let t = of_turns config turns s in
    let between = handed_between config own alone (entries_of turns) (lawful config events turns run legal) none in
    sent 4097 (omega arith) by_answers
    (λ u. (let a = same_count config u (client_of (entries_of turns)) t.clock in
    let b = few_heard u (entries_of turns) between t.rises in
    let c = (few u).1 in
    omega (arith, a, b, c)))
    (clock_small config turns s)
