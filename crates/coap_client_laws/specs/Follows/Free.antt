-- Where each request of a client is sent: a Message ID and a token are free for it where few exchanges end (RFC 7252,
-- sections 4.4 and 5.3.1; the numbers are a profile).
use Rattle.std.specs.Prelude.{◌≡◌, ◌≤◌, ◌<◌, ℕ, ◌*◌, ◌^◌, Bool, ◌||◌, is_some, None, Some, List}
use Rattle.coap_types.specs.Past.{Always}
use Rattle.coap_types.specs.declared.message.TheConstants.{MESSAGE_IDS as message_ids}
use Rattle.coap_block.specs.Sizes.{Sizes}
use Rattle.coap_exchange.specs.Counts.{AreFew}
use Rattle.coap_client.specs.Trace.{Call}
use Rattle.coap_client.specs.Law.{own_of}
use Rattle.coap_client_laws.specs.Follows.Ends.{ends_as, Unsent, unsent}
use Rattle.coap_client.specs.Sendings.{hears}

-- an exchange ends here: its answer is heard, or it ends without one
abbrev pub is_over : Call → Bool
is_over c = is_some (hears c) || is_some (ends_as c)

-- its answer is heard
abbrev pub is_answered : Call → Bool
is_answered c = is_some (hears c)

-- each exchange that ends does so by its answer
abbrev pub EndByAnswers : List Call → Type 0
EndByAnswers t = Always (λ past c. ends_as c ≡ None) t

module _ (sizes : Sizes) where
  abbrev pub clock_of : List Call → ℕ
  clock_of past = (own_of sizes past).clock

  -- fewer exchanges than so many end in EXCHANGE_LIFETIME, and fewer answers are heard
  abbrev pub FewEnd : ℕ → List Call → Type 0
  FewEnd most t = AreFew clock_of is_over most t

  abbrev pub FewAnswered : ℕ → List Call → Type 0
  FewAnswered most t = AreFew clock_of is_answered most t

  -- each request that is asked for is sent
  abbrev pub AllAreSent : List Call → Type 0
  AllAreSent t = Always (λ past c. (u : Unsent) → unsent (own_of sizes past) c ≡ Some u → ⊥) t

  -- Where fewer exchanges end in each EXCHANGE_LIFETIME than a quarter of the Message IDs, that is so while the clock
  -- has 64 bits ..
  abbrev pub SentWhereFewEnd : List Call → Type 0
  SentWhereFewEnd t = (most : ℕ) → 4 * most ≤ message_ids → FewEnd most t → clock_of t < 2 ^ 64 → AllAreSent t

  -- .. and so it is where each ends by its answer, and fewer answers are heard.
  abbrev pub SentWhereAnswered : List Call → Type 0
  SentWhereAnswered t =
      (most : ℕ) → 4 * most ≤ message_ids → EndByAnswers t → FewAnswered most t → clock_of t < 2 ^ 64 → AllAreSent t
