-- What a client hears answers the request that it sent last (RFC 7252, section 5.3.2).
use Rattle.std.specs.Prelude.{◌≡◌, ℕ, true, Some, List}
use Rattle.coap_types.specs.Past.{Always}
use Rattle.coap_codec.specs.Message.{Message}
use Rattle.coap_block.specs.Sizes.{Sizes}
use Rattle.coap_client.specs.Trace.{Call}
use Rattle.coap_client.specs.Law.{own_of}
use Rattle.coap_client.specs.Sendings.{Sending, hears, last_sent, runs_call, runs_fetch}

module _ (sizes : Sizes) where
  -- What is heard answers the request that was sent last, under its token, and that is one of the operation that runs.
  pub record Answers (past : List Call) (c : Call) (m : Message) : Type 0 where
    pub sending : Sending
    pub last : last_sent sizes past ≡ Some sending
    pub token : sending.token ≡ m.token
    pub number : (k : ℕ) → runs_call k (own_of sizes past).running ≡ true → runs_call k (Some sending.operation) ≡ true
    pub observation : (k : ℕ) → runs_fetch k (own_of sizes past).running ≡ true
        → runs_fetch k (Some sending.operation) ≡ true

  abbrev pub AnswersLast : List Call → Type 0
  AnswersLast trace = Always (λ past c. (m : Message) → hears c ≡ Some m → Answers past c m) trace
