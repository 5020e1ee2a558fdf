-- What a client's program takes as the success of a call was applied by the server, in a run whose calls are made in
-- any order.
use Rattle.std.specs.Prelude.{◌≡◌, ℕ, true, Some, List}
use Rattle.coap_types.specs.Past.{Always, Sometime}
use Rattle.coap_client.specs.Trace.{Done, NextReport}
use Rattle.coap_promise.specs.Words.{AppliesFor}
use Rattle.coap_record.specs.Events.{Config}
use Rattle.coap_record.specs.Record.{Entry, OfClient}

module _ (config : Config) where
  -- a request of the call is applied here, and its reply has this code
  pub record AppliesHere (number code : ℕ) (all past : List Entry) (e : Entry) : Type 0 where
    pub applies : AppliesFor config number all past e
    pub code_is : applies.request.reply.code ≡ code

  -- Where success is taken, a request that the client sent for the call was applied before, and this is its code.
  abbrev pub SuccessesApplied : List Entry → Type 0
  SuccessesApplied run = (number code : ℕ)
      → Always (λ past e. e ≡ OfClient (NextReport (Some (record { number = number; report = Done code })))
      → Sometime (AppliesHere number code run) past) run
