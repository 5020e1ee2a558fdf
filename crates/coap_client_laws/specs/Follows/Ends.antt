-- Of which numbers a client's reports are, and how an exchange ends without a response, or none begins (RFC 7252,
-- sections 4.2, 4.4, 5.2.2 and 5.3.1).
use Rattle.std.specs.Prelude.{◌≡◌, ◌⊎◌, ℕ, Bool, true, false, Option, Some, None, List, Result, Err}
use Rattle.std.specs.Option.{option_map}
use Rattle.coap_types.specs.Past.{Ever, Always}
use Rattle.coap_block.specs.Sizes.{Sizes}
use Rattle.coap_exchange.specs.declared.asker.AskRefusal.{AskRefusal}
use Rattle.coap_exchange.specs.declared.asker.AskRefusal.TheVariants as refusal
use Rattle.coap_exchange.specs.declared.asker.Event.TheVariants as event
use Rattle.coap_exchange.specs.declared.asker.Turn.TheVariants as turn
use Rattle.coap_client.specs.Trace.{Report, Timeout, Reset, NoResponse, NoIds, Reported, Call, Feeds}
use Rattle.coap_client.specs.Trace.{Ticks}
use Rattle.coap_client.specs.Own.{Operation, Calling, Registering, Fetching, Cancelling, Dropped, Own}
use Rattle.coap_client.specs.Effects.{Deed, Asks}
use Rattle.coap_client.specs.Deeds.{effect}
use Rattle.coap_client_laws.specs.Follows.Numbers.{number_given}
use Rattle.coap_client.specs.Steps.{reports}
use Rattle.coap_client.specs.Law.{own_of}
use Rattle.coap_client.specs.Sendings.{Sending, last_sent}

-- how the exchanges say that the one that runs ends: by a Reset, a failure, or want of a response
abbrev pub ends_as : Call → Option Report
ends_as (Feeds now from bytes word up settled (Some event.Reset) sent token kept) = Some Reset
ends_as (Ticks now word below (turn.End event.Timeout) sent token kept answer) = Some Timeout
ends_as (Ticks now word below (turn.End event.NoResponse) sent token kept answer) = Some NoResponse
ends_as c = None

abbrev pub is_end : Report → Bool
is_end Timeout = true
is_end Reset = true
is_end NoResponse = true
is_end report = false

-- That is reported of a call, of a registration and of a cancel; of a fetch for an observation, whether it counts or
-- not, it is not.
abbrev pub reported_of : Operation → Option ℕ
reported_of (Calling number r t) = Some number
reported_of (Registering number path) = Some number
reported_of (Cancelling number) = Some number
reported_of (Fetching number) = None
reported_of Dropped = None

abbrev pub report_to : Report → Option ℕ → Option Reported
report_to report number = option_map (λ (n : ℕ). record { number = n; report = report }) number

-- a request that is asked for and can't be sent, and what the exchanges say why
pub record Unsent : Type 0 where
  pub operation : Operation
  pub why : AskRefusal

abbrev pub unsent_by : Deed → Result (List ℕ) AskRefusal → Option Unsent
unsent_by (Asks op) (Err why) = Some (record { operation = op; why = why })
unsent_by _ token = None

abbrev pub unsent : Own → Call → Option Unsent
unsent s (Feeds now from bytes word up settled event sent token kept) =
    unsent_by (effect s (Feeds now from bytes word up settled event sent token kept)).deed token
unsent s (Ticks now word below t sent token kept answer) =
    unsent_by (effect s (Ticks now word below t sent token kept answer)).deed token
unsent s c = None

-- no Message ID is free, or each token was given
abbrev pub IsWant : AskRefusal → Type 0
IsWant why = (why ≡ refusal.NoIds) ⊎ (why ≡ refusal.TokensSpent)

module _ (sizes : Sizes) where
  pub record ReportsEnds (past : List Call) (c : Call) : Type 0 where
    -- Each report is of a call or an observation that was taken.
    pub numbered : (x : Reported) → reports (own_of sizes past) c ≡ Some x
        → Ever (λ b. number_given b ≡ Some x.number) past
    -- Where the exchange of the request that was sent last ends so, that is reported, if that request is of a call, a
    -- registration or a cancel; and nothing else is reported so.
    pub each : (r : Report) → ends_as c ≡ Some r
        → (x : Sending) × (last_sent sizes past ≡ Some x)
        × (reports (own_of sizes past) c ≡ report_to r (reported_of x.operation))
    pub only : (x : Reported) → reports (own_of sizes past) c ≡ Some x → is_end x.report ≡ true
        → ends_as c ≡ Some x.report
    -- NoIds is reported where such a request can't be sent, for want of a Message ID or of a token, and there alone.
    pub each_unsent : (u : Unsent) → unsent (own_of sizes past) c ≡ Some u
        → IsWant u.why × (reports (own_of sizes past) c ≡ report_to NoIds (reported_of u.operation))
    pub no_ids : (number : ℕ) → reports (own_of sizes past) c ≡ Some (record { number = number; report = NoIds })
        → (u : Unsent) × (unsent (own_of sizes past) c ≡ Some u) × (reported_of u.operation ≡ Some number)

  abbrev pub AllEnds : List Call → Type 0
  AllEnds t = Always ReportsEnds t
