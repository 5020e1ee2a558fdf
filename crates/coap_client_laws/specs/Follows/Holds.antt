-- The upload hold (profile): no Block1 transfer begins at most MAX_LATENCY after the last datagram of one that ended
-- without a final response (RFC 7252, section 4.8.2; RFC 7959, section 2.5).
use Rattle.std.specs.Prelude.{◌≡◌, ◌≤◌, ◌⊎◌, ℕ, ◌+◌, ◌==◌, ◌&&◌, not, max, Bool, true, false, Option, Some, None, List}
use Rattle.coap_types.specs.Past.{Sometime, Always}
use Rattle.coap_types.specs.declared.transmission.TheConstants.{MAX_LATENCY_MS as max_latency}
use Rattle.coap_block.specs.Sizes.{Sizes}
use Rattle.coap_exchange.specs.declared.asker.Turn.TheVariants as turn
use Rattle.coap_client.specs.Trace.{is_value, Call, Calls, Observes, Cancels, Feeds, Ticks, Reported}
use Rattle.coap_client.specs.Own.{Operation, Own}
use Rattle.coap_client.specs.Requests.{is_longer}
use Rattle.coap_client.specs.Responses.{continue}
use Rattle.coap_client.specs.Steps.{reports}
use Rattle.coap_client.specs.Law.{own_of}
use Rattle.coap_client.specs.Sendings.{Sending, sends, hears}
use Rattle.coap_client_laws.specs.Follows.Blocks.{Carried, carried}

-- the moment of a call
abbrev pub moment : Own → Call → ℕ
moment s (Calls now r answer) = max s.clock now
moment s (Observes now path answer) = max s.clock now
moment s (Cancels now number answer) = max s.clock now
moment s (Feeds now from bytes word up settled event sent token kept) = max s.clock now
moment s (Ticks now word below t sent token kept answer) = max s.clock now
moment s c = s.clock

abbrev pub is_copy : Call → Bool
is_copy (Ticks now word below turn.Copied sent token kept answer) = true
is_copy c = false

-- a response other than 2.31 is final
abbrev pub is_final : Call → Bool
is_final c = elim (hears c) [ None ↦ false | Some m ↦ not (m.code == continue) ]

-- the Block1 transfer of a call
abbrev pub is_upload_of : ℕ → Option Operation → Bool
is_upload_of number None = false
is_upload_of number (Some op) = elim (carried op) [ None ↦ false | Some x ↦ (x.number == number) && is_longer x.upload ]

abbrev pub sends_of : ℕ → Option Sending → Bool
sends_of number None = false
sends_of number (Some x) = is_upload_of number (Some x.operation)

module _ (sizes : Sizes) where
  -- a datagram of the transfer is sent: a block, or a copy of one
  abbrev pub SendsOf : ℕ → List Call → Call → Type 0
  SendsOf number past c =
      (sends_of number (sends (own_of sizes past) c) ≡ true)
      ⊎ ((is_copy c ≡ true) × (is_upload_of number (own_of sizes past).running ≡ true))

  -- the call is reported, and not by a final response
  pub record EndsUnanswered (number : ℕ) (past : List Call) (c : Call) : Type 0 where
    pub report : Reported
    pub made : reports (own_of sizes past) c ≡ Some report
    pub is : report.number ≡ number
    pub last : is_value report.report ≡ false
    pub not_final : is_final c ≡ false

  pub record Holds (past : List Call) (c : Call) (number : ℕ) : Type 0 where
    pub held :
        (other : ℕ) → Sometime (EndsUnanswered other) past
        → Sometime (λ earlier b. SendsOf other earlier b
        × (moment (own_of sizes past) c ≤ moment (own_of sizes earlier) b + max_latency)) past → ⊥

  -- where a first block is sent
  abbrev pub AllHold : List Call → Type 0
  AllHold trace =
      Always (λ past c. (x : Sending) (y : Carried) → sends (own_of sizes past) c ≡ Some x
      → carried x.operation ≡ Some y
      → is_longer y.upload ≡ true → y.upload.num ≡ 0 → Holds past c y.number) trace
