-- For which call, or which observation, the client sent a token (RFC 7252, section 5.3.1).
use Rattle.std.specs.Prelude.{ℕ, Bool, true, false, Option, Some, None, List, [], ◌∷◌}
use Rattle.std.specs.BTreeMap.{get}
use Rattle.std.specs.Cmp.Lexicographic.{slice_cmp}
use Rattle.std.specs.Option.{option_map}
use Rattle.std.specs.Ordering.{nat_cmp}
use Rattle.coap_block.specs.Sizes.{Sizes}
use Rattle.coap_exchange.specs.Tokens.{same_token}
use Rattle.coap_client.specs.Law.{own_of}
use Rattle.coap_client.specs.Own.{operation_number}
use Rattle.coap_client.specs.Trace.{Call, Requested}
use Rattle.coap_client.specs.Sendings.{Sending, sends}
use Rattle.coap_client.specs.declared.client.report.CallId.{CallId}
use Rattle.coap_run.specs.declared.running.senders.Senders as declared

-- what was sent, by the number of its call or observation, if it has one
abbrev pub sent_as : Option Sending → Option Requested
sent_as None = None
sent_as (Some x) = option_map (λ (number : ℕ). record { number = number; token = x.token })
    (operation_number x.operation)

abbrev pub number_if : Bool → ℕ → Option ℕ → Option ℕ
number_if true number before = Some number
number_if false number before = before

-- .. under this token; otherwise it is as before
abbrev pub noted : List ℕ → Option Requested → Option ℕ → Option ℕ
noted token None before = before
noted token (Some r) before = number_if (same_token r.token token) r.number before

-- the number for which it was sent last
abbrev pub sender_of : Sizes → List ℕ → List Call → Option ℕ
sender_of sizes token [] = None
sender_of sizes token (c ∷ past) = noted token (sent_as (sends (own_of sizes past) c)) (sender_of sizes token past)

-- .. as a run keeps it
abbrev pub sender_in : {A : Type 0} → declared.Senders A → List ℕ → Option ℕ
sender_in s token = option_map (λ (id : CallId). id.0) (get (slice_cmp nat_cmp) s.ids token)
