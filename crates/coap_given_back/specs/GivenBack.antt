-- Each call that a client took is given back: reported, by a moment that its clock and its requests alone say.
use Rattle.std.specs.Prelude.{◌≡◌, ◌⊎◌, ◌≤◌, ◌<◌, ℕ, ◌+◌, ◌*◌, ◌&&◌, not, true, Some, is_some, List, [], ◌∷◌, length}
use Rattle.std.specs.Prelude.{if◌then◌else◌}
use Rattle.coap_types.specs.Past.{Sometime, Always}
use Rattle.coap_types.specs.declared.transmission.TheConstants.{MAX_LATENCY_MS as max_latency}
use Rattle.coap_types.specs.declared.endpoint.Endpoint.{Endpoint}
use Rattle.coap_layer.specs.declared.setup.Setup.{Setup}
use Rattle.coap_block.specs.Sizes.{Sizes}
use Rattle.coap_client.specs.Law.{own_of}
use Rattle.coap_client.specs.Sendings.{Taken, WasTaken, Sending, takes, sends}
use Rattle.coap_client.specs.Trace.{Call}
use Rattle.coap_client_laws.specs.Follows.Answered.{HasReport}
use Rattle.coap_client_laws.specs.Follows.Bounds.{requests}
use Rattle.coap_client_laws.specs.Follows.Holds.{SendsOf, moment}
use Rattle.coap_client_laws.specs.Follows.Open.{IsOpenSince}
use Rattle.coap_client_laws.specs.Follows.Taken.{starts, waiting_in, waiting_of}
use Rattle.coap_given_back.specs.AskerYoung.{longest_exchange}
use Rattle.coap_given_back.specs.KeepsUp.{clock, KeepsUp, KeepsUpSince}

module _ (server : Endpoint) (sizes : Sizes) (setup : Setup) where
  -- a request is sent for the first time here
  abbrev pub one_sent : List Call → Call → ℕ
  one_sent past c = if is_some (sends (own_of sizes past) c) then 1 else 0

  -- The call was taken at this moment, and since then so many requests were sent, for whatever.
  abbrev pub TakenSince : Taken → (at sent : ℕ) → List Call → Type 0
  TakenSince x at sent [] = ⊥
  TakenSince x at sent (c ∷ past) =
      ((takes c ≡ Some x) × (clock server sizes setup (c ∷ past) ≡ at) × (sent ≡ 0))
      ⊎ ((before : ℕ) × TakenSince x at before past × (sent ≡ one_sent past c + before))

  -- A request that is no turn of what waits: the next block of a body that is sent or fetched, where an answer is
  -- heard; or one that is fetched for an observation.
  abbrev pub one_further : List Call → Call → ℕ
  one_further past c =
      if is_some (sends (own_of sizes past) c) && not (starts (own_of sizes past) c) then 1 else 0

  -- The call was taken at this moment, where so many calls, registrations and cancels waited; since then so many such
  -- requests were sent.
  abbrev pub TakenBehind : Taken → (at waiting further : ℕ) → List Call → Type 0
  TakenBehind x at waiting further [] = ⊥
  TakenBehind x at waiting further (c ∷ past) =
      ((takes c ≡ Some x) × (clock server sizes setup (c ∷ past) ≡ at) × (length (waiting_in sizes past) ≡ waiting)
      × (further ≡ 0))
      ⊎ ((before : ℕ) × TakenBehind x at waiting before past × (further ≡ one_further past c + before))

  -- no exchange is open
  abbrev pub IsShut : List Call → Type 0
  IsShut t = (since : ℕ) → IsOpenSince sizes since t → ⊥

  -- no upload is held back later than that: each datagram of an upload went out MAX_LATENCY before, or earlier
  abbrev pub HeldTill : ℕ → List Call → Type 0
  HeldTill till t = (other : ℕ)
      → Sometime (λ past c. SendsOf sizes other past c × (till < moment (own_of sizes past) c + max_latency)) t → ⊥

  -- The call was taken at this moment, where no exchange was open, and no upload is held back for more than so long
  -- behind it; and since then so many requests were sent.
  abbrev pub TakenAlone : Taken → (at wait sent : ℕ) → List Call → Type 0
  TakenAlone x at wait sent [] = ⊥
  TakenAlone x at wait sent (c ∷ past) =
      ((takes c ≡ Some x) × (clock server sizes setup (c ∷ past) ≡ at) × IsShut past × HeldTill (at + wait) past
      × (sent ≡ 0))
      ⊎ ((before : ℕ) × TakenAlone x at wait before past × (sent ≡ one_sent past c + before))

  -- Each request is of a call, a registration or a cancel: none is sent for a further block of a notification.
  abbrev pub FetchesNone : List Call → Type 0
  FetchesNone t = Always (λ past c. (x : Sending) → sends (own_of sizes past) c ≡ Some x
      → is_some (waiting_of x.operation) ≡ true) t

  -- No call makes more exchanges. (In each run `AreBounded` has such a number, and it is 1 for calls whose request and
  -- answer are one message each.)
  abbrev pub MakeAtMost : ℕ → List Call → Type 0
  MakeAtMost most t = (x : Taken) → WasTaken x t → requests sizes x.number t ≤ most

  -- Whatever comes to a client whose steps are late by so much at most since a call was taken, that has a report so
  -- long after.
  module _ (late : ℕ) where
    -- what is asked of the client, and at which moment that is of use
    abbrev pub KeepsUpTill : (from now : ℕ) → List Call → Type 0
    KeepsUpTill from now t =
        KeepsUpSince server sizes setup late from t × (clock server sizes setup t ≤ now)
        × KeepsUp server sizes setup late from now t

    -- From the moment at which it is taken to the first request, from a request to the next, and from the last to the
    -- report, less than longest_exchange passes.
    abbrev pub most_ms : ℕ → ℕ
    most_ms sent = (1 + sent) * longest_exchange late

    abbrev pub AreGivenBack : List Call → Type 0
    AreGivenBack t =
        (x : Taken) (at sent now : ℕ) → TakenSince x at sent t → KeepsUpTill at now t → at + most_ms sent ≤ now
        → HasReport server sizes setup x.number t

    -- for what may run, for itself, for what waited, and for the further requests
    abbrev pub most_behind : (waiting further : ℕ) → ℕ
    most_behind waiting further = (2 + (waiting + further)) * longest_exchange late

    abbrev pub AreGivenBackInLine : List Call → Type 0
    AreGivenBackInLine t =
        (x : Taken) (at waiting further now : ℕ) → TakenBehind x at waiting further t → KeepsUpTill at now t
        → at + most_behind waiting further ≤ now → HasReport server sizes setup x.number t

    -- for each exchange of what may run, of itself, and of what waited
    abbrev pub most_in_all : (waiting most : ℕ) → ℕ
    most_in_all waiting most = (2 + waiting) * most * longest_exchange late

    abbrev pub AreGivenBackInAll : List Call → Type 0
    AreGivenBackInAll t =
        (x : Taken) (at waiting further now most : ℕ) → TakenBehind x at waiting further t → FetchesNone t
        → MakeAtMost most t → 1 ≤ most → KeepsUpTill at now t → at + most_in_all waiting most ≤ now
        → HasReport server sizes setup x.number t

    -- From the call to its first request only a tick is awaited, and the hold.
    abbrev pub most_alone : (wait sent : ℕ) → ℕ
    most_alone wait sent = wait + (late + sent * longest_exchange late)

    -- So a call of one request, before which none is open or waits, and no upload in the last MAX_LATENCY, has a report
    -- 343,000 ms after it, where steps are late by 1,000 ms at most.
    abbrev pub AreGivenBackAlone : List Call → Type 0
    AreGivenBackAlone t =
        (x : Taken) (at wait sent now : ℕ) → TakenAlone x at wait sent t → KeepsUpTill at now t
        → at + most_alone wait sent < now → HasReport server sizes setup x.number t
