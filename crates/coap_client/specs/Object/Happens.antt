-- What an effect makes of a client, behind an input of its exchanges (RFC 7252, sections 4.7 and 5.2).
use Rattle.std.specs.Prelude.{◌≡◌, ◌≤◌, ◌==◌, ℕ, Bool, true, false, Option, Some, None, List, [], ◌∷◌, map}
use Rattle.std.specs.Prelude.{if◌then◌else◌, Result}
use Rattle.coap_types.specs.declared.endpoint.Endpoint.{Endpoint}
use Rattle.coap_layer.specs.Trace as L
use Rattle.coap_layer.specs.declared.setup.Setup.{Setup}
use Rattle.coap_codec.specs.Message.{Message}
use Rattle.coap_block.specs.Sizes.{Sizes}
use Rattle.coap_observe.specs.Newer.{Watched as Mark}
use Rattle.coap_exchange.specs.declared.asker.AskRefusal.{AskRefusal}
use Rattle.coap_exchange.specs.AskerLaw as X
use Rattle.coap_exchange.specs.AskerLaw.{Exchanged}
use Rattle.coap_client.specs.Trace.{Call, Report, Requested}
use Rattle.coap_client.specs.Own.{Transfer, Operation, Notified, Observation, Own}
use Rattle.coap_client.specs.Observations.{dropped, with_rest}
use Rattle.coap_client.specs.Observing.{first_rest, first_value}
use Rattle.coap_client.specs.Requests.{message_of}
use Rattle.coap_client.specs.Effects.{Deed, Rests, Releases, Effect, runs, has_sent}
use Rattle.coap_client.specs.Events.{failed}
use Rattle.coap_client.specs.Places.{places}
use Rattle.coap_client.specs.Steps.{asking, reporting, requested}
use Rattle.coap_client.specs.Deeds.{close, deeds}
use Rattle.coap_client.specs.Led.{State, Led}
use Rattle.coap_client.specs.Object.Sends.{Sends}

-- What is asked for the effect, and then for what the sending makes of it (`sent`, `token` and `kept` are answered
-- beneath), and what is left; which request was sent first.
pub record Happens (behind : X.State) (e : Effect) (now word : ℕ) (asked : Option Requested)
    (new : State) : Type 0 where
  pub sent : L.Answer
  pub token : Result (List ℕ) AskRefusal
  pub kept : Bool
  pub between : X.State
  pub first : Exchanged behind (deeds e.deed e.own now word sent token kept) between
  pub last : let c = close now e token in Exchanged between (deeds c.deed c.own now word sent token kept) new.layer
  pub own_is : new.own ≡ reporting (close now e token)
  pub asked_is : asked ≡ requested e.deed token

-- An upload that ended by a lapse of its exchange holds back others; one whose request couldn't be sent does so where
-- it sent a block.
abbrev pub unanswered : Bool → Transfer → Bool
unanswered false t = true
unanswered true t = has_sent t

-- what a failure of the operation that runs makes of a client
abbrev pub failing : Bool → Report → Own → Effect
failing unsent report s = failed (λ t. unanswered unsent t) report s s.running

-- a deed is done, for which no request is sent
abbrev pub IsDone : X.State → Deed → X.State → Type 0
IsDone old deed new =
    (kept : Bool) × ((s : Own) (at word : ℕ) (sent : L.Answer) (token : Result (List ℕ) AskRefusal)
    → Exchanged old (deeds deed s at word sent token kept) new)

-- what a client is left as, with its exchanges
abbrev pub left : Own → X.State → State
left own x = record { own = own; layer = x }

-- The request of the operation that runs was sent, with this token, or couldn't be: so the client was left, and so it
-- is now.
abbrev pub Closes : (s : Own) (at : ℕ) (given : Option (List ℕ)) (x : X.State) (asked : Option Requested) (new : State)
    → Type 0
Closes s at given x asked new =
    (op : Operation) (behind : X.State) (word : ℕ) → s.running ≡ Some op
    → Sends behind at (message_of s.observations op) word given x → Happens behind (runs op s) at word asked new

-- the same operation runs
abbrev pub running : Operation → Own → Own
running op s = record s { running = Some op }

-- no number is in two places
abbrev pub Apart : Own → Type 0
Apart s = (n : ℕ) → places n s ≤ 1

-- .. at an input: what is held is left so, with the request that was sent
pub record Comes (behind : X.State) (e : Effect) (now word : ℕ) (new : State) : Type 0 where
  pub asked : Option Requested
  pub own : Own
  pub happens : Happens behind e now word asked (left own new.layer)
  pub own_is : new.own ≡ asking asked own

-- no moment of an observation is behind that one
abbrev pub AreFresh : ℕ → List Observation → Type 0
AreFresh at [] = Unit {0}
AreFresh at (o ∷ os) = (o.watch.clock ≤ at) × AreFresh at os

abbrev pub Watched : ℕ → Own → Type 0
Watched at s = AreFresh at s.observations

-- that is to be fetched for the observation of that number
abbrev pub resting : ℕ → Option Notified → Own → Own
resting number rest s = record s { observations = with_rest number rest s.observations }

-- calls led to it
abbrev pub WasLed : State → Type 0
WasLed s = (server : Endpoint) × (sizes : Sizes) × (setup : Setup) × (t : List Call) × Led server sizes setup t s

-- the observation of that number is as fresh as that ..
abbrev pub watching : ℕ → Mark → Own → Own
watching number w s = record s {
  observations =
      map (λ (p : Observation). if p.number == number then record p { watch = w } else p) s.observations;
}

-- .. and a newer notification replaces what is fetched for an older one, with what it reports
abbrev pub renewing : ℕ → Mark → Message → Own → Own
renewing number w m s =
    reporting (record {
      own = record s {
        running = dropped number s.running;
        observations = map (λ (p : Observation). if p.number == number then record p
            { watch = w; rest = first_rest s.sizes m } else p) s.observations;
      };
      report = first_value number s.sizes m;
      deed = Rests;
    })

-- a token is kept no more, if there is one
abbrev pub releasing : Option (List ℕ) → Deed
releasing None = Rests
releasing (Some token) = Releases token
