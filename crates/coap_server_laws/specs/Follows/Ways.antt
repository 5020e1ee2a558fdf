-- How a notification goes, read on the whole trace, and what a Reset of one ends (RFC 7641, sections 3.6, 4.3 and 4.5).
use Rattle.std.specs.Prelude.{◌≡◌, ◌↔◌, ◌<◌, ◌≤◌, ℕ, ◌+◌, nat_eq, Bool, true, false, ◌&&◌, ◌||◌, Option, Some, None}
use Rattle.std.specs.Prelude.{List, []}
use Rattle.std.specs.Prelude.{◌∷◌, if◌then◌else◌}
use Rattle.std.specs.Cmp.Lexicographic.{pointwise}
use Rattle.coap_types.specs.Past.{Always, Ever}
use Rattle.coap_types.specs.Path.{same_path}
use Rattle.coap_types.specs.SameEndpoint.{same_endpoint}
use Rattle.coap_types.specs.declared.endpoint.Endpoint.{Endpoint}
use Rattle.coap_types.specs.declared.transmission.TheConstants.{EXCHANGE_LIFETIME_MS as exchange_lifetime}
use Rattle.coap_observe.specs.Observers.{Noted, Observer, registration, rejected}
use Rattle.coap_resource.specs.Limits.{Limits}
use Rattle.coap_exchange.specs.AnswererTrace.{Sending}
use Rattle.coap_server.specs.Trace.{Call, Plains, Ticks}
use Rattle.coap_server.specs.Plain.{is_plain}
use Rattle.coap_server.specs.Law.{own_of}
use Rattle.coap_server.specs.Follows.Holds.{Change, change}
use Rattle.coap_server.specs.Follows.Observes.{rejects_in}
use Rattle.coap_server.specs.Follows.Tells.{InCon, InNon, InReply, Pair, Telling, Way, registering, telling}
use Rattle.coap_server.specs.declared.limits.TheConstants.{CON_NOTIFICATION_MS as con_notification}
use Rattle.coap_server.specs.declared.limits.TheConstants.{MAX_PLAIN_AGE_MS as max_plain_age}

-- it is of this endpoint and token
abbrev pub is_pair : Endpoint → List ℕ → Endpoint → List ℕ → Bool
is_pair to token by bytes = same_endpoint by to && pointwise nat_eq bytes token

-- the call makes its registration; tells it in a CON; changes the path

abbrev pub makes_it : Endpoint → List ℕ → Option Pair → Bool
makes_it to token None = false
makes_it to token (Some p) = is_pair to token p.to p.token

abbrev pub is_con : Way → Bool
is_con (InCon id) = true
is_con _ = false

abbrev pub confirms_it : Endpoint → List ℕ → Option Telling → Bool
confirms_it to token None = false
confirms_it to token (Some x) = is_con x.way && is_pair to token x.to x.token

abbrev pub changes_it : List (List ℕ) → Option Change → Bool
changes_it path None = false
changes_it path (Some x) = same_path x.path path

-- the Message ID of a notification, and its NON
abbrev pub number_in : Call → ℕ
number_in (Ticks now word below room d passed h id answer) = id
number_in _ = 0

abbrev pub non_by : Way → ℕ → ℕ → Option Noted → Option Noted
non_by InNon id at last = Some (record { id = id; at = at })
non_by (InCon n) id at last = last
non_by InReply id at last = last

abbrev pub non_then : Endpoint → List ℕ → ℕ → Option Telling → Option Noted → Option Noted
non_then to token id None last = last
non_then to token id (Some x) last = if is_pair to token x.to x.token then non_by x.way id x.at last else last

module _ (limits : Limits) (szx : ℕ) where
  abbrev pub clock_at : List Call → ℕ
  clock_at t = (own_of limits szx t).clock

  -- when the last CON notification under the registration of this endpoint and token was begun, or the registration was
  -- made
  abbrev pub last_con : Endpoint → List ℕ → List Call → Option ℕ
  last_con to token [] = None
  last_con to token (c ∷ past) =
      if makes_it to token (registering (own_of limits szx past) c)
      || confirms_it to token (telling (own_of limits szx past) c) then Some (clock_at (c ∷ past))
      else last_con to token past

  -- when the path was changed last
  abbrev pub last_change : List (List ℕ) → List Call → Option ℕ
  last_change path [] = None
  last_change path (c ∷ past) =
      if changes_it path (change (own_of limits szx past) c) then Some (clock_at (c ∷ past)) else last_change path past

  -- the last NON that told of the registration of this endpoint and token, since it was made
  abbrev pub last_non : Endpoint → List ℕ → List Call → Option Noted
  last_non to token [] = None
  last_non to token (c ∷ past) =
      if makes_it to token (registering (own_of limits szx past) c) then None
      else non_then to token (number_in c) (telling (own_of limits szx past) c) (last_non to token past)

  -- A plain path was made so, and stays so.
  pub record PlainsStay (t : List Call) : Type 0 where
    pub made : (path : List (List ℕ)) → is_plain path (own_of limits szx t).plains ≡ true
        → Ever (λ c. c ≡ Plains path true) t
    pub there : (path : List (List ℕ)) → Ever (λ c. c ≡ Plains path true) t
        → is_plain path (own_of limits szx t).plains ≡ true

  -- A notification of what its path holds is a NON exactly where the path was made plain, the last CON notification
  -- under the registration, or the registration, is less than a day old, and the last change of the path at most
  -- MAX_PLAIN_AGE. (A notification that its path holds nothing is a CON: `GoesOut`.)
  pub record GoesSo (past : List Call) (x : Telling) : Type 0 where
    pub con : ℕ
    pub con_is : last_con x.to x.token past ≡ Some con
    pub changed : ℕ
    pub changed_is : last_change x.path past ≡ Some changed
    pub way : (x.way ≡ InNon)
        ↔ (Ever (λ c. c ≡ Plains x.path true) past × (x.at < con + con_notification) × (x.at ≤ changed + max_plain_age))

  abbrev pub WaysAre : List Call → Type 0
  WaysAre t = Always (λ past c. (x : Telling) → telling (own_of limits szx past) c ≡ Some x → x.registers ≡ false
      → GoesSo past x) t

  -- The last NON that told of this registration has this Message ID, and was sent no longer before this moment than its
  -- Reset can come (RFC 7252, section 4.8.2).
  pub record LastNon (to : Endpoint) (token : List ℕ) (id at : ℕ) (t : List Call) : Type 0 where
    pub observer : Observer
    pub there : registration to token (own_of limits szx t).observers ≡ Some observer
    pub non : Noted
    pub last : last_non to token t ≡ Some non
    pub id_is : non.id ≡ id
    pub young : at ≤ non.at + exchange_lifetime

  -- A Reset of the last NON of a registration of that endpoint ends it; and what it ends, it rejects.
  pub record ResetEnds (past : List Call) (c : Call) (x : Sending) : Type 0 where
    pub ends : (token : List ℕ) → LastNon x.to token x.id (clock_at (c ∷ past)) past
        → registration x.to token (own_of limits szx (c ∷ past)).observers ≡ None
    pub rejects : (o : Observer)
        → rejected (clock_at (c ∷ past)) x.to x.id (own_of limits szx past).observers ≡ Some o
        → (o.to ≡ x.to) × LastNon x.to o.token x.id (clock_at (c ∷ past)) past

  abbrev pub EndsOnReset : List Call → Type 0
  EndsOnReset t = Always (λ past c. (x : Sending) → rejects_in c ≡ Some x → ResetEnds past c x) t
