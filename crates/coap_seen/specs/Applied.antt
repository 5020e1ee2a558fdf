-- What the server does for a call, by what `applied` would tell and `get` would answer (RFC 7252, sections 5.8, 5.9 and
-- 5.10.8; RFC 7959, section 2.5).
use Rattle.std.specs.Prelude.{◌≡◌, ◌≢◌, ◌⊎◌, ℕ, true, false, Ok, Err, Option, Some, None, List, [], ◌∷◌, ◌++◌}
use Rattle.coap_types.specs.Past.{Ever, Sometime, Always}
use Rattle.coap_types.specs.declared.request.Method.{Method}
use Rattle.coap_types.specs.declared.request.Method.TheVariants.{Get, Post, Put, Delete}
use Rattle.coap_resource.specs.Content.{Held}
use Rattle.coap_client.specs.Trace.{Request, Report, is_value, Done, Failed}
use Rattle.coap_server.specs.Trace as S
use Rattle.coap_server.specs.Trace.{Applied}
use Rattle.coap_record.specs.Events.{Config}
use Rattle.coap_record.specs.Record.{Entry, OfServer}
use Rattle.coap_seen.specs.Calls.{Calls, Tells, ChangesHere, IsInput, Gets, TellsApplied, TellsAsked}
use Rattle.coap_seen.specs.Held.{tag_of, EachWasHeld, ValuesRise}
use Rattle.coap_seen.specs.Runs.{Turn, Clocks, IsRun, calls_of}

-- the path has this body then, in this format, under whatever version
abbrev pub Has : Option ℕ → List ℕ → Option Held → Type 0
Has format body held = (version : ℕ) × (held ≡ Some (record { version = version; format = format; body = body }))

-- What a request makes of what its path holds: a PUT puts the body, a POST joins it to what is there, after a DELETE
-- nothing is there.
abbrev pub Does : Method → Request → Option Held → Option Held → Type 0
Does Get r before after = ⊥
Does Put r before after = Has r.format r.body after
Does Post r before after = (held : Held) × (before ≡ Some held) × Has held.format (held.body ++ r.body) after
Does Delete r before after = after ≡ None

-- If-Match: the path holds something, of a version that one of them names, or one is empty. If-None-Match: it holds
-- nothing.
pub record Meets (r : Request) (before : Option Held) : Type 0 where
  pub if_match : r.if_match ≢ [] → (held : Held) × (before ≡ Some held)
      × Ever (λ t. (t ≡ []) ⊎ (t ≡ tag_of held.version)) r.if_match
  pub if_none_match : r.if_none_match ≡ true → before ≡ None

module _ (config : Config) where
  -- behind this input `applied` would tell this request, and no other
  pub record AppliesHere (a : Applied) (past : List Entry) (e : Entry) : Type 0 where
    pub input : IsInput e
    pub told : TellsApplied config (a ∷ []) (e ∷ past)

  -- this call sent a request under this token: `asked` would tell it at some moment
  abbrev pub SentFor : ℕ → List ℕ → List Entry → Type 0
  SentFor number token all =
      Sometime (λ past e. TellsAsked config (Some (record { number = number; token = token })) (e ∷ past)) all

  -- .. and it is the client's, under a token of this call
  pub record AppliesFor (number : ℕ) (all past : List Entry) (e : Entry) : Type 0 where
    pub request : Applied
    pub here : AppliesHere request past e
    pub from : request.from ≡ config.addresses.client
    pub belongs : SentFor number request.token all

  -- The call was made before, this is its method and path, its preconditions hold of what `get` would answer before,
  -- and what `get` would answer behind it is what the call asks for, with its whole body.
  pub record IsWhole (number : ℕ) (a : Applied) (past : List Entry) (e : Entry) : Type 0 where
    pub call : Request
    pub called : Ever (Calls number call) past
    pub method : a.method ≡ call.method
    pub path : a.path ≡ call.path
    pub before : Option Held
    pub after : Option Held
    pub was : Gets config call.path before past
    pub is : Gets config call.path after (e ∷ past)
    pub meets : Meets call before
    pub does : Does call.method call before after

  abbrev pub AppliedWhole : List Entry → Type 0
  AppliedWhole all = (number : ℕ) → Always (λ past e. (x : AppliesFor number all past e)
      → IsWhole number x.request past e) all

  -- At most one request is applied for a call;
  abbrev pub AtMostOnce : List Entry → Type 0
  AtMostOnce all = (number : ℕ) → Always (λ past e. AppliesFor number all past e
      → Sometime (AppliesFor number all) past → ⊥) all

  -- one, after the call and before that, where success is told;
  pub record AppliesSince (number : ℕ) (all past : List Entry) (e : Entry) : Type 0 where
    pub applies : AppliesFor number all past e
    pub call : Request
    pub called : Ever (Calls number call) past

  abbrev pub OnceDone : List Entry → Type 0
  OnceDone all = (number code : ℕ) → Always (λ past e. Tells number (Done code) e
      → Sometime (AppliesSince number all) past) all

  -- and none, before or after, where Failed is told.
  abbrev pub NeverFailed : List Entry → Type 0
  NeverFailed all = (number code : ℕ) → Ever (Tells number (Failed code)) all → Sometime (AppliesFor number all) all
      → ⊥

  -- Where 4.04 is told, the path of the call held nothing after the call and before that.
  pub record MissedHere (number : ℕ) (past : List Entry) (e : Entry) : Type 0 where
    pub call : Request
    pub called : Ever (Calls number call) past
    pub nothing : Gets config call.path None past

  abbrev pub NotFound : List Entry → Type 0
  NotFound all = (number : ℕ) → Always (λ past e. Tells number (Failed 132) e → Sometime (MissedHere number) past) all

  -- Nothing else changes what `get` would answer: it is the server's own program, or a request that is applied to this
  -- path, which is for a call if it is from the client's address.
  abbrev pub Same : List (List ℕ) → List Entry → Entry → Type 0
  Same path past e = (held : Option Held) → Gets config path held past → Gets config path held (e ∷ past)

  -- `set` and `remove` do what they answer: what they say that they put, or nothing, `get` would answer; a refusal
  -- changes nothing.
  abbrev pub LocalTells : List Entry → Entry → Type 0
  LocalTells past (OfServer (S.Sets now path format body (Ok version) left)) =
      Gets config path (Some (record { version = version; format = format; body = body }))
      (OfServer (S.Sets now path format body (Ok version) left) ∷ past)
  LocalTells past (OfServer (S.Sets now path format body (Err why) left)) =
      (p : List (List ℕ)) → Same p past (OfServer (S.Sets now path format body (Err why) left))
  LocalTells past (OfServer (S.Removes now path (Ok true) left)) =
      Gets config path None (OfServer (S.Removes now path (Ok true) left) ∷ past)
  LocalTells past (OfServer (S.Removes now path answer left)) =
      (p : List (List ℕ)) → Same p past (OfServer (S.Removes now path answer left))
  LocalTells past e = Unit {0}

  pub record ChangesAre (all past : List Entry) (e : Entry) : Type 0 where
    pub owned : (path : List (List ℕ)) → Same path past e
        ⊎ (ChangesHere path e ⊎ ((a : Applied) × AppliesHere a past e × (a.path ≡ path)))
    pub belongs : (a : Applied) → AppliesHere a past e → a.from ≡ config.addresses.client
        → (number : ℕ) × SentFor number a.token all
    pub local : LocalTells past e

  -- Of a number nothing is told behind its last report: any but a value.
  abbrev pub OneLast : List Entry → Type 0
  OneLast all = (number : ℕ) (last report : Report) → is_value last ≡ false
      → Always (λ past e. Tells number report e → Ever (Tells number last) past → ⊥) all

  pub record AllOwned (all : List Entry) : Type 0 where
    pub first : (path : List (List ℕ)) → Gets config path None []
    pub each : Always (ChangesAre all) all

-- The promise, in the words that a program sees of a client and a server.
pub record Seen (config : Config) (c : Clocks) (turns : List Turn) : Type 0 where
  -- what is told was held, after the call and at most 252 s before; the values of an observation rise
  pub held : EachWasHeld config c turns
  pub rise : ValuesRise (calls_of turns)
  -- each body is applied whole, at most once, once where Done is told, never where Failed is told
  pub whole : AppliedWhole config (calls_of turns)
  pub at_most_once : AtMostOnce config (calls_of turns)
  pub once_done : OnceDone config (calls_of turns)
  pub never_failed : NeverFailed config (calls_of turns)
  pub not_found : NotFound config (calls_of turns)
  pub one_last : OneLast config (calls_of turns)
  -- and nothing else changes what the server holds
  pub owned : AllOwned config (calls_of turns)

abbrev pub SeenInRuns : Type 0
SeenInRuns = (config : Config) (c : Clocks) (turns : List Turn) → IsRun config c turns → Seen config c turns
