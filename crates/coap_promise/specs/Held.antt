-- What a client reports of a representation, the server held at that path, after the call and not after the report (RFC
-- 7252, sections 5.8.1, 5.9.1.3 and 5.10.6; RFC 7641, section 3.2; RFC 7959, section 2.4).
use Rattle.std.specs.Prelude.{◌≡◌, ℕ, Option, Some, List, ◌∷◌}
use Rattle.coap_types.specs.Past.{Ever, Sometime, Always}
use Rattle.coap_observe.specs.Versions.{sequence_number}
use Rattle.coap_resource.specs.Content.{Held}
use Rattle.coap_resource.specs.RequestOptions.{tag_of}
use Rattle.coap_client_laws.specs.Follows.OfObservations as C
use Rattle.coap_client.specs.Trace.{Request, Body, Valid, Value}
use Rattle.coap_record.specs.Events.{Config}
use Rattle.coap_record.specs.Record.{Entry, client_of}
use Rattle.coap_promise.specs.Words.{ReportsAt, WasCalled, last_at}

-- an observation of this number and this path was taken
abbrev pub WasObserved : ℕ → List (List ℕ) → List Entry → Type 0
WasObserved number path past = C.WasObserved (record { number = number; path = path }) (client_of past)

module _ (config : Config) where
  -- the path holds this, and the ETag names its version
  pub record HoldsAs (path : List (List ℕ)) (tag : Option (List ℕ)) (held : Held) (all : List Entry) : Type 0 where
    pub tag_is : tag ≡ Some (tag_of held.version)
    pub there : last_at config path all ≡ Some held

  -- A body that is reported was held by the server at the path of the call, under the version that its ETag names,
  -- after the call and not after the report.
  pub record HeldSince (number : ℕ) (tag : Option (List ℕ)) (format : Option ℕ) (body : List ℕ) (past : List Entry)
      (e : Entry) : Type 0 where
    pub request : Request
    pub called : WasCalled number request past
    pub version : ℕ
    pub holds : HoldsAs request.path tag (record { version = version; format = format; body = body }) (e ∷ past)

  abbrev pub EachHeld : List Entry → Type 0
  EachHeld all = (number : ℕ) (tag : Option (List ℕ)) (format : Option ℕ) (body : List ℕ)
      → Always (λ past e. ReportsAt config (record { number = number; report = Body tag format body }) past e
      → Sometime (HeldSince number tag format body) past) all

  -- Where a representation is reported to be valid, the path held then the version that the ETag names, and the ETag is
  -- one of the call's own.
  pub record ValidSince (number : ℕ) (tag : Option (List ℕ)) (past : List Entry) (e : Entry) : Type 0 where
    pub request : Request
    pub called : WasCalled number request past
    pub own : Ever (λ t. tag ≡ Some t) request.etags
    pub held : Held
    pub holds : HoldsAs request.path tag held (e ∷ past)

  abbrev pub EachValid : List Entry → Type 0
  EachValid all = (number : ℕ) (tag : Option (List ℕ))
      → Always (λ past e. ReportsAt config (record { number = number; report = Valid tag }) past e
      → Sometime (ValidSince number tag) past) all

  -- A value of an observation was held at the path of the observation, under the version of its sequence number and its
  -- ETag, after the observation was taken and not after the report.
  pub record ValueSince (number sequence : ℕ) (tag : Option (List ℕ)) (format : Option ℕ) (body : List ℕ)
      (past : List Entry) (e : Entry) : Type 0 where
    pub path : List (List ℕ)
    pub observed : WasObserved number path past
    pub version : ℕ
    pub sequence_is : sequence ≡ sequence_number version
    pub holds : HoldsAs path tag (record { version = version; format = format; body = body }) (e ∷ past)

  abbrev pub EachValue : List Entry → Type 0
  EachValue all = (number sequence : ℕ) (tag : Option (List ℕ)) (format : Option ℕ) (body : List ℕ)
      → Always (λ past e. ReportsAt config (record { number = number; report = Value sequence tag format body }) past e
      → Sometime (ValueSince number sequence tag format body) past) all
