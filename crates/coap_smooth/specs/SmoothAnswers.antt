-- When the calls of a run are answered smoothly: how long an exchange is open at most (`Young`), that it ends by an
-- answer, and what each call comes to (RFC 7252, sections 4.2, 5.2 and 5.8; RFC 7959, section 2).
use Rattle.std.specs.Prelude.{◌≡◌, ◌≢◌, ◌⊎◌, ◌≤◌, true, None, Some, List, [], ◌∷◌}
use Rattle.coap_types.specs.Past.{Sometime, Always}
use Rattle.coap_types.specs.declared.request.Method.TheVariants.{Get}
use Rattle.coap_codec.specs.Message.{Message}
use Rattle.coap_resource.specs.Content.{Held}
use Rattle.coap_resource.specs.RequestOptions.{tag_of}
use Rattle.coap_client_laws.specs.Follows.Ends.{ends_as, Unsent, unsent}
use Rattle.coap_client.specs.Sendings.{Taken, takes}
use Rattle.coap_client.specs.Law.{own_of}
use Rattle.coap_client.specs.Trace.{Request, Report, Body, Done, Failed}
use Rattle.coap_server.specs.Serving.{is_applied}
use Rattle.coap_promise.specs.Answers.{AnswersAt, HearsAt}
use Rattle.coap_promise.specs.Done.{AppliesSince}
use Rattle.coap_record.specs.Events.{Config}
use Rattle.coap_record.specs.Record.{Entry, OfClient, OfServer, Turn, entries_of, client_of}
use Rattle.coap_smooth.specs.Reported.{AreReported}
use Rattle.coap_smooth.specs.Smooth.{NoneObserved}
use Rattle.coap_promise.specs.Words.{ReportsAt, WasCalled, SentFor, holds_at}
use Rattle.coap_smooth.specs.Young.{AreYoung}

module _ (config : Config) where
  -- Each that ends does so by an answer: by no Reset, no Timeout and no NoResponse.
  abbrev pub EndByAnswers : List Entry → Type 0
  EndByAnswers all = Always (λ past c. ends_as c ≡ None) (client_of all)

  -- Each request that is asked for is sent: a Message ID and a token are free for it.
  abbrev pub AllAreSent : List Entry → Type 0
  AllAreSent all = Always (λ past c. (u : Unsent) → unsent (own_of config.client_sizes past) c ≡ Some u
      → ⊥) (client_of all)

  -- calls

  -- the call is taken here
  abbrev pub TakesAt : Taken → Entry → Type 0
  TakesAt x (OfClient c) = takes c ≡ Some x
  TakesAt x (OfServer c) = ⊥

  -- since the call its path held this
  abbrev pub HoldsSince : Taken → Held → List Entry → Type 0
  HoldsSince x held [] = ⊥
  HoldsSince x held (e ∷ past) = (holds_at config x.request.path (e ∷ past) ≡ Some held)
      × (TakesAt x e ⊎ HoldsSince x held past)

  -- a GET without ETag and Accept
  pub record IsPlainGet (r : Request) : Type 0 where
    pub method : r.method ≡ Get
    pub etags : r.etags ≡ []
    pub accept : r.accept ≡ None

  -- What is reported of it, where its path held one representation all the while, is that: where the client joins
  -- bodies that are as long as the server's.
  abbrev pub GetsHeld : List Entry → Type 0
  GetsHeld all =
      config.limits.body ≤ config.client_sizes.limit → Always (λ past e. (report : Report) (x : Taken) (held : Held)
      → ReportsAt config (record { number = x.number; report = report }) past e → IsPlainGet x.request
      → HoldsSince x held past
      → report ≡ Body (Some (tag_of held.version)) held.format held.body) all

  -- What is reported of another call is the code of a response that the server made before, to a request of the call
  -- (`AnswersAt`: the reply of the store to it, or its refusal); and where that says that it is applied, it was, after
  -- the call. (At most one is applied for a call: `at_most_once`.)
  pub record ComesTo (report : Report) (x : Taken) (all past : List Entry) (e : Entry) : Type 0 where
    pub response : Message
    pub heard : HearsAt config response e
    pub own : SentFor config x.number response.token past
    pub made : Sometime (AnswersAt config response) past
    pub says : (report ≡ Done response.code) ⊎ (report ≡ Failed response.code)
    pub applied : is_applied response.code ≡ true → Sometime (AppliesSince config x.number all) past

  abbrev pub ChangesAnswered : List Entry → Type 0
  ChangesAnswered all =
      Always (λ past e. (report : Report) (x : Taken)
      → ReportsAt config (record { number = x.number; report = report }) past e
      → WasCalled x.number x.request past → x.request.method ≢ Get → ComesTo report x all past e) all

  -- nothing is observed, each exchange ends by an answer, and each request is sent
  pub record AllAnswer (turns : List Turn) : Type 0 where
    pub none : NoneObserved turns
    pub by_answers : EndByAnswers (entries_of turns)
    pub all_sent : AllAreSent (entries_of turns)

  pub record AnsweredSmoothly (turns : List Turn) : Type 0 where
    pub young : AreYoung config turns
    pub reported : AreReported config turns
    pub by_answers : EndByAnswers (entries_of turns)
    pub gets : GetsHeld (entries_of turns)
    pub changes : ChangesAnswered (entries_of turns)
