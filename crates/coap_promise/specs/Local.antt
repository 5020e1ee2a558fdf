-- What a local change of the server does, by its answer (RFC 7252, section 5.8: the resource's own state).
use Rattle.std.specs.Prelude.{◌≡◌, ◌≢◌, ℕ, ◌+◌, max, Bool, true, false, Option, None, Some, List, ◌∷◌, length, Result}
use Rattle.std.specs.Prelude.{Ok, Err}
use Rattle.coap_types.specs.Past.{Always}
use Rattle.coap_resource.specs.Content.{put_refusal}
use Rattle.coap_resource.specs.Rate.{rate_refusal}
use Rattle.coap_resource.specs.declared.refusal.StoreRefusal.{StoreRefusal}
use Rattle.coap_server.specs.Trace as S
use Rattle.coap_server.specs.Law.{own_of}
use Rattle.coap_record.specs.Events.{Config}
use Rattle.coap_record.specs.Record.{Entry, OfServer, server_trace}
use Rattle.coap_promise.specs.Words.{holds_at, changes_in}

module _ (config : Config) where
  -- nothing is changed
  pub record IsSame (past : List Entry) (e : Entry) : Type 0 where
    pub holds : (path : List (List ℕ)) → holds_at config path (e ∷ past) ≡ holds_at config path past
    pub none : changes_in config (e ∷ past) ≡ changes_in config past

  abbrev own : List Entry → S.Own
  own past = own_of config.limits config.server_szx (server_trace config past)

  -- A version: the store has no reason to refuse, it is the next one, and the path holds just this under it. A refusal:
  -- the store gives that reason, and nothing is changed.
  pub record SetsRight (now : ℕ) (path : List (List ℕ)) (format : Option ℕ) (body : List ℕ)
      (answer : Result ℕ StoreRefusal) (past : List Entry) (e : Entry) : Type 0 where
    pub made :
        (version : ℕ) → answer ≡ Ok version
        → (version ≡ changes_in config past + 1) × (changes_in config (e ∷ past) ≡ version)
        × (holds_at config path (e ∷ past) ≡ Some (record { version = version; format = format; body = body }))
        × (put_refusal (own past).store (max (own past).clock now) path (length body) ≡ None)
    pub refused : (why : StoreRefusal) → answer ≡ Err why
        → (put_refusal (own past).store (max (own past).clock now) path (length body) ≡ Some why) × IsSame past e

  -- True: the path held something, the store has no reason to refuse, and by one change the path holds nothing. False:
  -- it held nothing. A refusal as above.
  pub record RemovesRight (now : ℕ) (path : List (List ℕ)) (answer : Result Bool StoreRefusal) (past : List Entry)
      (e : Entry) : Type 0 where
    pub made :
        answer ≡ Ok true
        → (holds_at config path past ≢ None) × (changes_in config (e ∷ past) ≡ changes_in config past + 1)
        × (holds_at config path (e ∷ past) ≡ None)
        × (rate_refusal (own past).store.tally (max (own past).clock now) ≡ None)
    pub none : answer ≡ Ok false → (holds_at config path past ≡ None) × IsSame past e
    pub refused : (why : StoreRefusal) → answer ≡ Err why
        → (holds_at config path past ≢ None) × (rate_refusal (own past).store.tally (max (own past).clock now)
        ≡ Some why) × IsSame past e

  abbrev pub IsLocalRight : List Entry → Entry → Type 0
  IsLocalRight past (OfServer (S.Sets now path format body answer left)) =
      SetsRight now path format body answer past (OfServer (S.Sets now path format body answer left))
  IsLocalRight past (OfServer (S.Removes now path answer left)) =
      RemovesRight now path answer past (OfServer (S.Removes now path answer left))
  IsLocalRight past e = Unit {0}

  -- Each local change does just what it answers.
  abbrev pub LocalRight : List Entry → Type 0
  LocalRight all = Always IsLocalRight all
