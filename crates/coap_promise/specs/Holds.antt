-- What the server holds at each path after each entry, and whose each change is (RFC 7252, section 5.8).
use Rattle.std.specs.Prelude.{◌≡◌, ◌⊎◌, ℕ, ◌+◌, true, None, Some, List, [], ◌∷◌}
use Rattle.coap_types.specs.Past.{Always}
use Rattle.coap_resource.specs.Content.{Held}
use Rattle.coap_server.specs.Trace as S
use Rattle.coap_server.specs.Law.{own_of}
use Rattle.coap_server.specs.Serving.{is_applied}
use Rattle.coap_server.specs.Follows.Holds.{Change, change}
use Rattle.coap_server.specs.Follows.Serves.{Serving}
use Rattle.coap_record.specs.Events.{Config}
use Rattle.coap_record.specs.Record.{Entry, OfClient, OfServer, server_trace}
use Rattle.coap_promise.specs.Words.{ServesAt, holds_at, last_at, changes_in}

-- a local change of this path
abbrev pub ChangesLocally : List (List ℕ) → Entry → Type 0
ChangesLocally path (OfServer (S.Sets now p format body answer left)) = p ≡ path
ChangesLocally path (OfServer (S.Removes now p answer left)) = p ≡ path
ChangesLocally path e = ⊥

module _ (config : Config) where
  -- this change is made here
  abbrev pub Changes : Change → List Entry → Entry → Type 0
  Changes x past (OfClient c) = ⊥
  Changes x past (OfServer c) = change (own_of config.limits config.server_szx (server_trace config past)) c ≡ Some x

  -- The server begins with nothing. After each entry each path holds the last of its changes, and the versions of the
  -- changes are one more each, from the base on. What a change says, its path holds after it: a representation under
  -- its version, or nothing.
  pub record Holds (past : List Entry) (e : Entry) : Type 0 where
    pub last : (path : List (List ℕ)) → holds_at config path (e ∷ past) ≡ last_at config path (e ∷ past)
    pub version : (x : Change) → Changes x past e → x.version ≡ changes_in config past + 1
    pub made : (x : Change) → Changes x past e → holds_at config x.path (e ∷ past) ≡ x.held
    pub under : (x : Change) (held : Held) → Changes x past e → x.held ≡ Some held → held.version ≡ x.version

  pub record HoldsChanges (all : List Entry) : Type 0 where
    pub first : (path : List (List ℕ)) → holds_at config path [] ≡ None
    pub each : Always Holds all

  -- a request to this path is applied here
  pub record AppliesTo (path : List (List ℕ)) (past : List Entry) (e : Entry) : Type 0 where
    pub request : Serving
    pub here : ServesAt config request past e
    pub applied : is_applied request.reply.code ≡ true
    pub path_is : request.question.path ≡ path

  -- What a path holds stays, but for a local change of it, or the request to it that is applied here.
  abbrev pub IsOwned : List (List ℕ) → List Entry → Entry → Type 0
  IsOwned path past e = (holds_at config path (e ∷ past) ≡ holds_at config path past)
      ⊎ (ChangesLocally path e ⊎ AppliesTo path past e)

  -- Each change is a local one, or that of the request that is applied there; and nothing else changes what a path
  -- holds.
  pub record ChangesOwned (all : List Entry) : Type 0 where
    pub whose : Always (λ past e. (x : Change) → Changes x past e
        → ChangesLocally x.path e ⊎ AppliesTo x.path past e) all
    pub stays : (path : List (List ℕ)) → Always (IsOwned path) all
