-- What a server holds, and that what is applied is applied whole (RFC 7252, sections 5.8 and 5.10.6).
use Rattle.std.specs.Prelude.{◌≡◌, ℕ, ◌+◌, ◌==◌, false, true, Option, Some, None, List, [], ◌∷◌, ◌++◌, if◌then◌else◌}
use Rattle.coap_types.specs.Past.{Always}
use Rattle.coap_types.specs.Path.{same_path}
use Rattle.coap_types.specs.declared.request.Method.{Method}
use Rattle.coap_types.specs.declared.request.Method.TheVariants.{Get, Post, Put, Delete}
use Rattle.coap_resource.specs.Content.{Content, Held}
use Rattle.coap_resource.specs.RequestOptions.{format_of, precondition_fails}
use Rattle.coap_resource.specs.Serves.{Question}
use Rattle.coap_resource.specs.Serves as R
use Rattle.coap_resource.specs.Limits.{Limits}
use Rattle.coap_server.specs.Trace.{Own, Call, Sets, Removes}
use Rattle.coap_server.specs.Serving.{is_applied}
use Rattle.coap_server.specs.Law.{own_of}
use Rattle.coap_server.specs.Follows.Serves.{Serving, serving}

-- What is applied does what its method says with the whole body, where the preconditions hold: a PUT replaces, a POST
-- joins its body to what is there, after a DELETE nothing is there.
abbrev pub Does : Method → Question → Content → Content → Type 0
Does Get q old left = ⊥
Does Put q old left = left.holds q.path ≡ Some
    (record { version = old.tally.version + 1; format = format_of q.options; body = q.body })
Does Post q old left =
    (held : Held)
    × (old.holds q.path ≡ Some held)
    × (left.holds q.path ≡ Some (record {
      version = old.tally.version + 1;
      format = held.format;
      body = held.body ++ q.body;
    }))
Does Delete q old left = left.holds q.path ≡ None

pub record IsApplied (x : Serving) : Type 0 where
  pub preconditions : precondition_fails (x.old.holds x.question.path) x.question.options ≡ false
  pub does : Does x.question.method x.question x.old x.left

-- a change: of which path, under which version, and what the path holds then
pub record Change : Type 0 where
  pub path : List (List ℕ)
  pub version : ℕ
  pub held : Option Held

abbrev pub change_of : List (List ℕ) → Content → Content → Option Change
change_of path old left =
    if left.tally.version == old.tally.version then None
    else Some (record { path = path; version = left.tally.version; held = left.holds path })

abbrev pub changed_by : Option Serving → Option Change
changed_by None = None
changed_by (Some x) = change_of x.question.path x.old x.left

-- what a call changes: locally, or as it serves a request
abbrev pub change : Own → Call → Option Change
change s (Sets now path format body answer left) = change_of path s.store left
change s (Removes now path answer left) = change_of path s.store left
change s c = changed_by (serving s c)

abbrev pub counted : {X : Type 0} → Option X → ℕ
counted None = 0
counted (Some x) = 1

-- the last of the changes of a path
abbrev pub held_then : List (List ℕ) → Option Change → Option Held → Option Held
held_then path None held = held
held_then path (Some x) held = if same_path x.path path then x.held else held

module _ (limits : Limits) (szx : ℕ) where
  -- the version of the last change, where versions are counted on from the base, and what a path holds: its last change
  abbrev pub changes : List Call → ℕ
  changes [] = limits.base
  changes (c ∷ past) = counted (change (own_of limits szx past) c) + changes past

  abbrev pub held_at : List (List ℕ) → List Call → Option Held
  held_at path [] = None
  held_at path (c ∷ past) = held_then path (change (own_of limits szx past) c) (held_at path past)

  -- The versions of the changes are one more each, from the base on (1, 2, 3 and so on, where that is 0), and the store
  -- holds at each path its last change.
  pub record Holds (past : List Call) (c : Call) : Type 0 where
    pub version : (x : Change) → change (own_of limits szx past) c ≡ Some x → x.version ≡ changes past + 1
    pub held : (path : List (List ℕ)) → (own_of limits szx past).store.holds path ≡ held_at path past

  abbrev pub HoldsChanges : List Call → Type 0
  HoldsChanges trace = Always Holds trace

  -- What is served is by the store's table, what is applied is applied whole, and nothing else that is served changes
  -- anything.
  pub record ServesRight (past : List Call) (c : Call) : Type 0 where
    pub serves : (x : Serving) → serving (own_of limits szx past) c ≡ Some x
        → (at : ℕ) × R.Serves x.old at x.question x.reply x.left
    pub applied : (x : Serving) → serving (own_of limits szx past) c ≡ Some x → is_applied x.reply.code ≡ true
        → IsApplied x
    pub changes_by : (x : Serving) (y : Change) → serving (own_of limits szx past) c ≡ Some x
        → change (own_of limits szx past) c ≡ Some y → is_applied x.reply.code ≡ true

  abbrev pub AllServed : List Call → Type 0
  AllServed trace = Always ServesRight trace
