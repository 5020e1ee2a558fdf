-- A legal run of three clients at one lock. It is taken by a PUT with If-None-Match, and given back by a DELETE with
-- If-Match of the holder's own entity-tag (RFC 7252, sections 5.10.8.1 and 5.10.8.2). Each list has the newest first.
use Rattle.std.specs.Prelude.{◌≡◌, ◌≤◌, ℕ, ◌+◌, ◌==◌, Bool, true, false, ◌||◌, Some, None, List, [], ◌∷◌, ◌++◌, codes}
use Rattle.std.specs.Prelude.{if◌then◌else◌}
use Rattle.coap_types.specs.Past.{Always, Ever}
use Rattle.coap_types.specs.declared.endpoint.Endpoint.{Endpoint}
use Rattle.coap_types.specs.declared.message.TheConstants.Code.{PRECONDITION_FAILED}
use Rattle.coap_types.specs.declared.request.Method.{Method}
use Rattle.coap_types.specs.declared.request.Method.TheVariants.{Put, Delete}
use Rattle.coap_client.specs.Trace as C
use Rattle.coap_client.specs.Trace.{Request, Report, Body, Done, Failed}
use Rattle.coap_exchange.specs.SuccessCodes.{created, deleted}
use Rattle.coap_record.specs.Events.{client_end}
use Rattle.coap_record.specs.Record.{Given}
use Rattle.coap_promise.specs.ClockRuns.{created_bytes}
use Rattle.coap_promise.specs.LateRuns.{key}
use Rattle.coap_promise.specs.LegalRuns.{token, tag, get, from_server}
use Rattle.coap_many.specs.Clients.{Client, Config}
use Rattle.coap_many.specs.Entries.{Entry, Turn, client_of, entries_of}
use Rattle.coap_many.specs.Events.{Event, Acts, Calls, Ticks, Deliver}
use Rattle.coap_many.specs.ManyRuns.{second_end, third_end, first, second, third, with_clients, event, ahead, far_ahead}
use Rattle.coap_many.specs.ManyRuns.{to_server, Runs, told, told_to}
use Rattle.coap_many.specs.Words.{holds_at}

abbrev pub config : Config
config = with_clients (first ∷ second ∷ third ∷ [])

abbrev pub lock : List (List ℕ)
lock = codes "lock" ∷ []

-- a client takes it under its name, looks at it to learn its entity-tag, and gives it back

abbrev pub take : List ℕ → Request
take name = record get { method = Put; path = lock; body = name; if_none_match = true }

abbrev pub look : Request
look = record get { path = lock }

abbrev pub give_back : Request
give_back = record get { method = Delete; path = lock; if_match = tag 1 ∷ [] }

-- The first client takes the lock, and the response is lost; the second one is refused it. The first one's copy is
-- answered by the same response, so that it knows that it has it; it learns the entity-tag, and gives the lock back.
-- Then the third one takes it, and after that a repeat of the DELETE comes.

abbrev pub locks : List Event
locks =
    event 2040 (Deliver 8) ∷
    event (far_ahead + 2039) (Deliver 11) ∷
    event 2035 (Deliver 10) ∷
    event (far_ahead + 2030) (Acts third_end Ticks) ∷
    event (far_ahead + 2030) (Acts third_end (Calls (take (codes "c")))) ∷
    event 2029 (Deliver 9) ∷
    event 2025 (Deliver 8) ∷
    event 2020 (Acts client_end Ticks) ∷
    event 2020 (Acts client_end (Calls give_back)) ∷
    event 2019 (Deliver 7) ∷
    event 2015 (Deliver 6) ∷
    event 2010 (Acts client_end Ticks) ∷
    event 2010 (Acts client_end (Calls look)) ∷
    event 2009 (Deliver 5) ∷
    event 2005 (Deliver 4) ∷
    event 2000 (Acts client_end Ticks) ∷
    event (ahead + 19) (Deliver 3) ∷
    event 15 (Deliver 2) ∷
    event (ahead + 10) (Acts second_end Ticks) ∷
    event (ahead + 10) (Acts second_end (Calls (take (codes "b")))) ∷
    event 5 (Deliver 0) ∷
    event 0 (Acts client_end Ticks) ∷
    event 0 (Acts client_end (Calls (take (codes "a")))) ∷
    []

abbrev pub moments : List ℕ
moments = 2040 ∷ 2039 ∷ 2035 ∷ 2030 ∷ 2030 ∷ 2029 ∷ 2025 ∷ 2020 ∷ 2020 ∷ 2019 ∷ 2015 ∷ 2010 ∷ 2010 ∷ 2009 ∷ 2005 ∷ 2000
    ∷ 19 ∷ 15 ∷ 10 ∷ 10 ∷ 5 ∷ 0 ∷ 0 ∷ []

-- A PUT with If-None-Match (option 5, empty) and Uri-Path `lock` (option 11), and its body. Its refusal is 4.12
-- (Precondition Failed), piggybacked.

abbrev pub take_bytes : List ℕ → List ℕ
take_bytes name = 0x48 ∷ 3 ∷ 0 ∷ 0 ∷ token ++ 0x50 ∷ 0x64 ∷ codes "lock" ++ 0xff ∷ name

abbrev pub refused_bytes : List ℕ
refused_bytes = 0x68 ∷ 0x8c ∷ 0 ∷ 0 ∷ token

-- a GET, and 2.05 (Content) with ETag 1

abbrev pub look_bytes : List ℕ
look_bytes = 0x48 ∷ 1 ∷ 0 ∷ 1 ∷ key 1 ++ 0xb4 ∷ codes "lock"

abbrev pub shown_bytes : List ℕ
shown_bytes = 0x68 ∷ 0x45 ∷ 0 ∷ 1 ∷ key 1 ++ 0x48 ∷ tag 1 ++ 0xff ∷ codes "a"

-- a DELETE with If-Match 1 (option 1), and 2.02 (Deleted)

abbrev pub give_back_bytes : List ℕ
give_back_bytes = 0x48 ∷ 4 ∷ 0 ∷ 2 ∷ key 2 ++ 0x18 ∷ tag 1 ++ 0xa4 ∷ codes "lock"

abbrev pub given_back_bytes : List ℕ
given_back_bytes = 0x68 ∷ 0x42 ∷ 0 ∷ 2 ∷ key 2

abbrev pub datagrams : List Given
datagrams =
    from_server 2040 client_end given_back_bytes ∷
    from_server 2035 third_end created_bytes ∷
    to_server (far_ahead + 2030) third_end (take_bytes (codes "c")) ∷
    from_server 2025 client_end given_back_bytes ∷
    to_server 2020 client_end give_back_bytes ∷
    from_server 2015 client_end shown_bytes ∷
    to_server 2010 client_end look_bytes ∷
    from_server 2005 client_end created_bytes ∷
    to_server 2000 client_end (take_bytes (codes "a")) ∷
    from_server 15 second_end refused_bytes ∷
    to_server (ahead + 10) second_end (take_bytes (codes "b")) ∷
    from_server 5 client_end created_bytes ∷
    to_server 0 client_end (take_bytes (codes "a")) ∷
    []

-- By what a client was told it holds the lock: it was told that its PUT made it, and has not asked for a DELETE since.

abbrev pub is_made : Report → Bool
is_made (Done code) = code == created
is_made report = false

abbrev pub still : Method → Bool → Bool
still Delete held = false
still method held = held

abbrev pub holds_it : List C.Call → Bool
holds_it [] = false
holds_it (C.NextReport (Some r) ∷ past) = is_made r.report || holds_it past
holds_it (C.Calls now r answer ∷ past) = still r.method (holds_it past)
holds_it (c ∷ past) = holds_it past

-- how many of these clients do
abbrev pub holders : List Client → List Entry → ℕ
holders [] all = 0
holders (k ∷ ks) all = if holds_it (client_of k.at all) then 1 + holders ks all else holders ks all

-- whose name is in the lock
abbrev pub name_at : List Entry → List ℕ
name_at all = elim (holds_at config lock all) [ Some held ↦ held.body | None ↦ [] ]

-- whenever this client holds it by what it was told, its name is there
abbrev pub HasItsName : Endpoint → List ℕ → List Entry → Type 0
HasItsName who name all =
    Always (λ past e. holds_it (client_of who (e ∷ past)) ≡ true → name_at (e ∷ past) ≡ name) all

pub record Locks : Type 0 where
  pub run : Runs config moments locks datagrams
  pub lost : Ever (λ (turn : Turn). turn.event.what ≡ Deliver 1) run.turns → ⊥
  pub first_told : told_to client_end run.turns
      ≡ told 0 (Done created) ∷ told 1 (Body (Some (tag 1)) None (codes "a")) ∷ told 2 (Done deleted) ∷ []
  pub second_told : told_to second_end run.turns ≡ told 0 (Failed PRECONDITION_FAILED.0) ∷ []
  pub third_told : told_to third_end run.turns ≡ told 0 (Done created) ∷ []
  -- never two hold it by what they were told
  pub never_two : Always (λ past e. holders config.clients (e ∷ past) ≤ 1) (entries_of run.turns)
  pub firsts : HasItsName client_end (codes "a") (entries_of run.turns)
  pub thirds : HasItsName third_end (codes "c") (entries_of run.turns)
  -- The repeat of the DELETE takes nothing from the third one.
  pub holds : holds_it (client_of third_end (entries_of run.turns)) ≡ true
  pub there : holds_at config lock (entries_of run.turns)
      ≡ Some (record { version = 3; format = None; body = codes "c" })
