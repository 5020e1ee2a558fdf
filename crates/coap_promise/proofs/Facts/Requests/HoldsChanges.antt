-- What the server holds at each path is the last of its changes there.
use Rattle.std.proofs.Common.{◌≡◌, ℕ, None, Some, List, [], ◌∷◌, refl, ap, ◌∙◌, cond, map}
use Rattle.coap_types.specs.Past.{Always}
use Rattle.coap_types.proofs.Facts.Paths.{same_path-decides}
use Rattle.coap_resource.specs.Limits.{Limits}
use Rattle.coap_server.specs.Trace as S
use Rattle.coap_server.specs.Law.{own_of, ServerRows, ServerLaw}
use Rattle.coap_server.specs.Follows.Holds.{Change, change, held_then}
use Rattle.coap_server.specs.Follows.Tags.{AreStamped}
use Rattle.coap_server.proofs.Facts.Holds.{held_is, holds_changes}
use Rattle.coap_server_laws.proofs.Facts.Laws.{stamped}
use Rattle.coap_record.specs.Events.{Config}
use Rattle.coap_promise.specs.Holds.{Holds, HoldsChanges}
use Rattle.coap_record.specs.Record.{Entry, OfClient, OfServer, server_trace}
use Rattle.coap_record.specs.Record.{Setting, DelayOf, PlainOf, gives_it, settings}
use Rattle.coap_promise.specs.Words.{holds_at, last_at}

-- a server begins with nothing: its settings change nothing
begun_empty : (limits : Limits) (szx : ℕ) (ss : List Setting) (path : List (List ℕ))
    → (own_of limits szx (map gives_it ss)).store.holds path ≡ None
begun_empty limits szx [] path = refl
begun_empty limits szx (DelayOf d ∷ ss) path = begun_empty limits szx ss path
begun_empty limits szx (PlainOf p ∷ ss) path = begun_empty limits szx ss path

module _ (config : Config) where
  abbrev pub Rows : List Entry → Type 0
  Rows t = ServerRows config.limits config.server_szx (server_trace config t)

  pub rows_back : (e : Entry) (past : List Entry) → Rows (e ∷ past) → Rows past
  rows_back (OfClient c) past rows = rows
  rows_back (OfServer c) past rows = rows.1

  -- what it holds is its last change, after any entries
  pub last_is : (t : List Entry) → Rows t → (path : List (List ℕ)) → holds_at config path t ≡ last_at config path t
  last_is t rows path = held_is config.limits config.server_szx (server_trace config t) rows path

  abbrev Stamped : List Entry → Type 0
  Stamped t = AreStamped config.limits config.server_szx (server_trace config t)

  stamped_back : (e : Entry) (past : List Entry) → Stamped (e ∷ past) → Stamped past
  stamped_back (OfClient c) past h = h
  stamped_back (OfServer c) past h = h.1

  -- a change says what its path holds
  made_here : (past : List Entry) (c : S.Call) (x : Change)
      → change (own_of config.limits config.server_szx (server_trace config past)) c ≡ Some x
      → last_at config x.path (OfServer c ∷ past) ≡ x.held
  made_here past c x is =
      ap (λ o. held_then x.path o (last_at config x.path past)) is
      ∙ ap (λ b. cond b x.held (last_at config x.path past)) ((same_path-decides x.path x.path).1 refl)

  holds_here : (e : Entry) (past : List Entry) → Rows (e ∷ past) → Stamped (e ∷ past) → Holds config past e
  holds_here (OfClient c) past rows h = record {
    last = last_is past rows;
    version = λ x is. absurd is;
    made = λ x is. absurd is;
    under = λ x held is there. absurd is;
  }
  holds_here (OfServer c) past rows h =
      record {
        last = last_is (OfServer c ∷ past) rows;
        version = (holds_changes config.limits config.server_szx
            (server_trace config (OfServer c ∷ past)) rows).0.version;
        made = λ x is. last_is (OfServer c ∷ past) rows x.path ∙ made_here past c x is;
        under = h.0.held;
      }

  each_holds : (t : List Entry) → Rows t → Stamped t → Always (Holds config) t
  each_holds [] rows h = tt
  each_holds (e ∷ past) rows h = (
    holds_here e past rows h,
    each_holds past (rows_back e past rows) (stamped_back e past h),
  )

  pub changes_held : (all : List Entry) → ServerLaw config.limits config.server_szx config.server_setup
      (server_trace config all) → HoldsChanges config all
  changes_held all law =
      record {
        first = begun_empty config.limits config.server_szx (settings config);
        each = each_holds all law.rows (stamped config.limits config.server_szx config.server_setup
            (server_trace config all) law);
      }
