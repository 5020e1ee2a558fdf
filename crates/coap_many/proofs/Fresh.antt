-- What one client reports was held not long before, at an event of the run.
use Rattle.std.proofs.Common.{◌≡◌, ◌⊎◌, inl, inr, ⊎_elim, ◌≤◌, ◌<◌, ◌+◌, ℕ, Option, Some, List, [], ◌∷◌, ◌++◌, length}
use Rattle.std.proofs.Common.{refl}
use Rattle.std.proofs.Common.{sym, ap}
use Rattle.std.proofs.Common.{subst, ◌∙◌}
use Rattle.coap_types.specs.Past.{Sometime, Always}
use Rattle.coap_types.specs.declared.endpoint.Endpoint.{Endpoint}
use Rattle.coap_types.specs.declared.transmission.TheConstants.{EXCHANGE_LIFETIME_MS as exchange_lifetime}
use Rattle.coap_layer.specs.Clocks.{max_gain}
use Rattle.coap_client_laws.specs.Follows.OfObservations as O
use Rattle.coap_client.specs.Trace as C
use Rattle.coap_client.specs.Trace.{Report, Body, Valid, Value}
use Rattle.coap_server.specs.Trace as S
use Rattle.coap_record.specs.Events as E
use Rattle.coap_promise.specs.Fresh as F
use Rattle.coap_promise.specs.Held.{HeldSince, ValidSince, ValueSince}
use Rattle.coap_record.specs.Record as R
use Rattle.coap_promise.specs.Words as W
use Rattle.coap_many.specs.Clients.{Client, Config, IsClient, IsOfClient, world_of}
use Rattle.coap_many.specs.Clocks.{Clocks}
use Rattle.coap_many.specs.Entries.{Entry, OfClient, OfServer, Turn, entries_of}
use Rattle.coap_many.specs.Fresh.{Has, ShowsValue, IsFresh, AreFresh}
use Rattle.coap_many.specs.GoesOn.{AllCanCome}
use Rattle.coap_many.specs.Legal.{IsConfig}
use Rattle.coap_many.specs.Place.{place}
use Rattle.coap_many.specs.Points.{Effect}
use Rattle.coap_many.specs.Record.{AllMade}
use Rattle.coap_many.specs.View.{view, view_turn, view_entry, view_entries}
use Rattle.coap_many.specs.Words.{ReportsAt}
use Rattle.coap_many.proofs.Entries.{all_of_append, client_view}
use Rattle.coap_many.proofs.Placed.{Same, same_before, stands}
use Rattle.coap_many.proofs.Positions.{sometime_up, sometime_down}
use Rattle.coap_many.proofs.Seen.{is_member, Drops, Keeps, seen}
use Rattle.coap_many.proofs.Told.{called_up, reports_down, last_is}
use Rattle.coap_many.proofs.Views.{Sees, sees}

module _ (config : Config) (range : IsConfig config) (me : Endpoint) (mine : IsOfClient config me)
    (clock : ℕ → ℕ) (age : ℕ) (whole : List Turn)
    (was : List R.Entry → R.Entry → Type 0) (Was : List Entry → Entry → Type 0)
    (of_client : (past : List Entry) (c : C.Call) → was (view_entries me past) (R.OfClient c)
    → Was past (OfClient me c))
    (of_server : (past : List Entry) (c : S.Call) → was (view_entries me past) (R.OfServer c)
    → Was past (OfServer c)) where
  -- what they see of a turn, after what they see of those before
  split : (earlier : List Entry) (past : List Turn) (old : Sees config range me mine past)
      → view_entries me (earlier ++ entries_of past)
      ≡ view_entries me earlier ++ R.entries_of (view config me past)
  split earlier past old = all_of_append (view_entry me) earlier (entries_of past)
      ∙ ap (λ l. view_entries me earlier ++ l) (sym old.entries)

  -- of a turn that they see
  module _ (t : Turn) (past : List Turn) (old : Sees config range me mine past) where
    had_up : Sometime (λ earlier e. was (earlier ++ R.entries_of (view config me past)) e) (view_entries me t.entries)
        → Has Was past t
    had_up = sometime_up me (λ earlier e. was (earlier ++ R.entries_of (view config me past)) e)
        (λ earlier e. Was (earlier ++ entries_of past) e)
        (λ earlier c h. of_client (earlier ++ entries_of past) c
        (subst (λ l. was l (R.OfClient c)) (sym (split earlier past old)) h))
        (λ earlier c h. of_server (earlier ++ entries_of past) c
        (subst (λ l. was l (R.OfServer c)) (sym (split earlier past old)) h)) t.entries

  abbrev Before : ℕ → List R.Turn → R.Turn → Type 0
  Before now before other = F.Has was before other × (now ≤ clock (place config me whole (length before)) + age)

  abbrev Since : ℕ → List Turn → Turn → Type 0
  Since now before other = Has Was before other × (now ≤ clock (length before) + age)

  -- what they see of a turn that is theirs
  abbrev as_seen : Turn → E.What → R.Turn
  as_seen t what = record {
    event = record { at = t.event.at; word = t.event.word; what = what };
    refused = t.refused;
    entries = view_entries me t.entries;
  }

  module _ (t : Turn) (past : List Turn) (old : Sees config range me mine past) (same : Same config me whole (t ∷ past))
      (now : ℕ) (rest : Sometime (Before now) (view config me past) → Sometime (Since now) past)
      (h : Sometime (Before now) (view config me (t ∷ past))) where
    up_over : Drops config range me mine past t.event.at t.event.word t.refused t.entries old.given t.event.what
        → Sometime (Since now) (t ∷ past)
    up_over d =
        inr (rest (subst (Sometime (Before now)) (ap (λ o. view_turn me t o ++ view config me past) d.is) h))

    up_at : Keeps config range me mine past t.event.at t.event.word t.refused t.entries old.given t.event.what
        → Sometime (Since now) (t ∷ past)
    up_at k =
        let is : view config me (t ∷ past) ≡ as_seen t k.shown ∷ view config me past =
        ap (λ o. view_turn me t o ++ view config me past) k.is in
        ⊎_elim (λ here. inl (
          had_up t past old here.0,
          subst (λ n. now ≤ clock n + age) (stands config me whole t past (as_seen t k.shown) is same) here.1,
        ))
        (λ before. inr (rest before)) (subst (Sometime (Before now)) is h)

  shown_up : (now : ℕ) (turns : List Turn) → AllMade config turns → AllCanCome config turns
      → Same config me whole turns → Sometime (Before now) (view config me turns) → Sometime (Since now) turns
  shown_up now [] made can same h = h
  shown_up now (t ∷ past) made can same h =
      let old = sees config range me mine past made.1 can.1 in
      let rest = shown_up now past made.1 can.1 (same_before config me whole t past same) in
      let k = seen config range me mine past t.event.at t.event.word t.refused t.entries old.given t.event.what made.0
      can.0 in
      ⊎_elim (up_over t past old same now rest h) (up_at t past old same now rest h) k.0

  module _ (here : List R.Entry → R.Entry → Type 0) (Here : List Entry → Entry → Type 0)
      (client_down : (past : List Entry) (c : C.Call) → Here past (OfClient me c)
      → here (view_entries me past) (R.OfClient c))
      (server_down : (past : List Entry) (c : S.Call) → Here past (OfServer c)
      → here (view_entries me past) (R.OfServer c))
      (own_alone : (past : List Entry) (who : Endpoint) (c : C.Call) → Here past (OfClient who c) → who ≡ me) where
    has_down : (t : Turn) (past : List Turn) → Sees config range me mine past → Has Here past t
        → Sometime (λ earlier e. here (earlier ++ R.entries_of (view config me past)) e) (view_entries me t.entries)
    has_down t past old = sometime_down me (λ earlier e. here (earlier ++ R.entries_of (view config me past)) e)
        (λ earlier e. Here (earlier ++ entries_of past) e)
        (λ earlier c h. subst (λ l. here l (R.OfClient c)) (split earlier past old)
        (client_down (earlier ++ entries_of past) c h))
        (λ earlier c h. subst (λ l. here l (R.OfServer c)) (split earlier past old)
        (server_down (earlier ++ entries_of past) c h))
        (λ earlier who c h. own_alone (earlier ++ entries_of past) who c h) t.entries

    abbrev IsFreshThere : List R.Turn → Type 0
    IsFreshThere turns = Always (λ past turn. F.Has here past turn
        → Sometime (Before (clock (place config me whole (length past)))) past) turns

    abbrev IsFreshHere : List Turn → Type 0
    IsFreshHere turns =
        Always (λ past turn. Has Here past turn → Sometime (Since (clock (length past))) past) turns

    module _ (t : Turn) (past : List Turn) (made : AllMade config past) (can : AllCanCome config past)
        (same : Same config me whole (t ∷ past)) (rest : IsFreshThere (view config me past) → IsFreshHere past)
        (law : IsFreshThere (view config me (t ∷ past))) where
      abbrev old : Sees config range me mine past
      old = sees config range me mine past made can

      over : Drops config range me mine past t.event.at t.event.word t.refused t.entries old.given t.event.what
          → IsFreshHere (t ∷ past)
      over d = (
        (λ h. absurd (subst (Sometime (λ earlier e. here (earlier ++ R.entries_of (view config me past)) e)) d.none
            (has_down t past old h))),
        rest (subst IsFreshThere (ap (λ o. view_turn me t o ++ view config me past) d.is) law),
      )

      at : Keeps config range me mine past t.event.at t.event.word t.refused t.entries old.given t.event.what
          → IsFreshHere (t ∷ past)
      at k =
          let is : view config me (t ∷ past) ≡ as_seen t k.shown ∷ view config me past =
          ap (λ o. view_turn me t o ++ view config me past) k.is in
          let known = subst IsFreshThere is law in (
            (λ h. shown_up (clock (length past)) past made can (same_before config me whole t past same)
                (subst (λ n. Sometime (Before (clock n)) (view config me past))
                (stands config me whole t past (as_seen t k.shown) is same) (known.0 (has_down t past old h)))),
            rest known.1,
          )

    pub fresh_up : (turns : List Turn) → AllMade config turns → AllCanCome config turns → Same config me whole turns
        → IsFreshThere (view config me turns) → IsFreshHere turns
    fresh_up [] made can same law = tt
    fresh_up (t ∷ past) made can same law =
        let rest = fresh_up past made.1 can.1 (same_before config me whole t past same) in
        let k = seen config range me mine past t.event.at t.event.word t.refused t.entries
        (old t past made.1 can.1 same rest law).given t.event.what made.0 can.0 in
        ⊎_elim (over t past made.1 can.1 same rest law) (at t past made.1 can.1 same rest law) k.0

module _ (c : Clocks) (config : Config) (range : IsConfig config) (k : Client) (client : IsClient config k)
    (turns : List Turn) (made : AllMade config turns) (can : AllCanCome config turns) where
  abbrev mine : IsOfClient config k.at
  mine = is_member k config.clients client

  -- of one kind of report
  of_report : (number : ℕ) (report : Report) (was : List R.Entry → R.Entry → Type 0) (Was : List Entry → Entry → Type 0)
      → ((past : List Entry) (d : C.Call) → was (view_entries k.at past) (R.OfClient d) → Was past (OfClient k.at d))
      → ((past : List Entry) (d : S.Call) → was (view_entries k.at past) (R.OfServer d) → Was past (OfServer d))
      → F.IsFresh (world_of config k) (λ past turn. c.clients k.at (place config k.at turns (length past)))
      (exchange_lifetime + max_gain) (W.ReportsAt (world_of config k) (record { number = number; report = report })) was
      (view config k.at turns)
      → IsFresh config k c (ReportsAt k (record { number = number; report = report })) Was turns
  of_report number report was Was of_client of_server law =
      fresh_up config range k.at mine (c.clients k.at) (exchange_lifetime + max_gain) turns was Was of_client of_server
      (W.ReportsAt (world_of config k) (record { number = number; report = report }))
      (ReportsAt k (record { number = number; report = report }))
      (λ past d h. reports_down config k (record { number = number; report = report }) past d h)
      (λ past d h. absurd h) (λ past who d h. h.0) turns made can (λ n less. refl) law

  pub are_fresh : F.AreFresh (world_of config k)
      (λ past turn. c.clients k.at (place config k.at turns (length past))) (exchange_lifetime + max_gain)
      (view config k.at turns) → AreFresh config k c turns
  are_fresh law = record {
    bodies = λ number tag format body. of_report number (Body tag format body)
        (HeldSince (world_of config k) number tag format body)
        (Effect config k number (Body tag format body) (entries_of turns))
        (λ past d h. (
          h.request,
          h.version,
          record {
            called = called_up config k number h.request past h.called;
            tag_is = h.holds.tag_is;
            there = sym (last_is config k h.request.path past) ∙ h.holds.there;
          },
        ))
        (λ past d h. (
          h.request,
          h.version,
          record {
            called = called_up config k number h.request past h.called;
            tag_is = h.holds.tag_is;
            there = sym (last_is config k h.request.path (OfServer d ∷ past)) ∙ h.holds.there;
          },
        )) (law.bodies number tag format body);
    valid = λ number tag. of_report number (Valid tag) (ValidSince (world_of config k) number tag)
        (Effect config k number (Valid tag) (entries_of turns))
        (λ past d h. (
          h.request,
          h.held,
          record {
            called = called_up config k number h.request past h.called;
            tag_is = h.holds.tag_is;
            there = sym (last_is config k h.request.path past) ∙ h.holds.there;
          },
          h.own,
        ))
        (λ past d h. (
          h.request,
          h.held,
          record {
            called = called_up config k number h.request past h.called;
            tag_is = h.holds.tag_is;
            there = sym (last_is config k h.request.path (OfServer d ∷ past)) ∙ h.holds.there;
          },
          h.own,
        )) (law.valid number tag);
    values = λ number sequence tag format body. of_report number (Value sequence tag format body)
        (ValueSince (world_of config k) number sequence tag format body)
        (ShowsValue config k number sequence tag format body)
        (λ past d h. record {
          path = h.path;
          observed = subst (O.WasObserved (record { number = number; path = h.path })) (client_view k.at past)
              h.observed;
          version = h.version;
          sequence_is = h.sequence_is;
          tag_is = h.holds.tag_is;
          there = sym (last_is config k h.path past) ∙ h.holds.there;
        })
        (λ past d h. record {
          path = h.path;
          observed = subst (O.WasObserved (record { number = number; path = h.path })) (client_view k.at past)
              h.observed;
          version = h.version;
          sequence_is = h.sequence_is;
          tag_is = h.holds.tag_is;
          there = sym (last_is config k h.path (OfServer d ∷ past)) ∙ h.holds.there;
        }) (law.values number sequence tag format body);
  }
