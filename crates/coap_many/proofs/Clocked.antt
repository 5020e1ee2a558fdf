-- What one client and the server see of a legal run of many is legal by the clocks of these two.
use Rattle.std.proofs.Common.{◌≡◌, ◌⊎◌, inl, inr, ⊎_elim, ◌≤◌, ◌<◌, ℕ, nat_le, Bool, true, false, List, [], ◌∷◌, ◌++◌}
use Rattle.std.proofs.Common.{length}
use Rattle.std.proofs.Common.{length-append, refl, ap, sym, subst, ◌∙◌, arith, if◌then◌else◌}
use Rattle.std.proofs.lemmas.Bool.{le-leb, leb-true, cases_lt}
use Rattle.coap_types.specs.Past.{Always}
use Rattle.coap_types.specs.declared.endpoint.Endpoint.{Endpoint}
use Rattle.coap_promise.specs.Clocks as by_clocks
use Rattle.coap_record.specs.Record as W
use Rattle.coap_record.specs.declared.addresses.Addresses.{Addresses}
use Rattle.coap_many.specs.Clients.{Config, IsOfClient}
use Rattle.coap_many.specs.Clocks.{Clocks, of_two, seen_at}
use Rattle.coap_many.specs.Entries.{Turn}
use Rattle.coap_many.specs.Events.{What, Acts, Sets, Removes, TickServer, Deliver, StrangerToClient}
use Rattle.coap_many.specs.Events.{StrangerToServer}
use Rattle.coap_many.specs.GoesOn.{CanCome, AllCanCome}
use Rattle.coap_many.specs.Legal.{IsConfig, IsLegal, MayCome}
use Rattle.coap_many.specs.Place.{place}
use Rattle.coap_many.specs.Record.{AllMade}
use Rattle.coap_many.specs.View.{view, view_what, view_turn, view_entries}
use Rattle.coap_many.specs.Views.{ViewsAreRuns}
use Rattle.coap_many.proofs.Placed.{rises, Same, same_before, stands}
use Rattle.coap_many.proofs.Seen.{is_member, Drops, Keeps, seen}
use Rattle.coap_many.proofs.Views.{Sees, sees, views_are_records}

-- what may come can come
can_come : (config : Config) (c : Clocks) (past : List Turn) (at : ℕ) (what : What) → MayCome config c past at what
    → CanCome config past what
can_come config c past at (Acts who act) m = m.0
can_come config c past at (Deliver number) m = (m.0, m.1, ⊎_elim (λ s. inl s.0) (λ s. inr s.0) m.2)
can_come config c past at (StrangerToClient who from bytes) m = m.0
can_come config c past at (StrangerToServer from bytes) m = tt
can_come config c past at (Sets path format body) m = tt
can_come config c past at (Removes path) m = tt
can_come config c past at TickServer m = tt

pub all_can_come : (config : Config) (c : Clocks) (turns : List Turn) → Always (IsLegal config c) turns
    → AllCanCome config turns
all_can_come config c [] legal = tt
all_can_come config c (t ∷ past) legal =
    (can_come config c past t.event.at t.event.what legal.0.comes, all_can_come config c past legal.1)

module _ (config : Config) (me : Endpoint) where
  -- what the two clocks show at the events of the view
  abbrev shown : Clocks → List Turn → by_clocks.Clocks
  shown c whole = seen_at c me (place config me whole)

  keep_pace : (c : Clocks) (whole : List Turn) → by_clocks.AreClocks (of_two c me) → by_clocks.AreClocks (shown c whole)
  keep_pace c whole law = record {
    near = record {
      rises = λ i j le. law.near.rises (place config me whole i) (place config me whole j)
          (rises config me whole i j le);
      pace = λ i j passed le short is. law.near.pace (place config me whole i) (place config me whole j) passed
          (rises config me whole i j le) short is;
    };
    far = record {
      rises = λ i j le. law.far.rises (place config me whole i) (place config me whole j)
          (rises config me whole i j le);
      pace = λ i j passed le short is. law.far.pace (place config me whole i) (place config me whole j) passed
          (rises config me whole i j le) short is;
    };
  }

module _ (config : Config) (range : IsConfig config) (me : Endpoint) (mine : IsOfClient config me) (c : Clocks)
    (whole : List Turn) where
  abbrev the_two : Addresses
  the_two = record { client = me; server = config.server }

  abbrev clocks : by_clocks.Clocks
  clocks = shown config me c whole

  abbrev Legal : List Turn → Type 0
  Legal turns = Always (by_clocks.IsLegal the_two clocks) (view config me turns)

  module _ (t : Turn) (past : List Turn) (law : IsLegal config c past t) (old : Sees config range me mine past)
      (same : Same config me whole (t ∷ past)) (legal : Legal past) where
    drops : Drops config range me mine past t.event.at t.event.word t.refused t.entries old.given t.event.what
        → Legal (t ∷ past)
    drops d = subst (Always (by_clocks.IsLegal the_two clocks))
        (sym (ap (λ o. view_turn me t o ++ view config me past) d.is)) legal

    keeps : Keeps config range me mine past t.event.at t.event.word t.refused t.entries old.given t.event.what
        → Legal (t ∷ past)
    keeps k =
        let turn : W.Turn = record {
          event = record { at = t.event.at; word = t.event.word; what = k.shown };
          refused = t.refused;
          entries = view_entries me t.entries;
        } in
        let is : view config me (t ∷ past) ≡ turn ∷ view config me past =
        ap (λ o. view_turn me t o ++ view config me past) k.is in
        let standing : place config me whole (length (view config me past)) ≡ length past =
        stands config me whole t past turn is same in
        subst (Always (by_clocks.IsLegal the_two clocks)) (sym is) (
          record {
            at = law.at;
            word = law.word;
            range = k.small law.range;
            comes = k.comes c clocks (record { client = ap (c.clients me) standing; server = ap c.server standing })
                law.comes;
          },
          legal,
        )

  legal_in : (turns : List Turn) → AllMade config turns → AllCanCome config turns → Same config me whole turns
      → Always (IsLegal config c) turns → Legal turns
  legal_in [] made can same legal = tt
  legal_in (t ∷ past) made can same legal =
      let old = sees config range me mine past made.1 can.1 in
      let r = legal_in past made.1 can.1 (same_before config me whole t past same) legal.1 in
      let k = seen config range me mine past t.event.at t.event.word t.refused t.entries old.given t.event.what made.0
      can.0 in
      elim k.0 [ inl d ↦ drops t past legal.0 old same r d | inr s ↦ keeps t past legal.0 old same r s ]

pub views_are_runs : ViewsAreRuns
views_are_runs c config events turns run legal k client =
    let can = all_can_come config c turns legal.events in
    record {
      seen = views_are_records config events turns run legal.range can k client;
      legal = record {
        clocks = keep_pace config k.at c turns (legal.clocks k client);
        range = legal.range.each k client;
        events = legal_in config legal.range k.at (is_member k config.clients client) c turns turns run.made can
            (λ n less. refl) legal.events;
      };
    }
