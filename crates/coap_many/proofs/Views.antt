-- What one client and the server see of a record of many is a record of theirs.
use Rattle.std.proofs.Common.{◌≡◌, inl, inr, List, [], ◌∷◌, ◌++◌, refl, sym, ap, subst}
use Rattle.std.proofs.Common.{◌∙◌}
use Rattle.std.specs.Prelude.{filter}
use Rattle.std.proofs.lemmas.List.Elements.{filter-append}
use Rattle.coap_types.specs.Past.{Always, all_of}
use Rattle.coap_types.specs.declared.endpoint.Endpoint.{Endpoint}
use Rattle.coap_client.specs.Law.{ClientLaw}
use Rattle.coap_server.specs.Law.{ServerLaw}
use Rattle.coap_record.specs.Record as W
use Rattle.coap_record.specs.declared.addresses.Addresses.{Addresses}
use Rattle.coap_record.specs.Begins.{begins_with}
use Rattle.coap_many.specs.Clients.{Config, IsOfClient}
use Rattle.coap_many.specs.Entries.{Turn, given_in, entries_of}
use Rattle.coap_many.specs.GoesOn.{AllCanCome}
use Rattle.coap_many.specs.Record.{AllMade}
use Rattle.coap_many.specs.Legal.{IsConfig}
use Rattle.coap_many.specs.View.{view, view_turn, view_entries, view_entry}
use Rattle.coap_many.specs.Comings.{is_of}
use Rattle.coap_many.specs.Views.{ViewsAreRecords}
use Rattle.coap_many.proofs.Entries.{all_of_append, client_view, server_view, AreApart, given_view}
use Rattle.coap_many.proofs.Seen.{is_member, Drops, Keeps, seen}

module _ (config : Config) (range : IsConfig config) (me : Endpoint) (mine : IsOfClient config me) where
  abbrev the_two : Addresses
  the_two = record { client = me; server = config.server }

  -- all that is said of turns, from the oldest on
  pub record Sees (turns : List Turn) : Type 0 where
    pub entries : W.entries_of (view config me turns) ≡ view_entries me (entries_of turns)
    pub given : all_of (W.given_in the_two) (view config me turns)
        ≡ filter (is_of config me) (all_of (given_in config) turns)
    pub made : Always (λ past t. W.Makes the_two past t.event.at t.event.word t.event.what t.refused t.entries)
        (view config me turns)

  module _ (t : Turn) (past : List Turn) (old : Sees past) (apart : AreApart config t.entries) where
    given_so : filter (is_of config me) (all_of (given_in config) (t ∷ past))
        ≡ all_of (W.given_by the_two t.event.at) (view_entries me t.entries) ++ all_of (W.given_in the_two)
        (view config me past)
    given_so = filter-append (is_of config me) (given_in config t) (all_of (given_in config) past)
        ∙ ap (λ l. l ++ filter (is_of config me) (all_of (given_in config) past))
        (sym (given_view config me t.event.at t.entries apart))
        ∙ ap (λ l. all_of (W.given_by the_two t.event.at) (view_entries me t.entries) ++ l) (sym old.given)

    drops : Drops config range me mine past t.event.at t.event.word t.refused t.entries old.given t.event.what
        → Sees (t ∷ past)
    drops d =
        let same : view config me (t ∷ past) ≡ view config me past =
        ap (λ o. view_turn me t o ++ view config me past) d.is in
        record {
          entries = ap W.entries_of same ∙ old.entries ∙ sym (all_of_append (view_entry me) t.entries (entries_of past)
              ∙ ap (λ l. l ++ view_entries me (entries_of past)) d.none);
          given = ap (all_of (W.given_in the_two)) same
              ∙ sym (given_so ∙ ap (λ es. all_of (W.given_by the_two t.event.at) es ++ all_of (W.given_in the_two)
              (view config me past)) d.none);
          made = subst (Always (λ past t. W.Makes the_two past t.event.at t.event.word t.event.what t.refused
              t.entries))
              (sym same) old.made;
        }

    keeps : Keeps config range me mine past t.event.at t.event.word t.refused t.entries old.given t.event.what
        → Sees (t ∷ past)
    keeps k =
        let turn : W.Turn = record {
          event = record { at = t.event.at; word = t.event.word; what = k.shown };
          refused = t.refused;
          entries = view_entries me t.entries;
        } in
        let same : view config me (t ∷ past) ≡ turn ∷ view config me past =
        ap (λ o. view_turn me t o ++ view config me past) k.is in
        record {
          entries = ap W.entries_of same ∙ ap (λ l. view_entries me t.entries ++ l) old.entries
              ∙ sym (all_of_append (view_entry me) t.entries (entries_of past));
          given = ap (all_of (W.given_in the_two)) same ∙ sym given_so;
          made = subst (Always (λ past t. W.Makes the_two past t.event.at t.event.word t.event.what t.refused
              t.entries))
              (sym same) (k.makes, old.made);
        }

  pub sees : (turns : List Turn) → AllMade config turns → AllCanCome config turns → Sees turns
  sees [] made can = record { entries = refl; given = refl; made = tt }
  sees (t ∷ past) made can =
      let old = sees past made.1 can.1 in
      let k = seen config range me mine past t.event.at t.event.word t.refused t.entries old.given t.event.what made.0
      can.0 in
      elim k.0 [ inl d ↦ drops t past old k.1 d | inr s ↦ keeps t past old k.1 s ]

pub views_are_records : ViewsAreRecords
views_are_records config events turns run range can k client =
    let s = sees config range k.at (is_member k config.clients client) turns run.made can in
    record {
      made = record {
        events_are = refl;
        made = s.made;
        client = subst (ClientLaw config.server k.sizes k.setup)
            (sym (ap W.client_of s.entries ∙ client_view k.at (entries_of turns))) (run.clients k client);
        server = subst (ServerLaw config.limits config.szx config.setup)
            (sym (ap (λ es. W.server_of es ++ begins_with config.plains config.delays) s.entries
            ∙ ap (λ l. l ++ begins_with config.plains config.delays) (server_view k.at (entries_of turns)))) run.server;
      };
      entries = s.entries;
    }
