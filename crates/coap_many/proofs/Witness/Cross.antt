-- A legal run of two clients whose messages in flight at one moment have equal Message IDs and tokens.
pub mod Second
pub mod Server
use Rattle.std.proofs.Common.{◌≡◌, ◌+◌, inl, inr, ℕ, Some, List, [], ◌∷◌, ◌++◌, drop, refl, subst, arith}
use Rattle.std.specs.Prelude.{codes, Ok}
use Rattle.coap_types.specs.Past.{Ever}
use Rattle.coap_types.proofs.Facts.Bytes.{bytes_are}
use Rattle.coap_client.specs.Law.{ClientLaw}
use Rattle.coap_record.specs.Events.{client_end, server_end}
use Rattle.coap_promise.specs.LegalRuns.{plain, t, get, get_bytes, content_bytes, changed_bytes, from_server}
use Rattle.coap_smooth.specs.SmoothRuns.{put, put_bytes}
use Rattle.coap_promise.proofs.Facts.Witness.Gets.{range as get_range}
use Rattle.coap_promise.proofs.Facts.Witness.Gets.Client as one
use Rattle.coap_promise.proofs.Facts.Witness.Gets.Server as stores
use Rattle.coap_promise.proofs.Facts.Witness.InWords.{t_is}
use Rattle.coap_promise.proofs.Facts.Witness.TurnsMade.{client_turn, server_turn, to_client, to_server, ticked, ◌⨾◌}
use Rattle.coap_promise.proofs.Facts.Witness.TurnsMade.{call_taken, change_taken}
use Rattle.coap_many.specs.Clients.{Client, IsClient}
use Rattle.coap_many.specs.Entries.{Turn, client_of, entries_of}
use Rattle.coap_many.specs.Events.{Acts, Calls, Ticks, Sets, Deliver}
use Rattle.coap_many.specs.GoesOn.{a_turn}
use Rattle.coap_many.specs.ManyRuns as given
use Rattle.coap_many.specs.ManyRuns.{second_end, ahead, event, clocks_of}
use Rattle.coap_many.specs.Record.{AllMade}
use Rattle.coap_many.specs.TwoClients.{Crosses, config, moments}
use Rattle.coap_many.proofs.Witness.Cross.Second as other
use Rattle.coap_many.proofs.Witness.Cross.Server as server
use Rattle.coap_many.proofs.Witness.InRange.{config_is, put_range}
use Rattle.coap_many.proofs.Witness.Legal.{all_legal}
use Rattle.coap_many.proofs.Witness.Paced.{are_clocks}
use Rattle.coap_many.proofs.Witness.Turns.{of_client, of_server, to, to_the_server, to_a_client}

-- until both requests are out
abbrev turns_before : List Turn
turns_before =
    a_turn (event 1000000 (Acts second_end Ticks))
    (of_client second_end (client_turn [] (to_server put_bytes ∷ []) other.ticked)) ∷
    a_turn (event 1000000 (Acts second_end (Calls put))) (of_client second_end (client_turn [] [] other.called)) ∷
    a_turn (event 0 (Acts client_end Ticks))
    (of_client client_end (client_turn [] (to_server get_bytes ∷ []) one.ticked)) ∷
    a_turn (event 0 (Acts client_end (Calls get))) (of_client client_end (client_turn [] [] one.called)) ∷
    a_turn (event 0 (Sets t (Some plain) (codes "hi"))) (of_server (server_turn [] (stores.sets ∷ []))) ∷
    []

abbrev turns : List Turn
turns =
    a_turn (event 1000009 (Deliver 3)) (of_client second_end (client_turn (other.done ∷ []) [] (other.hears ∷ []))) ∷
    a_turn (event 9 (Deliver 2)) (of_client client_end (client_turn (one.got ∷ []) [] (one.hears ∷ []))) ∷
    a_turn (event 5 (Deliver 1)) (of_server (server_turn (to second_end changed_bytes ∷ []) (server.puts ∷ []))) ∷
    a_turn (event 5 (Deliver 0)) (of_server (server_turn (to_client content_bytes ∷ []) (stores.serves ∷ []))) ∷
    turns_before

-- what their events make
made : AllMade config turns
made =
    to_a_client config (drop 1 turns) 1000009 3 (from_server 5 second_end changed_bytes) refl (inr (inl refl))
    (other.done ∷ []) [] _ _ _ _ _ _ ⨾
    to_a_client config (drop 2 turns) 9 2 (from_server 5 client_end content_bytes) refl (inl refl) (one.got ∷ []) []
    _ _ _ _ _ _ ⨾
    to_the_server config (drop 3 turns) 5 1 (given.to_server ahead second_end put_bytes) refl refl
    (to second_end changed_bytes ∷ []) _ _ _ _ ⨾
    to_the_server config (drop 4 turns) 5 0 (given.to_server 0 client_end get_bytes) refl refl
    (to_client content_bytes ∷ []) _ _ _ _ ⨾
    (_, ticked ahead [] (to_server put_bytes ∷ []) _ (_, _, _, _, _, refl), refl) ⨾
    (_, call_taken ahead put (Ok 0), refl) ⨾
    (_, ticked 0 [] (to_server get_bytes ∷ []) _ (_, _, _, _, _, refl), refl) ⨾
    (_, call_taken 0 get (Ok 0), refl) ⨾
    (_, change_taken 0 t (Some plain) (codes "hi") stores.sets (_, _, refl), refl) ⨾
    tt

-- none of the first events is a delivery
not_yet : (number : ℕ) → Ever (λ (t : Turn). t.event.what ≡ Deliver number) turns_before → ⊥
not_yet number (inl h) = cc h
not_yet number (inr (inl h)) = cc h
not_yet number (inr (inr (inl h))) = cc h
not_yet number (inr (inr (inr (inl h)))) = cc h
not_yet number (inr (inr (inr (inr (inl h))))) = cc h
not_yet number (inr (inr (inr (inr (inr h))))) = h

-- the laws of the clients
law_of : (k : Client) → IsClient config k
    → ClientLaw server_end k.sizes k.setup (client_of k.at (entries_of turns))
law_of k (inl h) =
    subst (λ (x : Client). ClientLaw server_end x.sizes x.setup (client_of x.at (entries_of turns))) h one.lawful
law_of k (inr (inl h)) =
    subst (λ (x : Client). ClientLaw server_end x.sizes x.setup (client_of x.at (entries_of turns))) h other.lawful
law_of k (inr (inr h)) = absurd h

pub crossed : Crosses
crossed = record {
  run = record {
    turns = turns;
    made = record { events_are = refl; made = made; clients = law_of; server = server.lawful };
    legal = record {
      clocks = λ k client. are_clocks moments refl k.at;
      range = config_is;
      events = all_legal config (clocks_of moments) turns
          (tt ⨾ tt ⨾ tt ⨾ tt ⨾ tt ⨾ put_range ⨾ tt ⨾ get_range ⨾ (t_is, omega arith, bytes_are (codes "hi") refl) ⨾ tt)
          refl;
    };
    gives = refl;
  };
  cross = inr (inr (inr (inl (record {
    of_first = record { given = inr (inl (refl, refl)); on_its_way = λ h. not_yet 0 h };
    of_second = record { given = inl (refl, refl); on_its_way = λ h. not_yet 1 h };
    first_words = record { code = 1; rest = 0xb1 ∷ codes "t"; is = refl };
    second_words = record { code = 3; rest = 0xb1 ∷ codes "t" ++ 0xff ∷ codes "ho"; is = refl };
  }))));
  first_reports = refl;
  second_reports = refl;
  holds = refl;
  changes = refl;
}
