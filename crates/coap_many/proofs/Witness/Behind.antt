-- A legal run of two clients in which the one gets what the other put, and was told is done.
pub mod First
pub mod Second
pub mod Server
use Rattle.std.proofs.Common.{◌+◌, inl, inr, List, [], ◌∷◌, drop, Some, refl}
use Rattle.std.proofs.Common.{subst, arith}
use Rattle.std.specs.Prelude.{codes, Ok}
use Rattle.coap_types.proofs.Facts.Bytes.{bytes_are}
use Rattle.coap_client.specs.Law.{ClientLaw}
use Rattle.coap_record.specs.Events.{client_end, server_end}
use Rattle.coap_promise.specs.LegalRuns.{plain, t, get, get_bytes, changed_bytes, from_server}
use Rattle.coap_smooth.specs.SmoothRuns.{put, put_bytes}
use Rattle.coap_promise.proofs.Facts.Witness.Gets.{range as get_range}
use Rattle.coap_promise.proofs.Facts.Witness.Gets.Server as stores
use Rattle.coap_promise.proofs.Facts.Witness.InWords.{t_is}
use Rattle.coap_promise.proofs.Facts.Witness.TurnsMade.{client_turn, server_turn, to_client, to_server, ticked, ◌⨾◌}
use Rattle.coap_promise.proofs.Facts.Witness.TurnsMade.{call_taken, change_taken}
use Rattle.coap_many.specs.Clients.{Client, IsClient}
use Rattle.coap_many.specs.Entries.{Turn, client_of, entries_of}
use Rattle.coap_many.specs.Events.{Acts, Calls, Ticks, Sets, Deliver}
use Rattle.coap_many.specs.GoesOn.{a_turn}
use Rattle.coap_many.specs.ManyRuns as given
use Rattle.coap_many.specs.ManyRuns.{second_end, ahead, event, clocks_of}
use Rattle.coap_many.specs.ReadsBehind.{ReadsBehind, moments, read_bytes}
use Rattle.coap_many.specs.Record.{AllMade}
use Rattle.coap_many.specs.TwoClients.{config}
use Rattle.coap_many.proofs.Witness.Behind.First as one
use Rattle.coap_many.proofs.Witness.Behind.Second as other
use Rattle.coap_many.proofs.Witness.Behind.Server as server
use Rattle.coap_many.proofs.Witness.InRange.{config_is, put_range}
use Rattle.coap_many.proofs.Witness.Legal.{all_legal}
use Rattle.coap_many.proofs.Witness.Paced.{are_clocks}
use Rattle.coap_many.proofs.Witness.Turns.{of_client, of_server, to, to_the_server, to_a_client}

abbrev turns : List Turn
turns =
    a_turn (event (ahead + 19) (Deliver 3))
    (of_client second_end (client_turn (other.got ∷ []) [] (other.hears ∷ []))) ∷
    a_turn (event 15 (Deliver 2)) (of_server (server_turn (to second_end read_bytes ∷ []) (server.serves ∷ []))) ∷
    a_turn (event (ahead + 10) (Acts second_end Ticks))
    (of_client second_end (client_turn [] (to_server get_bytes ∷ []) other.ticked)) ∷
    a_turn (event (ahead + 10) (Acts second_end (Calls get))) (of_client second_end (client_turn [] [] other.called)) ∷
    a_turn (event 9 (Deliver 1)) (of_client client_end (client_turn (one.done ∷ []) [] (one.hears ∷ []))) ∷
    a_turn (event 5 (Deliver 0)) (of_server (server_turn (to_client changed_bytes ∷ []) (server.puts ∷ []))) ∷
    a_turn (event 0 (Acts client_end Ticks))
    (of_client client_end (client_turn [] (to_server put_bytes ∷ []) one.ticked)) ∷
    a_turn (event 0 (Acts client_end (Calls put))) (of_client client_end (client_turn [] [] one.called)) ∷
    a_turn (event 0 (Sets t (Some plain) (codes "hi"))) (of_server (server_turn [] (stores.sets ∷ []))) ∷
    []

made : AllMade config turns
made =
    to_a_client config (drop 1 turns) (ahead + 19) 3 (from_server 15 second_end read_bytes) refl (inr (inl refl))
    (other.got ∷ []) [] _ _ _ _ _ _ ⨾
    to_the_server config (drop 2 turns) 15 2 (given.to_server (ahead + 10) second_end get_bytes) refl refl
    (to second_end read_bytes ∷ []) _ _ _ _ ⨾
    (_, ticked (ahead + 10) [] (to_server get_bytes ∷ []) _ (_, _, _, _, _, refl), refl) ⨾
    (_, call_taken (ahead + 10) get (Ok 0), refl) ⨾
    to_a_client config (drop 5 turns) 9 1 (from_server 5 client_end changed_bytes) refl (inl refl) (one.done ∷ []) []
    _ _ _ _ _ _ ⨾
    to_the_server config (drop 6 turns) 5 0 (given.to_server 0 client_end put_bytes) refl refl
    (to_client changed_bytes ∷ []) _ _ _ _ ⨾
    (_, ticked 0 [] (to_server put_bytes ∷ []) _ (_, _, _, _, _, refl), refl) ⨾
    (_, call_taken 0 put (Ok 0), refl) ⨾
    (_, change_taken 0 t (Some plain) (codes "hi") stores.sets (_, _, refl), refl) ⨾
    tt

law_of : (k : Client) → IsClient config k
    → ClientLaw server_end k.sizes k.setup (client_of k.at (entries_of turns))
law_of k (inl h) =
    subst (λ (x : Client). ClientLaw server_end x.sizes x.setup (client_of x.at (entries_of turns))) h one.lawful
law_of k (inr (inl h)) =
    subst (λ (x : Client). ClientLaw server_end x.sizes x.setup (client_of x.at (entries_of turns))) h other.lawful
law_of k (inr (inr h)) = absurd h

pub read_behind : ReadsBehind
read_behind = record {
  run = record {
    turns = turns;
    made = record { events_are = refl; made = made; clients = law_of; server = server.lawful };
    legal = record {
      clocks = λ k client. are_clocks moments refl k.at;
      range = config_is;
      events = all_legal config (clocks_of moments) turns
          (tt ⨾ tt ⨾ tt ⨾ get_range ⨾ tt ⨾ tt ⨾ tt ⨾ put_range ⨾ (t_is, omega arith, bytes_are (codes "hi") refl) ⨾ tt)
          refl;
    };
    gives = refl;
  };
  behind = inr (inr (inr (inl (record { asks = refl; told = refl; first_act = refl }))));
  reads = refl;
}
