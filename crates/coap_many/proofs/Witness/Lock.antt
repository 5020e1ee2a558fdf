-- A legal run of three clients at one lock: never two hold it, by what they are told.
pub mod First
pub mod Second
pub mod Third
pub mod Server
use Rattle.std.proofs.Common.{◌≡◌, ◌≤◌, ◌+◌, inl, inr, ⊎_elim, ℕ, nat_le, nat_eq, eqb, Bool, true, false, not}
use Rattle.std.proofs.Common.{◌&&◌, ◌||◌, List, [], ◌∷◌, drop, ap, refl, subst, arith}
use Rattle.std.proofs.lemmas.Bool.{and_parts, or_cases, leb-true}
use Rattle.std.specs.Cmp.Lexicographic.{pointwise, bytes_decides}
use Rattle.std.specs.Prelude.{codes, Ok}
use Rattle.coap_types.specs.Bytes.{AreBytes}
use Rattle.coap_types.specs.EntityTag.{AreTags, IsTag}
use Rattle.coap_types.specs.Past.{Always, Ever}
use Rattle.coap_types.specs.Path.{IsPath}
use Rattle.coap_types.specs.declared.endpoint.Endpoint.{Endpoint}
use Rattle.coap_types.proofs.Facts.Bytes.{bytes_are}
use Rattle.coap_client.specs.Law.{ClientLaw}
use Rattle.coap_record.specs.Events.{client_end, server_end}
use Rattle.coap_record.specs.Legal.{IsConfig as IsConfigOfTwo, IsRequest}
use Rattle.coap_promise.specs.ClockRuns.{created_bytes}
use Rattle.coap_promise.specs.LegalRuns.{tag, from_server}
use Rattle.coap_promise.proofs.Facts.Witness.InWords.{config_range, path_of_one, of_one, no_tags}
use Rattle.coap_promise.proofs.Facts.Witness.TurnsMade.{client_turn, server_turn, to_client, to_server, ticked, ◌⨾◌}
use Rattle.coap_promise.proofs.Facts.Witness.TurnsMade.{call_taken}
use Rattle.coap_many.specs.Clients.{Client, IsClient, world_of}
use Rattle.coap_many.specs.Entries.{Entry, Turn, client_of, entries_of}
use Rattle.coap_many.specs.Events.{What, Acts, Calls, Ticks, Deliver}
use Rattle.coap_many.specs.GoesOn.{a_turn}
use Rattle.coap_many.specs.Legal.{IsConfig}
use Rattle.coap_many.specs.LockRun.{Locks, config, moments, lock, take, look, give_back, take_bytes, refused_bytes}
use Rattle.coap_many.specs.LockRun.{look_bytes, shown_bytes, give_back_bytes, given_back_bytes, holds_it, holders}
use Rattle.coap_many.specs.LockRun.{name_at, HasItsName}
use Rattle.coap_many.specs.ManyRuns as given
use Rattle.coap_many.specs.ManyRuns.{second_end, third_end, first, event, ahead, far_ahead, clocks_of}
use Rattle.coap_many.specs.Record.{AllMade}
use Rattle.coap_many.proofs.Witness.InRange.{at_port}
use Rattle.coap_many.proofs.Witness.Legal.{all_legal}
use Rattle.coap_many.proofs.Witness.Lock.First as one
use Rattle.coap_many.proofs.Witness.Lock.Second as other
use Rattle.coap_many.proofs.Witness.Lock.Server as server
use Rattle.coap_many.proofs.Witness.Lock.Third as last
use Rattle.coap_many.proofs.Witness.Paced.{are_clocks}
use Rattle.coap_many.proofs.Witness.Turns.{of_client, of_server, to, to_the_server, to_a_client}

-- until the first client is told that it has the lock
abbrev turns_taking : List Turn
turns_taking =
    a_turn (event 2009 (Deliver 5)) (of_client client_end (client_turn (one.has_it ∷ []) [] (one.hears_made ∷ []))) ∷
    a_turn (event 2005 (Deliver 4)) (of_server (server_turn (to_client created_bytes ∷ []) (server.copied ∷ []))) ∷
    a_turn (event 2000 (Acts client_end Ticks))
    (of_client client_end (client_turn [] (to_server (take_bytes (codes "a")) ∷ []) one.copies)) ∷
    a_turn (event (ahead + 19) (Deliver 3))
    (of_client second_end (client_turn (other.loses ∷ []) [] (other.hears ∷ []))) ∷
    a_turn (event 15 (Deliver 2)) (of_server (server_turn (to second_end refused_bytes ∷ []) (server.to_second ∷ []))) ∷
    a_turn (event (ahead + 10) (Acts second_end Ticks))
    (of_client second_end (client_turn [] (to_server (take_bytes (codes "b")) ∷ []) other.ticked)) ∷
    a_turn (event (ahead + 10) (Acts second_end (Calls (take (codes "b")))))
    (of_client second_end (client_turn [] [] other.takes)) ∷
    a_turn (event 5 (Deliver 0)) (of_server (server_turn (to_client created_bytes ∷ []) (server.to_first ∷ []))) ∷
    a_turn (event 0 (Acts client_end Ticks))
    (of_client client_end (client_turn [] (to_server (take_bytes (codes "a")) ∷ []) one.sends_take)) ∷
    a_turn (event 0 (Acts client_end (Calls (take (codes "a"))))) (of_client client_end (client_turn [] [] one.takes)) ∷
    []

-- until it is told that it gave it back
abbrev turns_giving : List Turn
turns_giving =
    a_turn (event 2029 (Deliver 9)) (of_client client_end (client_turn (one.is_rid ∷ []) [] (one.hears_gone ∷ []))) ∷
    a_turn (event 2025 (Deliver 8))
    (of_server (server_turn (to_client given_back_bytes ∷ []) (server.takes_back ∷ []))) ∷
    a_turn (event 2020 (Acts client_end Ticks))
    (of_client client_end (client_turn [] (to_server give_back_bytes ∷ []) one.sends_give)) ∷
    a_turn (event 2020 (Acts client_end (Calls give_back))) (of_client client_end (client_turn [] [] one.gives)) ∷
    a_turn (event 2019 (Deliver 7)) (of_client client_end (client_turn (one.sees ∷ []) [] (one.hears_shown ∷ []))) ∷
    a_turn (event 2015 (Deliver 6)) (of_server (server_turn (to_client shown_bytes ∷ []) (server.shows ∷ []))) ∷
    a_turn (event 2010 (Acts client_end Ticks))
    (of_client client_end (client_turn [] (to_server look_bytes ∷ []) one.sends_look)) ∷
    a_turn (event 2010 (Acts client_end (Calls look))) (of_client client_end (client_turn [] [] one.looks)) ∷
    turns_taking

abbrev turns : List Turn
turns =
    a_turn (event 2040 (Deliver 8)) (of_server (server_turn (to_client given_back_bytes ∷ []) (server.repeated ∷ []))) ∷
    a_turn (event (far_ahead + 2039) (Deliver 11))
    (of_client third_end (client_turn (one.has_it ∷ []) [] (last.hears ∷ []))) ∷
    a_turn (event 2035 (Deliver 10))
    (of_server (server_turn (to third_end created_bytes ∷ []) (server.to_third ∷ []))) ∷
    a_turn (event (far_ahead + 2030) (Acts third_end Ticks))
    (of_client third_end (client_turn [] (to_server (take_bytes (codes "c")) ∷ []) last.ticked)) ∷
    a_turn (event (far_ahead + 2030) (Acts third_end (Calls (take (codes "c")))))
    (of_client third_end (client_turn [] [] last.takes)) ∷
    turns_giving

-- what their events make

made_taking : AllMade config turns_taking
made_taking =
    to_a_client config (drop 1 turns_taking) 2009 5 (from_server 2005 client_end created_bytes) refl (inl refl)
    (one.has_it ∷ []) [] _ _ _ _ _ _ ⨾
    to_the_server config (drop 2 turns_taking) 2005 4 (given.to_server 2000 client_end (take_bytes (codes "a"))) refl
    refl (to_client created_bytes ∷ []) _ _ _ _ ⨾
    (_, ticked 2000 [] (to_server (take_bytes (codes "a")) ∷ []) _ (_, _, _, _, _, refl), refl) ⨾
    to_a_client config (drop 4 turns_taking) (ahead + 19) 3 (from_server 15 second_end refused_bytes) refl
    (inr (inl refl)) (other.loses ∷ []) [] _ _ _ _ _ _ ⨾
    to_the_server config (drop 5 turns_taking) 15 2
    (given.to_server (ahead + 10) second_end (take_bytes (codes "b"))) refl refl (to second_end refused_bytes ∷ []) _
    _ _ _ ⨾
    (_, ticked (ahead + 10) [] (to_server (take_bytes (codes "b")) ∷ []) _ (_, _, _, _, _, refl), refl) ⨾
    (_, call_taken (ahead + 10) (take (codes "b")) (Ok 0), refl) ⨾
    to_the_server config (drop 8 turns_taking) 5 0 (given.to_server 0 client_end (take_bytes (codes "a"))) refl refl
    (to_client created_bytes ∷ []) _ _ _ _ ⨾
    (_, ticked 0 [] (to_server (take_bytes (codes "a")) ∷ []) _ (_, _, _, _, _, refl), refl) ⨾
    (_, call_taken 0 (take (codes "a")) (Ok 0), refl) ⨾
    tt

made_giving : AllMade config turns_giving
made_giving =
    to_a_client config (drop 1 turns_giving) 2029 9 (from_server 2025 client_end given_back_bytes) refl (inl refl)
    (one.is_rid ∷ []) [] _ _ _ _ _ _ ⨾
    to_the_server config (drop 2 turns_giving) 2025 8 (given.to_server 2020 client_end give_back_bytes) refl refl
    (to_client given_back_bytes ∷ []) _ _ _ _ ⨾
    (_, ticked 2020 [] (to_server give_back_bytes ∷ []) _ (_, _, _, _, _, refl), refl) ⨾
    (_, call_taken 2020 give_back (Ok 2), refl) ⨾
    to_a_client config (drop 5 turns_giving) 2019 7 (from_server 2015 client_end shown_bytes) refl (inl refl)
    (one.sees ∷ []) [] _ _ _ _ _ _ ⨾
    to_the_server config (drop 6 turns_giving) 2015 6 (given.to_server 2010 client_end look_bytes) refl refl
    (to_client shown_bytes ∷ []) _ _ _ _ ⨾
    (_, ticked 2010 [] (to_server look_bytes ∷ []) _ (_, _, _, _, _, refl), refl) ⨾
    (_, call_taken 2010 look (Ok 1), refl) ⨾
    made_taking

made : AllMade config turns
made =
    to_the_server config (drop 1 turns) 2040 8 (given.to_server 2020 client_end give_back_bytes) refl refl
    (to_client given_back_bytes ∷ []) _ _ _ _ ⨾
    to_a_client config (drop 2 turns) (far_ahead + 2039) 11 (from_server 2035 third_end created_bytes) refl
    (inr (inr (inl refl))) (one.has_it ∷ []) [] _ _ _ _ _ _ ⨾
    to_the_server config (drop 3 turns) 2035 10
    (given.to_server (far_ahead + 2030) third_end (take_bytes (codes "c"))) refl refl
    (to third_end created_bytes ∷ []) _ _ _ _ ⨾
    (_, ticked (far_ahead + 2030) [] (to_server (take_bytes (codes "c")) ∷ []) _ (_, _, _, _, _, refl), refl) ⨾
    (_, call_taken (far_ahead + 2030) (take (codes "c")) (Ok 0), refl) ⨾
    made_giving

-- the configuration and the calls are in range

each_config : (k : Client) → IsClient config k → IsConfigOfTwo (world_of config k)
each_config k (inl h) = subst (λ (x : Client). IsConfigOfTwo (world_of config x)) h config_range
each_config k (inr (inl h)) = subst (λ (x : Client). IsConfigOfTwo (world_of config x)) h
    (at_port 40002 (omega arith) (λ same. absurd (omega (arith, same))))
each_config k (inr (inr (inl h))) = subst (λ (x : Client). IsConfigOfTwo (world_of config x)) h
    (at_port 40003 (omega arith) (λ same. absurd (omega (arith, same))))
each_config k (inr (inr (inr h))) = absurd h

config_is : IsConfig config
config_is = record {
  some = (first, inl refl);
  each = each_config;
  apart = (
    (λ h. elim h [
      | inl same ↦ (let k : 40002 ≡ 40001 = ap (λ (e : Endpoint). e.port) same in omega (arith, k))
      | inr rest ↦ elim rest [
        | inl same ↦ (let k : 40003 ≡ 40001 = ap (λ (e : Endpoint). e.port) same in omega (arith, k))
        | inr none ↦ none
      ]
    ]),
    (
      (λ h. elim h [
        | inl same ↦ (let k : 40003 ≡ 40002 = ap (λ (e : Endpoint). e.port) same in omega (arith, k))
        | inr none ↦ none
      ]),
      ((λ h. h), tt),
    ),
  );
}

lock_is : IsPath lock
lock_is = path_of_one (codes "lock") (omega arith) (bytes_are (codes "lock") refl)

take_range : (name : List ℕ) → AreBytes name → IsRequest (take name)
take_range name bytes =
    record { path = lock_is; format = tt; body = bytes; etags = no_tags; if_match = no_tags; accept = tt }

look_range : IsRequest look
look_range = record {
  path = lock_is;
  format = tt;
  body = bytes_are [] refl;
  etags = no_tags;
  if_match = no_tags;
  accept = tt;
}

one_tag : AreTags (tag 1 ∷ [])
one_tag = record {
  few = omega arith;
  each = of_one IsTag (tag 1) (record { some = omega arith; few = omega arith; bytes = bytes_are (tag 1) refl });
}

give_range : IsRequest give_back
give_range = record {
  path = lock_is;
  format = tt;
  body = bytes_are [] refl;
  etags = no_tags;
  if_match = one_tag;
  accept = tt;
}

-- the laws of the clients
law_of : (k : Client) → IsClient config k
    → ClientLaw server_end k.sizes k.setup (client_of k.at (entries_of turns))
law_of k (inl h) =
    subst (λ (x : Client). ClientLaw server_end x.sizes x.setup (client_of x.at (entries_of turns))) h one.lawful
law_of k (inr (inl h)) =
    subst (λ (x : Client). ClientLaw server_end x.sizes x.setup (client_of x.at (entries_of turns))) h other.lawful
law_of k (inr (inr (inl h))) =
    subst (λ (x : Client). ClientLaw server_end x.sizes x.setup (client_of x.at (entries_of turns))) h last.lawful
law_of k (inr (inr (inr h))) = absurd h

-- how many hold it at each entry

abbrev few : List Client → List Entry → Bool
few ks [] = true
few ks (e ∷ past) = nat_le (holders ks (e ∷ past)) 1 && few ks past

at_most_one : (ks : List Client) (all : List Entry) → few ks all ≡ true
    → Always (λ past e. holders ks (e ∷ past) ≤ 1) all
at_most_one ks [] h = tt
at_most_one ks (e ∷ past) h =
    let k = and_parts _ _ h in (leb-true (holders ks (e ∷ past)) 1 k.0, at_most_one ks past k.1)

-- who holds it has its name there

abbrev names : Endpoint → List ℕ → List Entry → Bool
names who name [] = true
names who name (e ∷ past) =
    (not (holds_it (client_of who (e ∷ past))) || pointwise nat_eq (name_at (e ∷ past)) name) && names who name past

has_its_name : (who : Endpoint) (name : List ℕ) (all : List Entry) → names who name all ≡ true
    → HasItsName who name all
has_its_name who name [] h = tt
has_its_name who name (e ∷ past) h =
    let holds = holds_it (client_of who (e ∷ past)) in
    let same = pointwise nat_eq (name_at (e ∷ past)) name in
    let k = and_parts (not holds || same) (names who name past) h in (
      λ held. ⊎_elim (λ n. let m : not holds ≡ false = ap (λ b. not b) held in absurd (cc (n, m)))
          (λ is. (bytes_decides (name_at (e ∷ past)) name).0 is) (or_cases (not holds) same k.0),
      has_its_name who name past k.1,
    )

-- the second datagram is never delivered

abbrev is_second : What → Bool
is_second (Deliver number) = eqb number 1
is_second what = false

abbrev all_others : List Turn → Bool
all_others [] = true
all_others (t ∷ past) = not (is_second t.event.what) && all_others past

never : (ts : List Turn) → all_others ts ≡ true → Ever (λ (t : Turn). t.event.what ≡ Deliver 1) ts → ⊥
never [] h e = e
never (t ∷ past) h (inl same) =
    let k = and_parts (not (is_second t.event.what)) (all_others past) h in
    let n : not (is_second t.event.what) ≡ false = ap (λ what. not (is_second what)) same in
    absurd (cc (k.0, n))
never (t ∷ past) h (inr e) = never past (and_parts (not (is_second t.event.what)) (all_others past) h).1 e

pub locked : Locks
locked = record {
  run = record {
    turns = turns;
    made = record { events_are = refl; made = made; clients = law_of; server = server.lawful };
    legal = record {
      clocks = λ k client. are_clocks moments refl k.at;
      range = config_is;
      events = all_legal config (clocks_of moments) turns (
          tt ⨾ tt ⨾ tt ⨾ tt ⨾ take_range (codes "c") (bytes_are (codes "c") refl) ⨾
          tt ⨾ tt ⨾ tt ⨾ give_range ⨾ tt ⨾ tt ⨾ tt ⨾ look_range ⨾
          tt ⨾ tt ⨾ tt ⨾ tt ⨾ tt ⨾ tt ⨾ take_range (codes "b") (bytes_are (codes "b") refl) ⨾
          tt ⨾ tt ⨾ take_range (codes "a") (bytes_are (codes "a") refl) ⨾ tt
          ) refl;
    };
    gives = refl;
  };
  lost = never turns refl;
  first_told = refl;
  second_told = refl;
  third_told = refl;
  never_two = at_most_one config.clients (entries_of turns) refl;
  firsts = has_its_name client_end (codes "a") (entries_of turns) refl;
  thirds = has_its_name third_end (codes "c") (entries_of turns) refl;
  holds = refl;
  there = refl;
}
