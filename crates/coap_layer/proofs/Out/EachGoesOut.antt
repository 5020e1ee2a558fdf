-- What goes out, by the rows.
use Rattle.coap_layer.specs.Trace.{Setup}
use Rattle.std.proofs.Common.{◌≡◌, ◌⊎◌, inl, inr, ⊎_elim, ℕ, ◌+◌, ◌%◌, ◌<◌, Bool, true, false, ◌&&◌, cond, Option, Some}
use Rattle.std.proofs.Common.{None, List, [], ◌∷◌, refl, ap, sym, ◌∙◌, subst, arith}
use Rattle.coap_types.specs.Past.{Always, Since}
use Rattle.coap_types.specs.declared.endpoint.Endpoint.{Endpoint}
use Rattle.coap_types.specs.declared.message.Kind.{Kind}
use Rattle.coap_types.specs.declared.message.Kind.TheVariants.{Con, Non, Ack, Rst}
use Rattle.coap_codec.specs.Message.{Spells}
use Rattle.coap_codec.specs.Spelling.{message_bytes}
use Rattle.coap_layer.specs.Arrivals.{Arrival, Unreadable, Faulted, Whole, Shows}
use Rattle.coap_layer.specs.Trace.{Content, with_head, Packet, Call, Receive, Reply, Confirm, Plain, Settle, Ticks}
use Rattle.coap_layer.specs.Trace.{Take, Room, AsksFree, Pass, Answer, Copied, Entry}
use Rattle.coap_layer.specs.Words.{Incoming, is_con, was_con, hands_up, reply_in, replied, Open, sent_by, open_of}
use Rattle.coap_layer.specs.Words.{begun_in, begun, outstanding, numbers, copies_in}
use Rattle.coap_layer.specs.Rows.{Stands, LayerLaw, Row, Arrives, Sorts, rejects, drops, takes_ack, takes_reset}
use Rattle.coap_layer.specs.Rows.{passes_reset, takes_answer, replays, hands_over, IsSpelled, Confirms, SendsAs}
use Rattle.coap_layer.specs.Rows.{RefusesIds, copies}
use Rattle.coap_layer.specs.Rows.{expires, rests, HasStep, Fails, CopyDue, Copies}
use Rattle.coap_layer.specs.Sends.{IsIn, as_begun, SendsIt, packet_of, GoesAlike, AllAlike, SpellsCon, ConsSpelled}
use Rattle.coap_layer.specs.Sends.{GoesOut, first, copy, plain, reply, reset, EachGoesOut, Begins}
use Rattle.coap_layer.proofs.Copies.CopiesInTime.{was_begun, begun_by, in_first, copies_row}
use Rattle.coap_layer.proofs.Copies.WhatIsOpen.{some_in, first_has, one_open, copied_by, place_same}
use Rattle.coap_layer.proofs.Numbers.EqualIdsAreApart.{small}
use Rattle.coap_layer.proofs.Numbers.OneEntryForAnId.{begins_of}
use Rattle.coap_layer.proofs.ListLemmas.{both}
use Rattle.coap_types.proofs.Facts.Traces.{Ever_map}
use Rattle.std.proofs.lemmas.Bool.Decides.{nat_tests}
use Rattle.coap_types.specs.declared.transmission.TheConstants.{ACK_TIMEOUT_MS as ack_timeout}
use Rattle.coap_types.specs.declared.transmission.TheConstants.{TIMEOUT_VALUES as timeout_values}
use Rattle.coap_types.specs.declared.message.TheConstants.{MESSAGE_IDS as message_ids}

-- a CON that begins goes out, and is spelled so
pub record ConGoes (e : Entry) (c : Open) : Type 0 where
  pub out : e.out ≡ packet_of c ∷ []
  pub spells : SpellsCon c

con_row : (setup : Setup) (past : List Entry) (e : Entry) (c : Open) → Stands setup past e → begun e ≡ Some c
    → ConGoes e c
con_row setup past e c here h = go row.1
  where
    b : Begins e.at e.call e.answer c
    b = begins_of e c h

    row : IsSpelled b.content × Confirms setup past e c.to b.content
    row = subst (Row setup past e) b.call_is here.row

    go : Confirms setup past e c.to b.content → ConGoes e c
    go (inl r) = let k = b.answer_is in let l = r.answer in absurd (cc (k, l))
    go (inr (f, inl r)) = let k = b.answer_is in let l = r.answer in absurd (cc (k, l))
    go (inr (f, inr r)) =
        let id_is : r.id ≡ c.id = let k = b.answer_is in let l = r.answer in cc (k, l) in
        let bytes_is : message_bytes (with_head Con r.id b.content)
        ≡ c.bytes = ap (λ (n : ℕ). message_bytes (with_head Con n b.content)) id_is ∙ sym b.bytes_are in
        let bound : c.id < message_ids = let k = r.gives.next in let l =
        small setup.word (numbers past) in omega (arith, id_is, k, l) in
        record {
          out = r.out ∙ ap (λ (x : List ℕ). record { to = c.to; bytes = x } ∷ []) bytes_is;
          spells = (
            with_head Con c.id b.content,
            subst (λ (x : List ℕ). Spells x (with_head Con c.id b.content))
                (sym b.bytes_are) (row.0 Con c.id bound),
            refl,
            refl,
          );
        }

pub cons_spelled : (setup : Setup) (t : List Entry) → LayerLaw setup t → ConsSpelled t
cons_spelled setup [] law = tt
cons_spelled setup (e ∷ past) law = ((λ c h. (con_row setup past e c law.0 h).spells), cons_spelled setup past law.1)

-- each sending of a CON is alike
first_alike : (setup : Setup) (past : List Entry) (e : Entry) (c : Open) → Stands setup past e → begun e ≡ Some c
    → GoesAlike c e
first_alike setup past e c here h =
    let b = begins_of e c h in
    record {
      from = omega (arith, b.first_is);
      till = omega (arith, b.first_is);
      out = (con_row setup past e c here h).out;
    }

copy_alike : (setup : Setup) (past : List Entry) (e : Entry) (x : Open) → LayerLaw setup (e ∷ past)
    → IsIn x (outstanding past) → e.answer ≡ Copied x.to x.id → GoesAlike (as_begun x) e
copy_alike setup past e x law there answer =
    record {
      from = let k = begun_by setup past (as_begun x) law.1 (was_begun past x there) in omega (arith, k, law.0.time);
      till = ⊎_elim (λ f. absurd (r.alive (subst (Fails e.at) (sym same) f)))
          (λ (d : CopyDue e.at x). let w = d.early in omega (arith, w))
          (subst (HasStep e.at) same (first_has (HasStep e.at) r.con (outstanding past) r.first));
      out = r.out ∙ ap (λ (y : Open). packet_of y ∷ []) same;
    }
  where
    r : Copies past e
    r = copies_row setup past e e.call x.to x.id law.0.row answer

    to_is : r.con.to ≡ x.to
    to_is = let k = r.answer in cc (k, answer)

    same : r.con ≡ x
    same = one_open setup past law.1 r.con x (in_first (HasStep e.at) r.con (outstanding past) r.first) there to_is

alike : (setup : Setup) (past : List Entry) (e : Entry) (c : Open) → LayerLaw setup (e ∷ past) → SendsIt c past e
    → GoesAlike c e
alike setup past e c law (inl b) = first_alike setup past e c law.0 b
alike setup past e c law (inr s) =
    let q = some_in (λ x. as_begun x ≡ c) (outstanding past) s.0 in
    let answer : e.answer ≡ Copied q.0.to q.0.id = copied_by e.call e.answer c.to c.id s.1
    ∙ ap (λ (y : Open). Copied y.to y.id) (sym q.2) in
    subst (λ (y : Open). GoesAlike y e) q.2 (copy_alike setup past e q.0 law q.1 answer)

alike_in : (setup : Setup) (c : Open) (t : List Entry) → LayerLaw setup t
    → Always (λ past e. SendsIt c past e → GoesAlike c e) t
alike_in setup c [] law = tt
alike_in setup c (e ∷ past) law = ((λ s. alike setup past e c law s), alike_in setup c past law.1)

pub all_alike : (setup : Setup) (t : List Entry) → LayerLaw setup t → AllAlike t
all_alike setup t law c = alike_in setup c t law

-- what goes out, by the row
none_out : (X : Type 0) (p : Packet) (out : List Packet) → out ≡ [] → IsIn p out → X
none_out X p out is h = absurd (subst (IsIn p) is h)

one_out : (p q : Packet) (out : List Packet) → out ≡ q ∷ [] → IsIn p out → q ≡ p
one_out p q out is h = ⊎_elim (λ k. k) (λ k. absurd k) (subst (IsIn p) is h)

con_only : (k : Kind) → is_con k ≡ true → k ≡ Con
con_only Con h = refl
con_only Non h = absurd (cc h)
con_only Ack h = absurd (cc h)
con_only Rst h = absurd (cc h)

-- the stored reply was given since the message was handed up
replied_since : (from : Endpoint) (id : ℕ) (t : List Entry) (bytes : List ℕ) → replied from id t ≡ Some bytes
    → Since (λ b. reply_in from id b.call ≡ Some bytes) (λ b. hands_up from id b ≡ false) t
replied_since from id [] bytes h = absurd (cc h)
replied_since from id (e ∷ past) bytes h = go (hands_up from id e) (reply_in from id e.call) refl refl h
    (replied_since from id past bytes)
  where
    go : (u : Bool) (o : Option (List ℕ)) → hands_up from id e ≡ u → reply_in from id e.call ≡ o
        → cond u None (elim o [ Some b ↦ Some b | None ↦ replied from id past ]) ≡ Some bytes
        → (replied from id past ≡ Some bytes → Since (λ b. reply_in from id b.call ≡ Some bytes)
        (λ b. hands_up from id b ≡ false) past)
        → Since (λ b. reply_in from id b.call ≡ Some bytes) (λ b. hands_up from id b ≡ false) (e ∷ past)
    go true o a b k f = absurd (cc k)
    go false (Some x) a b k f = inl (b ∙ k)
    go false None a b k f = inr (a, f k)

module _ (setup : Setup) (past : List Entry) (e : Entry) (p : Packet) (law : LayerLaw setup (e ∷ past))
    (sends : IsIn p e.out) where
  sorted_out : (from : Endpoint) (bytes : List ℕ) (m : Incoming) → m.from ≡ from → e.call ≡ Receive from bytes
      → Spells bytes m.message → Sorts setup past e m → GoesOut past e p
  sorted_out from bytes m place call spells (rejects r) =
      subst (GoesOut past e) (one_out p _ e.out r.out sends)
      (reset (record {
        bytes = bytes;
        id = m.message.id;
        call = call ∙ ap (λ (f : Endpoint). Receive f bytes) (sym place);
        shows = inr (m.message, spells, r.kind, refl);
        answer = r.answer;
        is = refl;
      }))
  sorted_out from bytes m place call spells (drops r) = none_out _ p e.out r.out sends
  sorted_out from bytes m place call spells (takes_ack r) = none_out _ p e.out r.out sends
  sorted_out from bytes m place call spells (takes_reset r) = none_out _ p e.out r.out sends
  sorted_out from bytes m place call spells (passes_reset r) = none_out _ p e.out r.out sends
  sorted_out from bytes m place call spells (takes_answer r) = none_out _ p e.out r.out sends
  sorted_out from bytes m place call spells (hands_over r) = none_out _ p e.out r.out sends
  sorted_out from bytes m place call spells (replays r) =
      go (is_con m.message.kind) (was_con m.from m.message.id past)
      (replied m.from m.message.id past) refl refl refl r.out
    where
      go : (a b : Bool) (o : Option (List ℕ)) → is_con m.message.kind ≡ a → was_con m.from m.message.id past ≡ b
          → replied m.from m.message.id past ≡ o
          → e.out ≡ cond (a && b) (elim o [ Some x ↦ record { to = m.from; bytes = x } ∷ [] | None ↦ [] ]) []
          → GoesOut past e p
      go false b o h k l out = none_out _ p e.out out sends
      go true false o h k l out = none_out _ p e.out out sends
      go true true None h k l out = none_out _ p e.out out sends
      go true true (Some x) h k l out =
          subst (GoesOut past e) (one_out p _ e.out out sends)
          (GoesOut.stored (record {
            bytes = bytes;
            message = m.message;
            call = call ∙ ap (λ (f : Endpoint). Receive f bytes) (sym place);
            spells = spells;
            kind = con_only m.message.kind h;
            answer = r.answer;
            old = r.old;
            con = k;
            given = replied_since m.from m.message.id past x l;
          }))

  fault_out : (from : Endpoint) (bytes : List ℕ) (id : ℕ) → e.call ≡ Receive from bytes → Shows bytes (Faulted Con id)
      → Arrives setup past e from (Faulted Con id) → GoesOut past e p
  fault_out from bytes id call shows r =
      subst (GoesOut past e) (one_out p _ e.out r.1 sends)
      (reset (record { bytes = bytes; id = id; call = call; shows = inl shows; answer = r.0; is = refl }))

  arrived_out : (from : Endpoint) (bytes : List ℕ) (what : Arrival) → e.call ≡ Receive from bytes → Shows bytes what
      → Arrives setup past e from what → GoesOut past e p
  arrived_out from bytes Unreadable call shows r = none_out _ p e.out r.1 sends
  arrived_out from bytes (Faulted Con id) call shows r = fault_out from bytes id call shows r
  arrived_out from bytes (Faulted Non id) call shows r = none_out _ p e.out r.1 sends
  arrived_out from bytes (Faulted Ack id) call shows r = none_out _ p e.out r.1 sends
  arrived_out from bytes (Faulted Rst id) call shows r = none_out _ p e.out r.1 sends
  arrived_out from bytes (Whole m) call shows r =
      sorted_out from bytes (record { from = from; message = m }) refl call shows r

  confirmed_out : (to : Endpoint) (content : Content) (wish : ℕ) → e.call ≡ Confirm to content wish
      → Confirms setup past e to content → GoesOut past e p
  confirmed_out to content wish call (inl r) = none_out _ p e.out r.out sends
  confirmed_out to content wish call (inr (f, inl r)) = none_out _ p e.out r.out sends
  confirmed_out to content wish call (inr (f, inr r)) =
      subst (GoesOut past e) (one_out p _ e.out r.out sends)
      (first (record {
        con = record {
          to = to;
          id = r.id;
          bytes = message_bytes (with_head Con r.id content);
          timeout = ack_timeout + wish % timeout_values;
          first = e.at;
          last = e.at;
        };
        begins = ap (λ (x : Call). begun_in e.at x e.answer) call
            ∙ ap (λ (x : Answer). open_of e.at to content wish (sent_by x)) r.answer;
        is = refl;
      }))

  plain_out : (to : Endpoint) (content : Content) → e.call ≡ Plain to content → IsSpelled content
      → RefusesIds setup past e ⊎ SendsAs Non setup past e to content → GoesOut past e p
  plain_out to content call spelled (inl r) = none_out _ p e.out r.out sends
  plain_out to content call spelled (inr r) =
      subst (GoesOut past e) (one_out p _ e.out r.out sends)
      (plain (record {
        content = content;
        id = r.id;
        call = call;
        answer = r.answer;
        spells = spelled Non r.id (let k = r.gives.next in let l = small setup.word (numbers past) in omega
            (arith, k, l));
      }))

  copied_out : e.call ≡ Ticks → Copies past e → GoesOut past e p
  copied_out call r =
      let there : IsIn r.con (outstanding past) = in_first (HasStep e.at) r.con (outstanding past) r.first in
      let again : copies_in e.call e.answer r.con.to r.con.id
      ≡ true = ap (λ (x : Call). copies_in x e.answer r.con.to r.con.id) call
      ∙ (ap (λ (x : Answer). copies_in Ticks x r.con.to r.con.id) r.answer
      ∙ both _ _ (place_same r.con.to r.con.to refl) (grind (arith, nat_tests))) in
      let sends_it : SendsIt (as_begun r.con) past e =
      inr (Ever_map _ _ (λ (x : Open) k. ap as_begun k) (outstanding past) there, again) in
      let a : GoesAlike (as_begun r.con) e = alike setup past e (as_begun r.con) law sends_it in
      subst (GoesOut past e) (one_out p _ e.out a.out sends)
      (copy (record {
        con = as_begun r.con;
        begun_before = was_begun past r.con there;
        sends = sends_it;
        from = a.from;
        till = a.till;
        answer = r.answer;
        is = refl;
      }))

  row_out : (call : Call) → e.call ≡ call → Row setup past e call → GoesOut past e p
  row_out (Receive from bytes) is row = arrived_out from bytes row.0 is row.1 row.2
  row_out (Reply to id bytes) is row = subst (GoesOut past e) (one_out p _ e.out row.2 sends)
      (reply (record { id = id; awaited = row.0; call = is }))
  row_out (Confirm to content wish) is row = confirmed_out to content wish is row.1
  row_out (Plain to content) is row = plain_out to content is row.0 row.1
  row_out (Settle to id) is row = none_out _ p e.out row.0.1 sends
  row_out Ticks is (copies r) = copied_out is r
  row_out Ticks is (expires r) = none_out _ p e.out r.out sends
  row_out Ticks is (rests r) = none_out _ p e.out r.out sends
  row_out Take is row = none_out _ p e.out row.1 sends
  row_out (Room to) is row = none_out _ p e.out row.1 sends
  row_out AsksFree is row = none_out _ p e.out row.1 sends
  row_out Pass is row = none_out _ p e.out row.1 sends

pub goes_out : (setup : Setup) (past : List Entry) (e : Entry) (p : Packet) → LayerLaw setup (e ∷ past) → IsIn p e.out
    → GoesOut past e p
goes_out setup past e p law sends = row_out setup past e p law sends e.call refl law.0.row

pub each_goes_out : (setup : Setup) (t : List Entry) → LayerLaw setup t → EachGoesOut t
each_goes_out setup [] law = tt
each_goes_out setup (e ∷ past) law = ((λ p h. goes_out setup past e p law h), each_goes_out setup past law.1)
