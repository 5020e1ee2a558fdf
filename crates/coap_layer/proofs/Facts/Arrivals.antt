-- What a datagram shows, as a relation and as a function.
use Rattle.std.proofs.Common.{◌≡◌, inl, inr, ℕ, Bool, true, false, Option, Some, None, List, [], ◌∷◌, Result, Ok, Err}
use Rattle.std.proofs.Common.{refl}
use Rattle.std.proofs.Common.{ap, sym, ◌∙◌, cond}
use Rattle.std.proofs.lemmas.Bool.{lt-ltb}
use Rattle.coap_types.specs.declared.message.Id.{Id}
use Rattle.coap_types.specs.declared.message.Kind.{Kind}
use Rattle.coap_codec.specs.Faulty.{Faulty, head_of}
use Rattle.coap_types.specs.Bytes.{AreBytes}
use Rattle.coap_types.proofs.Facts.Bytes.{AreBytes-tail, byte_at, bytes_are}
use Rattle.coap_codec.specs.IsSpelled.{is_spelled}
use Rattle.coap_codec.specs.Message.{Message, Spells}
use Rattle.coap_codec.specs.Decoded.{decoded}
use Rattle.coap_codec.specs.declared.fault.Reason.{Reason}
use Rattle.coap_codec.proofs.Facts.EveryDatagram.{decoded_spells, decoded_faulty, spelled_decoded, faulty_decoded}
use Rattle.coap_codec.proofs.Facts.Spelling.{spelled_so, spelled_it}
use Rattle.coap_layer.specs.Arrivals.{Arrival, Unreadable, Faulted, Whole, by_head, ShowsFault, IsNeither, Shows}
use Rattle.coap_layer.specs.Arrivals.{are_bytes, arrival_of, arrival_at}

are_by : (bytes : List ℕ) → AreBytes bytes → are_bytes bytes ≡ true
are_by [] h = refl
are_by (b ∷ bytes) h = rw (lt-ltb b 256 (byte_at (b ∷ bytes) h 0)) (are_by bytes (AreBytes-tail b bytes h))

shows_fault : (bytes : List ℕ) (o : Option (Kind × Id)) → ShowsFault bytes (by_head o) → Shows bytes (by_head o)
shows_fault bytes None h = inl h
shows_fault bytes (Some head) h = h

pub faulty_shows : (bytes : List ℕ) (reason : Reason) (at : ℕ) → AreBytes bytes → Faulty bytes reason at
    → (o : Option (Kind × Id)) → head_of reason bytes ≡ o → Shows bytes (by_head o)
faulty_shows bytes reason at are f o h = shows_fault bytes o (are, (reason, at, f, sym (ap by_head h)))

-- what spells nothing shows a fault, or is no bytes
module _ (bytes : List ℕ) where
  none_of : (reason : Reason) (at : ℕ) → decoded bytes ≡ Err (reason, at) → (m : Message) → Spells bytes m → ⊥
  none_of reason at h m s = let k = spelled_decoded bytes m s in cc (h, k)

  other_of : (n : Message) → decoded bytes ≡ Ok n → is_spelled bytes n ≡ false → (m : Message) → Spells bytes m → ⊥
  other_of n h unlike m s =
      let k = spelled_decoded bytes m s in
      let same : n ≡ m = cc (h, k) in
      let yes = spelled_it bytes m s in
      cc (ap (is_spelled bytes) same, yes, unlike)

  shows_message : (n : Message) → decoded bytes ≡ Ok n → (b : Bool) → is_spelled bytes n ≡ b
      → Shows bytes (cond b (Whole n) Unreadable)
  shows_message n h true is = spelled_so bytes n is
  shows_message n h false is = inr (record {
    no_bytes = λ are. other_of n h is n (decoded_spells bytes are n h);
    no_message = other_of n h is;
  })

  shows_first : (reason : Reason) (at : ℕ) → decoded bytes ≡ Err (reason, at) → (b : Bool) → are_bytes bytes ≡ b
      → Shows bytes (cond b (by_head (head_of reason bytes)) Unreadable)
  shows_first reason at h true is =
      let are = bytes_are bytes is in
      faulty_shows bytes reason at are (decoded_faulty bytes are reason at h) (head_of reason bytes) refl
  shows_first reason at h false is = inr (record {
    no_bytes = λ are. let k = are_by bytes are in cc (k, is);
    no_message = none_of reason at h;
  })

  shows_read : (r : Result Message (Reason × ℕ)) → decoded bytes ≡ r → Shows bytes (arrival_of bytes r)
  shows_read (Ok m) h = shows_message m h (is_spelled bytes m) refl
  shows_read (Err fault) h = shows_first fault.0 fault.1 h (are_bytes bytes) refl

  pub shows_at : Shows bytes (arrival_at bytes)
  shows_at = shows_read (decoded bytes) refl

  -- and nothing else

  fault_is : (what : Arrival) → ShowsFault bytes what → what ≡ arrival_at bytes
  fault_is what h =
      let k = are_by bytes h.0 in
      let d = faulty_decoded bytes h.1.0 h.1.1 h.0 h.1.2 in
      h.1.3 ∙ sym (ap (arrival_of bytes) d ∙ ap (λ b. cond b (by_head (head_of h.1.0 bytes)) Unreadable) k)

  neither_is : (r : Result Message (Reason × ℕ)) → decoded bytes ≡ r → IsNeither bytes
      → Unreadable ≡ arrival_of bytes r
  neither_is (Ok m) h neither = go (is_spelled bytes m) refl
    where
      go : (b : Bool) → is_spelled bytes m ≡ b → Unreadable ≡ cond b (Whole m) Unreadable
      go true is = absurd (neither.no_message m (spelled_so bytes m is))
      go false is = refl
  neither_is (Err fault) h neither = go (are_bytes bytes) refl
    where
      go : (b : Bool) → are_bytes bytes ≡ b → Unreadable ≡ cond b (by_head (head_of fault.0 bytes)) Unreadable
      go true is = absurd (neither.no_bytes (bytes_are bytes is))
      go false is = refl

  pub one_arrival : (what : Arrival) → Shows bytes what → what ≡ arrival_at bytes
  one_arrival (Whole m) h =
      sym (ap (arrival_of bytes) (spelled_decoded bytes m h) ∙ ap (λ b. cond b (Whole m) Unreadable)
      (spelled_it bytes m h))
  one_arrival (Faulted kind id) h = fault_is (Faulted kind id) h
  one_arrival Unreadable (inl h) = fault_is Unreadable h
  one_arrival Unreadable (inr h) = neither_is (decoded bytes) refl h
