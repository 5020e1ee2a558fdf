-- A file is read in one way.
use Rattle.std.proofs.Common.{◌≡◌, ◌≢◌, ℕ, ◌+◌, List, [], ◌∷◌, ◌++◌, length, drop, map, Result, Ok, Err, refl, sym}
use Rattle.std.proofs.Common.{ap, ◌∙◌}
use Rattle.coap_pcap.specs.Files.{InHead, InRecord, IsFaulty, Record, Seen, Splits, Tells, record_at}
use Rattle.coap_pcap.specs.Files.{datagram_seen, found_seen, seen, seen_of}
use Rattle.coap_pcap.specs.Links.{datagram_in}
use Rattle.coap_pcap.specs.Packets.{Gives}
use Rattle.coap_pcap.specs.declared.packets.Datagram.{Datagram}
use Rattle.coap_pcap.specs.declared.packets.Packet.{Packet}
use Rattle.coap_pcap.specs.declared.reasons.Skip.{Skip}
use Rattle.coap_pcap.specs.declared.addresses.Addresses.{Addresses}
use Rattle.std.proofs.Common.{ap₂}
use Rattle.std.proofs.lemmas.List.{map-append}
use Rattle.coap_pcap.specs.declared.head.Head.{Head}
use Rattle.coap_pcap.specs.declared.reasons.Fault.{Fault}

-- no record stands in front of nothing
none_at_end : (head : Head) (place : ℕ) (taken : Record × List ℕ) → record_at head place [] ≡ Ok taken → ⊥
unfolding record_at
none_at_end head place taken e = cc

-- one more record
pub splits_more : (head : Head) (place : ℕ) (bytes : List ℕ) (rs : List Record) (end : ℕ) (rest : List ℕ) (r : Record)
    (more : List ℕ) → Splits head place bytes rs end rest → record_at head end rest ≡ Ok (r, more)
    → Splits head place bytes (rs ++ r ∷ []) (end + (16 + length r.packet)) more
splits_more head place bytes [] end rest r more s e =
    (more, rw (← s.0, ← s.1) e, (ap (λ (n : ℕ). n + (16 + length r.packet)) s.0, refl))
splits_more head place bytes (one ∷ rs) end rest r more s e =
    (s.0, s.1, splits_more head (place + (16 + length one.packet)) s.0 rs end rest r more s.2 e)

-- what a function found is what is seen of it
pub found_is : (found : Result Datagram Skip) (read : Result (Addresses × List ℕ) Skip)
    → Gives datagram_seen found read → found_seen found ≡ read
found_is (Ok d) read e = sym e
found_is (Err skip) read e = sym e

-- one more packet
pub packets_more : (head : Head) (bytes : List ℕ) (place : ℕ) (rest : List ℕ) (records : List Record)
    (xs ys : List Packet) (packet : Packet) (r : Record) (more : List ℕ)
    → Splits head 24 (drop 24 bytes) records place rest → map seen xs ≡ map (seen_of head.link) records
    → record_at head place rest ≡ Ok (r, more) → ys ≡ xs ++ packet ∷ [] → packet.at.0 ≡ r.at
    → found_seen packet.found ≡ datagram_in head.link r.packet
    → (all : List Record) × Splits head 24 (drop 24 bytes) all (place + (16 + length r.packet)) more
    × (map seen ys ≡ map (seen_of head.link) all)
packets_more head bytes place rest records xs ys packet r more splits each taken are at found =
    let is : seen packet ≡ seen_of head.link r = cc (at, found) in (
      records ++ r ∷ [],
      splits_more head 24 (drop 24 bytes) records place rest r more splits taken,
      ap (map seen) are
          ∙ map-append seen xs (packet ∷ [])
          ∙ ap₂ (λ (front back : List Seen). front ++ back) each (ap (λ (s : Seen). s ∷ []) is)
          ∙ sym (map-append (seen_of head.link) records (r ∷ [])),
    )

splits_one : (head : Head) (place : ℕ) (bytes : List ℕ) (rs ss : List Record) (m n : ℕ)
    → Splits head place bytes rs m [] → Splits head place bytes ss n [] → rs ≡ ss
splits_one head place bytes [] [] m n a b = refl
splits_one head place bytes [] (s ∷ ss) m n a b =
    absurd (none_at_end head place (s, b.0) (ap (record_at head place) a.1 ∙ b.1))
splits_one head place bytes (r ∷ rs) [] m n a b =
    absurd (none_at_end head place (r, a.0) (ap (record_at head place) b.1 ∙ a.1))
splits_one head place bytes (r ∷ rs) (s ∷ ss) m n a b =
    let same : (r, a.0) ≡ (s, b.0) = cc (a.1, b.1) in
    let first : r ≡ s = ap (λ (p : Record × List ℕ). p.0) same in
    let rest : a.0 ≡ b.0 = ap (λ (p : Record × List ℕ). p.1) same in
    let more : rs ≡ ss =
    splits_one head (place + (16 + length s.packet)) b.0 rs ss m n (rw (← first, ← rest) a.2) b.2 in
    rw (first, more) refl

splits_sound : (head : Head) (place : ℕ) (bytes : List ℕ) (rs ss : List Record) (m n : ℕ) (rest : List ℕ) (f : Fault)
    → Splits head place bytes rs m [] → Splits head place bytes ss n rest → rest ≢ [] → record_at head n rest ≡ Err f
    → ⊥
splits_sound head place bytes [] [] m n rest f a b more e = more (b.1 ∙ sym a.1)
splits_sound head place bytes [] (s ∷ ss) m n rest f a b more e =
    none_at_end head place (s, b.0) (ap (record_at head place) a.1 ∙ b.1)
splits_sound head place bytes (r ∷ rs) [] m n rest f a b more e =
    let here : record_at head place bytes ≡ Err f = rw (← b.0, ← b.1) e in cc (a.1, here)
splits_sound head place bytes (r ∷ rs) (s ∷ ss) m n rest f a b more e =
    let same : (r, a.0) ≡ (s, b.0) = cc (a.1, b.1) in
    let first : r ≡ s = ap (λ (p : Record × List ℕ). p.0) same in
    let left : a.0 ≡ b.0 = ap (λ (p : Record × List ℕ). p.1) same in
    splits_sound head (place + (16 + length s.packet)) b.0 rs ss m n rest f (rw (← first, ← left) a.2) b.2 more e

pub tells_one : (bytes : List ℕ) (a b : List Seen) → Tells bytes a → Tells bytes b → a ≡ b
tells_one bytes a b x y =
    let heads : x.head ≡ y.head = cc (x.head_is, y.head_is) in
    let records : x.records ≡ y.records = splits_one y.head 24 (drop 24 bytes) x.records y.records x.end y.end
    (rw (← heads) x.splits) y.splits in
    x.each ∙ ap (λ (h : Head). map (seen_of h.link) x.records) heads
    ∙ ap (map (seen_of y.head.link)) records ∙ sym y.each

pub tells_sound : (bytes : List ℕ) (a : List Seen) (f : Fault) → Tells bytes a → IsFaulty bytes f → ⊥
tells_sound bytes a f x (InHead is) = cc (x.head_is, is)
tells_sound bytes a f x (InRecord t) =
    let heads : x.head ≡ t.head = cc (x.head_is, t.head_is) in
    splits_sound t.head 24 (drop 24 bytes) x.records t.records x.end t.end t.rest f (rw (← heads) x.splits) t.splits
    t.more t.fault_is
