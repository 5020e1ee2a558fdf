-- What is written is read again.
use Rattle.std.proofs.Common.{◌≡◌, ℕ, false, ◌+◌, ◌-◌, ◌*◌, ◌/◌, ◌%◌, ◌^◌, ◌<◌, ◌≤◌, List, [], ◌∷◌, ◌++◌}
use Rattle.std.proofs.Common.{length, take, drop, map, Ok, refl, sym, ap, ◌∙◌, arith, append_assoc, length-append}
use Rattle.std.specs.Prelude.{◌==◌, ◌&&◌, Some, not, slice_index}
use Rattle.std.proofs.lemmas.List.{drop-drop, drop_at, take_all, take_at}
use Rattle.std.proofs.lemmas.Nat.{from_be_bytes-to_be_bytes_2, from_le_bytes-to_le_bytes_4}
use Rattle.coap_types.specs.declared.endpoint.Endpoint.{Endpoint}
use Rattle.coap_pcap.specs.Files.{Record, Splits, Tells, head_behind, head_for, head_of, kind_of, record_at}
use Rattle.coap_pcap.specs.Files.{seen_of}
use Rattle.coap_pcap.specs.Links.{by_version, datagram_in, link_of}
use Rattle.coap_pcap.specs.Numbers.{half_at, word_at}
use Rattle.coap_pcap.specs.Packets.{behind_extensions, ipv4_body, ipv4_datagram, ipv4_header, ipv6_body, ipv6_datagram}
use Rattle.coap_pcap.specs.Packets.{is_fragment, is_ipv4, udp_at, version}
use Rattle.coap_pcap.specs.Written.{AllHaveRecords, AreAddresses, Sent, file, file_head, ipv4_head}
use Rattle.coap_pcap.specs.Written.{ipv4_summed, ipv6_head, packet, record_of, records, seen_again}
use Rattle.coap_pcap.specs.Written.{udp_head, udp_summed}
use Rattle.coap_pcap.specs.declared.addresses.Addresses.{Addresses}
use Rattle.coap_pcap.specs.declared.addresses.Addresses.TheVariants.{V4, V6}
use Rattle.coap_pcap.specs.declared.addresses.SixEndpoint.{SixEndpoint}
use Rattle.coap_pcap.specs.declared.fields.Order.TheVariants.{Big, Little}
use Rattle.coap_pcap.specs.declared.head.Head.{Head}
use Rattle.coap_pcap.specs.declared.head.Unit.TheVariants.{Micros}
use Rattle.coap_pcap.specs.declared.link.Link.TheVariants.{Raw}
use Rattle.coap_pcap.proofs.Steps.{if_false, ipv6_behind, is_lt, not_lt}

-- a header of UDP

udp_taken : (bytes payload : List ℕ) (source destination n : ℕ) → half_at Big bytes 0 ≡ source
    → half_at Big bytes 2 ≡ destination → half_at Big bytes 4 ≡ n → n ≡ 8 + length payload → drop 8 bytes ≡ payload
    → length bytes ≡ 8 + length payload → udp_at bytes ≡ Ok (source, destination, payload)
unfolding udp_at
udp_taken bytes payload source destination n s d l n_is behind len =
    let kept : take (half_at Big bytes 4 - 8) (drop 8 bytes) ≡ payload = rw behind (take_all _ payload (omega arith)) in
    if_false _ _ _ (not_lt (length bytes) 8 (omega arith))
    ∙ if_false _ _ _ (not_lt (half_at Big bytes 4) 8 (omega arith))
    ∙ if_false _ _ _ (not_lt (length bytes) (half_at Big bytes 4) (omega arith))
    ∙ cc

length-udp : (source destination len sum : ℕ) → length (udp_head source destination len sum) ≡ 8
unfolding udp_head
length-udp source destination len sum = refl

length-udp_packet : (source destination len sum : ℕ) (payload : List ℕ)
    → length (udp_head source destination len sum ++ payload) ≡ 8 + length payload
length-udp_packet source destination len sum payload =
    omega (arith, length-append (udp_head source destination len sum) payload, length-udp source destination len sum)

udp_again : (source destination sum : ℕ) (payload : List ℕ) → source < 2 ^ 16 → destination < 2 ^ 16
    → 8 + length payload < 2 ^ 16
    → udp_at (udp_head source destination (8 + length payload) sum ++ payload) ≡ Ok (source, destination, payload)
unfolding udp_head half_at
udp_again source destination sum payload s d len =
    udp_taken (udp_head source destination (8 + length payload) sum ++ payload) payload source destination
    (8 + length payload) (from_be_bytes-to_be_bytes_2 source s) (from_be_bytes-to_be_bytes_2 destination d)
    (from_be_bytes-to_be_bytes_2 (8 + length payload) len) refl refl
    (length-udp_packet source destination (8 + length payload) sum payload)

-- packets of IPv4

ipv4_taken : (bytes body : List ℕ) (n : ℕ) → slice_index bytes 0 ≡ 69 → half_at Big bytes 2 ≡ n
    → half_at Big bytes 6 ≡ 16384 → slice_index bytes 9 ≡ 17 → n ≡ 20 + length body → length bytes ≡ n
    → drop 20 bytes ≡ body → ipv4_body bytes ≡ Ok body
unfolding ipv4_body is_ipv4 is_fragment
ipv4_taken bytes body n first total flags protocol n_is len behind =
    let header : ipv4_header bytes ≡ 20 = rw first refl in
    let kept : take (half_at Big bytes 2 - ipv4_header bytes) (drop (ipv4_header bytes) bytes) ≡ body =
    rw (header, behind) (take_all _ body (omega arith)) in
    let none : not (is_ipv4 bytes) ≡ false = rw first refl in
    let other : not (slice_index bytes 9 == 17) ≡ false = rw protocol refl in
    let part : is_fragment bytes ≡ false = rw flags refl in
    if_false _ _ _ (not_lt (length bytes) 20 (omega arith))
    ∙ if_false _ _ _ none
    ∙ if_false _ _ _ (not_lt (half_at Big bytes 2) (ipv4_header bytes) (omega arith))
    ∙ if_false _ _ _ other
    ∙ if_false _ _ _ part
    ∙ if_false _ _ _ (not_lt (length bytes) (half_at Big bytes 2) (omega arith))
    ∙ ap Ok kept

ipv4_found : (bytes body payload : List ℕ) (from to : Endpoint) → ipv4_body bytes ≡ Ok body
    → udp_at body ≡ Ok (from.port, to.port, payload) → take 4 (drop 12 bytes) ≡ from.ip → take 4 (drop 16 bytes) ≡ to.ip
    → ipv4_datagram bytes ≡ Ok (V4 from to, payload)
unfolding ipv4_datagram
ipv4_found bytes body payload from to b u f t = rw (b, u, f, t) refl

ipv4_again : (sum len : ℕ) (from to : Endpoint) (body payload : List ℕ) → length from.ip ≡ 4 → length to.ip ≡ 4
    → len ≡ 20 + length body → len < 2 ^ 16 → udp_at body ≡ Ok (from.port, to.port, payload)
    → ipv4_datagram (ipv4_head sum len from.ip to.ip ++ body) ≡ Ok (V4 from to, payload)
unfolding ipv4_head half_at
ipv4_again sum len from to body payload f t is short udp =
    let bytes : List ℕ = ipv4_head sum len from.ip to.ip ++ body in
    let ends : (from.ip ++ to.ip) ++ body ≡ from.ip ++ (to.ip ++ body) = append_assoc from.ip to.ip body in
    let both : length (from.ip ++ to.ip) ≡ 8 = omega (arith, length-append from.ip to.ip) in
    ipv4_found bytes body payload from to
    (ipv4_taken bytes body len refl (from_be_bytes-to_be_bytes_2 len short) refl refl is
    (omega (arith, length-append (from.ip ++ to.ip) body, both)) (drop_at (from.ip ++ to.ip) body 8 both))
    udp
    (ap (take 4) ends ∙ take_at from.ip (to.ip ++ body) 4 f)
    (ap (λ (l : List ℕ). take 4 (drop 4 l)) ends ∙ ap (take 4) (drop_at from.ip (to.ip ++ body) 4 f)
    ∙ take_at to.ip body 4 t)

raw4 : (sum len : ℕ) (from to body : List ℕ)
    → datagram_in Raw (ipv4_head sum len from to ++ body) ≡ ipv4_datagram (ipv4_head sum len from to ++ body)
unfolding datagram_in by_version ipv4_head
raw4 sum len from to body = refl

-- packets of IPv6

ipv6_taken : (bytes body : List ℕ) (n : ℕ) → slice_index bytes 0 ≡ 96 → half_at Big bytes 4 ≡ n
    → slice_index bytes 6 ≡ 17 → n ≡ length body → 40 ≤ length bytes → drop 40 bytes ≡ body → ipv6_body bytes ≡ Ok body
unfolding behind_extensions
ipv6_taken bytes body n first total next n_is len behind =
    let six : version bytes ≡ 6 = rw first refl in
    let kept : body ≡ take n (drop 40 bytes) = rw behind (sym (take_all n body (omega arith))) in
    ipv6_behind bytes body 6 n len (sym six) refl (sym total) kept ∙ rw next refl

ipv6_found : (bytes body payload : List ℕ) (from to : SixEndpoint) → ipv6_body bytes ≡ Ok body
    → udp_at body ≡ Ok (from.port, to.port, payload) → take 16 (drop 8 bytes) ≡ from.ip
    → take 16 (drop 24 bytes) ≡ to.ip → ipv6_datagram bytes ≡ Ok (V6 from to, payload)
unfolding ipv6_datagram
ipv6_found bytes body payload from to b u f t = rw (b, u, f, t) refl

ipv6_again : (len : ℕ) (from to : SixEndpoint) (body payload : List ℕ) → length from.ip ≡ 16 → length to.ip ≡ 16
    → len ≡ length body → len < 2 ^ 16 → udp_at body ≡ Ok (from.port, to.port, payload)
    → ipv6_datagram (ipv6_head len from.ip to.ip ++ body) ≡ Ok (V6 from to, payload)
unfolding ipv6_head half_at
ipv6_again len from to body payload f t is short udp =
    let bytes : List ℕ = ipv6_head len from.ip to.ip ++ body in
    let ends : (from.ip ++ to.ip) ++ body ≡ from.ip ++ (to.ip ++ body) = append_assoc from.ip to.ip body in
    let both : length (from.ip ++ to.ip) ≡ 32 = omega (arith, length-append from.ip to.ip) in
    ipv6_found bytes body payload from to
    (ipv6_taken bytes body len refl (from_be_bytes-to_be_bytes_2 len short) refl is
    (omega (arith, length-append (from.ip ++ to.ip) body, both)) (drop_at (from.ip ++ to.ip) body 32 both))
    udp
    (ap (take 16) ends ∙ take_at from.ip (to.ip ++ body) 16 f)
    (ap (λ (l : List ℕ). take 16 (drop 16 l)) ends ∙ ap (take 16) (drop_at from.ip (to.ip ++ body) 16 f)
    ∙ take_at to.ip body 16 t)

raw6 : (len : ℕ) (from to body : List ℕ)
    → datagram_in Raw (ipv6_head len from to ++ body) ≡ ipv6_datagram (ipv6_head len from to ++ body)
unfolding datagram_in by_version ipv6_head
raw6 len from to body = refl

-- the packet of a datagram

packet_again : (a : Addresses) (payload : List ℕ) → AreAddresses a → length payload ≤ 65507
    → datagram_in Raw (packet a payload) ≡ Ok (a, payload)
unfolding packet ipv4_summed udp_summed
packet_again (V4 from to) payload is short =
    raw4 _ _ from.ip to.ip _
    ∙ ipv4_again _ _ from to _ payload is.0 is.1
    (ap (λ (n : ℕ). 20 + n) (sym (length-udp_packet from.port to.port (8 + length payload) _ payload)))
    (omega arith) (udp_again from.port to.port _ payload is.2 is.3 (omega arith))
packet_again (V6 from to) payload is short =
    raw6 _ from.ip to.ip _
    ∙ ipv6_again _ from to _ payload is.0 is.1
    (sym (length-udp_packet from.port to.port (8 + length payload) _ payload))
    (omega arith) (udp_again from.port to.port _ payload is.2 is.3 (omega arith))

length-ipv4 : (sum len : ℕ) (from to : List ℕ) → length from ≡ 4 → length to ≡ 4
    → length (ipv4_head sum len from to) ≡ 20
unfolding ipv4_head
length-ipv4 sum len from to f t = omega (arith, length-append from to)

length-ipv6 : (len : ℕ) (from to : List ℕ) → length from ≡ 16 → length to ≡ 16 → length (ipv6_head len from to) ≡ 40
unfolding ipv6_head
length-ipv6 len from to f t = omega (arith, length-append from to)

behind_head : (head : List ℕ) (n source destination sum : ℕ) (payload : List ℕ) → length head ≡ n
    → length (head ++ (udp_head source destination (8 + length payload) sum ++ payload)) ≡ n + (8 + length payload)
behind_head head n source destination sum payload e =
    omega (
      arith,
      length-append head (udp_head source destination (8 + length payload) sum ++ payload),
      length-udp_packet source destination (8 + length payload) sum payload,
    )

packet_len : (a : Addresses) (payload : List ℕ) → AreAddresses a → length payload ≤ 65507
    → length (packet a payload) < 2 ^ 32
unfolding packet ipv4_summed udp_summed
packet_len (V4 from to) payload is short =
    let e : length (packet (V4 from to) payload) ≡ 20 + (8 + length payload) =
    behind_head _ 20 from.port to.port _ payload (length-ipv4 _ _ from.ip to.ip is.0 is.1) in
    omega (arith, e)
packet_len (V6 from to) payload is short =
    let e : length (packet (V6 from to) payload) ≡ 40 + (8 + length payload) =
    behind_head _ 40 from.port to.port _ payload (length-ipv6 _ from.ip to.ip is.0 is.1) in
    omega (arith, e)

-- the head of the file, and its records

abbrev own_head : Head
own_head = record { order = Little; unit = Micros; link = Raw }

head_taken : (bytes : List ℕ) → 24 ≤ length bytes → word_at Little bytes 0 ≡ 2712847316
    → word_at Big bytes 0 ≡ 3569595041 → half_at Little bytes 4 ≡ 2 → half_at Little bytes 6 ≡ 4
    → word_at Little bytes 20 ≡ 101 → head_of bytes ≡ Ok own_head
unfolding head_of head_behind kind_of
head_taken bytes long little big major minor link =
    let kind : kind_of bytes ≡ Some (Little, Micros) = rw little refl in
    let other : (word_at Big bytes 0 == 168627466) ≡ false = rw big refl in
    let version : not ((half_at Little bytes 4 == 2) && (half_at Little bytes 6 == 4)) ≡ false =
    rw (major, minor) refl in
    let raw : link_of (word_at Little bytes 20 % 65536) ≡ Some Raw = rw link refl in
    if_false _ _ _ (not_lt (length bytes) 4 (omega arith))
    ∙ if_false _ _ _ other
    ∙ ap (λ k. head_behind k bytes) kind
    ∙ if_false _ _ _ (not_lt (length bytes) 24 long)
    ∙ if_false _ _ _ version
    ∙ ap (head_for (Little, Micros)) raw

head_len : length file_head ≡ 24
unfolding file_head
head_len = refl

head_again : (more : List ℕ) → head_of (file_head ++ more) ≡ Ok own_head
unfolding file_head half_at word_at
head_again more =
    head_taken (file_head ++ more) (omega (arith, length-append file_head more, head_len)) refl refl refl refl refl

record_taken : (place : ℕ) (bytes packet more : List ℕ) (s f n : ℕ) → word_at Little bytes 0 ≡ s
    → word_at Little bytes 4 ≡ f → word_at Little bytes 8 ≡ n → word_at Little bytes 12 ≡ n → f < 1000000
    → n ≡ length packet → drop 16 bytes ≡ packet ++ more → length bytes ≡ 16 + (length packet + length more)
    → record_at own_head place bytes ≡ Ok (record { at = s * 1000 + f / 1000; packet = packet }, more)
unfolding record_at
record_taken place bytes packet more s f n seconds fraction captured original fits n_is behind len =
    let kept : take (word_at Little bytes 8) (drop 16 bytes) ≡ packet =
    rw (behind, captured) (take_at packet more n (sym n_is)) in
    let left : drop (16 + word_at Little bytes 8) bytes ≡ more =
    rw captured (sym (drop-drop n 16 bytes) ∙ ap (drop n) behind ∙ drop_at packet more n (sym n_is)) in
    if_false _ _ _ (not_lt (length bytes) 16 (omega arith))
    ∙ if_false _ _ _ (is_lt (word_at Little bytes 4) 1000000 (omega arith))
    ∙ if_false _ _ _ (not_lt (word_at Little bytes 12) (word_at Little bytes 8) (omega arith))
    ∙ if_false _ _ _ (not_lt (length bytes) (16 + word_at Little bytes 8) (omega arith))
    ∙ rw (kept, left, seconds, fraction) refl

whole : (ms : ℕ) → ms / 1000 * 1000 + ms % 1000 * 1000 / 1000 ≡ ms
whole ms = omega arith

record_again : (place ms : ℕ) (packet more : List ℕ) → ms / 1000 < 2 ^ 32 → length packet < 2 ^ 32
    → record_at own_head place (record_of ms packet ++ more) ≡ Ok (record { at = ms; packet = packet }, more)
unfolding record_of word_at
record_again place ms packet more early short =
    let taken = record_taken place (record_of ms packet ++ more) packet more (ms / 1000) (ms % 1000 * 1000)
    (length packet) (from_le_bytes-to_le_bytes_4 (ms / 1000) early)
    (from_le_bytes-to_le_bytes_4 (ms % 1000 * 1000) (omega arith))
    (from_le_bytes-to_le_bytes_4 (length packet) short) (from_le_bytes-to_le_bytes_4 (length packet) short)
    (omega arith) refl refl (omega (arith, length-append packet more)) in
    taken ∙ ap (λ (at : ℕ). Ok (record { at = at; packet = packet }, more)) (whole ms)

abbrev recorded : Sent → Record
recorded s = record { at = s.at; packet = packet s.addresses s.payload }

splits_again : (place : ℕ) (sent : List Sent) → AllHaveRecords sent
    → (end : ℕ) × Splits own_head place (records sent) (map recorded sent) end []
splits_again place [] h = (place, (refl, refl))
splits_again place (s ∷ more) h =
    let this = packet s.addresses s.payload in
    let rest = splits_again (place + (16 + length this)) more h.1 in (
      rest.0,
      (
        records more,
        record_again place s.at this (records more) h.0.early
            (packet_len s.addresses s.payload h.0.addresses h.0.short),
        rest.1,
      ),
    )

seen_each : (sent : List Sent) → AllHaveRecords sent → map seen_again sent ≡ map (seen_of Raw) (map recorded sent)
seen_each [] h = refl
seen_each (s ∷ more) h =
    let found = packet_again s.addresses s.payload h.0.addresses h.0.short in
    let rest = seen_each more h.1 in
    cc (found, rest)

file_behind : (sent : List Sent) → drop 24 (file sent) ≡ records sent
unfolding file_head
file_behind sent = refl

pub tells_again : (sent : List Sent) → AllHaveRecords sent → Tells (file sent) (map seen_again sent)
tells_again sent h =
    let splits = splits_again 24 sent h in
    record {
      head = own_head;
      records = map recorded sent;
      end = splits.0;
      head_is = head_again (records sent);
      splits = rw (file_behind sent) splits.1;
      each = seen_each sent h;
    }
