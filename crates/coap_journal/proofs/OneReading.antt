-- The bytes of a journal are of one frame and of one input each.
use Rattle.std.proofs.Common.{◌≡◌, ℕ, ◌+◌, ◌<◌, ◌≤◌, ◌^◌, All, List, [], ◌∷◌, ◌++◌, length, Option, Some, None, refl}
use Rattle.std.proofs.Common.{sym, ap, ◌∙◌, arith, append_assoc}
use Rattle.std.proofs.lemmas.List.{length-append, append-nil}
use Rattle.std.proofs.lemmas.List.Elements.{All-head, All-tail}
use Rattle.std.proofs.lemmas.Nat.{from_be_bytes-to_be_bytes_2}
use Rattle.std.specs.Int.{w16, from_be_bytes}
use Rattle.coap_types.specs.declared.endpoint.Endpoint.{Endpoint}
use Rattle.coap_journal.specs.Numbers.{half, number, short}
use Rattle.coap_journal.specs.Frames.{BeginsFrame, frame, head, head_len, sealed, sum_of}
use Rattle.coap_journal.specs.Input.{AreShort, Delay, Feed, Forget, Input, IsEndpoint, IsFormat, IsInput, IsSegments}
use Rattle.coap_journal.specs.Input.{Plain, Refuse, Remove, Set, Tick, delay_bytes, endpoint_bytes, feed_bytes}
use Rattle.coap_journal.specs.Input.{format_bytes, path_bytes, refuse_bytes, remove_bytes, set_bytes, spelled, text}
use Rattle.coap_journal.specs.Input.{texts, tick_bytes}
use Rattle.coap_journal.proofs.Bytes.{length-half, length-number, length-short, number_one, one_front, one_rest}
use Rattle.coap_journal.proofs.Bytes.{short_one}
use Rattle.coap_journal.proofs.Seals.{head_one, length-head, sealed_front}

-- parts of one length in front
pub peel : (a b x y r s : List ℕ) → length a ≡ length b → (a ++ x) ++ r ≡ (b ++ y) ++ s → (a ≡ b) × (x ++ r ≡ y ++ s)
peel a b x y r s len e =
    let flat : a ++ (x ++ r) ≡ b ++ (y ++ s) = sym (append_assoc a x r) ∙ e ∙ append_assoc b y s in
    (one_front a b (x ++ r) (y ++ s) len flat, one_rest a b (x ++ r) (y ++ s) len flat)

pub same_numbers : (m n : ℕ) → length (number m) ≡ length (number n)
same_numbers m n = length-number m ∙ sym (length-number n)

-- one frame begins
pub one_frame : (place : ℕ) (a b r s : List ℕ) → length a < 2 ^ 32 → length b < 2 ^ 32
    → frame place a ++ r ≡ frame place b ++ s → (a ≡ b) × (r ≡ s)
one_frame place a b r s low high e =
    let la = length a in
    let lb = length b in
    let heads = peel (head place la) (head place lb) (sealed (place + head_len) a) (sealed (place + head_len) b) r s
    (length-head place la ∙ sym (length-head place lb)) e in
    let same : la ≡ lb = head_one place la lb (sealed (place + head_len) a ++ r) (sealed (place + head_len) b ++ s) low
    high
    (sym (append_assoc (head place la) (sealed (place + head_len) a) r) ∙ e
    ∙ append_assoc (head place lb) (sealed (place + head_len) b) s) in
    let is : a ≡ b = sealed_front (place + head_len) a b r s same heads.1 in
    let sums = peel a b (number (sum_of (place + head_len) a)) (number (sum_of (place + head_len) b)) r s same
    heads.1 in (
      is,
      one_rest (number (sum_of (place + head_len) a)) (number (sum_of (place + head_len) b)) r s
          (same_numbers (sum_of (place + head_len) a) (sum_of (place + head_len) b)) sums.1,
    )

nothing_more : (r u : List ℕ) → [] ≡ r ++ u → u ≡ []
nothing_more [] u e = sym e
nothing_more (x ∷ r) u e = absurd cc

-- .. and a part of it that is not the whole is none
pub part_is_none : (place : ℕ) (body part more : List ℕ) → length body < 2 ^ 32 → frame place body ≡ part ++ more
    → (more ≡ [] → ⊥) → BeginsFrame place part → ⊥
part_is_none place body part more low e some f =
    let whole : frame place body ++ [] ≡ frame place f.0 ++ (f.1 ++ more) =
    append-nil (frame place body) ∙ e ∙ ap (λ (xs : List ℕ). xs ++ more) f.3
    ∙ append_assoc (frame place f.0) f.1 more in
    some (nothing_more f.1 more (one_frame place body f.0 [] (f.1 ++ more) low f.2 whole).1)

pub text_one : (a b r s : List ℕ) → length a < 2 ^ 32 → length b < 2 ^ 32 → text a ++ r ≡ text b ++ s → (a ≡ b)
    × (r ≡ s)
text_one a b r s low high e =
    let p = peel (short (length a)) (short (length b)) a b r s
    (length-short (length a) ∙ sym (length-short (length b))) e in
    let same : length a ≡ length b = short_one (length a) (length b) low high p.0 in
    (one_front a b r s same p.1, one_rest a b r s same p.1)

pub texts_one : (p q : List (List ℕ)) (r s : List ℕ) → AreShort p → AreShort q → length p ≡ length q
    → texts p ++ r ≡ texts q ++ s → (p ≡ q) × (r ≡ s)
texts_one [] [] r s a b len e = (refl, e)
texts_one [] (y ∷ q) r s a b len e = absurd (omega (arith, len))
texts_one (x ∷ p) [] r s a b len e = absurd (omega (arith, len))
texts_one (x ∷ p) (y ∷ q) r s a b len e =
    let first = text_one x y (texts p ++ r) (texts q ++ s) a.0 b.0
    (sym (append_assoc (text x) (texts p) r) ∙ e ∙ append_assoc (text y) (texts q) s) in
    let more = texts_one p q r s a.1 b.1 (omega (arith, len)) first.1 in
    (ap (λ (z : List ℕ). z ∷ p) first.0 ∙ ap (λ (z : List (List ℕ)). y ∷ z) more.0, more.1)

heads_are : (x y : ℕ) (xs ys : List ℕ) → x ∷ xs ≡ y ∷ ys → (x ≡ y) × (xs ≡ ys)
heads_are x y xs ys e = (cc, cc)

pub are_short : (path : List (List ℕ)) → All (λ (s : List ℕ). length s ≤ 255) path → AreShort path
are_short [] all = tt
are_short (x ∷ path) all =
    let here : length x ≤ 255 = All-head (λ (s : List ℕ). length s ≤ 255) x path all in
    (omega (arith, here), are_short path (All-tail (λ (s : List ℕ). length s ≤ 255) x path all))

pub paths_one : (p q : List (List ℕ)) (r s : List ℕ) → AreShort p → AreShort q → path_bytes p ++ r ≡ path_bytes q ++ s
    → (p ≡ q) × (r ≡ s)
paths_one p q r s a b e =
    let h = heads_are (length p) (length q) (texts p ++ r) (texts q ++ s) e in texts_one p q r s a b h.0 h.1

path_one : (p q : List (List ℕ)) (r s : List ℕ) → IsSegments p → IsSegments q → path_bytes p ++ r ≡ path_bytes q ++ s
    → (p ≡ q) × (r ≡ s)
path_one p q r s a b = paths_one p q r s (are_short p a.short) (are_short q b.short)

pub half_one : (m n : ℕ) → m < 2 ^ 16 → n < 2 ^ 16 → half m ≡ half n → m ≡ n
unfolding half
half_one m n a b e =
    sym (from_be_bytes-to_be_bytes_2 m a) ∙ ap (from_be_bytes w16) e ∙ from_be_bytes-to_be_bytes_2 n b

pub format_one : (f g : Option ℕ) (x y r s : List ℕ) → IsFormat f → IsFormat g
    → (format_bytes f ++ x) ++ r ≡ (format_bytes g ++ y) ++ s → (f ≡ g) × (x ++ r ≡ y ++ s)
format_one None None x y r s a b e = (refl, cc)
format_one None (Some g) x y r s a b e = absurd cc
format_one (Some f) None x y r s a b e = absurd cc
format_one (Some f) (Some g) x y r s a b e =
    let h = heads_are 1 1 ((half f ++ x) ++ r) ((half g ++ y) ++ s) e in
    let p = peel (half f) (half g) x y r s (length-half f ∙ sym (length-half g)) h.1 in
    (ap (λ (z : ℕ). Some z) (half_one f g a b p.0), p.1)

endpoint_is : (d e : Endpoint) → d.ip ≡ e.ip → d.port ≡ e.port → d ≡ e
endpoint_is d e i p =
    ap (λ (z : List ℕ). record { ip = z; port = d.port }) i ∙ ap (λ (z : ℕ). record { ip = e.ip; port = z }) p

endpoint_one : (d e : Endpoint) (x y r s : List ℕ) → IsEndpoint d → IsEndpoint e
    → (endpoint_bytes d ++ x) ++ r ≡ (endpoint_bytes e ++ y) ++ s → (d ≡ e) × (x ++ r ≡ y ++ s)
endpoint_one d e x y r s a b same =
    let p = peel (endpoint_bytes d) (endpoint_bytes e) x y r s
    (omega (
      arith,
      length-append d.ip (half d.port),
      length-append e.ip (half e.port),
      a.ip,
      b.ip,
      length-half d.port,
      length-half e.port,
    )) same in
    let ips = one_front d.ip e.ip (half d.port) (half e.port) (a.ip ∙ sym b.ip) p.0 in
    let ports = one_rest d.ip e.ip (half d.port) (half e.port) (a.ip ∙ sym b.ip) p.0 in
    (endpoint_is d e ips (half_one d.port e.port a.port b.port ports), p.1)

endpoint_last : (d e : Endpoint) (r s : List ℕ) → IsEndpoint d → IsEndpoint e
    → endpoint_bytes d ++ r ≡ endpoint_bytes e ++ s → (d ≡ e) × (r ≡ s)
endpoint_last d e r s a b same =
    let p = endpoint_one d e r s [] [] a b
    (append-nil (endpoint_bytes d ++ r) ∙ same ∙ sym (append-nil (endpoint_bytes e ++ s))) in
    (p.0, sym (append-nil r) ∙ p.1 ∙ append-nil s)

pub number_first : (m n : ℕ) (x y r s : List ℕ) → m < 2 ^ 64 → n < 2 ^ 64 → (number m ++ x) ++ r ≡ (number n ++ y) ++ s
    → (m ≡ n) × (x ++ r ≡ y ++ s)
number_first m n x y r s a b e =
    let p = peel (number m) (number n) x y r s (same_numbers m n) e in (number_one m n a b p.0, p.1)

pub number_last : (m n : ℕ) (r s : List ℕ) → m < 2 ^ 64 → n < 2 ^ 64 → number m ++ r ≡ number n ++ s → (m ≡ n) × (r ≡ s)
number_last m n r s a b e = (
  number_one m n a b (one_front (number m) (number n) r s (same_numbers m n) e),
  one_rest (number m) (number n) r s (same_numbers m n) e,
)

-- one input begins
pub one_input : (i j : Input) (r s : List ℕ) → IsInput i → IsInput j → spelled i ++ r ≡ spelled j ++ s → (i ≡ j)
    × (r ≡ s)
one_input (Feed now from bytes word) (Feed now' from' bytes' word') r s a b e =
    let t = heads_are 1 1 (feed_bytes now from bytes word ++ r) (feed_bytes now' from' bytes' word' ++ s) e in
    let n = number_first now now' _ _ r s a.0 b.0 t.1 in
    let w = number_first word word' _ _ r s a.1 b.1 n.1 in
    let f = endpoint_one from from' _ _ r s a.2 b.2 w.1 in
    let d = text_one bytes bytes' r s a.3 b.3 f.1 in (
      ap (λ (z : ℕ). Feed z from bytes word) n.0 ∙ ap (λ (z : Endpoint). Feed now' z bytes word) f.0
          ∙ ap (λ (z : List ℕ). Feed now' from' z word) d.0 ∙ ap (λ (z : ℕ). Feed now' from' bytes' z) w.0,
      d.1,
    )
one_input (Feed now from bytes word) (Tick now' word') r s a b e = absurd cc
one_input (Feed now from bytes word) (Set now' path' format' body') r s a b e = absurd cc
one_input (Feed now from bytes word) (Remove now' path') r s a b e = absurd cc
one_input (Feed now from bytes word) (Delay path' ms') r s a b e = absurd cc
one_input (Feed now from bytes word) (Plain path') r s a b e = absurd cc
one_input (Tick now word) (Feed now' from' bytes' word') r s a b e = absurd cc
one_input (Tick now word) (Tick now' word') r s a b e =
    let t = heads_are 2 2 (tick_bytes now word ++ r) (tick_bytes now' word' ++ s) e in
    let n = number_first now now' _ _ r s a.0 b.0 t.1 in
    let w = number_last word word' r s a.1 b.1 n.1 in
    (ap (λ (z : ℕ). Tick z word) n.0 ∙ ap (λ (z : ℕ). Tick now' z) w.0, w.1)
one_input (Tick now word) (Set now' path' format' body') r s a b e = absurd cc
one_input (Tick now word) (Remove now' path') r s a b e = absurd cc
one_input (Tick now word) (Delay path' ms') r s a b e = absurd cc
one_input (Tick now word) (Plain path') r s a b e = absurd cc
one_input (Set now path format body) (Feed now' from' bytes' word') r s a b e = absurd cc
one_input (Set now path format body) (Tick now' word') r s a b e = absurd cc
one_input (Set now path format body) (Set now' path' format' body') r s a b e =
    let t = heads_are 3 3 (set_bytes now path format body ++ r) (set_bytes now' path' format' body' ++ s) e in
    let n = number_first now now' _ _ r s a.0 b.0 t.1 in
    let f = format_one format format' _ _ r s a.1 b.1 n.1 in
    let p = path_one path path' (text body ++ r) (text body' ++ s) a.2 b.2
    (sym (append_assoc (path_bytes path) (text body) r) ∙ f.1 ∙ append_assoc (path_bytes path') (text body') s) in
    let d = text_one body body' r s a.3 b.3 p.1 in (
      ap (λ (z : ℕ). Set z path format body) n.0 ∙ ap (λ (z : List (List ℕ)). Set now' z format body) p.0
          ∙ ap (λ (z : Option ℕ). Set now' path' z body) f.0 ∙ ap (λ (z : List ℕ). Set now' path' format' z) d.0,
      d.1,
    )
one_input (Set now path format body) (Remove now' path') r s a b e = absurd cc
one_input (Set now path format body) (Delay path' ms') r s a b e = absurd cc
one_input (Set now path format body) (Plain path') r s a b e = absurd cc
one_input (Remove now path) (Feed now' from' bytes' word') r s a b e = absurd cc
one_input (Remove now path) (Tick now' word') r s a b e = absurd cc
one_input (Remove now path) (Set now' path' format' body') r s a b e = absurd cc
one_input (Remove now path) (Remove now' path') r s a b e =
    let t = heads_are 4 4 (remove_bytes now path ++ r) (remove_bytes now' path' ++ s) e in
    let n = number_first now now' _ _ r s a.0 b.0 t.1 in
    let p = path_one path path' r s a.1 b.1 n.1 in
    (ap (λ (z : ℕ). Remove z path) n.0 ∙ ap (λ (z : List (List ℕ)). Remove now' z) p.0, p.1)
one_input (Remove now path) (Delay path' ms') r s a b e = absurd cc
one_input (Remove now path) (Plain path') r s a b e = absurd cc
one_input (Delay path ms) (Feed now' from' bytes' word') r s a b e = absurd cc
one_input (Delay path ms) (Tick now' word') r s a b e = absurd cc
one_input (Delay path ms) (Set now' path' format' body') r s a b e = absurd cc
one_input (Delay path ms) (Remove now' path') r s a b e = absurd cc
one_input (Delay path ms) (Delay path' ms') r s a b e =
    let t = heads_are 5 5 (delay_bytes path ms ++ r) (delay_bytes path' ms' ++ s) e in
    let n = number_first ms ms' _ _ r s a.0 b.0 t.1 in
    let p = path_one path path' r s a.1 b.1 n.1 in
    (ap (λ (z : List (List ℕ)). Delay z ms) p.0 ∙ ap (λ (z : ℕ). Delay path' z) n.0, p.1)
one_input (Delay path ms) (Plain path') r s a b e = absurd cc
one_input (Plain path) (Feed now' from' bytes' word') r s a b e = absurd cc
one_input (Plain path) (Tick now' word') r s a b e = absurd cc
one_input (Plain path) (Set now' path' format' body') r s a b e = absurd cc
one_input (Plain path) (Remove now' path') r s a b e = absurd cc
one_input (Plain path) (Delay path' ms') r s a b e = absurd cc
one_input (Plain path) (Plain path') r s a b e =
    let t = heads_are 6 6 (path_bytes path ++ r) (path_bytes path' ++ s) e in
    let p = path_one path path' r s a b t.1 in
    (ap (λ (z : List (List ℕ)). Plain z) p.0, p.1)
one_input (Feed now from bytes word) (Refuse now' from' bytes' word' code') r s a b e = absurd cc
one_input (Tick now word) (Refuse now' from' bytes' word' code') r s a b e = absurd cc
one_input (Set now path format body) (Refuse now' from' bytes' word' code') r s a b e = absurd cc
one_input (Remove now path) (Refuse now' from' bytes' word' code') r s a b e = absurd cc
one_input (Delay path ms) (Refuse now' from' bytes' word' code') r s a b e = absurd cc
one_input (Plain path) (Refuse now' from' bytes' word' code') r s a b e = absurd cc
one_input (Refuse now from bytes word code) (Feed now' from' bytes' word') r s a b e = absurd cc
one_input (Refuse now from bytes word code) (Tick now' word') r s a b e = absurd cc
one_input (Refuse now from bytes word code) (Set now' path' format' body') r s a b e = absurd cc
one_input (Refuse now from bytes word code) (Remove now' path') r s a b e = absurd cc
one_input (Refuse now from bytes word code) (Delay path' ms') r s a b e = absurd cc
one_input (Refuse now from bytes word code) (Plain path') r s a b e = absurd cc
one_input (Refuse now from bytes word code) (Refuse now' from' bytes' word' code') r s a b e =
    let t = heads_are 10 10 (refuse_bytes now from bytes word code ++ r)
    (refuse_bytes now' from' bytes' word' code' ++ s) e in
    let k = heads_are code code' (feed_bytes now from bytes word ++ r) (feed_bytes now' from' bytes' word' ++ s) t.1 in
    let n = number_first now now' _ _ r s a.0 b.0 k.1 in
    let w = number_first word word' _ _ r s a.1 b.1 n.1 in
    let f = endpoint_one from from' _ _ r s a.2 b.2 w.1 in
    let d = text_one bytes bytes' r s a.3 b.3 f.1 in (
      ap (λ (z : ℕ). Refuse z from bytes word code) n.0 ∙ ap (λ (z : Endpoint). Refuse now' z bytes word code) f.0
          ∙ ap (λ (z : List ℕ). Refuse now' from' z word code) d.0
          ∙ ap (λ (z : ℕ). Refuse now' from' bytes' z code) w.0
          ∙ ap (λ (z : ℕ). Refuse now' from' bytes' word' z) k.0,
      d.1,
    )
one_input (Feed now from bytes word) (Forget peer') r s a b e = absurd cc
one_input (Tick now word) (Forget peer') r s a b e = absurd cc
one_input (Set now path format body) (Forget peer') r s a b e = absurd cc
one_input (Remove now path) (Forget peer') r s a b e = absurd cc
one_input (Delay path ms) (Forget peer') r s a b e = absurd cc
one_input (Plain path) (Forget peer') r s a b e = absurd cc
one_input (Refuse now from bytes word code) (Forget peer') r s a b e = absurd cc
one_input (Forget peer) (Feed now' from' bytes' word') r s a b e = absurd cc
one_input (Forget peer) (Tick now' word') r s a b e = absurd cc
one_input (Forget peer) (Set now' path' format' body') r s a b e = absurd cc
one_input (Forget peer) (Remove now' path') r s a b e = absurd cc
one_input (Forget peer) (Delay path' ms') r s a b e = absurd cc
one_input (Forget peer) (Plain path') r s a b e = absurd cc
one_input (Forget peer) (Refuse now' from' bytes' word' code') r s a b e = absurd cc
one_input (Forget peer) (Forget peer') r s a b e =
    let t = heads_are 11 11 (endpoint_bytes peer ++ r) (endpoint_bytes peer' ++ s) e in
    let p = endpoint_last peer peer' r s a b t.1 in
    (ap (λ (z : Endpoint). Forget z) p.0, p.1)
