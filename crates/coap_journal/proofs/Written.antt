-- What was written is found where it is read.
use Rattle.std.proofs.Common.{◌≡◌, ℕ, ◌+◌, ◌<◌, ◌≤◌, ◌^◌, All, List, [], ◌∷◌, ◌++◌, length, Option, Some, None, Result}
use Rattle.std.proofs.Common.{Err, refl, sym, ap, ◌∙◌, arith, append_assoc}
use Rattle.std.specs.Prelude.{IfNone}
use Rattle.std.proofs.lemmas.List.{length-append, append-nil}
use Rattle.std.proofs.lemmas.List.Elements.{All-head, All-tail}
use Rattle.coap_types.specs.declared.endpoint.Endpoint.{Endpoint}
use Rattle.coap_journal.specs.Input.{AreShort, Feed, Forget, IsEndpoint, IsFormat, IsInput, IsSegments}
use Rattle.coap_journal.specs.Input.{endpoint_bytes, feed_bytes, format_bytes, path_bytes, text, texts}
use Rattle.coap_journal.specs.Input.{tick_bytes}
use Rattle.coap_journal.specs.Numbers.{half, number, short}
use Rattle.coap_journal.specs.Records.{IsConfiguration, beginning_bytes, configuration_bytes, life_bytes, seed_bytes}
use Rattle.coap_journal.specs.declared.beginning.Beginning.{Beginning}
use Rattle.coap_journal.specs.declared.beginning.Configuration.{Configuration}
use Rattle.coap_journal.specs.declared.beginning.Life.{Life}
use Rattle.coap_journal.specs.declared.beginning.Seed.{Seed}
use Rattle.coap_journal.proofs.Bytes.{length-half, length-number, length-short, one_front, one_rest, short_one}
use Rattle.coap_journal.proofs.Bytes.{too_long}
use Rattle.coap_journal.proofs.OneReading.{are_short, format_one, paths_one, same_numbers, text_one}

-- how long they are

pub length-tick : (now word : ℕ) → length (tick_bytes now word) ≡ 16
length-tick now word = omega (arith, length-append (number now) (number word), length-number now, length-number word)

pub length-life : (l : Life) → length (life_bytes l) ≡ 32
length-life l =
    omega (
      arith,
      length-append (number l.boot.high) (number l.boot.low ++ (number l.uptime ++ number l.moment.0)),
      length-append (number l.boot.low) (number l.uptime ++ number l.moment.0),
      length-append (number l.uptime) (number l.moment.0),
      length-number l.boot.high,
      length-number l.boot.low,
      length-number l.uptime,
      length-number l.moment.0,
    )

pub length-seed : (s : Seed) → length (seed_bytes s) ≡ 24
length-seed s =
    omega (
      arith,
      length-append (number s.word) (number s.key0 ++ number s.key1),
      length-append (number s.key0) (number s.key1),
      length-number s.word,
      length-number s.key0,
      length-number s.key1,
    )

pub length-configuration : (c : Configuration) → length (configuration_bytes c) ≡ 16
length-configuration c =
    omega (
      arith,
      length-append (short c.szx) (short c.limit ++ (short c.remembered ++ short c.changes)),
      length-append (short c.limit) (short c.remembered ++ short c.changes),
      length-append (short c.remembered) (short c.changes),
      length-short c.szx,
      length-short c.limit,
      length-short c.remembered,
      length-short c.changes,
    )

length-endpoint : (e : Endpoint) → IsEndpoint e → length (endpoint_bytes e) ≡ 6
length-endpoint e is = omega (arith, length-append e.ip (half e.port), is.ip, length-half e.port)

feed_long : (now word : ℕ) (from : Endpoint) (xs : List ℕ) → IsEndpoint from → 22 ≤ length (feed_bytes now from xs word)
feed_long now word from xs is =
    omega (
      arith,
      length-append (number now) (number word ++ (endpoint_bytes from ++ text xs)),
      length-append (number word) (endpoint_bytes from ++ text xs),
      length-append (endpoint_bytes from) (text xs),
      length-number now,
      length-number word,
      length-endpoint from is,
    )

pub length-parts : (b : Beginning) (l : Life)
    → length (configuration_bytes b.configuration ++ (seed_bytes b.seed ++ (number b.base ++ life_bytes l))) ≡ 80
length-parts b l =
    omega (
      arith,
      length-append (configuration_bytes b.configuration) (seed_bytes b.seed ++ (number b.base ++ life_bytes l)),
      length-append (seed_bytes b.seed) (number b.base ++ life_bytes l),
      length-append (number b.base) (life_bytes l),
      length-configuration b.configuration,
      length-seed b.seed,
      length-number b.base,
      length-life l,
    )

-- too few bytes

pub none_tick : {T : Type 0} (r : Option T) (bytes : List ℕ) → length bytes < 16
    → IfNone r ((now word : ℕ) (rest : List ℕ) → bytes ≡ tick_bytes now word ++ rest → ⊥)
none_tick None bytes lt =
    λ now word rest e. too_long bytes (tick_bytes now word) rest e (omega (arith, lt, length-tick now word))
none_tick (Some x) bytes lt = tt

pub none_feed : {T : Type 0} (r : Option T) (bytes : List ℕ) → length bytes < 22
    → IfNone r ((now word : ℕ) (from : Endpoint) (xs rest : List ℕ) → IsInput (Feed now from xs word)
    → bytes ≡ feed_bytes now from xs word ++ rest → ⊥)
none_feed None bytes lt =
    λ now word from xs rest is e. too_long bytes (feed_bytes now from xs word) rest e
    (omega (arith, lt, feed_long now word from xs is.2))
none_feed (Some x) bytes lt = tt

pub none_forget : {T : Type 0} (r : Option T) (bytes : List ℕ) → IfNone r (length bytes < 6)
    → IfNone r ((peer : Endpoint) (rest : List ℕ) → IsInput (Forget peer) → bytes ≡ endpoint_bytes peer ++ rest → ⊥)
none_forget None bytes lt =
    λ peer rest is e. too_long bytes (endpoint_bytes peer) rest e (omega (arith, lt, length-endpoint peer is))
none_forget (Some x) bytes lt = tt

pub none_turn : {T : Type 0} (r : Option T) (bytes : List ℕ) → length bytes < 16
    → IfNone r ((moment n : ℕ) (rest : List ℕ) → bytes ≡ number moment ++ (number n ++ rest) → ⊥)
none_turn None bytes lt =
    λ moment n rest e.
    omega (
      arith,
      lt,
      ap (length {A = ℕ}) e,
      length-append (number moment) (number n ++ rest),
      length-append (number n) rest,
      length-number moment,
      length-number n,
    )
none_turn (Some x) bytes lt = tt

pub none_life : {T : Type 0} (r : Option T) (bytes : List ℕ) → (length bytes ≡ 32 → ⊥)
    → IfNone r ((life : Life) → bytes ≡ life_bytes life → ⊥)
none_life None bytes ne = λ life e. ne (ap (length {A = ℕ}) e ∙ length-life life)
none_life (Some x) bytes ne = tt

pub none_configuration : {T : Type 0} (r : Option T) (bytes : List ℕ) → length bytes < 16
    → IfNone r ((c : Configuration) (rest : List ℕ) → IsConfiguration c → bytes ≡ configuration_bytes c ++ rest → ⊥)
none_configuration None bytes lt =
    λ c rest ok e. too_long bytes (configuration_bytes c) rest e (omega (arith, lt, length-configuration c))
none_configuration (Some x) bytes lt = tt

-- the first number, and what follows it

pub number_rest : (m n : ℕ) (x y r : List ℕ) → number m ++ x ≡ (number n ++ y) ++ r → x ≡ y ++ r
number_rest m n x y r e =
    one_rest (number m) (number n) x (y ++ r) (same_numbers m n) (e ∙ append_assoc (number n) y r)

pub short_first : (m n : ℕ) (x y : List ℕ) → m < 2 ^ 32 → n < 2 ^ 32 → short m ++ x ≡ short n ++ y → (m ≡ n) × (x ≡ y)
short_first m n x y a b e =
    let len : length (short m) ≡ length (short n) = length-short m ∙ sym (length-short n) in
    (short_one m n a b (one_front (short m) (short n) x y len e), one_rest (short m) (short n) x y len e)

pub text_cut : (bytes rest : List ℕ) (len : ℕ) → len < 2 ^ 32 → bytes ≡ short len ++ rest → length rest < len
    → (xs more : List ℕ) → length xs < 2 ^ 32 → bytes ≡ text xs ++ more → ⊥
text_cut bytes rest len low is lt xs more few e =
    let p = short_first len (length xs) rest (xs ++ more) low few
    (sym is ∙ e ∙ append_assoc (short (length xs)) xs more) in
    omega (arith, lt, p.0, ap (length {A = ℕ}) p.1, length-append xs more)

-- a datagram whose text isn't there
pub feed_cut : {T : Type 0} (r : Option T) (bytes b c d : List ℕ) (now' word' : ℕ) (from' : Endpoint)
    → bytes ≡ number now' ++ b → b ≡ number word' ++ c → c ≡ endpoint_bytes from' ++ d → length c ≡ length d + 6
    → ((xs rest : List ℕ) → length xs < 2 ^ 32 → d ≡ text xs ++ rest → ⊥)
    → IfNone r ((now word : ℕ) (from : Endpoint) (xs rest : List ℕ) → IsInput (Feed now from xs word)
    → bytes ≡ feed_bytes now from xs word ++ rest → ⊥)
feed_cut None bytes b c d now' word' from' e f g len none =
    λ now word from xs rest is there.
    let first : b ≡ (number word ++ (endpoint_bytes from ++ text xs)) ++ rest =
    number_rest now' now b (number word ++ (endpoint_bytes from ++ text xs)) rest (sym e ∙ there) in
    let second : c ≡ (endpoint_bytes from ++ text xs) ++ rest =
    number_rest word' word c (endpoint_bytes from ++ text xs) rest (sym f ∙ first) in
    let six : length (endpoint_bytes from') ≡ length (endpoint_bytes from) =
    omega (arith, len, ap (length {A = ℕ}) g, length-append (endpoint_bytes from') d, length-endpoint from is.2) in
    none xs rest is.3 (one_rest (endpoint_bytes from') (endpoint_bytes from) d (text xs ++ rest) six
    (sym g ∙ second ∙ append_assoc (endpoint_bytes from) (text xs) rest))
feed_cut (Some x) bytes b c d now' word' from' e f g len none = tt

-- the texts of a path are read one by one

pub next_text : (p q : List (List ℕ)) (rest more : List ℕ) → AreShort p → All (λ (s : List ℕ). length s ≤ 255) q
    → length p < length q → texts p ++ rest ≡ texts q ++ more
    → (x : List ℕ) × (left : List (List ℕ)) × (length x ≤ 255) × (rest ≡ text x ++ (texts left ++ more))
next_text p [] rest more a b lt e = absurd (omega (arith, lt))
next_text [] (y ∷ q) rest more a b lt e =
    (y, q, All-head (λ (s : List ℕ). length s ≤ 255) y q b, e ∙ append_assoc (text y) (texts q) more)
next_text (x ∷ p) (y ∷ q) rest more a b lt e =
    let here : length y ≤ 255 = All-head (λ (s : List ℕ). length s ≤ 255) y q b in
    let both = text_one x y (texts p ++ rest) (texts q ++ more) a.0 (omega (arith, here))
    (sym (append_assoc (text x) (texts p) rest) ∙ e ∙ append_assoc (text y) (texts q) more) in
    next_text p q rest more a.1 (All-tail (λ (s : List ℕ). length s ≤ 255) y q b) (omega (arith, lt)) both.1

pub no_text : (bytes rest : List ℕ) (p : List (List ℕ)) (count : ℕ) → AreShort p → bytes ≡ texts p ++ rest
    → length p < count
    → ((xs more : List ℕ) → length xs < 2 ^ 32 → rest ≡ text xs ++ more → ⊥)
    → (path : List (List ℕ)) (more : List ℕ) → IsSegments path → length path ≡ count → bytes ≡ texts path ++ more → ⊥
no_text bytes rest p count a is lt none path more ok len e =
    let n = next_text p path rest more a ok.short (omega (arith, lt, len)) (sym is ∙ e) in
    none n.0 (texts n.1 ++ more) (omega (arith, n.2)) n.3

pub long_text : (bytes rest behind segment : List ℕ) (p : List (List ℕ)) (count : ℕ) → AreShort p → bytes ≡ texts p
    ++ rest
    → length p < count → rest ≡ text segment ++ behind → length segment < 2 ^ 32 → 255 < length segment
    → (path : List (List ℕ)) (more : List ℕ) → IsSegments path → length path ≡ count → bytes ≡ texts path ++ more → ⊥
long_text bytes rest behind segment p count a is lt there few long path more ok len e =
    let n = next_text p path rest more a ok.short (omega (arith, lt, len)) (sym is ∙ e) in
    let same = text_one segment n.0 behind (texts n.1 ++ more) few (omega (arith, n.2)) (sym there ∙ n.3) in
    omega (arith, long, n.2, ap (length {A = ℕ}) same.0)

pub short_more : (p : List (List ℕ)) (x : List ℕ) → AreShort p → length x < 2 ^ 32 → AreShort (p ++ x ∷ [])
short_more [] x a lt = (lt, tt)
short_more (y ∷ p) x a lt = (a.0, short_more p x a.1 lt)

-- a change whose format, path or body isn't there

pub after_format : (format format' : Option ℕ) (bytes b x r : List ℕ) → IsFormat format → IsFormat format'
    → bytes ≡ format_bytes format' ++ b → bytes ≡ (format_bytes format ++ x) ++ r → b ≡ x ++ r
after_format format format' bytes b x r ok fine is e =
    sym (append-nil b)
    ∙ (format_one format' format b x [] r fine ok (append-nil (format_bytes format' ++ b) ∙ sym is ∙ e)).1

pub after_path : (path path' : List (List ℕ)) (bytes b x r : List ℕ) → IsSegments path → AreShort path'
    → bytes ≡ path_bytes path' ++ b → bytes ≡ (path_bytes path ++ x) ++ r → b ≡ x ++ r
after_path path path' bytes b x r ok fine is e =
    (paths_one path' path b (x ++ r) fine (are_short path ok.short) (sym is ∙ e ∙ append_assoc (path_bytes path) x r)).1

-- a configuration that no end can have
pub no_configuration : {T : Type 0} (r : Option T) (bytes b c d : List ℕ) (szx limit remembered changes : ℕ)
    → szx < 2 ^ 32 → limit < 2 ^ 32 → remembered < 2 ^ 32
    → bytes ≡ short szx ++ b → b ≡ short limit ++ c → c ≡ short remembered ++ d
    → (IsConfiguration (record { szx = szx; limit = limit; remembered = remembered; changes = changes }) → ⊥)
    → IfNone r ((k : Configuration) (rest : List ℕ) → IsConfiguration k → bytes ≡ configuration_bytes k ++ rest → ⊥)
no_configuration None bytes b c d szx limit remembered changes fs fl fr e f g none =
    λ k rest ok there.
    let szx_few : k.szx ≤ 6 = ok.szx in
    let limit_few : k.limit ≤ 1048576 = ok.limit in
    let remembered_few : k.remembered ≤ 1048576 = ok.remembered in
    let last = short k.remembered ++ short k.changes in
    let s = short_first szx k.szx b ((short k.limit ++ last) ++ rest) fs (omega (arith, szx_few))
    (sym e ∙ there ∙ append_assoc (short k.szx) (short k.limit ++ last) rest) in
    let l = short_first limit k.limit c (last ++ rest) fl (omega (arith, limit_few))
    (sym f ∙ s.1 ∙ append_assoc (short k.limit) last rest) in
    let m = short_first remembered k.remembered d (short k.changes ++ rest) fr (omega (arith, remembered_few))
    (sym g ∙ l.1 ∙ append_assoc (short k.remembered) (short k.changes) rest) in
    none (record {
      szx = omega (arith, s.0, szx_few);
      some = omega (arith, l.0, ok.some);
      limit = omega (arith, l.0, limit_few);
      one = omega (arith, m.0, ok.one);
      remembered = omega (arith, m.0, remembered_few);
    })
no_configuration (Some x) bytes b c d szx limit remembered changes fs fl fr e f g none = tt

-- what follows the numbers of the format and of the law
pub after_versions : (bytes behind : List ℕ) (b : Beginning) (l : Life) → bytes ≡ short 1 ++ (short 1 ++ behind)
    → bytes ≡ beginning_bytes b ++ life_bytes l
    → behind ≡ configuration_bytes b.configuration ++ (seed_bytes b.seed ++ (number b.base ++ life_bytes l))
after_versions bytes behind b l is e =
    let parts = configuration_bytes b.configuration ++ (seed_bytes b.seed ++ number b.base) in
    let first : short 1 ++ behind ≡ (short 1 ++ parts) ++ life_bytes l =
    one_rest (short 1) (short 1) (short 1 ++ behind) ((short 1 ++ parts) ++ life_bytes l) refl
    (sym is ∙ e ∙ append_assoc (short 1) (short 1 ++ parts) (life_bytes l)) in
    let second : behind ≡ parts ++ life_bytes l =
    one_rest (short 1) (short 1) behind (parts ++ life_bytes l) refl
    (first ∙ append_assoc (short 1) parts (life_bytes l)) in
    second ∙ append_assoc (configuration_bytes b.configuration) (seed_bytes b.seed ++ number b.base) (life_bytes l)
    ∙ ap (λ (xs : List ℕ). configuration_bytes b.configuration ++ xs) (append_assoc (seed_bytes b.seed) (number b.base)
    (life_bytes l))

pub err_is : {T E : Type 0} {x y : E} → ◌≡◌ {A = Result T E} (Err x) (Err y) → x ≡ y
err_is e = cc

-- what takes all bytes leaves none
pub all_taken : (bytes front rest : List ℕ) → length bytes ≡ length front → bytes ≡ front ++ rest → bytes ≡ front
all_taken bytes front [] len e = e ∙ append-nil front
all_taken bytes front (x ∷ rest) len e = absurd (omega (
  arith,
  len,
  ap (length {A = ℕ}) e,
  length-append front
      (x ∷ rest),
))
