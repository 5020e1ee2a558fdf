-- Bytes spell messages of bytes, and these alone are spelled in bytes.
use Rattle.std.proofs.Common.{◌<◌, ◌≤◌, ℕ, ◌+◌, ◌*◌, ◌^◌, ◌/◌, zero, suc, List, [], ◌∷◌, ◌++◌, length, sym, subst}
use Rattle.std.proofs.Common.{mod-lt, arith}
use Rattle.std.specs.Prelude.{All}
use Rattle.std.specs.Int.{byte_at, bytes_high_first}
use Rattle.std.proofs.lemmas.List.Elements.{All-cons, All-nil}
use Rattle.coap_types.specs.Bytes.{AreBytes}
use Rattle.coap_types.specs.CoapOption.{CoapOption}
use Rattle.coap_types.specs.declared.message.Kind.{Kind}
use Rattle.coap_types.specs.declared.message.Kind.TheVariants.{Con, Non, Ack, Rst}
use Rattle.coap_types.proofs.Facts.Bytes.{AreBytes-append, AreBytes-cons, AreBytes-front, AreBytes-nil, AreBytes-rest}
use Rattle.coap_types.proofs.Facts.Bytes.{AreBytes-tail}
use Rattle.coap_codec.specs.Extension.{Ext}
use Rattle.coap_codec.specs.Message.{Message, header, kind_number, marked}
use Rattle.coap_codec.specs.OfBytes.{SpelledInBytes, BytesSpellBytes}
use Rattle.coap_codec.specs.Options.{IsOption, Options}
use Rattle.coap_codec.proofs.OneOption.IsRead.{Ext-small}

-- in bytes

byte_below : (k n : ℕ) → byte_at k n < 256
byte_below zero n = omega arith
byte_below (suc k) n = mod-lt (n / 256 ^ suc k) {m = 256} (omega arith)

high_are : (k n : ℕ) → AreBytes (bytes_high_first k n)
high_are zero n = AreBytes-nil
high_are (suc k) n = AreBytes-cons (byte_at k n) (bytes_high_first k n) (byte_below k n) (high_are k n)

kind_below : (kind : Kind) → kind_number kind < 4
kind_below Con = omega arith
kind_below Non = omega arith
kind_below Ack = omega arith
kind_below Rst = omega arith

header_are : (m : Message) → m.code < 2 ^ 8 → length m.token ≤ 8 → AreBytes (header m)
header_are m code few =
    AreBytes-cons _ (m.code ∷ bytes_high_first 2 m.id) (let k = kind_below m.kind in omega (arith, k, few))
    (AreBytes-cons m.code (bytes_high_first 2 m.id) code (high_are 2 m.id))

Ext-bytes : (n nibble : ℕ) (more : List ℕ) → Ext n nibble more → AreBytes more
Ext-bytes n nibble [] p = AreBytes-nil
Ext-bytes n nibble (b ∷ []) p = AreBytes-cons b [] p.0 AreBytes-nil
Ext-bytes n nibble (a ∷ b ∷ []) p = AreBytes-cons a (b ∷ []) p.0 (AreBytes-cons b [] p.1 AreBytes-nil)
Ext-bytes n nibble (a ∷ b ∷ c ∷ more) p = absurd p

option_are : (base : ℕ) (o : CoapOption) (bytes : List ℕ) → IsOption base o bytes → AreBytes o.value → AreBytes bytes
option_are base o bytes is value =
    let delta = Ext-small _ is.delta is.more_delta is.number in
    let len = Ext-small _ is.len is.more_len is.value in
    subst AreBytes (sym is.parts)
    (AreBytes-cons (is.delta * 16 + is.len) (is.more_delta ++ (is.more_len ++ o.value)) (omega (arith, delta, len))
    (AreBytes-append is.more_delta (is.more_len ++ o.value) (Ext-bytes _ is.delta is.more_delta is.number)
    (AreBytes-append is.more_len o.value (Ext-bytes _ is.len is.more_len is.value) value)))

abbrev HasBytes : CoapOption → Type 0
HasBytes option = AreBytes option.value

options_are : (options : List CoapOption) (base : ℕ) (bytes : List ℕ) → Options base bytes options
    → All HasBytes options → AreBytes bytes
options_are [] base bytes is values = subst AreBytes (sym is) AreBytes-nil
options_are (o ∷ options) base bytes is values =
    subst AreBytes (sym is.2)
    (AreBytes-append is.0 is.1 (option_are base o is.0 is.3 (values 0 o (omega arith)))
    (options_are options o.number is.1 is.4 (λ i d low. values (suc i) d (omega (arith, low)))))

marked_are : (payload : List ℕ) → AreBytes payload → AreBytes (marked payload)
marked_are [] h = AreBytes-nil
marked_are (b ∷ bytes) h = AreBytes-cons 255 (b ∷ bytes) (omega arith) h

pub spelled_in_bytes : SpelledInBytes
spelled_in_bytes bytes m s are =
    let back : AreBytes (s.option_bytes ++ marked m.payload) =
    AreBytes-append s.option_bytes (marked m.payload) (options_are m.options 0 s.option_bytes s.options are.values)
    (marked_are m.payload are.payload) in
    subst AreBytes (sym s.parts)
    (AreBytes-append (header m) (m.token ++ (s.option_bytes ++ marked m.payload)) (header_are m s.code s.token)
    (AreBytes-append m.token (s.option_bytes ++ marked m.payload) are.token back))

-- of bytes

value_are : (base : ℕ) (o : CoapOption) (bytes : List ℕ) → IsOption base o bytes → AreBytes bytes → AreBytes o.value
value_are base o bytes is are =
    let behind = AreBytes-tail (is.delta * 16 + is.len) (is.more_delta ++ (is.more_len ++ o.value))
    (subst AreBytes is.parts are) in
    AreBytes-rest is.more_len o.value (AreBytes-rest is.more_delta (is.more_len ++ o.value) behind)

values_are : (options : List CoapOption) (base : ℕ) (bytes : List ℕ) → Options base bytes options → AreBytes bytes
    → All HasBytes options
values_are [] base bytes is are = All-nil HasBytes
values_are (o ∷ options) base bytes is are =
    let parts = subst AreBytes is.2 are in
    All-cons HasBytes o options (value_are base o is.0 is.3 (AreBytes-front is.0 is.1 parts))
    (values_are options o.number is.1 is.4 (AreBytes-rest is.0 is.1 parts))

unmarked : (payload : List ℕ) → AreBytes (marked payload) → AreBytes payload
unmarked [] h = AreBytes-nil
unmarked (b ∷ bytes) h = AreBytes-tail 255 (b ∷ bytes) h

pub bytes_spell_bytes : BytesSpellBytes
bytes_spell_bytes bytes m s are =
    let rest : List ℕ = s.option_bytes ++ marked m.payload in
    let behind : AreBytes (m.token ++ rest) = AreBytes-rest (header m) (m.token ++ rest) (subst AreBytes s.parts are) in
    let back = AreBytes-rest m.token rest behind in
    record {
      token = AreBytes-front m.token rest behind;
      values = values_are m.options 0 s.option_bytes s.options (AreBytes-front s.option_bytes (marked m.payload) back);
      payload = unmarked m.payload (AreBytes-rest s.option_bytes (marked m.payload) back);
    }
