-- Bytes that spell a message are read as it, and at bytes that are faulty reading meets that fault.
use Rattle.std.proofs.Common.{◌≡◌, ℕ, ◌+◌, ◌-◌, ◌*◌, ◌/◌, ◌%◌, ◌^◌, ◌<◌, ◌≤◌, List, [], ◌++◌, length, get_or, take}
use Rattle.std.proofs.Common.{drop, Ok, Err, refl, sym, ap, subst, ◌∙◌, arith}
use Rattle.std.proofs.lemmas.List.{take_at, drop_at, drop-drop, length-append, append-nil}
use Rattle.coap_types.specs.CoapOption.{CoapOption}
use Rattle.coap_types.specs.declared.message.Kind.{Kind}
use Rattle.coap_types.specs.declared.message.Kind.TheVariants.{Con, Non, Ack, Rst}
use Rattle.coap_codec.specs.declared.fault.Reason.{Reason}
use Rattle.coap_codec.specs.declared.fault.Reason.TheVariants.{Short, Version, TokenLength, TokenCut, EmptyNotBare}
use Rattle.coap_codec.specs.declared.fault.Reason.TheVariants.{DeltaReserved, LengthReserved, OptionCut, NumberTooLarge}
use Rattle.coap_codec.specs.declared.fault.Reason.TheVariants.{NoPayload}
use Rattle.coap_codec.specs.Options.{Options}
use Rattle.coap_types.specs.Bytes.{AreBytes}
use Rattle.coap_codec.specs.Message.{Message, kind_number, header, marked, Spells}
use Rattle.coap_codec.specs.Header.{version, token_length, code, kind_of, id_of}
use Rattle.coap_codec.specs.Faulty.{last_number, Leaves, BadRest, place, IsFramed, Faulty}
use Rattle.coap_codec.specs.Reading.{option_at, walk, payload_at, behind_token, viewed, message_of, body_at}
use Rattle.coap_codec.specs.Decoded.{decoded}
use Rattle.coap_codec.proofs.OneOption.LongestRun.{walked, walk_again, walk_longest}
use Rattle.coap_codec.proofs.OneOption.WhereNoneBegins.{payload_again, marked_ends, payload_bad_again}
use Rattle.coap_codec.proofs.Datagrams.HeaderAndToken.{framed_none, short_again, version_again, token_length_again}
use Rattle.coap_codec.proofs.Datagrams.HeaderAndToken.{empty_again, token_cut_again}
use Rattle.coap_types.proofs.Facts.Bytes.{AreBytes-drop}
use Rattle.coap_codec.proofs.Datagrams.SoundBytes.{body_ok, body_err}
use Rattle.coap_codec.proofs.Datagrams.ReadAsSpelled.{message_fault, message_body}

kind_is : (first : ℕ) (kind : Kind) → first / 16 % 4 ≡ kind_number kind → kind_of first ≡ kind
kind_is first Con e = rw e refl
kind_is first Non e = rw e refl
kind_is first Ack e = rw e refl
kind_is first Rst e = rw e refl

kind_small : (kind : Kind) → kind_number kind < 4
kind_small Con = omega arith
kind_small Non = omega arith
kind_small Ack = omega arith
kind_small Rst = omega arith

same_message : (a b : Message) → a.kind ≡ b.kind → a.code ≡ b.code → a.id ≡ b.id → a.token ≡ b.token
    → a.options ≡ b.options → a.payload ≡ b.payload → a ≡ b
same_message a b k c i t o p =
    let whole : Path Message (record {
      kind = a.kind;
      code = a.code;
      id = a.id;
      token = a.token;
      options = a.options;
      payload = a.payload;
    }) b = rw (k, c, i, t, o, p) refl in
    whole

-- what `body` makes of the parts of sound bytes
pub viewed_body : (bytes : List ℕ) (n : ℕ) (token options payload : List ℕ) (kind : Kind) (id : ℕ)
    → n ≡ token_length bytes → token ≡ take n (drop 4 bytes) → options ≡ drop n (drop 4 bytes)
    → kind ≡ kind_of (get_or bytes 0 0) → id ≡ id_of bytes
    → payload_at (walk 0 options).reason (walk 0 options).rest ≡ Ok payload
    → body_at bytes ≡ Ok (viewed kind (code bytes) id token options payload)
viewed_body bytes n token options payload kind id len front back k i read =
    let behind : options ≡ behind_token bytes = back ∙ drop-drop n 4 bytes ∙ ap (λ (j : ℕ). drop (4 + j) bytes) len in
    let at : payload_at (walk 0 (behind_token bytes)).reason (walk 0 (behind_token bytes)).rest
    ≡ Ok payload = rw (← behind) read in
    let same = same_message (message_of bytes payload) (viewed kind (code bytes) id token options payload) (sym k) refl
    (sym i) (sym (front ∙ ap (λ (j : ℕ). take j (drop 4 bytes)) len))
    (ap (λ (b : List ℕ). (walk 0 b).options) (sym behind)) refl in
    body_ok bytes payload at ∙ ap (λ m. Ok m) same

module _ (m : Message) (front : List ℕ) (few : length m.token ≤ 8) where
  text : List ℕ
  text = header m ++ (m.token ++ (front ++ marked m.payload))

  first_parts : (version text ≡ 1) × (token_length text ≡ length m.token) × (kind_of (get_or text 0 0) ≡ m.kind)
  unfolding text
  first_parts =
      let k = kind_small m.kind in
      (omega arith, omega arith, kind_is (64 + (kind_number m.kind * 16 + length m.token)) m.kind (omega arith))

  text_length : length text ≡ 4 + (length m.token + (length front + length (marked m.payload)))
  unfolding text
  text_length = omega (arith, length-append m.token (front ++ marked m.payload), length-append front (marked m.payload))

  text_framed : (m.code ≡ 0 → length text ≡ 4) → IsFramed text
  unfolding text
  text_framed bare =
      let p = first_parts in
      record {
        header = record { long = omega (arith, text_length); version = p.0; token = omega (arith, p.1) };
        bare = λ z. (omega (arith, p.1, text_length, bare z), bare z);
        token = omega (arith, p.1, text_length);
      }

  text_behind : behind_token text ≡ front ++ marked m.payload
  unfolding text
  text_behind =
      let head = header m ++ m.token in
      let len : length head ≡ 4 + token_length text = omega (arith, first_parts.1) in
      let regrouped : text ≡ head ++ (front ++ marked m.payload) = refl in
      drop_at head (front ++ marked m.payload) (4 + token_length text) len

  text_token : take (token_length text) (drop 4 text) ≡ m.token
  unfolding text
  text_token = take_at m.token (front ++ marked m.payload) (token_length text) (sym first_parts.1)

  text_id : m.id < 2 ^ 16 → id_of text ≡ m.id
  unfolding text
  text_id small = omega arith

  text_code : code text ≡ m.code
  unfolding text
  text_code = refl

  text_body : Options 0 front m.options → m.id < 2 ^ 16 → body_at text ≡ Ok m
  text_body run small =
      let end = marked_ends (last_number 0 m.options) m.payload in
      let w = walk_again m.options 0 front (marked m.payload) end.0 run end.1 in
      let found : walk 0 (behind_token text) ≡ record
      { options = m.options; number = last_number 0 m.options; rest = marked m.payload; reason = end.0 } =
      ap (walk 0) text_behind ∙ w in
      let payload : payload_at (walk 0 (behind_token text)).reason (walk 0 (behind_token text)).rest
      ≡ Ok m.payload = rw found (payload_again end.0 m.payload) in
      let options : (walk 0 (behind_token text)).options ≡ m.options = ap (λ w. w.options) found in
      body_ok text m.payload payload ∙ ap (λ x. Ok x)
      (same_message (message_of text m.payload) m first_parts.2 text_code (text_id small) text_token options refl)

-- the message that bytes spell is read
pub spelled_again : (bytes : List ℕ) (m : Message) → Spells bytes m → decoded bytes ≡ Ok m
unfolding text
spelled_again bytes m s =
    let t = text m s.option_bytes s.token in
    let bare : m.code ≡ 0 → length t ≡ 4 = λ z. sym (ap length s.parts) ∙ s.empty z in
    let framed = text_framed m s.option_bytes s.token bare in
    subst (λ (b : List ℕ). decoded b ≡ Ok m) (sym s.parts)
    (message_body t (framed_none t framed) ∙ text_body m s.option_bytes s.token s.options s.id)

no_option : (base : ℕ) → option_at base [] ≡ Err OptionCut
unfolding option_at
no_option base = refl

-- bytes are one run of options
pub one_run : (bytes : List ℕ) (a b : List CoapOption) → Options 0 bytes a → Options 0 bytes b → a ≡ b
one_run bytes a b p q =
    let x = ap (λ w. w.options) (walk_again a 0 bytes [] OptionCut p (no_option (last_number 0 a))) in
    let y = ap (λ w. w.options) (walk_again b 0 bytes [] OptionCut q (no_option (last_number 0 b))) in
    sym x ∙ y

-- the longest run is the walk's
leaves_walk : (bytes : List ℕ) (number : ℕ) (rest : List ℕ) → AreBytes bytes → Leaves bytes number rest
    → ((walk 0 bytes).number ≡ number) × ((walk 0 bytes).rest ≡ rest)
leaves_walk bytes number rest fits l =
    let w = walk 0 bytes in
    let h = walked 0 bytes fits in
    let whole : length bytes ≡ length h.front + length w.rest = ap length h.parts ∙ length-append h.front w.rest in
    let other : length bytes ≡ length l.front + length rest = ap length l.parts ∙ length-append l.front rest in
    let most = walk_longest l.options 0 bytes l.front rest fits l.run l.parts in
    let least = l.longest w.options h.front w.rest h.run h.parts in
    let n : length h.front ≡ length l.front = omega arith in
    let front : h.front ≡ l.front = sym (take_at h.front w.rest (length l.front) n)
    ∙ ap (take (length l.front)) (sym h.parts ∙ l.parts) ∙ take_at l.front rest (length l.front) refl in
    let back : w.rest ≡ rest = sym (drop_at h.front w.rest (length l.front) n)
    ∙ ap (drop (length l.front)) (sym h.parts ∙ l.parts) ∙ drop_at l.front rest (length l.front) refl in
    let run : Options 0 l.front w.options = subst (λ (f : List ℕ). Options 0 f w.options) front h.run in
    let options = one_run l.front w.options l.options run l.run in
    (h.last ∙ ap (last_number 0) options ∙ sym l.last, back)

rest_again : (bytes : List ℕ) (reason : Reason) (at number : ℕ) (rest : List ℕ) → AreBytes bytes → IsFramed bytes
    → Leaves (behind_token bytes) number rest → BadRest number rest reason
    → at ≡ place reason (length bytes - length rest) (length bytes) → decoded bytes ≡ Err (reason, at)
rest_again bytes reason at number rest fits f l bad is =
    let fits' = AreBytes-drop (4 + token_length bytes) bytes fits in
    let w = walk 0 (behind_token bytes) in
    let h = walked 0 (behind_token bytes) fits' in
    let same = leaves_walk (behind_token bytes) number rest fits' l in
    let bad' : BadRest w.number w.rest reason = subst (λ (r : List ℕ). BadRest w.number r reason) (sym same.1)
    (subst (λ (n : ℕ). BadRest n rest reason) (sym same.0) bad) in
    let e = body_err bytes reason (payload_bad_again w.number w.reason w.rest reason h.fits h.ends bad') in
    let placed : place reason (length bytes - length w.rest) (length bytes)
    ≡ at = ap (λ (r : List ℕ). place reason (length bytes - length r) (length bytes)) same.1 ∙ sym is in
    message_body bytes (framed_none bytes f) ∙ e ∙ ap (λ (a : ℕ). Err (reason, a)) placed

-- reading finds that bytes are faulty
pub faulty_again : (bytes : List ℕ) (reason : Reason) (at : ℕ) → AreBytes bytes → Faulty bytes reason at
    → decoded bytes ≡ Err (reason, at)
faulty_again bytes Short at fits h = message_fault bytes (Short, at) (short_again bytes at h)
faulty_again bytes Version at fits h = message_fault bytes (Version, at) (version_again bytes at h)
faulty_again bytes TokenLength at fits h = message_fault bytes (TokenLength, at) (token_length_again bytes at h)
faulty_again bytes EmptyNotBare at fits h = message_fault bytes (EmptyNotBare, at) (empty_again bytes at h)
faulty_again bytes TokenCut at fits h = message_fault bytes (TokenCut, at) (token_cut_again bytes at h)
faulty_again bytes DeltaReserved at fits h = rest_again bytes DeltaReserved at h.1.0 h.1.1 fits h.0 h.1.2 h.1.3 h.1.4
faulty_again bytes LengthReserved at fits h = rest_again bytes LengthReserved at h.1.0 h.1.1 fits h.0 h.1.2 h.1.3 h.1.4
faulty_again bytes OptionCut at fits h = rest_again bytes OptionCut at h.1.0 h.1.1 fits h.0 h.1.2 h.1.3 h.1.4
faulty_again bytes NumberTooLarge at fits h = rest_again bytes NumberTooLarge at h.1.0 h.1.1 fits h.0 h.1.2 h.1.3 h.1.4
faulty_again bytes NoPayload at fits h = rest_again bytes NoPayload at h.1.0 h.1.1 fits h.0 h.1.2 h.1.3 h.1.4
