-- Bytes whose header and token are sound: the message that they spell, or their fault.
use Rattle.std.proofs.Common.{◌≡◌, ℕ, zero, suc, ◌+◌, ◌-◌, ◌*◌, ◌/◌, ◌%◌, ◌^◌, ◌<◌, cond, eqb, List, [], ◌∷◌, ◌++◌}
use Rattle.std.proofs.Common.{length, take, drop, Ok, Err, refl, sym, ap, ◌∙◌, arith}
use Rattle.std.proofs.lemmas.List.{take-append-drop, length-append, length-take, drop-drop}
use Rattle.coap_types.specs.declared.message.Kind.TheVariants.{Con, Non, Ack, Rst}
use Rattle.coap_codec.specs.declared.fault.Reason.{Reason}
use Rattle.coap_codec.specs.declared.fault.Reason.TheVariants.{Short, Version, TokenLength, TokenCut, EmptyNotBare}
use Rattle.coap_codec.specs.declared.fault.Reason.TheVariants.{DeltaReserved, LengthReserved, OptionCut, NumberTooLarge}
use Rattle.coap_codec.specs.declared.fault.Reason.TheVariants.{NoPayload}
use Rattle.coap_types.specs.Bytes.{AreBytes}
use Rattle.coap_codec.specs.Message.{kind_number, header, marked, Spells}
use Rattle.coap_codec.specs.Header.{token_length, kind_of, id_of}
use Rattle.coap_codec.specs.Faulty.{Leaves, BadRest, place, IsFramed, Faulty}
use Rattle.coap_codec.specs.Reading.{walk, payload_at, behind_token, message_of, body_at}
use Rattle.coap_types.proofs.Facts.Bytes.{AreBytes-drop, byte_at}
use Rattle.coap_codec.proofs.OneOption.LongestRun.{walked, walk_longest}

kind_number_is : (k : ℕ) → k < 4 → kind_number (cond (eqb k 0) Con (cond (eqb k 1) Non (cond (eqb k 2) Ack Rst))) ≡ k
kind_number_is zero p = refl
kind_number_is (suc zero) p = refl
kind_number_is (suc (suc zero)) p = refl
kind_number_is (suc (suc (suc zero))) p = refl
kind_number_is (suc (suc (suc (suc k)))) p = absurd (omega arith)

header_reads : (bytes payload : List ℕ) → AreBytes bytes → IsFramed bytes
    → header (message_of bytes payload) ≡ take 4 bytes
header_reads [] payload fits f = absurd (let h = f.header.long in omega arith)
header_reads (a ∷ []) payload fits f = absurd (let h = f.header.long in omega arith)
header_reads (a ∷ b ∷ []) payload fits f = absurd (let h = f.header.long in omega arith)
header_reads (a ∷ b ∷ c ∷ []) payload fits f = absurd (let h = f.header.long in omega arith)
header_reads (a ∷ b ∷ c ∷ d ∷ rest) payload fits f =
    let token : length (take (a % 16) rest) ≡ a % 16 = omega (arith, length-take (a % 16) rest, f.token) in
    let kind = kind_number_is (a / 16 % 4) (omega arith) in
    let first : 64 + (kind_number (kind_of a) * 16 + length (take (a % 16) rest))
    ≡ a = omega (arith, token, kind, f.header.version) in
    let third = byte_at (a ∷ b ∷ c ∷ d ∷ rest) fits 2 in
    let fourth = byte_at (a ∷ b ∷ c ∷ d ∷ rest) fits 3 in
    let high : (c * 256 + (d * 1 + 0)) / 256 % 256 ≡ c = omega (arith, third, fourth) in
    let low : (c * 256 + (d * 1 + 0)) % 256 ≡ d = omega (arith, third, fourth) in
    rw (first, high, low) refl

pub body_ok : (bytes payload : List ℕ) → payload_at (walk 0 (behind_token bytes)).reason
    (walk 0 (behind_token bytes)).rest ≡ Ok payload → body_at bytes ≡ Ok (message_of bytes payload)
unfolding body_at
body_ok bytes payload e = rw (e, body_at) refl

pub body_err : (bytes : List ℕ) (reason : Reason)
    → payload_at (walk 0 (behind_token bytes)).reason (walk 0 (behind_token bytes)).rest ≡ Err reason
    → body_at bytes ≡ Err (
      reason,
      place reason (length bytes - length (walk 0 (behind_token bytes)).rest)
          (length bytes),
    )
unfolding body_at
body_err bytes reason e = rw (e, body_at) refl

id_small : (bytes : List ℕ) → AreBytes bytes → id_of bytes < 2 ^ 16
id_small bytes fits = let are = AreBytes-drop 2 bytes fits in let high = byte_at (drop 2 bytes) are 0 in let low =
    byte_at (drop 2 bytes) are 1 in omega (arith, high, low)

-- sound bytes whose rest is a payload spell a message
pub sound_spells : (bytes payload : List ℕ) → AreBytes bytes → IsFramed bytes
    → (walk 0 (behind_token bytes)).rest ≡ marked payload → Spells bytes (message_of bytes payload)
sound_spells bytes payload fits f e =
    let n = token_length bytes in
    let w = walk 0 (behind_token bytes) in
    let token = take n (drop 4 bytes) in
    let cut : drop n (drop 4 bytes) ≡ behind_token bytes = drop-drop n 4 bytes in
    let fits' : AreBytes (behind_token bytes) = AreBytes-drop (4 + n) bytes fits in
    let h = walked 0 (behind_token bytes) fits' in
    let tail : behind_token bytes ≡ h.front ++ marked payload = h.parts ∙ ap (λ (r : List ℕ). h.front ++ r) e in
    let body : drop 4 bytes ≡ token ++ (h.front ++ marked payload) = sym (take-append-drop n (drop 4 bytes))
    ∙ ap (λ (r : List ℕ). token ++ r) (cut ∙ tail) in
    let whole : bytes ≡ take 4 bytes ++ (token ++ (h.front ++ marked payload)) = sym (take-append-drop 4 bytes)
    ∙ ap (λ (r : List ℕ). take 4 bytes ++ r) body in
    record {
      code = byte_at bytes fits 1;
      id = id_small bytes fits;
      token = omega (arith, length-take n (drop 4 bytes), f.header.token);
      option_bytes = h.front;
      options = h.run;
      parts = whole ∙ ap (λ (t : List ℕ). t ++ (token ++ (h.front ++ marked payload)))
          (sym (header_reads bytes payload fits f));
      empty = λ z. (f.bare z).1;
    }

-- sound bytes whose rest is bad are faulty
pub bad_rest_faulty : (bytes : List ℕ) (reason : Reason) (number : ℕ) (rest : List ℕ) → IsFramed bytes
    → Leaves (behind_token bytes) number rest → BadRest number rest reason
    → Faulty bytes reason (place reason (length bytes - length rest) (length bytes))
bad_rest_faulty bytes reason number [] f l h = absurd h
bad_rest_faulty bytes Short number (b ∷ rest) f l h = absurd h
bad_rest_faulty bytes Version number (b ∷ rest) f l h = absurd h
bad_rest_faulty bytes TokenLength number (b ∷ rest) f l h = absurd h
bad_rest_faulty bytes TokenCut number (b ∷ rest) f l h = absurd h
bad_rest_faulty bytes EmptyNotBare number (b ∷ rest) f l h = absurd h
bad_rest_faulty bytes DeltaReserved number (b ∷ rest) f l h = (f, (number, b ∷ rest, l, h, refl))
bad_rest_faulty bytes LengthReserved number (b ∷ rest) f l h = (f, (number, b ∷ rest, l, h, refl))
bad_rest_faulty bytes OptionCut number (b ∷ rest) f l h = (f, (number, b ∷ rest, l, h, refl))
bad_rest_faulty bytes NumberTooLarge number (b ∷ rest) f l h = (f, (number, b ∷ rest, l, h, refl))
bad_rest_faulty bytes NoPayload number (b ∷ rest) f l h = (f, (number, b ∷ rest, l, h, refl))

-- the walk takes the longest run
pub walk_leaves : (bytes : List ℕ) → AreBytes bytes → Leaves bytes (walk 0 bytes).number (walk 0 bytes).rest
walk_leaves bytes fits =
    let w = walk 0 bytes in
    let h = walked 0 bytes fits in
    let whole : length bytes ≡ length h.front + length w.rest = ap length h.parts ∙ length-append h.front w.rest in
    record {
      options = w.options;
      front = h.front;
      run = h.run;
      parts = h.parts;
      last = h.last;
      longest = λ others run left o e.
          let other : length bytes ≡ length run + length left = ap length e ∙ length-append run left in
          let most = walk_longest others 0 bytes run left fits o e in
          omega arith;
    }
