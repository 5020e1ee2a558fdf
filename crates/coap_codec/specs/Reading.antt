-- The steps of the reader, on lists: what it takes from left to right, and the first fault that it meets. Private
-- contracts cite them, and `decoded` and the values of View and Options are made of them. What they mean is said in
-- Message and Faulty, and no clause of a public function needs more.
use Rattle.std.specs.Prelude.{◌≡◌, ℕ, zero, suc, ◌+◌, ◌*◌, ◌-◌, ◌/◌, ◌%◌, ◌==◌, ◌&&◌, not, nat_lt, if◌then◌else◌, List}
use Rattle.std.specs.Prelude.{[], ◌∷◌, length, take, drop, slice_index, Option, Some, None, Result, Ok, Err}
use Rattle.coap_types.specs.CoapOption.{CoapOption}
use Rattle.coap_types.specs.declared.message.Kind.{Kind}
use Rattle.coap_codec.specs.Faulty.{place, head_of}
use Rattle.coap_codec.specs.Header.{version, kind_of, token_length, code, id_of}
use Rattle.coap_codec.specs.Message.{Message}
use Rattle.coap_codec.specs.declared.fault.Fault.{Fault}
use Rattle.coap_codec.specs.declared.fault.Reason.{Reason}
use Rattle.coap_codec.specs.declared.fault.Reason.TheVariants.{Short, Version, TokenLength, TokenCut, EmptyNotBare}
use Rattle.coap_codec.specs.declared.fault.Reason.TheVariants.{DeltaReserved, LengthReserved, OptionCut, NumberTooLarge}
use Rattle.coap_codec.specs.declared.fault.Reason.TheVariants.{NoPayload}

infixl 10 ◌>>=◌
abbrev pub ◌>>=◌ : {A B E : Type 0} → Result A E → (A → Result B E) → Result B E
(Ok x) >>= f = f x
(Err e) >>= f = Err e

-- What a function returned, seen by view, is what reading gives.
abbrev pub Gives : {X Y E : Type 0} → (X → Y) → Result X E → Result Y E → Type 0
Gives view (Ok x) read = read ≡ Ok (view x)
Gives view (Err e) read = read ≡ Err e

abbrev pub one_more : List ℕ → Result (ℕ × List ℕ) Reason
one_more [] = Err OptionCut
one_more (b ∷ rest) = Ok (13 + b, rest)

abbrev pub two_more : List ℕ → Result (ℕ × List ℕ) Reason
two_more [] = Err OptionCut
two_more (_ ∷ []) = Err OptionCut
two_more (high ∷ low ∷ rest) = Ok (269 + (high * 256 + low), rest)

-- the number that a nibble below 15 says, and the bytes behind what it needs more
unfoldable pub extended : ℕ → List ℕ → Result (ℕ × List ℕ) Reason
extended nibble bytes = if nat_lt nibble 13 then Ok (nibble, bytes) else if nibble == 13 then one_more bytes else
    two_more bytes

-- the option of this delta and length, whose value is in front of the bytes
unfoldable pub value_at : ℕ → ℕ → List ℕ → Result (CoapOption × List ℕ) Reason
value_at number len bytes =
    if nat_lt 65535 number then Err NumberTooLarge
    else if nat_lt (length bytes) len then Err OptionCut
    else Ok (record { number = number; value = take len bytes }, drop len bytes)

unfoldable pub nibbles_at : ℕ → ℕ → ℕ → List ℕ → Result (CoapOption × List ℕ) Reason
nibbles_at base delta len bytes = do
  d ← extended delta bytes
  l ← extended len d.1
  value_at (base + d.0) l.0 l.1

-- the option in front of the bytes, behind one of number base, and what follows it
unfoldable pub option_at : ℕ → List ℕ → Result (CoapOption × List ℕ) Reason
option_at base [] = Err OptionCut
option_at base (first ∷ bytes) =
    if first / 16 == 15 then Err DeltaReserved
    else if first % 16 == 15 then Err LengthReserved
    else nibbles_at base (first / 16) (first % 16) bytes

-- The whole options in front of bytes; where no option begins, behind one of which number, and why none does.
pub record Walk : Type 0 where
  pub options : List CoapOption
  pub number : ℕ
  pub rest : List ℕ
  pub reason : Reason

abbrev pub with_first : CoapOption → Walk → Walk
with_first option w = record { options = option ∷ w.options; number = w.number; rest = w.rest; reason = w.reason }

abbrev pub ends_at : ℕ → List ℕ → Reason → Walk
ends_at base bytes reason = record { options = []; number = base; rest = bytes; reason = reason }

-- in at most n steps
unfoldable pub walk_of : ℕ → ℕ → List ℕ → Walk
walk_of zero base bytes = ends_at base bytes OptionCut
walk_of (suc n) base bytes = elim (option_at base bytes)
    [ Ok x ↦ with_first x.0 (walk_of n x.0.number x.1) | Err reason ↦ ends_at base bytes reason ]

-- behind an option of number base
unfoldable pub walk : ℕ → List ℕ → Walk
walk base bytes = walk_of (length bytes) base bytes

-- the payload in what follows the options, which are no more for this reason
unfoldable pub payload_at : Reason → List ℕ → Result (List ℕ) Reason
payload_at reason [] = Ok []
payload_at reason (first ∷ []) = if first == 255 then Err NoPayload else Err reason
payload_at reason (first ∷ b ∷ bytes) = if first == 255 then Ok (b ∷ bytes) else Err reason

-- the first fault in front of the options
unfoldable pub frame_fault : List ℕ → Option (Reason × ℕ)
frame_fault bytes =
    if nat_lt (length bytes) 4 then Some (Short, length bytes)
    else if not (version bytes == 1) then Some (Version, 0)
    else if nat_lt 8 (token_length bytes) then Some (TokenLength, 0)
    else if code bytes == 0 then (if token_length bytes == 0 && length bytes == 4 then None else Some (EmptyNotBare, 4))
    else if nat_lt (length bytes) (4 + token_length bytes) then Some (TokenCut, length bytes)
    else None

-- what stands behind the token
abbrev pub behind_token : List ℕ → List ℕ
behind_token bytes = drop (4 + token_length bytes) bytes

-- the message of these parts, whose options are those that stand whole in front of the bytes
abbrev pub viewed : Kind → ℕ → ℕ → List ℕ → List ℕ → List ℕ → Message
viewed kind code id token bytes payload = record {
  kind = kind;
  code = code;
  id = id;
  token = token;
  options = (walk 0 bytes).options;
  payload = payload;
}

-- the message of sound bytes with this payload
abbrev pub message_of : List ℕ → List ℕ → Message
message_of bytes payload =
    viewed (kind_of (slice_index bytes 0)) (code bytes) (id_of bytes) (take (token_length bytes) (drop 4 bytes))
    (behind_token bytes) payload

unfoldable pub body_at : List ℕ → Result Message (Reason × ℕ)
body_at bytes =
    let w = walk 0 (behind_token bytes) in
    elim (payload_at w.reason w.rest) [
      | Ok payload ↦ Ok (message_of bytes payload)
      | Err reason ↦ Err (reason, place reason (length bytes - length w.rest) (length bytes))
    ]

-- what decoding gave is what reading gives, at bytes whose header and token are sound
abbrev pub ReadsBody : List ℕ → Result Message Fault → Type 0
ReadsBody bytes (Ok m) = body_at bytes ≡ Ok m
ReadsBody bytes (Err f) = (body_at bytes ≡ Err (f.reason, f.at)) × (f.head ≡ head_of f.reason bytes)
