-- The inputs of a server, and their bytes in a journal.
use Rattle.std.specs.Prelude.{◌≡◌, ◌<◌, ◌^◌, ℕ, Option, Some, None, List, [], ◌∷◌, ◌++◌, length}
use Rattle.coap_journal.specs.Numbers.{half, number, short}
use Rattle.coap_types.specs.Path.{HoldsAtMost}
use Rattle.coap_types.specs.declared.endpoint.Endpoint.{Endpoint}
use Rattle.coap_types.specs.declared.path.TheConstants.{MAX_SEGMENT_LEN as max_segment_len}
use Rattle.coap_types.specs.declared.path.TheConstants.{MAX_SEGMENTS as max_segments}

-- A datagram that came; a tick; a local change and a removal; a delay; a plain path; a datagram that came, and whose
-- request was to be refused with a code; a peer that is forgotten.
pub data Input : Type 0 where
  Feed : (now : ℕ) (from : Endpoint) (bytes : List ℕ) (word : ℕ) → Input
  Tick : (now : ℕ) (word : ℕ) → Input
  Set : (now : ℕ) (path : List (List ℕ)) (format : Option ℕ) (body : List ℕ) → Input
  Remove : (now : ℕ) (path : List (List ℕ)) → Input
  Delay : (path : List (List ℕ)) (ms : ℕ) → Input
  Plain : (path : List (List ℕ)) → Input
  Refuse : (now : ℕ) (from : Endpoint) (bytes : List ℕ) (word code : ℕ) → Input
  Forget : (peer : Endpoint) → Input

-- bytes, with their length in front
abbrev pub text : List ℕ → List ℕ
text bytes = short (length bytes) ++ bytes

abbrev pub texts : List (List ℕ) → List ℕ
texts [] = []
texts (bytes ∷ more) = text bytes ++ texts more

-- a path: how many segments it has, and these
abbrev pub path_bytes : List (List ℕ) → List ℕ
path_bytes path = length path ∷ texts path

abbrev pub format_bytes : Option ℕ → List ℕ
format_bytes None = 0 ∷ 0 ∷ 0 ∷ []
format_bytes (Some format) = 1 ∷ half format

abbrev pub endpoint_bytes : Endpoint → List ℕ
endpoint_bytes e = e.ip ++ half e.port

-- what follows the kind of an input
abbrev pub feed_bytes : ℕ → Endpoint → List ℕ → ℕ → List ℕ
feed_bytes now from bytes word = number now ++ (number word ++ (endpoint_bytes from ++ text bytes))

abbrev pub refuse_bytes : ℕ → Endpoint → List ℕ → (word code : ℕ) → List ℕ
refuse_bytes now from bytes word code = code ∷ feed_bytes now from bytes word

abbrev pub tick_bytes : ℕ → ℕ → List ℕ
tick_bytes now word = number now ++ number word

abbrev pub set_bytes : ℕ → List (List ℕ) → Option ℕ → List ℕ → List ℕ
set_bytes now path format body = number now ++ (format_bytes format ++ (path_bytes path ++ text body))

abbrev pub remove_bytes : ℕ → List (List ℕ) → List ℕ
remove_bytes now path = number now ++ path_bytes path

abbrev pub delay_bytes : List (List ℕ) → ℕ → List ℕ
delay_bytes path ms = number ms ++ path_bytes path

-- the bytes of an input: its kind, and its parts
abbrev pub spelled : Input → List ℕ
spelled (Feed now from bytes word) = 1 ∷ feed_bytes now from bytes word
spelled (Tick now word) = 2 ∷ tick_bytes now word
spelled (Set now path format body) = 3 ∷ set_bytes now path format body
spelled (Remove now path) = 4 ∷ remove_bytes now path
spelled (Delay path ms) = 5 ∷ delay_bytes path ms
spelled (Plain path) = 6 ∷ path_bytes path
spelled (Refuse now from bytes word code) = 10 ∷ refuse_bytes now from bytes word code
spelled (Forget peer) = 11 ∷ endpoint_bytes peer

-- those of several, one after the other
abbrev pub all_spelled : List Input → List ℕ
all_spelled [] = []
all_spelled (input ∷ inputs) = spelled input ++ all_spelled inputs

-- what the calls of a server hand in: numbers of 64 bits, addresses, texts that a length of 32 bits can tell, paths
pub record IsEndpoint (e : Endpoint) : Type 0 where
  pub ip : length e.ip ≡ 4
  pub port : e.port < 2 ^ 16

abbrev pub IsFormat : Option ℕ → Type 0
IsFormat None = Unit {0}
IsFormat (Some format) = format < 2 ^ 16

abbrev pub AreShort : List (List ℕ) → Type 0
AreShort [] = Unit {0}
AreShort (bytes ∷ more) = (length bytes < 2 ^ 32) × AreShort more

abbrev pub IsSegments : List (List ℕ) → Type 0
IsSegments path = HoldsAtMost max_segments max_segment_len path

abbrev pub IsInput : Input → Type 0
IsInput (Feed now from bytes word) = (now < 2 ^ 64) × (word < 2 ^ 64) × IsEndpoint from × (length bytes < 2 ^ 32)
IsInput (Tick now word) = (now < 2 ^ 64) × (word < 2 ^ 64)
IsInput (Set now path format body) = (now < 2 ^ 64) × IsFormat format × IsSegments path × (length body < 2 ^ 32)
IsInput (Remove now path) = (now < 2 ^ 64) × IsSegments path
IsInput (Delay path ms) = (ms < 2 ^ 64) × IsSegments path
IsInput (Plain path) = IsSegments path
IsInput (Refuse now from bytes word code) =
    (now < 2 ^ 64) × (word < 2 ^ 64) × IsEndpoint from × (length bytes < 2 ^ 32) × (code < 2 ^ 8)
IsInput (Forget peer) = IsEndpoint peer

abbrev pub AreInputs : List Input → Type 0
AreInputs [] = Unit {0}
AreInputs (input ∷ inputs) = IsInput input × AreInputs inputs
