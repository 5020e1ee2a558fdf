-- The bytes that tell a peer apart, as a table of names holds them.
use Rattle.std.specs.Prelude.{◌≡◌, ◌≤◌, ◌++◌, ◌&&◌, ◌==◌, ℕ, ℤ, pos, Bool, List, Option, Some, None, length, take}
use Rattle.std.specs.Prelude.{drop, replicate, nat_eq}
use Rattle.std.specs.Cmp.Lexicographic.{pointwise}
use Rattle.knifesilver.specs.declared.names.peer_key.PeerKey.{PeerKey}
use Rattle.knifesilver.specs.declared.names.peer_key.TheConstants.{KEY_ROOM as key_room}

-- 1 to 60 bytes
abbrev pub IsKey : List ℕ → Type 0
IsKey bytes = (1 ≤ length bytes) × (length bytes ≤ key_room)

-- .. in a field of 60 zeros, whose first bytes they take
abbrev pub peer_key : List ℕ → PeerKey
peer_key bytes =
    record { len = length bytes; bytes = bytes ++ drop (length bytes) (replicate key_room 0) }

-- the bytes that count
abbrev pub bytes_of : PeerKey → List ℕ
bytes_of key = take key.len key.bytes

-- two keys are the same
abbrev pub same_key : PeerKey → PeerKey → Bool
same_key a b = (a.len == b.len) && pointwise nat_eq a.bytes b.bytes

-- there is none, and the answer is 0; or the answer is 1, and its bytes stand at the front of the room
abbrev pub KeyAnswers : ℤ → (room : List ℕ) (len : ℕ) → Option PeerKey → Type 0
KeyAnswers answer room len None = answer ≡ pos 0
KeyAnswers answer room len (Some key) =
    (answer ≡ pos 1) × (len ≡ length (bytes_of key)) × (take len room ≡ bytes_of key)
