-- What is told of the request that a server applied last.
use Rattle.std.specs.Prelude.{◌≡◌, ◌<◌, ℕ, ℤ, pos, List, [], ◌∷◌, length}
use Rattle.coap_types.specs.MethodCode.{method_code}
use Rattle.coap_server.specs.Trace.{Applied}
use Rattle.knifesilver.specs.declared.server.out.KsApplied.{KsApplied}
use Rattle.coap_paths.specs.PathTexts.{IsText, text_of}
use Rattle.knifesilver.specs.ShortBytes.{AreIn}

-- whose it was, its method and its token, the version that it made, and its path, as text at the front of the room
abbrev pub IsTold : KsApplied → (room : List ℕ) → Applied → Type 0
IsTold told room done = (told.from ≡ record { ip = done.from.ip; port = done.from.port })
    × (told.method ≡ (method_code done.method).0) × AreIn done.token told.token told.token_len
    × (told.version ≡ done.version) × IsText done.path room told.path_len

-- none was applied, and the answer is 0; or the answer is 1, and it is told
abbrev pub AppliedAnswers : ℤ → KsApplied → (room : List ℕ) → List Applied → Type 0
AppliedAnswers answer told room [] = answer ≡ pos 0
AppliedAnswers answer told room (done ∷ others) = (answer ≡ pos 1) × IsTold told room done

-- one was applied, and its path as text is longer than the room
abbrev pub IsLongPath : (room : ℕ) → List Applied → Type 0
IsLongPath room [] = ⊥
IsLongPath room (done ∷ others) = room < length (text_of done.path)
