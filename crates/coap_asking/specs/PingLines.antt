-- What is written of pings, a line of each, and with which status their program ends (RFC 7252, section 4.3).
use Rattle.std.specs.Prelude.{◌≡◌, ◌⊎◌, ◌<◌, ⊤, ℕ, Bool, true, false, List, [], ◌∷◌, Option, None, is_some, length}
use Rattle.std.specs.Io.KnownBytes.{Appends}
use Rattle.std.specs.Option.{unwrap_or}
use Rattle.coap_arguments.specs.declared.orders.PingOptions.{PingOptions}
use Rattle.coap_json.specs.Objects.{WritesObject}
use Rattle.coap_asking.specs.Printed.{ping_text}
use Rattle.coap_status.specs.declared.status.Status.{Status}
use Rattle.coap_status.specs.declared.status.Status.TheVariants as status
use Rattle.std.specs.Prelude.{◌-◌, Some}
use Rattle.json.specs.Json.{Json}
use Rattle.coap_json.specs.OtherObjects.{ping_object}
use Rattle.coap_json.specs.declared.others.PingEnd.TheVariants as ends

-- .. of a ping that began at this moment: answered after so many milliseconds, or not until it was given up
abbrev pub ping_end_object : (begin now : ℕ) → Option ℕ → Json
ping_end_object begin now (Some ms) = ping_object now ends.Reset ms
ping_end_object begin now None = ping_object now ends.Timeout (now - begin)

-- how a ping ended is written, in words, or in JSON at some moment: answered after so many milliseconds, or not
abbrev pub WritesPing : Bool → (old new : Option (List ℕ)) → Option ℕ → Type 0
WritesPing false old new ms = Appends old new (ping_text ms)
WritesPing true old new ms = (begin now : ℕ) × WritesObject old new (ping_end_object begin now ms)

-- .. of each of these, the newest first
abbrev pub WritesPings : Bool → (old new : Option (List ℕ)) → List (Option ℕ) → Type 0
WritesPings json old new [] = new ≡ old
WritesPings json old new (ms ∷ earlier) =
    (between : Option (List ℕ)) × WritesPings json old between earlier × WritesPing json between new ms

-- each is answered
abbrev pub AreAnswered : List (Option ℕ) → Type 0
AreAnswered [] = ⊤
AreAnswered (ms ∷ earlier) = (is_some ms ≡ true) × AreAnswered earlier

-- so many are answered, and the status is 0; or fewer are, and then one isn't, and it is 1
abbrev pub EndWith : ℕ → List (Option ℕ) → Status → Type 0
EndWith count ends s = ((s ≡ status.Done) × AreAnswered ends × (length ends ≡ count))
    ⊎ ((s ≡ status.Refused) × (earlier : List (Option ℕ)) × (ends ≡ None ∷ earlier) × AreAnswered earlier
    × (length earlier < count))

-- .. and how each ended is written behind what a writer has
abbrev pub TellsPings : Bool → ℕ → (old new : Option (List ℕ)) → Status → Type 0
TellsPings json count old new s =
    (ends : List (Option ℕ)) × EndWith count ends s × WritesPings json old new ends

-- as many pings as the words say, or one
abbrev pub IsPinged : (old new : Option (List ℕ)) → PingOptions → Status → Type 0
IsPinged old new options s = TellsPings options.json (unwrap_or options.times 1) old new s
