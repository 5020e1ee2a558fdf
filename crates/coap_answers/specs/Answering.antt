-- What a server answers to one datagram, as it is printed: what it sends in hex, a line each, or that it sends nothing.
use Rattle.std.specs.Prelude.{◌≡◌, ◌⊎◌, ◌++◌, ◌∷◌, [], ℕ, List, Option, Some, Ok, Err, codes}
use Rattle.std.specs.Io.KnownBytes.{Appends}
use Rattle.hex.specs.Hex.{encode_lower}
use Rattle.coap_types.specs.declared.endpoint.Endpoint.{Endpoint}
use Rattle.coap_types.specs.declared.szx.TheConstants.{MAX_SZX as max_szx}
use Rattle.coap_layer.specs.Trace.{Packet}
use Rattle.coap_layer.specs.declared.setup.Setup.{Setup}
use Rattle.coap_resource.specs.Content.{Content}
use Rattle.coap_resource.specs.Limits.{Limits}
use Rattle.coap_resource.specs.declared.refusal.StoreRefusal.{StoreRefusal}
use Rattle.coap_server.specs.Led.{Led, State, Step}
use Rattle.coap_server.specs.Makes.{Fed, Makes}
use Rattle.coap_server.specs.Trace.{NextOut, Sets}
use Rattle.coap_common.specs.declared.usual.TheConstants.{TEXT_PLAIN as text_plain}
use Rattle.coap_status.specs.declared.status.Status.{Status}
use Rattle.coap_status.specs.declared.status.Status.TheVariants as status
use Rattle.coap_answers.specs.Printed.{refused_text}

-- datagrams, each in hex on a line of its own, in their order
abbrev pub hex_lines : List Packet → List ℕ
hex_lines [] = []
hex_lines (p ∷ ps) = (encode_lower p.bytes ++ codes "\n") ++ hex_lines ps

-- .. and what stands for none
abbrev pub sent_text : List Packet → List ℕ
sent_text [] = codes "silence\n"
sent_text (p ∷ ps) = hex_lines (p ∷ ps)

-- datagrams are taken from a server, each the first that waits
abbrev pub GivesOut : State → List Packet → State → Type 0
GivesOut old [] new = new ≡ old
GivesOut old (p ∷ ps) new = (between : State) × (old.layer.queue ≡ p ∷ between.layer.queue)
    × Step old (NextOut (Some p)) between × GivesOut between ps new

-- all datagrams that wait at a server are taken, so that none is left, and they alone are written behind what a writer
-- has
abbrev pub PrintsSent : (before after : Option (List ℕ)) → (old new : State) → Type 0
PrintsSent before after old new = (out : List Packet) × GivesOut old out new × (new.layer.queue ≡ [])
    × Appends before after (sent_text out)

-- a server is handed this datagram, and what it then sends is printed
abbrev pub PrintsReply : (before after : Option (List ℕ)) → (at : ℕ) → Endpoint → (word : ℕ) → (datagram : List ℕ)
    → (old new : State) → Type 0
PrintsReply before after at from word datagram old new =
    (fed : State) × Makes old (Fed at from datagram word) fed × PrintsSent before after fed new

-- A server that no call has led is to hold this body. Its store refuses that, which is told; or it holds the body, and
-- what it replies to this datagram is printed.
abbrev pub PrintsAnswer : Limits → Setup → (path : List (List ℕ)) → (body : List ℕ)
    → (before after : Option (List ℕ)) → (at : ℕ) → Endpoint → (word : ℕ) → (datagram : List ℕ) → Status → Type 0
PrintsAnswer limits setup path body before after at from word datagram s =
    ((version : ℕ) × (store : Content) × (held : State) × (new : State)
    × Led limits max_szx setup (Sets 0 path (Some text_plain) body (Ok version) store ∷ []) held
    × (s ≡ status.Done) × PrintsReply before after at from word datagram held new)
    ⊎ ((why : StoreRefusal) × (store : Content) × (left : State)
    × Led limits max_szx setup (Sets 0 path (Some text_plain) body (Err why) store ∷ []) left
    × (s ≡ status.Refused) × Appends before after (refused_text why))
