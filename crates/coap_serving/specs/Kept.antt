-- What a server comes to that goes on from a journal.
use Rattle.std.specs.Prelude.{◌≡◌, ◌⊎◌, ℕ, List, [], ◌∷◌, ◌++◌, Option, Some, None, Ok, Err, codes}
use Rattle.std.specs.Borrow.{Bor}
use Rattle.std.specs.Io.KnownBytes.{Appends}
use Rattle.coap_layer.specs.Trace.{Packet}
use Rattle.coap_replay.specs.Replaying.{GivesOut}
use Rattle.coap_resource.specs.Content.{Content, Held}
use Rattle.coap_resource.specs.declared.refusal.StoreRefusal.{StoreRefusal}
use Rattle.coap_server.specs.Led.{State, Step}
use Rattle.coap_server.specs.Trace.{Gets, Sets}
use Rattle.coap_arguments.specs.PathText.{IsPathText}
use Rattle.coap_arguments.specs.declared.orders.Hold.{Hold}
use Rattle.coap_arguments.specs.declared.orders.Journal.{Journal}
use Rattle.coap_arguments.specs.declared.orders.ServeOptions.{ServeOptions}
use Rattle.coap_serving.specs.KeptWords.{IsKeepingBy, said_beside}
use Rattle.coap_answers.specs.Printed.{refused_text}
use Rattle.coap_serving.specs.Printed.{served_text}
use Rattle.coap_serving.specs.Served.{FedFrom, IsServed}
use Rattle.coap_kept.specs.Kept.{IsAlive}
use Rattle.coap_kept.specs.declared.keep_words.Keeping.{Keeping}
use Rattle.coap_kept.specs.declared.keeping.Silences.{Silences}
use Rattle.coap_status.specs.declared.status.Status.{Status}
use Rattle.coap_status.specs.declared.status.Status.TheVariants as status
use Rattle.coap_common.specs.declared.usual.TheConstants.{TEXT_PLAIN as text_plain}

-- what is held stays, and where nothing is this text is set at the moment
abbrev pub IsHeldOrSet : ℕ → List (List ℕ) → List ℕ → Option Held → State → State → Type 0
IsHeldOrSet at path body (Some held) old new = new ≡ old
IsHeldOrSet at path body None old new =
    (version : ℕ) × (store : Content) × Step old (Sets at path (Some text_plain) body (Ok version) store) new

abbrev pub HoldsMissing : ℕ → List (List ℕ) → List ℕ → State → State → Type 0
HoldsMissing at path body old new =
    (held : Option Held) × Step old (Gets path held) old × IsHeldOrSet at path body held old new

-- so with each of these, in order
abbrev pub HoldsEach : ℕ → List Hold → State → State → Type 0
HoldsEach at [] old new = new ≡ old
HoldsEach at (hold ∷ holds) old new = (between : State) × HoldsMissing at hold.path hold.body.items old between
    × HoldsEach at holds between new

-- nothing is held there, and the store refuses the text, for this reason
abbrev pub RefusesMissing : ℕ → List (List ℕ) → List ℕ → StoreRefusal → State → State → Type 0
RefusesMissing at path body why old new =
    Step old (Gets path None) old
    × (store : Content) × Step old (Sets at path (Some text_plain) body (Err why) store) new

-- one of these is refused so, behind those before it
abbrev pub RefusesAmong : ℕ → List Hold → StoreRefusal → State → State → Type 0
RefusesAmong at holds why old new =
    (held : List Hold) × (hold : Hold) × (rest : List Hold) × (holds ≡ held ++ hold ∷ rest) × (between : State)
    × HoldsEach at held old between × RefusesMissing at hold.path hold.body.items why between new

-- .. with the text of a temperature, and what the words name
abbrev pub IsSetMissing : ℕ → ServeOptions → State → State → Type 0
IsSetMissing at options old new = (path : List (List ℕ)) × IsPathText (codes "temperature") path × (between : State)
    × HoldsMissing at path (codes "22.3 C") old between × HoldsEach at options.holds.items between new

-- .. where the store refuses one of these
abbrev pub IsRefusedMissing : ℕ → ServeOptions → StoreRefusal → State → State → Type 0
IsRefusedMissing at options why old new = (path : List (List ℕ)) × IsPathText (codes "temperature") path
    × (RefusesMissing at path (codes "22.3 C") why old new ⊎ ((between : State)
    × HoldsMissing at path (codes "22.3 C") old between × RefusesAmong at options.holds.items why between new))

-- a server that goes on so is turned, and that is done; or its store refuses what the words name; and that is written
-- behind what a writer has
abbrev pub IsGoneOn : (old new : Option (List ℕ)) → ℕ → ServeOptions → ℕ → State → Status → Type 0
IsGoneOn old new count options at start s =
    ((s ≡ status.Refused) × (why : StoreRefusal) × (last : State) × IsRefusedMissing at options why start last
    × Appends old new (refused_text why))
    ⊎ ((s ≡ status.Done) × (set : State) × IsSetMissing at options start set × (last : State)
    × FedFrom count set last × Appends old new (served_text count))

-- all that waits is taken, and nothing else happens: it is never sent
abbrev pub IsDrained : State → State → Type 0
IsDrained old new = (dropped : List Packet) × GivesOut old dropped new × (new.layer.queue ≡ [])

-- .. and it is the one of a journal, of which the words say this; what waited there is dropped
abbrev pub IsServedOn : (old new : Option (List ℕ)) → ℕ → ServeOptions → Journal → Status → Type 0
IsServedOn old new count options journal s =
    (keeping : Keeping) × IsKeepingBy options journal.file.now (said_beside journal) keeping × (silent : Silences)
    × (first : ℕ) × (bytes : List ℕ) × (alive start : State) × IsAlive keeping silent first bytes alive
    × IsDrained alive start × IsGoneOn old new count options first start s

abbrev pub IsServedAsSaid : (old new : Option (List ℕ)) → ℕ → ServeOptions → Option (Bor (List ℕ)) → Option Journal
    → Status → Type 0
IsServedAsSaid old new count options script None s = IsServed old new count options script s
IsServedAsSaid old new count options script (Some journal) s = IsServedOn old new count options journal s
