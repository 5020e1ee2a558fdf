-- How pings go over a link, and which answers they have (RFC 7252, sections 4.2 and 4.3).
use Rattle.std.specs.Prelude.{◌≡◌, ◌<◌, ◌≤◌, ◌⊎◌, ◌↔◌, ◌+◌, ◌-◌, ◌%◌, ◌^◌, ℕ, Bool, true, false, List, Option, None}
use Rattle.std.specs.Prelude.{Some, is_some}
use Rattle.std.specs.Option.{unwrap_or}
use Rattle.coap_types.specs.declared.endpoint.Endpoint.{Endpoint}
use Rattle.coap_arguments.specs.declared.orders.PingOptions.{PingOptions}
use Rattle.coap_layer.specs.Machine.State.{is_copy_due}
use Rattle.coap_layer.specs.Words.{Open}
use Rattle.coap_links.specs.Carried.{Packet}
use Rattle.coap_ping.specs.Pings.{IsAnswer, begun, is_over, ping_bytes, sent_at}
use Rattle.coap_wires.specs.Bearing.{Bears}
use Rattle.coap_wires.specs.Waiting.{HasLasted}
use Rattle.coap_asking.specs.declared.pinging.TheConstants.{PING_PERIOD_MS as ping_period}
use Rattle.coap_status.specs.declared.status.Status.{Status}
use Rattle.coap_status.specs.declared.status.Status.TheVariants as status

-- what came answers the ping: the Reset of its Message ID, from where it went to
abbrev pub Answers : Open → Option Packet → Type 0
Answers p None = ⊥
Answers p (Some came) = IsAnswer p came.0 came.1

-- no answer is awaited any more: 93 s have passed since it was sent first, or as many as were chosen
abbrev pub IsGivenUp : Option ℕ → Open → ℕ → Type 0
IsGivenUp give_up p now = (is_over now p ≡ true) ⊎ HasLasted give_up (now - p.first)

module _ {L : Type 0} (sends : L → Endpoint → List ℕ → L → Type 0) (receives : L → Option Packet → L → Type 0) where
  -- a receive, and whether what came answers the ping
  abbrev pub Hears : Open → L → Bool → L → Type 0
  Hears p l answered m = (came : Option Packet) × receives l came m × ((answered ≡ true) ↔ Answers p came)

  -- at this moment it is sent again exactly where a copy is due (section 4.2)
  abbrev pub MaySend : ℕ → Open → L → Open → L → Type 0
  MaySend now p l q m =
      (is_copy_due now p ≡ true → (q ≡ sent_at now p) × sends l p.to (ping_bytes p.id) m)
      × (is_copy_due now p ≡ false → (q ≡ p) × (m ≡ l))

  -- (`faults` is how many calls of the link failed, and `tells` which moments the clock tells)
  module _ {C : Type 0} (faults : L → ℕ) (tells : C → ℕ → C → Type 0) where
    -- Turns, each at the moment that the clock tells then: in none of them an answer comes, or the ping is given up,
    -- and it is sent again exactly where a copy is due; and the program bears what failed by the end of it.
    pub data Awaits (give_up : Option ℕ) (b : C) (p : Open) (l : L) : C → Open → L → Type 0 where
      not_yet : Awaits give_up b p l b p l
      further : (c : C) (q : Open) (m : L) (k : L) (now : ℕ) (d : C) (r : Open) (n : L) → Awaits give_up b p l c q m
          → Hears q m false k → tells c now d → (IsGivenUp give_up q now → ⊥) → MaySend now q k r n → Bears faults n
          → Awaits give_up b p l d r n

    -- how it ends: by an answer, so many milliseconds after it was sent first; or without one
    abbrev pub EndsBy : Option ℕ → C → Open → L → Option ℕ → C → L → Type 0
    EndsBy give_up c p l (Some ms) d m = (now : ℕ) × Hears p l true m × tells c now d × (ms ≡ now - p.first)
    EndsBy give_up c p l None d m = (now : ℕ) × Hears p l false m × tells c now d × IsGivenUp give_up p now

    abbrev pub Comes : Option ℕ → C → Open → L → Option ℕ → C → L → Type 0
    Comes give_up b p l ms d m =
        (c : C) × (q : Open) × (k : L) × Awaits give_up b p l c q k × EndsBy give_up c q k ms d m

    -- one ping, with this word: it is sent to the server at this moment, and awaited
    abbrev pub IsPing : Option ℕ → Endpoint → ℕ → ℕ → C → L → Option ℕ → C → L → Type 0
    IsPing give_up server word now b l ms d m =
        (k : L) × sends l server (ping_bytes (begun now server word).id) k
        × Comes give_up b (begun now server word) k ms d m

    -- the word of the next ping after so many
    abbrev pub word_after : ℕ → ℕ → ℕ
    word_after word n = (word + n) % 2 ^ 64

    -- the ping after so many, and whether it is answered
    abbrev pub IsNext : Option ℕ → Endpoint → ℕ → ℕ → ℕ → L → Bool → L → Type 0
    IsNext give_up server word n now l answered m =
        (ms : Option ℕ) × (is_some ms ≡ answered) × (b d : C) × IsPing give_up server (word_after word n) now b l ms d m

    -- what comes between two pings is dropped
    pub data Drops (l : L) : L → Type 0 where
      nothing : Drops l l
      more : (k : L) (came : Option Packet) (m : L) → Drops l k → receives k came m → Bears faults m → Drops l m

    -- so many pings were answered, one after the other, each begun a second after the one before or later; and the next
    -- may begin at this moment, which the clock told
    pub data Answered (give_up : Option ℕ) (server : Endpoint) (word : ℕ) (l : L) : ℕ → ℕ → L → Type 0 where
      none_yet : (c d : C) (now : ℕ) → tells c now d → Answered give_up server word l 0 now l
      one_more : (n now : ℕ) (k : L) (m : L) (c d : C) (next : ℕ) (j : L) → Answered give_up server word l n now k
          → IsNext give_up server word n now k true m → tells c next d → now + ping_period ≤ next → Drops m j
          → Answered give_up server word l (n + 1) next j

    -- the last ping, after so many that were answered, and whether it is
    abbrev pub IsLast : Option ℕ → Endpoint → ℕ → ℕ → L → Bool → L → Type 0
    IsLast give_up server word n l answered m =
        (now : ℕ) × (k : L) × Answered give_up server word l n now k × IsNext give_up server word n now k answered m

    -- Each of so many pings is answered, and the status is 0; or the last one isn't, and it is 1.
    abbrev pub Pings : Option ℕ → Endpoint → ℕ → ℕ → L → Status → L → Type 0
    Pings give_up server word count l s m =
        ((s ≡ status.Done) × (count ≡ 0) × (m ≡ l))
        ⊎ (((s ≡ status.Done) × (n : ℕ) × (count ≡ n + 1) × IsLast give_up server word n l true m)
        ⊎ ((s ≡ status.Refused) × (n : ℕ) × (n < count) × IsLast give_up server word n l false m))

    -- over such a link an endpoint that stands for the server is pinged as often as the options say, or once, with such
    -- a word
    abbrev pub PingsBy : (Stands : Endpoint → Type 0) → (IsWord : ℕ → Type 0) → PingOptions → Status → Type 0
    PingsBy Stands IsWord options s =
        (server : Endpoint) × Stands server × (word : ℕ) × IsWord word × (l : L) × (m : L)
        × Pings options.give_up server word (unwrap_or options.times 1) l s m
