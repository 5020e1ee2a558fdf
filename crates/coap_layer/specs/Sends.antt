-- What a layer sends, and how often (RFC 7252, sections 4.2, 4.3 and 4.5).
use Rattle.coap_layer.specs.Trace.{Setup}
use Rattle.std.specs.Prelude.{◌≡◌, ◌⊎◌, ◌≤◌, ℕ, zero, suc, ◌+◌, true, false, Some, List, [], ◌∷◌, ◌++◌}
use Rattle.coap_types.specs.Past.{Ever, Sometime, Always, Since}
use Rattle.coap_types.specs.declared.message.Kind.TheVariants.{Con, Non}
use Rattle.coap_codec.specs.Message.{Message, Spells}
use Rattle.coap_codec.specs.Spelling.{message_bytes}
use Rattle.coap_layer.specs.Arrivals.{Faulted, Whole, Shows}
use Rattle.coap_layer.specs.Trace.{Content, with_head, Packet, Call, Receive, Reply, Confirm, Plain, Take, Replayed}
use Rattle.coap_layer.specs.Trace.{Rejected, Answer, Becomes, Sent, Copied, Gives, Entry}
use Rattle.coap_layer.specs.Words.{awaits, Remembered, hands_up, was_con, reply_in, Open, begun, copies_in, outstanding}
use Rattle.coap_layer.specs.Words.{waiting}
use Rattle.coap_layer.specs.Rows.{LayerLaw, reset_to}
use Rattle.coap_types.specs.declared.transmission.TheConstants.{LAST_RETRANSMISSION_MS as last_retransmission}
use Rattle.coap_types.specs.declared.transmission.TheConstants.{MAX_RETRANSMIT as max_retransmit}

-- at n entries, one after the other, and perhaps at more
abbrev pub AtLeast : {E : Type 0} → ℕ → (List E → E → Type 0) → List E → Type 0
AtLeast zero P t = Unit {0}
AtLeast (suc n) P t = Sometime (λ past e. P past e × AtLeast n P past) t

-- it is in the list
abbrev pub IsIn : {A : Type 0} → A → List A → Type 0
IsIn x xs = Ever (λ y. y ≡ x) xs

-- the call of which a CON is the first sending
pub record Begins (at : ℕ) (call : Call) (answer : Answer) (c : Open) : Type 0 where
  pub content : Content
  pub word : ℕ
  pub call_is : call ≡ Confirm c.to content word
  pub answer_is : answer ≡ Sent c.id
  pub first_is : c.first ≡ at
  pub last_is : c.last ≡ at
  pub bytes_are : c.bytes ≡ message_bytes (with_head Con c.id content)

-- how often a CON goes out (section 4.2)

-- a CON as it was begun, whenever it went out last
abbrev pub as_begun : Open → Open
as_begun c = record c { last = c.first }

-- the CON that was begun so is outstanding
abbrev pub IsOpen : List Entry → Open → Type 0
IsOpen past c = Ever (λ x. as_begun x ≡ c) (outstanding past)

-- the entry sends this CON: for the first time, or again while it is outstanding
abbrev pub SendsIt : Open → List Entry → Entry → Type 0
SendsIt c past e = (begun e ≡ Some c) ⊎ (IsOpen past c × (copies_in e.call e.answer c.to c.id ≡ true))

-- A CON goes out at most five times: once, and MAX_RETRANSMIT times again (section 4.8).
abbrev pub FiveAtMost : List Entry → Type 0
FiveAtMost t = (c : Open) → AtLeast (2 + max_retransmit) (SendsIt c) t → ⊥

abbrev pub packet_of : Open → Packet
packet_of c = record { to = c.to; bytes = c.bytes }

-- Each time it goes out within LAST_RETRANSMISSION_MS of the first (profile), to the same place, with equal bytes.
pub record GoesAlike (c : Open) (e : Entry) : Type 0 where
  pub from : c.first ≤ e.at
  pub till : e.at ≤ c.first + last_retransmission
  pub out : e.out ≡ packet_of c ∷ []

abbrev pub AllAlike : List Entry → Type 0
AllAlike t = (c : Open) → Always (λ past e. SendsIt c past e → GoesAlike c e) t

-- Its bytes spell a Confirmable message with its Message ID.
abbrev pub SpellsCon : Open → Type 0
SpellsCon c = (m : Message) × Spells c.bytes m × (m.kind ≡ Con) × (m.id ≡ c.id)

abbrev pub ConsSpelled : List Entry → Type 0
ConsSpelled t = Always (λ past e. (c : Open) → begun e ≡ Some c → SpellsCon c) t

-- At most one CON to a place is outstanding (NSTART is 1, section 4.7).
abbrev pub OneOpen : List Entry → Type 0
OneOpen t = (a b : Open) → IsIn a (outstanding t) → IsIn b (outstanding t) → a.to ≡ b.to → a ≡ b

-- No other to its place was begun later.
abbrev pub LastBegun : List Entry → Type 0
LastBegun t = (c d : Open) → IsIn c (outstanding t) → Ever (λ b. begun b ≡ Some d) t → c.to ≡ d.to → d.first ≤ c.first

-- what goes out

-- the first sending of a CON that is begun now (section 4.2)
pub record FirstOut (e : Entry) (p : Packet) : Type 0 where
  pub con : Open
  pub begins : begun e ≡ Some con
  pub is : p ≡ packet_of con

-- a copy of a CON that was begun at most LAST_RETRANSMISSION_MS before, with equal bytes (section 4.2)
pub record CopyOut (past : List Entry) (e : Entry) (p : Packet) : Type 0 where
  pub con : Open
  pub begun_before : Ever (λ b. begun b ≡ Some con) past
  pub sends : SendsIt con past e
  pub from : con.first ≤ e.at
  pub till : e.at ≤ con.first + last_retransmission
  pub answer : e.answer ≡ Copied con.to con.id
  pub is : p ≡ packet_of con

-- a NON that is sent now (section 4.3)
pub record PlainOut (e : Entry) (p : Packet) : Type 0 where
  pub content : Content
  pub id : ℕ
  pub call : e.call ≡ Plain p.to content
  pub answer : e.answer ≡ Sent id
  pub spells : Spells p.bytes (with_head Non id content)

-- a reply that is given now, to what was handed up (sections 4.2 and 5.2)
pub record ReplyOut (past : List Entry) (e : Entry) (p : Packet) : Type 0 where
  pub id : ℕ
  pub awaited : awaits past ≡ Some (record { from = p.to; id = id })
  pub call : e.call ≡ Reply p.to id p.bytes

-- the reply to a CON that arrives again, which was given since that was handed up (section 4.5)
pub record StoredOut (past : List Entry) (e : Entry) (p : Packet) : Type 0 where
  pub bytes : List ℕ
  pub message : Message
  pub call : e.call ≡ Receive p.to bytes
  pub spells : Spells bytes message
  pub kind : message.kind ≡ Con
  pub answer : e.answer ≡ Becomes Replayed
  pub old : Remembered past e.at p.to message.id
  pub con : was_con p.to message.id past ≡ true
  pub given : Since (λ b. reply_in p.to message.id b.call ≡ Some p.bytes) (λ b. hands_up p.to message.id b ≡ false) past

-- the Reset of a CON that is rejected now (section 4.2)
pub record ResetOut (e : Entry) (p : Packet) : Type 0 where
  pub bytes : List ℕ
  pub id : ℕ
  pub call : e.call ≡ Receive p.to bytes
  pub shows : Shows bytes (Faulted Con id) ⊎ ((m : Message) × Shows bytes (Whole m) × (m.kind ≡ Con) × (m.id ≡ id))
  pub answer : e.answer ≡ Becomes Rejected
  pub is : p ≡ reset_to p.to id

pub data GoesOut (past : List Entry) (e : Entry) (p : Packet) : Type 0 where
  first : FirstOut e p → GoesOut past e p
  copy : CopyOut past e p → GoesOut past e p
  plain : PlainOut e p → GoesOut past e p
  reply : ReplyOut past e p → GoesOut past e p
  stored : StoredOut past e p → GoesOut past e p
  reset : ResetOut e p → GoesOut past e p

-- Each datagram that an entry sends is one of these.
abbrev pub EachGoesOut : List Entry → Type 0
EachGoesOut t = Always (λ past e. (p : Packet) → IsIn p e.out → GoesOut past e p) t

-- the order of sending

-- what was sent, the oldest first
abbrev pub sent : List Entry → List Packet
sent [] = []
sent (e ∷ past) = sent past ++ e.out

-- what was taken to be sent, the oldest first
abbrev pub collected_in : Call → Answer → List Packet
collected_in Take (Gives (Some p)) = p ∷ []
collected_in _ answer = []

abbrev pub collected : List Entry → List Packet
collected [] = []
collected (e ∷ past) = collected past ++ collected_in e.call e.answer

-- What is taken was sent, in the order of sending, each datagram once; the rest waits.
abbrev pub InOrder : List Entry → Type 0
InOrder t = sent t ≡ collected t ++ waiting t

abbrev pub TakenSent : List Entry → Type 0
TakenSent t =
    Always (λ past e. (p : Packet) → e.call ≡ Take → e.answer ≡ Gives (Some p) → Ever (λ b. IsIn p b.out) past) t

-- What is taken was sent since nothing waited.
abbrev pub TakenSince : Type 0
TakenSince =
    (setup : Setup) (past later : List Entry) (e : Entry) (p : Packet) → LayerLaw setup (e ∷ later ++ past)
    → waiting past ≡ []
    → e.call ≡ Take → e.answer ≡ Gives (Some p) → Ever (λ b. IsIn p b.out) later
