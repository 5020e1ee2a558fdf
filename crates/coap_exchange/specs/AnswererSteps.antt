-- What each call of the server's side asks of the message layer, answers and leaves (RFC 7252, sections 4.2, 4.3,
-- 5.2; RFC 7641, section 4.2).
use Rattle.std.specs.Prelude.{◌≡◌, ℕ, ◌-◌, nat_le, nat_lt, max, Bool, true, false, Option, Some, None, List, [], ◌∷◌}
use Rattle.std.specs.Prelude.{◌++◌, length, filter, ◌&&◌, not, if◌then◌else◌}
use Rattle.std.specs.List.{list_any}
use Rattle.std.specs.Option.{option_map}
use Rattle.coap_types.specs.Recognised.{has_number}
use Rattle.coap_types.specs.Roles.{role_of}
use Rattle.coap_types.specs.declared.role.Role.TheVariants as role
use Rattle.coap_types.specs.declared.endpoint.Endpoint.{Endpoint}
use Rattle.coap_types.specs.declared.message.Kind.{Kind}
use Rattle.coap_types.specs.declared.message.Kind.TheVariants.{Con, Ack}
use Rattle.coap_types.specs.SameEndpoint.{same_endpoint}
use Rattle.coap_codec.specs.Message.{Message}
use Rattle.coap_codec.specs.Spelling.{message_bytes}
use Rattle.coap_layer.specs.Rows.{IsSpelled}
use Rattle.coap_layer.specs.Trace as L
use Rattle.coap_layer.specs.Trace.{with_head}
use Rattle.coap_layer.specs.Words.{is_kept, same}
use Rattle.coap_layer.specs.Machine.Steps.{Asked as Below}
use Rattle.coap_exchange.specs.declared.answerer.Asked.{Asked}
use Rattle.coap_exchange.specs.declared.answerer.Due.{Due}
use Rattle.coap_exchange.specs.declared.answerer.Due.TheVariants as due
use Rattle.coap_exchange.specs.declared.answerer.Ended.{Ended}
use Rattle.coap_exchange.specs.declared.deferrals.TheConstants.{MAX_DEFERRED as most_deferred}
use Rattle.coap_exchange.specs.declared.separate.Deferred.{Deferred}
use Rattle.coap_exchange.specs.declared.separate.Separate.{Separate}
use Rattle.coap_exchange.specs.AnswererTrace.{Response, Own, Call, Incoming, Answers, Defers, Ticks, Responds, Ready}
use Rattle.coap_exchange.specs.AnswererTrace.{Notifies, NotifiesPlain, Take, Forgets, Sending}
use Rattle.coap_exchange.specs.AskerRequests.{asked}
use Rattle.coap_exchange.specs.AskerArrivals.{observe, id_in, replying}
use Rattle.coap_exchange.specs.EmptyMessages.{ack_bytes, reset_bytes}

-- an arrival (sections 4.2, 4.3 and 5.2)

-- what the response needs of its request
abbrev pub asked_of : Endpoint → Message → Asked
asked_of from m = record { from = from; kind = m.kind; id = record { 0 = m.id }; token = m.token }

-- a request is handed up, but for a NON for which no Message ID is free: the layer doesn't remember that
abbrev pub handed_up : Endpoint → L.Answer → Option (Asked × Message)
handed_up from (L.Becomes (L.Request m true)) = Some (asked_of from m, m)
handed_up from _ = None

abbrev pub asked_in : Option (Asked × Message) → Option Asked
asked_in None = None
asked_in (Some pair) = Some pair.0

-- a response at a server is rejected: a CON and a NON with a Reset (a NON: profile), an ACK by silence
abbrev pub reject_by : L.Answer → Option (List ℕ)
reject_by (L.Becomes (L.Response m)) = if is_kept m.kind then Some (reset_bytes m.id) else None
reject_by _ = None

-- the separate responses and notifications that are outstanding

abbrev pub goes_to : Endpoint → ℕ → Separate → Bool
goes_to to id x = same to id x.to x.id.0

abbrev pub found : Endpoint → ℕ → List Separate → Option Separate
found to id [] = None
found to id (x ∷ xs) = if goes_to to id x then Some x else found to id xs

abbrev pub ended_as : Separate → Ended
ended_as x = record { to = x.to; token = x.token; observe = x.observe }

abbrev pub without_separate : Endpoint → ℕ → List Separate → List Separate
without_separate to id xs = filter (λ x. not (goes_to to id x)) xs

-- what an acknowledgement and a Reset leave, and a failure
abbrev pub separate_after : Endpoint → L.Answer → List Separate → List Separate
separate_after from (L.Becomes (L.Acked id)) xs = without_separate from id xs
separate_after from (L.Becomes (L.Reset id)) xs = without_separate from id xs
separate_after from _ xs = xs

abbrev pub separate_unless : L.Answer → List Separate → List Separate
separate_unless (L.Expired to id) xs = without_separate to id xs
separate_unless _ xs = xs

-- the one that a Reset ends, and that a failure ends (section 5.2.2; RFC 7641, sections 3.6 and 4.5)
abbrev pub reset_by : Endpoint → L.Answer → List Separate → Option Ended
reset_by from (L.Becomes (L.Reset id)) xs = option_map ended_as (found from id xs)
reset_by from _ xs = None

abbrev pub failed_by : L.Answer → List Separate → Option Ended
failed_by (L.Expired to id) xs = option_map ended_as (found to id xs)
failed_by _ xs = None

-- the Reset of what isn't outstanding, as of a NON
abbrev pub unmatched_by : Endpoint → L.Answer → Option Sending
unmatched_by from (L.Becomes (L.Unmatched id)) = Some (record { to = from; id = id })
unmatched_by from _ = None

-- a response: its own type and Message ID aside, what goes out (sections 5.2.1 to 5.2.3)

abbrev pub content_with : List ℕ → Response → L.Content
content_with token r = record { code = r.code; token = token; options = r.options; payload = r.payload }

abbrev pub content_of : Asked → Response → L.Content
content_of a r = content_with a.token r

-- piggybacked in the acknowledgement of a CON; to a NON, in a NON
abbrev pub answering : Own → Kind → Asked → Response → L.Call
answering s Con a r = L.Reply a.from a.id.0 (message_bytes (with_head Ack a.id.0 (content_of a r)))
answering s kind a r = L.Plain a.from (content_of a r)

abbrev pub IsSentAs : Kind → L.Answer → Type 0
IsSentAs Con below = below ≡ L.Nothing
IsSentAs kind below = (id : ℕ) × (below ≡ L.Sent id)

-- the caller's condition: a code of class 2 to 5, and all that can be spelled
pub record IsResponseWith (token : List ℕ) (r : Response) : Type 0 where
  pub code : role_of r.code ≡ role.Response
  pub spelled : IsSpelled (content_with token r)

abbrev pub IsResponse : Asked → Response → Type 0
IsResponse a r = IsResponseWith a.token r

-- what is outstanding of a separate response or a notification that was sent there with this Message ID
abbrev pub separate_of : Endpoint → ℕ → List ℕ → Response → Separate
separate_of to id token r =
    record { to = to; id = record { 0 = id }; token = token; observe = has_number observe r.options }

-- deferral (section 5.2.2): an Empty acknowledgement now, and a CON later; at most so many are deferred (profile)

abbrev pub max_deferred : ℕ
max_deferred = most_deferred

abbrev pub may_defer : List Deferred → Bool
may_defer ds = nat_lt (length ds) max_deferred

abbrev pub deferring : Bool → Asked → List Below
deferring true a = asked 0 (L.Reply a.from a.id.0 (ack_bytes a.id.0)) L.Nothing ∷ []
deferring false a = []

abbrev pub deferred_with : Bool → Deferred → List Deferred → List Deferred
deferred_with true d ds = ds ++ d ∷ []
deferred_with false d ds = ds

abbrev pub pending_unless : Bool → Option Asked → Option Asked
pending_unless true pending = None
pending_unless false pending = pending

-- time passes: a failure, a retransmission, and then the first deferred request whose delay has passed and whose
-- endpoint has no CON outstanding (NSTART is 1, section 4.7), where a Message ID is free

abbrev pub is_waited_for : Endpoint → List Separate → Bool
is_waited_for to xs = list_any (λ (x : Separate). same_endpoint x.to to) xs

abbrev pub is_ready : ℕ → List Separate → Deferred → Bool
is_ready at xs d = nat_le d.delay (at - d.at.0) && not (is_waited_for d.asked.from xs)

abbrev pub first_ready : ℕ → List Separate → List Deferred → Option Deferred
first_ready at xs [] = None
first_ready at xs (d ∷ ds) = if is_ready at xs d then Some d else first_ready at xs ds

abbrev pub without_ready : ℕ → List Separate → List Deferred → List Deferred
without_ready at xs [] = []
without_ready at xs (d ∷ ds) = if is_ready at xs d then ds else d ∷ without_ready at xs ds

-- those of other peers, in order
abbrev pub deferred_elsewhere : Endpoint → List Deferred → List Deferred
deferred_elsewhere peer ds = filter (λ d. not (same_endpoint d.asked.from peer)) ds

-- where the layer was idle
abbrev pub ready_if : L.Answer → Option Deferred → Option Deferred
ready_if L.Idle ready = ready
ready_if _ ready = None

abbrev pub asking_room : ℕ → Option Deferred → Bool → List Below
asking_room now None room = []
asking_room now (Some d) room = asked now (L.Room d.asked.from) (L.Is room) ∷ []

abbrev pub due_if : Option Deferred → Bool → Due
due_if (Some d) true = due.Ready d.asked
due_if (Some d) false = due.Idle
due_if None room = due.Idle

abbrev pub due_of : L.Answer → Option Deferred → Bool → Due
due_of (L.Copied to id) ready room = due.Copied
due_of (L.Expired to id) ready room = due.Expired
due_of below ready room = due_if (ready_if below ready) room

abbrev pub ready_at : Own → ℕ → Option Deferred
ready_at s now = first_ready (max s.clock now) s.separate s.deferred

-- all calls

abbrev pub lower : Own → Call → List Below
lower s (Incoming now from bytes up answer) =
    replying from (id_in up) (reject_by up) ++ asked now (L.Receive from bytes) up ∷ []
lower s (Answers a r below) = asked s.clock (answering s a.kind a r) below ∷ []
lower s (Defers now a delay answer) = deferring (may_defer s.deferred) a ++ asked now L.Pass L.Nothing ∷ []
lower s (Ticks now below room answer) =
    asking_room now (ready_if below (ready_at s now)) room ++ asked now L.Ticks below ∷ []
lower s (Responds now a r word id) = asked now (L.Confirm a.from (content_of a r) word) (L.Sent id) ∷ []
lower s (Ready now to answer) = asked now (L.Room to) (L.Is answer) ∷ []
lower s (Notifies now to token r word id) = asked now (L.Confirm to (content_with token r) word) (L.Sent id) ∷ []
lower s (NotifiesPlain now to token r id) = asked now (L.Plain to (content_with token r)) (L.Sent id) ∷ []
lower s (Take answer) = asked 0 L.Take (L.Gives answer) ∷ []
lower s (Forgets peer) = []

-- what is answered; of an answer, a deferral and a response also the caller's condition: it is to the request that
-- the last input handed up, or to the one that is ready; and of these and a notification: it is a response that can
-- be spelled
abbrev pub IsRight : Own → Call → Type 0
IsRight s (Incoming now from bytes up answer) = answer ≡ handed_up from up
IsRight s (Answers a r below) = (s.pending ≡ Some a) × IsResponse a r × IsSentAs a.kind below
IsRight s (Defers now a delay answer) = (s.pending ≡ Some a) × (a.kind ≡ Con) × (answer ≡ may_defer s.deferred)
IsRight s (Ticks now below room answer) = answer ≡ due_of below (ready_at s now) room
IsRight s (Responds now a r word id) =
    (option_map (λ (d : Deferred). d.asked) (ready_at s now) ≡ Some a) × IsResponse a r
IsRight s (Ready now to answer) = Unit {0}
IsRight s (Notifies now to token r word id) = IsResponseWith token r
IsRight s (NotifiesPlain now to token r id) = IsResponseWith token r
IsRight s (Take answer) = Unit {0}
IsRight s (Forgets peer) = Unit {0}

abbrev pub after : Own → Call → Own
after s (Incoming now from bytes up answer) =
    record s {
      clock = max s.clock now;
      pending = asked_in answer;
      separate = separate_after from up s.separate;
      ended = reset_by from up s.separate;
      unmatched = unmatched_by from up;
    }
after s (Answers a r below) = record s { pending = None }
after s (Defers now a delay answer) =
    record s {
      clock = max s.clock now;
      pending = pending_unless answer s.pending;
      deferred =
          deferred_with answer (record { asked = a; at = record { 0 = max s.clock now }; delay = delay }) s.deferred;
    }
after s (Ticks now below room answer) =
    record s {
      clock = max s.clock now;
      pending = None;
      separate = separate_unless below s.separate;
      ended = failed_by below s.separate;
    }
after s (Responds now a r word id) =
    record s {
      clock = max s.clock now;
      pending = None;
      deferred = without_ready (max s.clock now) s.separate s.deferred;
      separate = s.separate ++ separate_of a.from id a.token r ∷ [];
    }
after s (Ready now to answer) = record s { clock = max s.clock now }
after s (Notifies now to token r word id) =
    record s { clock = max s.clock now; pending = None; separate = s.separate ++ separate_of to id token r ∷ [] }
after s (NotifiesPlain now to token r id) = record s { clock = max s.clock now; pending = None }
after s (Take answer) = s
after s (Forgets peer) = record s { deferred = deferred_elsewhere peer s.deferred }
