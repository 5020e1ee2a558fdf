-- Tests by which the calls of a run stand in the laws of their ends: what they are answered is computed, and compared.
use Rattle.std.proofs.Common.{◌≡◌, ◌^◌, ◌+◌, ℕ, nat_le, nat_lt, Bool, true, ◌&&◌, Option, Some, None, List, [], ◌∷◌}
use Rattle.std.proofs.Common.{map, length, refl, sym, arith}
use Rattle.std.specs.Option.{option_map}
use Rattle.std.specs.List.{list_all}
use Rattle.std.proofs.lemmas.Bool.{and_parts, ltb-true, leb-true}
use Rattle.coap_types.specs.declared.limits.TheConstants.{MAX_MESSAGE_LEN as max_message_len}
use Rattle.coap_types.specs.declared.message.Kind.{Kind}
use Rattle.coap_types.specs.declared.message.Kind.TheVariants.{Con}
use Rattle.coap_types.specs.declared.role.Role.{Role}
use Rattle.coap_types.specs.declared.role.Role.TheVariants as role
use Rattle.coap_types.specs.declared.token.TheConstants.{MAX_TOKEN_LEN as max_token_len}
use Rattle.coap_types.specs.Roles.{role_of}
use Rattle.coap_codec.specs.BoundedSpelling.{is_numbered, most_bytes}
use Rattle.coap_codec.specs.Decoded.{decoded}
use Rattle.coap_codec.specs.IsSpelled as reading
use Rattle.coap_codec.specs.Reading.{extended, value_at, nibbles_at, option_at, walk_of, walk, payload_at, frame_fault}
use Rattle.coap_codec.specs.Reading.{body_at}
use Rattle.coap_codec.specs.Refused.{ascends, is_short}
use Rattle.coap_codec.specs.Spelling.{option_bytes, options_bytes}
use Rattle.coap_layer.specs.Machine.State.{State, May, answer_of, moment, start, usual}
use Rattle.coap_layer.specs.Machine.Steps.{Asked, Steps, left_after}
use Rattle.coap_layer.specs.Rows.{IsSpelled}
use Rattle.coap_layer.specs.Trace as L
use Rattle.coap_layer.specs.Words.{Awaited}
use Rattle.coap_layer.proofs.Facts.Sendable.{sendable_when_short}
use Rattle.coap_block.specs.Sizes.{Sizes}
use Rattle.coap_resource.specs.Limits.{Limits}
use Rattle.coap_exchange.specs.AnswererLaw as answerer
use Rattle.coap_exchange.specs.AnswererSteps as answerer_steps
use Rattle.coap_exchange.specs.AnswererSteps.{handed_up, may_defer, due_of, ready_at, content_with}
use Rattle.coap_exchange.specs.AnswererTrace as R
use Rattle.coap_exchange.specs.AskerArrivals.{told}
use Rattle.coap_exchange.specs.AskerLaw as asker
use Rattle.coap_exchange.specs.declared.answerer.Asked as request
use Rattle.coap_exchange.specs.declared.separate.Deferred.{Deferred}
use Rattle.coap_client.specs.Law as client
use Rattle.coap_client.specs.Law.{ClientLaw, ClientRows}
use Rattle.coap_client.specs.Trace as C
use Rattle.coap_server.specs.Law as server
use Rattle.coap_server.specs.Law.{ServerLaw, ServerRows}
use Rattle.coap_server.specs.Trace as S
use Rattle.coap_record.specs.Events.{server_end}

-- what reads and spells messages: with its name on its line a definition unfolds all of it
unfoldable pub messages : Unit {0}
unfolding decoded frame_fault body_at walk walk_of option_at nibbles_at value_at extended payload_at option_bytes
    options_bytes reading.is_spelled reading.has_spelling
messages = tt

-- the message layer

abbrev is_spelled : L.Content → Bool
is_spelled c = nat_lt 0 c.code && (nat_lt c.code (2 ^ 8) && (nat_le (length c.token) max_token_len
    && (ascends 0 c.options && (list_all is_numbered c.options && (list_all is_short c.options
    && nat_le (4 + (length c.token + (most_bytes c.options + (1 + length c.payload)))) max_message_len)))))

pub spelled : (c : L.Content) → is_spelled c ≡ true → IsSpelled c
spelled c e =
    let some = and_parts _ _ e in
    let code = and_parts _ _ some.1 in
    let token = and_parts _ _ code.1 in
    let order = and_parts _ _ token.1 in
    let numbers = and_parts _ _ order.1 in
    let short = and_parts _ _ numbers.1 in
    (sendable_when_short c (record {
      some = ltb-true 0 c.code some.0;
      code = ltb-true c.code (2 ^ 8) code.0;
      id = omega arith;
      token = leb-true (length c.token) max_token_len token.0;
      order = order.0;
      numbers = numbers.0;
      short = short.0;
    }) (leb-true _ max_message_len short.1)).spelled

-- what it answers to a call, what a reply is awaited to, and whether the call may be made
pub data Found : Type 0 where
  Finds : (answer : L.Answer) (awaits : Option Awaited) (may : Bool) → Found

abbrev awaits_at : State → L.Call → Option Awaited
awaits_at s (L.Reply to id bytes) = s.awaits
awaits_at s _ = None

abbrev replies_to : L.Call → Option Awaited
replies_to (L.Reply to id bytes) = Some (record { from = to; id = id })
replies_to _ = None

abbrev passes : L.Call → Bool
passes (L.Confirm to content word) = is_spelled content
passes (L.Plain to content) = is_spelled content
passes _ = true

may : (s : State) (call : L.Call) → awaits_at s call ≡ replies_to call → passes call ≡ true → May s call
may s (L.Reply to id bytes) e k = e
may s (L.Confirm to content word) e k = spelled content k
may s (L.Plain to content) e k = spelled content k
may s _ e k = tt

abbrev pub found : State → List Asked → List Found
found old [] = []
found old (a ∷ earlier) =
    let s = left_after old earlier in
    Finds (answer_of s (moment s a.now a.call) a.call) (awaits_at s a.call) (passes a.call) ∷ found old earlier

abbrev pub stated : List Asked → List Found
stated calls = map (λ (a : Asked). Finds a.answer (replies_to a.call) true) calls

pub steps : (old : State) (calls : List Asked) → found old calls ≡ stated calls → Steps old calls (left_after old calls)
steps old [] e = refl
steps old (a ∷ earlier) e =
    let s = left_after old earlier in (
      s,
      steps old earlier (cc e),
      record { may = may s a.call (cc e) (cc e); right = sym (cc e); new_is = refl },
    )

-- the client

module _ (sizes : Sizes) where
  -- what its exchanges ask of the layer
  abbrev pub client_run : List C.Call → List Asked
  client_run calls = asker.lower_of server_end (usual 0) (client.lower_of sizes calls)

  pub client_lawful : (calls : List C.Call) → ClientRows sizes calls
      → asker.AskerLaw server_end (usual 0) (client.lower_of sizes calls)
      → found (start (usual 0)) (client_run calls) ≡ stated (client_run calls)
      → ClientLaw server_end sizes (usual 0) calls
  client_lawful calls rows asked same =
      record {
        rows = rows;
        exchanges = record {
          rows = asked;
          left = left_after (start (usual 0)) (client_run calls);
          layer = steps (start (usual 0)) (client_run calls) same;
        };
      }

-- the exchanges of the server: the same call, as it is answered; to which request, of what kind, and whether it is a
-- response that can be spelled
pub data Told : Type 0 where
  Tells : (call : R.Call) (to : Option request.Asked) (kind : Kind) (role : Role) (may : Bool) → Told

abbrev sent_id : L.Answer → ℕ
sent_id (L.Sent id) = id
sent_id _ = 0

abbrev sent_as : Kind → L.Answer → L.Answer
sent_as Con below = L.Nothing
sent_as _ below = L.Sent (sent_id below)

is_sent : (kind : Kind) (below : L.Answer) → sent_as kind below ≡ below → answerer_steps.IsSentAs kind below
is_sent Con below e = sym e
is_sent _ below e = (sent_id below, sym e)

abbrev replied_right : R.Own → R.Call → R.Call
replied_right s (R.Incoming now from bytes up answer) = R.Incoming now from bytes up (handed_up from up)
replied_right s (R.Answers a r below) = R.Answers a r (sent_as a.kind below)
replied_right s (R.Defers now a delay answer) = R.Defers now a delay (may_defer s.deferred)
replied_right s (R.Ticks now below room answer) = R.Ticks now below room (due_of below (ready_at s now) room)
replied_right s c = c

abbrev told_by : R.Own → R.Call → Told
told_by s (R.Answers a r below) = Tells (replied_right s (R.Answers a r below)) s.pending Con (role_of r.code)
    (is_spelled (content_with a.token r))
told_by s (R.Defers now a delay answer) = Tells (replied_right s (R.Defers now a delay answer)) s.pending a.kind
    role.Response true
told_by s (R.Responds now a r word id) = Tells (R.Responds now a r word id)
    (option_map (λ (d : Deferred). d.asked) (ready_at s now)) Con (role_of r.code)
    (is_spelled (content_with a.token r))
told_by s (R.Notifies now to token r word id) = Tells (R.Notifies now to token r word id) None Con (role_of r.code)
    (is_spelled (content_with token r))
told_by s (R.NotifiesPlain now to token r id) = Tells (R.NotifiesPlain now to token r id) None Con (role_of r.code)
    (is_spelled (content_with token r))
told_by s c = Tells (replied_right s c) None Con role.Response true

abbrev tells_to : R.Call → Option request.Asked
tells_to (R.Answers a r below) = Some a
tells_to (R.Defers now a delay answer) = Some a
tells_to (R.Responds now a r word id) = Some a
tells_to _ = None

abbrev tells : R.Call → Told
tells c = Tells c (tells_to c) Con role.Response true

reply_row : (s : R.Own) (c : R.Call) → told_by s c ≡ tells c → answerer_steps.IsRight s c
reply_row s (R.Incoming now from bytes up answer) e = sym (cc e)
reply_row s (R.Answers a r below) e = (
  cc e,
  record { code = cc e; spelled = spelled (content_with a.token r) (cc e) },
  is_sent a.kind below (cc e),
)
reply_row s (R.Defers now a delay answer) e = (cc e, cc e, sym (cc e))
reply_row s (R.Ticks now below room answer) e = sym (cc e)
reply_row s (R.Responds now a r word id) e =
    (cc e, record { code = cc e; spelled = spelled (content_with a.token r) (cc e) })
reply_row s (R.Notifies now to token r word id) e =
    record { code = cc e; spelled = spelled (content_with token r) (cc e) }
reply_row s (R.NotifiesPlain now to token r id) e =
    record { code = cc e; spelled = spelled (content_with token r) (cc e) }
reply_row s _ e = tt

abbrev pub all_told : List R.Call → List Told
all_told [] = []
all_told (c ∷ past) = told_by (answerer.own_of past) c ∷ all_told past

reply_rows : (calls : List R.Call) → all_told calls ≡ map tells calls → answerer.AnswererLaw calls
reply_rows [] e = tt
reply_rows (c ∷ past) e = (reply_row (answerer.own_of past) c (cc e), reply_rows past (cc e))

-- the server

module _ (limits : Limits) (szx : ℕ) where
  -- what its exchanges ask of the layer
  abbrev pub server_run : List S.Call → List Asked
  server_run calls = answerer.lower_of (server.lower_of limits szx calls)

  pub server_lawful : (calls : List S.Call) → ServerRows limits szx calls
      → all_told (server.lower_of limits szx calls) ≡ map tells (server.lower_of limits szx calls)
      → found (start (usual 0)) (server_run calls) ≡ stated (server_run calls)
      → ServerLaw limits szx (usual 0) calls
  server_lawful calls rows told same =
      record {
        rows = rows;
        exchanges = record {
          rows = reply_rows (server.lower_of limits szx calls) told;
          left = left_after (start (usual 0)) (server_run calls);
          layer = steps (start (usual 0)) (server_run calls) same;
        };
      }
