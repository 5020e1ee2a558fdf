-- Each Confirmable message of a client carries a request, and each of a server a response.
use Rattle.std.proofs.Common.{◌≡◌, inl, inr, ℕ, ◌<◌, Some, List, [], ◌∷◌, Result, Ok, refl, ap, sym, subst, ◌∙◌, arith}
use Rattle.coap_types.specs.Past.{Ever}
use Rattle.coap_types.specs.MethodCode.{method_code}
use Rattle.coap_types.specs.Roles.{role_of}
use Rattle.coap_types.specs.declared.message.Kind.TheVariants.{Con}
use Rattle.coap_types.specs.declared.request.Method.{Method}
use Rattle.coap_types.specs.declared.request.Method.TheVariants.{Get}
use Rattle.coap_types.specs.declared.role.Role.TheVariants as role
use Rattle.coap_codec.specs.Message.{Spells}
use Rattle.coap_codec.specs.Spelling.{message_bytes}
use Rattle.coap_layer.specs.Rows.{LayerLaw, Row, IsSpelled, Confirms}
use Rattle.coap_layer.specs.Sends.{SpellsCon}
use Rattle.coap_layer.specs.Taking.{IsTold}
use Rattle.coap_layer.specs.Trace as L
use Rattle.coap_layer.specs.Trace.{with_head}
use Rattle.coap_layer.specs.Words.{Open, begun}
use Rattle.coap_layer.specs.declared.setup.Setup.{Setup}
use Rattle.coap_layer.proofs.Facts.Laws.{begins_of, cons_spelled, spelled_begun}
use Rattle.coap_exchange.specs.AnswererLaw as answerer
use Rattle.coap_exchange.specs.AnswererTrace as R
use Rattle.coap_exchange.specs.AskerTrace as A
use Rattle.coap_exchange.specs.declared.asker.AskRefusal.{AskRefusal}
use Rattle.coap_client.specs.Deeds.{effect}
use Rattle.coap_client.specs.Effects.{Deed, Asks, Effect}
use Rattle.coap_client_laws.specs.Follows.Begins.{WasSent, IsRequestOf}
use Rattle.coap_client.specs.Sendings.{Sending, sends, sent_by}
use Rattle.coap_client.specs.Law.{own_of}
use Rattle.coap_client.specs.Own.{Operation, Calling, Observation, Own}
use Rattle.coap_client.specs.Requests.{message_of}
use Rattle.coap_client.specs.Trace as C
use Rattle.coap_block.specs.Sizes.{Sizes}
use Rattle.coap_promise.specs.CameFrom.{request_of}
use Rattle.coap_promise.proofs.Facts.Delivery.EntriesInTime.{Every}
use Rattle.coap_smooth.proofs.Smoothly.Answers.Confirms.{IsEntrySo}
use Rattle.coap_smooth.proofs.Smoothly.Answers.OnlyResponses.{IsResponse, all_respond}
use Rattle.coap_record.specs.declared.addresses.Addresses.{Addresses}

-- what is sent is the message of an operation

pub record IsMessage (x : Sending) : Type 0 where
  pub observations : List Observation
  pub is : x.request ≡ message_of observations x.operation

by_effect : (e : Effect) (d : Deed) (token : Result (List ℕ) AskRefusal) (x : Sending) → sent_by e d token ≡ Some x
    → IsMessage x
by_effect e (Asks op) (Ok token) x h =
    let os : List Observation = e.own.observations in
    let made : Sending = record { operation = op; token = token; request = message_of os op } in
    let same : made ≡ x = cc h in
    record {
      observations = os;
      is = sym (ap (λ (y : Sending). y.request) same) ∙ ap (λ (y : Sending). message_of os y.operation) same;
    }
by_effect e _ _ x h = absurd (cc h)

pub message_sent : (s : Own) (c : C.Call) (x : Sending) → sends s c ≡ Some x → IsMessage x
message_sent s (C.Feeds now from bytes word up settled event sent token kept) x h =
    let e = effect s (C.Feeds now from bytes word up settled event sent token kept) in by_effect e e.deed token x h
message_sent s (C.Ticks now word below t sent token kept answer) x h =
    let e = effect s (C.Ticks now word below t sent token kept answer) in by_effect e e.deed token x h
message_sent s _ x h = absurd (cc h)

pub was_message : (sizes : Sizes) (x : Sending) (t : List C.Call) → WasSent sizes x t → IsMessage x
was_message sizes x [] h = absurd h
was_message sizes x (c ∷ t) (inl h) = message_sent (own_of sizes t) c x h
was_message sizes x (c ∷ t) (inr h) = was_message sizes x t h

-- .. so a request

method_asks : (m : Method) → role_of (method_code m).0 ≡ role.Request
method_asks Get = refl
method_asks _ = refl

asks_in : (os : List Observation) (op : Operation) → role_of (message_of os op).code ≡ role.Request
asks_in os (Calling number r t) = method_asks r.method
asks_in os _ = method_asks Get

pub is_request : (x : Sending) → IsMessage x → role_of x.request.code ≡ role.Request
is_request x k = ap (λ (r : A.Request). role_of r.code) k.is ∙ asks_in k.observations x.operation

pub request_spelled : (addresses : Addresses) (setup : Setup) (t : List L.Entry) (con : Open) (x : Sending)
    → LayerLaw setup t
    → Ever (λ b. begun b ≡ Some con) t → IsRequestOf addresses.server con x → Spells con.bytes (request_of con.id x)
request_spelled addresses setup t con x law h r =
    let s : SpellsCon con = spelled_begun setup t con law h in
    let k = s.1.id in
    let e = s.3 in
    let small : con.id < 65536 = omega (arith, k, e) in
    subst (λ z. Spells z (request_of con.id x)) (sym r.bytes) (r.spelled Con con.id small)

pub request_told : (addresses : Addresses) (setup : Setup) (t : List L.Entry) (con : Open) (x : Sending)
    → LayerLaw setup t
    → Ever (λ b. begun b ≡ Some con) t → IsRequestOf addresses.server con x → IsMessage x → IsTold con.bytes
request_told addresses setup t con x law h r m =
    record {
      message = request_of con.id x;
      spells = request_spelled addresses setup t con x law h r;
      class = inl (is_request x m);
    }

-- what a server confirms is a response
pub record CarriesResponse (con : Open) : Type 0 where
  pub content : L.Content
  pub response : role_of content.code ≡ role.Response
  pub bytes : con.bytes ≡ message_bytes (with_head Con con.id content)
  pub spells : Spells con.bytes (with_head Con con.id content)
  pub small : con.id < 65536

con_carries : (setup : Setup) (t : List L.Entry) (con : Open) → LayerLaw setup t
    → Every (IsEntrySo IsResponse IsResponse) t
    → Ever (λ b. begun b ≡ Some con) t → CarriesResponse con
con_carries setup [] con law all h = absurd h
con_carries setup (e ∷ t) con law all (inr h) = con_carries setup t con law.1 all.1 h
con_carries setup (e ∷ t) con law all (inl h) =
    let b = begins_of e con h in
    let s = (cons_spelled setup (e ∷ t) law).0 con h in
    let row : IsSpelled b.content × Confirms setup t e con.to b.content =
    subst (Row setup t e) b.call_is law.0.row in
    let low : con.id < 65536 = let k = s.1.id in let z = s.3 in omega (arith, k, z) in
    record {
      content = b.content;
      response = all.0.confirms con.to b.content b.word b.call_is;
      bytes = b.bytes_are;
      spells = subst (λ x. Spells x (with_head Con con.id b.content)) (sym b.bytes_are) (row.0 Con con.id low);
      small = low;
    }

pub server_carries : (setup : Setup) (t : List R.Call) (con : Open) → answerer.AnswererLaw t
    → LayerLaw setup (answerer.below_of setup t) → Ever (λ b. begun b ≡ Some con) (answerer.below_of setup t)
    → CarriesResponse con
server_carries setup t con rows law h = con_carries setup (answerer.below_of setup t) con law
    (all_respond setup t rows) h

pub response_told : (con : Open) → CarriesResponse con → IsTold con.bytes
response_told con k = record { message = with_head Con con.id k.content; spells = k.spells; class = inr k.response }
