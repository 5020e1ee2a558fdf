-- Each CON that a client's message layer begins is the request of one of its calls, and begins as that is sent.
use Rattle.std.proofs.Common.{◌≡◌, inl, inr, ℕ, ◌+◌, ◌%◌, Option, Some, None, List, [], ◌∷◌, refl, ap, sym, subst}
use Rattle.std.proofs.Common.{◌∙◌, Ok}
use Rattle.coap_types.specs.Past.{Ever}
use Rattle.coap_types.specs.declared.endpoint.Endpoint.{Endpoint}
use Rattle.coap_types.specs.declared.message.Kind.TheVariants.{Con}
use Rattle.coap_codec.specs.Spelling.{message_bytes}
use Rattle.coap_layer.specs.Trace as L
use Rattle.coap_layer.specs.Trace.{with_head}
use Rattle.coap_layer.specs.Words.{Open, begun, begun_in, open_of, sent_by}
use Rattle.coap_layer.specs.Rows.{IsSpelled}
use Rattle.coap_layer.specs.Machine.State as S
use Rattle.coap_layer.specs.Machine.Steps.{Asked, Steps, entries, left_after}
use Rattle.coap_exchange.specs.AskerTrace as E
use Rattle.coap_exchange.specs.AskerRequests as Q

-- a call of the layer that begins this CON
pub record Asks (con : Open) (a : Asked) : Type 0 where
  pub content : L.Content
  pub word : ℕ
  pub call : a.call ≡ L.Confirm con.to content word
  pub answer : a.answer ≡ L.Sent con.id
  pub bytes : con.bytes ≡ message_bytes (with_head Con con.id content)
  pub spelled : IsSpelled content

open_parts : (con : Open) (at : ℕ) (to : Endpoint) (content : L.Content) (word : ℕ) (o : Option ℕ)
    → open_of at to content word o ≡ Some con
    → (to ≡ con.to) × (o ≡ Some con.id) × (con.bytes ≡ message_bytes (with_head Con con.id content))
open_parts con at to content word None h = absurd (cc h)
open_parts con at to content word (Some id) h =
    by _ _ _ (let e : ◌≡◌ {A = Open} (record {
      to = to;
      id = id;
      bytes = message_bytes (with_head Con id content);
      timeout = 2000 + word % 1001;
      first = at;
      last = at;
    }) con = cc h in e)
  where
    by : (timeout first last : ℕ) → ◌≡◌ {A = Open}
        (record {
          to = to;
          id = id;
          bytes = message_bytes (with_head Con id content);
          timeout = timeout;
          first = first;
          last = last;
        }) con
        → (to ≡ con.to) × (Some id ≡ Some con.id) × (con.bytes ≡ message_bytes (with_head Con con.id content))
    by timeout first last e =
        let i : id ≡ con.id = ap (λ (c : Open). c.id) e in (
          ap (λ (c : Open). c.to) e,
          ap (λ n. Some n) i,
          sym (ap (λ (c : Open). c.bytes) e) ∙ ap (λ n. message_bytes (with_head Con n content)) i,
        )

sent_id : (a : L.Answer) (id : ℕ) → sent_by a ≡ Some id → a ≡ L.Sent id
sent_id (L.Sent n) id h = ap (λ k. L.Sent k) (let e : n ≡ id = cc h in e)
sent_id up id h = absurd (cc h)

asks_by : (con : Open) (a : Asked) (at : ℕ) (call : L.Call) → a.call ≡ call
    → ((to : Endpoint) (content : L.Content) (word : ℕ) → call ≡ L.Confirm to content word → IsSpelled content)
    → begun_in at call a.answer ≡ Some con → Asks con a
asks_by con a at (L.Confirm to content word) is may h =
    let k = open_parts con at to content word (sent_by a.answer) h in
    record {
      content = content;
      word = word;
      call = is ∙ ap (λ e. L.Confirm e content word) k.0;
      answer = sent_id a.answer con.id k.1;
      bytes = k.2;
      spelled = may to content word refl;
    }
asks_by con a at _ is may h = absurd (cc h)

-- the steps' states are those that the calls leave
pub left_is : (old new : S.State) (calls : List Asked) → Steps old calls new → new ≡ left_after old calls
left_is old new [] h = h
left_is old new (a ∷ earlier) h = h.2.new_is ∙ ap (λ s. S.forgotten (S.after s (S.made s a.now a.call)))
    (left_is old h.0 earlier h.1)

pub asks_at : (con : Open) (old new : S.State) (a : Asked) (earlier : List Asked) → Steps old (a ∷ earlier) new
    → begun (S.made (left_after old earlier) a.now a.call) ≡ Some con → Asks con a
asks_at con old new a earlier h e =
    let s : S.State = left_after old earlier in
    let right : a.answer ≡ S.answer_of s (S.moment s a.now a.call) a.call =
    subst (λ w. a.answer ≡ S.answer_of w (S.moment w a.now a.call) a.call)
    (left_is old h.0 earlier h.1) h.2.right in
    asks_by con a (S.moment s a.now a.call) a.call refl (λ to content word e. subst (S.May h.0) e h.2.may)
    (ap (begun_in (S.moment s a.now a.call) a.call) right ∙ e)

pub asked_for : (con : Open) (old new : S.State) (calls : List Asked) → Steps old calls new
    → Ever (λ b. begun b ≡ Some con) (entries old calls) → Ever (Asks con) calls
asked_for con old new [] h e = e
asked_for con old new (a ∷ earlier) h (inr e) = inr (asked_for con old h.0 earlier h.1 e)
asked_for con old new (a ∷ earlier) h (inl e) = inl (asks_at con old new a earlier h e)

-- an exchange that begins it
pub record Begins (server : Endpoint) (con : Open) (c : E.Call) : Type 0 where
  pub now : ℕ
  pub word : ℕ
  pub request : E.Request
  pub below : L.Answer
  pub token : List ℕ
  pub is : c ≡ E.Ask now request word below (Ok token)
  pub to : con.to ≡ server
  pub bytes : con.bytes ≡ message_bytes (with_head Con con.id (Q.content_of token request))
  pub spelled : IsSpelled (Q.content_of token request)
