-- A request, as the code makes it of the layer's calls.
use Rattle.std.proofs.Common.{◌≡◌, ℕ, ◌+◌, max, Bool, true, false, Option, Some, None, List, Result, Ok, Err, refl, ap}
use Rattle.std.proofs.Common.{sym, subst, ◌∙◌, is_some, if◌then◌else◌}
use Rattle.std.specs.Option.{option_map}
use Rattle.coap_types.specs.declared.endpoint.Endpoint.{Endpoint}
use Rattle.coap_types.specs.declared.message.Id.{Id}
use Rattle.coap_layer.specs.Machine.State as L
use Rattle.coap_layer.specs.Trace as T
use Rattle.coap_exchange.specs.declared.asker.AskRefusal.{AskRefusal}
use Rattle.coap_exchange.specs.declared.held.Held.{Held}
use Rattle.coap_exchange.specs.declared.matching.Opening.{Opening}
use Rattle.coap_exchange.specs.declared.matching.Opening.TheVariants.{Spent, Sends}
use Rattle.coap_exchange.specs.AskerLaw.{State, Step}
use Rattle.coap_exchange.specs.AskerRequests.{opening_of, request_token, content_of, beneath, sent_as, spent_refusal}
use Rattle.coap_exchange.specs.AskerRequests.{ask_answer, opened}
use Rattle.coap_exchange.specs.Machine.AskerShown.{own_with, state_of, refusal_as}
use Rattle.coap_exchange.specs.declared.asker.AskRefusal.TheVariants as refusal
use Rattle.coap_layer.specs.declared.up.SendRefusal.{SendRefusal}
use Rattle.coap_layer.specs.declared.up.SendRefusal.TheVariants as send
use Rattle.coap_layer.specs.Machine.Ups as ups
use Rattle.coap_exchange.specs.AskerTrace.{Request, Own, Ask}
use Rattle.coap_exchange.proofs.Ending.RequestIsOutstanding.{ask_opens}

pub some_mapped : {X Y : Type 0} (f : X → Y) (o : Option X) → is_some (option_map f o) ≡ is_some o
some_mapped f None = refl
some_mapped f (Some x) = refl

spent_as : (free : Bool) → (if free then refusal.TokensSpent else refusal.NoIds) ≡ spent_refusal (T.Is free)
spent_as true = refl
spent_as false = refl

pub told_spent : (free : Bool) (answer : AskRefusal) (token : List ℕ)
    → answer ≡ (if free then refusal.TokensSpent else refusal.NoIds)
    → ◌≡◌ {A = Result (List ℕ) AskRefusal} (Err answer) (ask_answer Spent (T.Is free) token)
told_spent free answer token h = ap (λ a. Err a) (h ∙ spent_as free)

module _ (l : L.State) (server : Endpoint) (word : ℕ) (held : Held) (old : State)
    (is : state_of l server word held ≡ old) where
  abbrev s : Own
  s = own_with l.clock server word held

  abbrev content : Request → T.Content
  content r = content_of (request_token s r) r

  clocked : Own → ℕ → Own
  clocked o clock = record o { clock = clock }

  pub refused : (h : L.State) (now w : ℕ) (r : Request) (below : T.Answer) (o : Opening)
      (answer : Result (List ℕ) AskRefusal) → opening_of s r ≡ o → L.Step l now (beneath o server (content r) w) below h
      → sent_as o below ≡ None
      → answer ≡ ask_answer o below (request_token s r)
      → Step old (Ask now r w below answer) (state_of h server word held)
  unfolding clocked
  refused h now w r below o answer opens step none right =
      let opens_then = ask_opens o l h now server (content r) w below step in
      let sent : sent_as (opening_of s r) below ≡ None = ap (λ x. sent_as x below) opens ∙ none in
      subst (λ x. Step x (Ask now r w below answer) (state_of h server word held)) is (record {
        right = right ∙ ap (λ x. ask_answer x below (request_token s r)) (sym opens);
        own_is = ap (λ c. own_with c server word held) opens_then.clock
            ∙ ap (λ x. clocked (opened s r x) (max l.clock now)) (sym sent);
        under = (l, refl, subst (λ x. L.Step l now (beneath x server (content r) w) below h) (sym opens) step);
      })

  abbrev left : List ℕ → Id → Request → Held
  left token id r = record {
    given = if is_some r.token then held.given else held.given + 1;
    running = Some (record { token = token; id = id; acked = None; cancel = is_some r.token });
    kept = held.kept;
  }

  pub sent : (h : L.State) (now w : ℕ) (r : Request) (id : Id) (token : List ℕ) → opening_of s r ≡ Sends
      → token ≡ request_token s r → L.Step l now (T.Confirm server (content_of token r) w) (T.Sent id.0) h
      → Step old (Ask now r w (T.Sent id.0) (Ok token)) (state_of h server word (left token id r))
  unfolding clocked
  sent h now w r id token opens token_is step =
      let at_token : L.Step l now (T.Confirm server (content r) w) (T.Sent id.0) h =
      subst (λ t. L.Step l now (T.Confirm server (content_of t r) w) (T.Sent id.0) h) token_is step in
      let opens_then = ask_opens Sends l h now server (content r) w (T.Sent id.0) at_token in
      subst (λ x. Step x (Ask now r w (T.Sent id.0) (Ok token)) (state_of h server word (left token id r))) is (record {
        right = ap (λ t. Ok t) token_is ∙ ap (λ x. ask_answer x (T.Sent id.0) (request_token s r)) (sym opens);
        own_is = ap (λ c. own_with c server word (left token id r)) opens_then.clock
            ∙ (ap (λ t. own_with (max l.clock now) server word (left t id r)) token_is
            ∙ ap (λ x. clocked (opened s r (sent_as x (T.Sent id.0))) (max l.clock now)) (sym opens));
        under = (
          l,
          refl,
          subst (λ x. L.Step l now (beneath x server (content r) w) (T.Sent id.0) h)
              (sym opens) at_token,
        );
      })

  -- what the layer was handed is the content of the request
  pub sent_content : (h : L.State) (now w : ℕ) (r : Request) (id : Id) (token : List ℕ) (k : T.Content) (new : Held)
      → opening_of s r ≡ Sends → token ≡ request_token s r → k ≡ content_of token r
      → L.Step l now (T.Confirm server k w) (T.Sent id.0) h
      → new.given ≡ (if is_some r.token then held.given else held.given + 1)
      → new.running ≡ Some (record { token = token; id = id; acked = None; cancel = is_some r.token })
      → new.kept ≡ held.kept
      → Step old (Ask now r w (T.Sent id.0) (Ok token)) (state_of h server word new)
  sent_content h now w r id token k new opens token_is k_is step given running kept =
      let new_is : left token id r ≡ new =
      sym (ap (λ g. record { given = g; running = new.running; kept = new.kept }) given
      ∙ (ap (λ x. record {
        given = if is_some r.token then held.given else held.given + 1;
        running = x;
        kept = new.kept;
      }) running
      ∙ ap (λ x. record {
        given = if is_some r.token then held.given else held.given + 1;
        running = Some (record { token = token; id = id; acked = None; cancel = is_some r.token });
        kept = x;
      }) kept))
      in
      subst (λ x. Step old (Ask now r w (T.Sent id.0) (Ok token)) (state_of h server word x)) new_is
      (sent h now w r id token opens token_is (subst
      (λ x. L.Step l now (T.Confirm server x w) (T.Sent id.0) h) k_is step))

  pub refused_content : (h : L.State) (now w : ℕ) (r : Request) (token : List ℕ) (k : T.Content) (why : SendRefusal)
      (answer : AskRefusal) → opening_of s r ≡ Sends → token ≡ request_token s r → k ≡ content_of token r
      → L.Step l now (T.Confirm server k w) (ups.sent_as (Err why)) h → answer ≡ refusal_as why
      → (answer ≡ refusal.Memory → ⊥)
      → Step old (Ask now r w (ups.sent_as (Err why)) (Err answer)) (state_of h server word held)
  refused_content h now w r token k why answer opens token_is k_is step answer_is ne =
      let at_content : L.Step l now (T.Confirm server (content r) w) (ups.sent_as (Err why)) h =
      subst (λ x. L.Step l now (T.Confirm server x w) (ups.sent_as (Err why)) h)
      (k_is ∙ ap (λ t. content_of t r) token_is) step in
      refused h now w r (ups.sent_as (Err why)) Sends (Err answer) opens at_content (none_sent why)
      (ap (λ a. Err a) answer_is ∙ right why (λ e. ne (answer_is ∙ e)))
    where
      none_sent : (y : SendRefusal) → sent_as Sends (ups.sent_as (Err y)) ≡ None
      none_sent send.Outstanding = refl
      none_sent send.NoIds = refl
      none_sent send.Memory = refl

      right : (y : SendRefusal) → (refusal_as y ≡ refusal.Memory → ⊥)
          → Err (refusal_as y) ≡ ask_answer Sends (ups.sent_as (Err y)) (request_token s r)
      right send.Outstanding f = refl
      right send.NoIds f = refl
      right send.Memory f = absurd (f refl)
