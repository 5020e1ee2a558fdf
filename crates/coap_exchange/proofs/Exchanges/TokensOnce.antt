-- Fresh tokens are those of the counter, and no token serves two requests but an observation and its cancel.
use Rattle.std.proofs.Common.{◌≡◌, ◌≢◌, ◌⊎◌, inl, inr, ⊎_elim, ℕ, ◌+◌, ◌-◌, ◌^◌, ◌<◌, Bool, true, false, Option, Some}
use Rattle.std.proofs.Common.{None, List, [], ◌∷◌, Result, Ok, Err, refl, ap, sym, subst, ◌∙◌, arith, is_some, cond}
use Rattle.std.specs.Cmp.{unsigned_Decides}
use Rattle.coap_types.specs.Past.{Ever}
use Rattle.coap_types.specs.declared.endpoint.Endpoint.{Endpoint}
use Rattle.coap_layer.specs.Trace as L
use Rattle.coap_layer.specs.Words.{sent_by}
use Rattle.coap_layer.specs.declared.setup.Setup.{Setup}
use Rattle.coap_exchange.specs.declared.asker.AskRefusal.{AskRefusal}
use Rattle.coap_exchange.specs.declared.asker.AskRefusal.TheVariants as refusal
use Rattle.coap_exchange.specs.declared.matching.Opening.{Opening}
use Rattle.coap_exchange.specs.declared.matching.Opening.TheVariants.{Running, Spent, Sends}
use Rattle.coap_exchange.specs.AskerTrace.{Request, Own, Call, Ask}
use Rattle.coap_exchange.specs.AskerSteps.{IsRight, after}
use Rattle.coap_exchange.specs.AskerRequests.{opening, opening_of, opened, sent_as, request_token, token_or, is_busied}
use Rattle.coap_exchange.specs.AskerRequests.{send_refusal, sent_answer, ask_answer}
use Rattle.coap_exchange.specs.AskerLaw.{own_of, AskerLaw}
use Rattle.coap_exchange.specs.AskerFollows.{begun, fresh, unless_cancel, cancels, Begins, tokens_spent, fresh_in}
use Rattle.coap_exchange.specs.AskerFollows.{CancelsAreGiven, Tokens, AreTokens}
use Rattle.coap_exchange.specs.Tokens.{is_spent, token_of}
use Rattle.coap_exchange.proofs.Exchanges.TokensDiffer.{tokens_apart}
use Rattle.coap_exchange.proofs.Facts.Moves as move
use Rattle.coap_exchange.proofs.Facts.Moves.{AskRow, ask_row, not_spent, opened_none, opened_some}

-- of the tokens: a call gives a fresh one, or none
data Gives (s t : Own) (c : Call) : Type 0 where
  gives : fresh c ≡ Some (token_of s.word s.given) → is_spent s.given ≡ false → t.given ≡ s.given + 1 → t.word ≡ s.word
      → Gives s t c
  gives_none : fresh c ≡ None → t.given ≡ s.given → t.word ≡ s.word → Gives s t c

module _ (s : Own) (now : ℕ) (r : Request) (word : ℕ) (below : L.Answer) (answer : Result (List ℕ) AskRefusal) where
  abbrev c_of : Result (List ℕ) AskRefusal → Call
  c_of a = Ask now r word below a

  sent_gives : (id : ℕ) (t : Option (List ℕ)) → r.token ≡ t → answer ≡ Ok (request_token s r)
      → sent_as (opening_of s r) below ≡ Some id → opening_of s r ≡ Sends
      → Gives s (opened s r (sent_as (opening_of s r) below)) (c_of answer)
  sent_gives id None none is some opens =
      let e : opened s r (sent_as (opening_of s r) below) ≡ opened s r (Some id) = opened_some s r below id some in
      gives (ap (λ a. fresh (c_of a)) is ∙ (ap (λ t. unless_cancel t (request_token s r)) none
      ∙ ap (λ t. Some (token_or t (token_of s.word s.given))) none)) (not_spent s r none opens)
      (ap (λ (o : Own). o.given) e ∙ ap (λ t. cond (is_some t) s.given (s.given + 1)) none)
      (ap (λ (o : Own). o.word) e)
  sent_gives id (Some x) cancel is some opens =
      let e : opened s r (sent_as (opening_of s r) below) ≡ opened s r (Some id) = opened_some s r below id some in
      gives_none (ap (λ a. fresh (c_of a)) is ∙ ap (λ t. unless_cancel t (request_token s r)) cancel)
      (ap (λ (o : Own). o.given) e ∙ ap (λ t. cond (is_some t) s.given (s.given + 1)) cancel)
      (ap (λ (o : Own). o.word) e)

  ask_gives : AskRow s r below answer → Gives s (opened s r (sent_as (opening_of s r) below)) (c_of answer)
  ask_gives (move.refused e is none) =
      let o : opened s r (sent_as (opening_of s r) below) ≡ s = opened_none s r below none in
      gives_none (ap (λ a. fresh (c_of a)) is) (ap (λ (x : Own). x.given) o) (ap (λ (x : Own). x.word) o)
  ask_gives (move.sent id is some opens by) = sent_gives id r.token refl is some opens

  -- a cancel has its token
  cancel_is : AskRow s r below answer → (token : List ℕ) → cancels (c_of answer) ≡ Some token
      → begun (c_of answer) ≡ Some token
  cancel_is (move.refused e is none) token h = let k : cancels (c_of answer)
      ≡ None = ap (λ a. cancels (c_of a)) is in absurd (cc (h, k))
  cancel_is (move.sent id is some opens by) token h =
      let k : r.token ≡ Some token = sym (ap (λ a. cancels (c_of a)) is) ∙ h in ap (λ a. begun (c_of a)) is
      ∙ ap (λ t. Some (token_or t (token_of s.word s.given))) k

  send_not_spent : (b : Bool) → cond b refusal.Running refusal.NoIds ≡ refusal.TokensSpent → ⊥
  send_not_spent true h = cc h
  send_not_spent false h = cc h

  sent_not_spent : (o : Option ℕ) → sent_answer o (send_refusal below) (request_token s r) ≡ Err refusal.TokensSpent → ⊥
  sent_not_spent None h = let k : send_refusal below ≡ refusal.TokensSpent = cc h in send_not_spent (is_busied below) k
  sent_not_spent (Some id) h = cc h

  spent_if : (running spent cancel : Bool) → opening running spent cancel ≡ Spent → spent ≡ true
  spent_if false true cancel h = refl
  spent_if _ _ cancel h = absurd (cc h)

  spent_by : (o : Opening) → opening_of s r ≡ o → ask_answer o below (request_token s r) ≡ Err refusal.TokensSpent
      → is_spent s.given ≡ true
  spent_by Running is h = absurd (cc h)
  spent_by Spent is h = spent_if (is_some s.running) (is_spent s.given) (is_some r.token) is
  spent_by Sends is h = absurd (sent_not_spent (sent_by below) h)

  tells_spent : answer ≡ ask_answer (opening_of s r) below (request_token s r) → answer ≡ Err refusal.TokensSpent
      → s.given ≡ 2 ^ 64 - 1
  tells_spent right is = (unsigned_Decides s.given (2 ^ 64 - 1)).0 (spent_by (opening_of s r) refl (sym right ∙ is))

gives_of : (s : Own) (c : Call) → IsRight s c → Gives s (after s c) c
gives_of s (Ask now r word below answer) right =
    moved (ask_gives s now r word below answer (ask_row s r below answer right))
  where
    moved : Gives s (opened s r (sent_as (opening_of s r) below)) (Ask now r word below answer)
        → Gives s (after s (Ask now r word below answer)) (Ask now r word below answer)
    moved (gives f left n w) = gives f left n w
    moved (gives_none f n w) = gives_none f n w
gives_of s _ right = gives_none refl refl refl

cancel_of : (s : Own) (c : Call) → IsRight s c → (token : List ℕ) → cancels c ≡ Some token → Begins token c
cancel_of s (Ask now r word below answer) right token h =
    cancel_is s now r word below answer (ask_row s r below answer right) token h
cancel_of s _ right token h = absurd (cc h)

spent_of : (s : Own) (c : Call) → IsRight s c → (now w : ℕ) (r : Request) (below : L.Answer)
    → c ≡ Ask now r w below (Err refusal.TokensSpent) → s.given ≡ 2 ^ 64 - 1
spent_of s c right now w r below is = tells_spent s now r w below (Err refusal.TokensSpent)
    (subst (IsRight s) is right) refl

-- a request that is sent has a fresh token or cancels
fresh_or_cancel : (c : Call) (token : List ℕ) → Begins token c
    → (fresh c ≡ Some token) ⊎ ((t : List ℕ) × (cancels c ≡ Some t))
fresh_or_cancel (Ask now r word below (Ok x)) token h = by r.token refl
  where
    by : (t : Option (List ℕ)) → r.token ≡ t → (fresh (Ask now r word below (Ok x)) ≡ Some token)
        ⊎ ((y : List ℕ) × (cancels (Ask now r word below (Ok x)) ≡ Some y))
    by None none = inl (ap (λ y. unless_cancel y x) none ∙ h)
    by (Some y) is = inr (y, is)
fresh_or_cancel _ token h = absurd (cc h)

-- what the words find
pub record Counted (word : ℕ) (t : List Call) (s : Own) : Type 0 where
  pub word_is : s.word ≡ word
  pub given : s.given ≡ fresh_in t
  pub small : s.given < 2 ^ 64
  pub each : (token : List ℕ) → Ever (λ b. fresh b ≡ Some token) t → (k : ℕ) × (k < s.given) × (token ≡ token_of word k)

some_is : (a b : List ℕ) → Some a ≡ Some b → a ≡ b
some_is a b h = cc h

-- where each cancel has a token that was given, each token that was used was given
used_given : (word : ℕ) (t : List Call) → AreTokens word t → CancelsAreGiven t → (token : List ℕ)
    → Ever (Begins token) t → Ever (λ b. fresh b ≡ Some token) t
used_given word [] are given token h = absurd h
used_given word (c ∷ t) are given token (inl b) = ⊎_elim (λ f. inl f) (λ k. inr (
    let same : k.0 ≡ token = some_is k.0 token (sym (are.0.0.cancel k.0 k.1) ∙ b) in
    given.0 token (k.1 ∙ ap (λ x. Some x) same)
    )) (fresh_or_cancel c token b)
used_given word (c ∷ t) are given token (inr old) = inr (used_given word t are.1 given.1 token old)

module _ (word : ℕ) (t : List Call) (s : Own) (c : Call) (new : Own) (known : Counted word t s)
    (are : AreTokens word t) where
  once_of : fresh c ≡ Some (token_of s.word s.given) → (token : List ℕ) → fresh c ≡ Some token
      → Ever (λ b. fresh b ≡ Some token) t → ⊥
  once_of f token h old =
      let k = known.each token old in
      let same : token ≡ token_of word s.given = some_is token _ (sym h ∙ f)
      ∙ ap (λ w. token_of w s.given) known.word_is in
      tokens_apart word k.0 s.given k.1 known.small (sym k.2 ∙ same)

  counted_on : Gives s new c → ((token : List ℕ) → cancels c ≡ Some token → Begins token c)
      → Tokens word t c × Counted word (c ∷ t) new
  counted_on (gives f left n w) cancel =
      let spare : s.given ≢ 2 ^ 64 - 1 = λ e. let k : is_spent s.given
      ≡ true = (unsigned_Decides s.given (2 ^ 64 - 1)).1 e in cc (k, left) in
      let token_is : token_of s.word s.given ≡ token_of word (fresh_in t) = ap (λ w. token_of w s.given) known.word_is
      ∙ ap (λ g. token_of word g) known.given in (
        record {
          counted = λ token h. (some_is token _ (sym h ∙ f) ∙ token_is, omega (arith, spare, known.small, known.given));
          once = once_of f;
          unused = λ given token h used. once_of f token h (used_given word t are given token used);
          cancel = cancel;
        },
        record {
          word_is = w ∙ known.word_is;
          given = n ∙ (ap (λ g. g + 1) known.given ∙ ap (λ x. fresh_in t + tokens_spent x) (sym f));
          small = omega (arith, n, spare, known.small);
          each = λ token h. elim h [
            | inl now ↦ (
              s.given,
              omega (arith, n),
              (some_is token _ (sym now ∙ f)
                  ∙ ap (λ x. token_of x s.given) known.word_is),
            )
            | inr old ↦ (let k = known.each token old in (k.0, omega (arith, n, k.1), k.2))
          ];
        },
      )
  counted_on (gives_none f n w) cancel = (
    record {
      counted = λ token h. absurd (cc (h, f));
      once = λ token h. absurd (cc (h, f));
      unused = λ given token h. absurd (cc (h, f));
      cancel = cancel;
    },
    record {
      word_is = w ∙ known.word_is;
      given = n ∙ (known.given ∙ (let z : fresh_in t ≡ fresh_in t + tokens_spent None = omega arith in z
          ∙ ap (λ x. fresh_in t + tokens_spent x) (sym f)));
      small = omega (arith, n, known.small);
      each = λ token h. elim h [
        | inl now ↦ absurd (cc (now, f))
        | inr old ↦
            (let k = known.each token old in (k.0, omega (arith, n, k.1), k.2))
      ];
    },
  )

pub counted : (server : Endpoint) (setup : Setup) (t : List Call) → AskerLaw server setup t
    → AreTokens setup.word t × Counted setup.word t (own_of server setup t)
counted server setup [] law = (
  tt,
  record {
    word_is = refl;
    given = refl;
    small = omega arith;
    each = λ token h. absurd h;
  },
)
counted server setup (c ∷ t) law =
    let earlier = counted server setup t law.1 in
    let s : Own = own_of server setup t in
    let here = counted_on setup.word t s c (after s c) earlier.1 earlier.0 (gives_of s c law.0) (cancel_of s c law.0) in (
      (
        (here.0, record { spent = λ now w r below is. sym earlier.1.given ∙ spent_of s c law.0 now w r below is }),
        earlier.0,
      ),
      here.1,
    )
