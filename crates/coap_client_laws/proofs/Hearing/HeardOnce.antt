-- A request of a call is answered once.
use Rattle.std.proofs.Common.{◌≡◌, ◌⊎◌, inl, inr, ℕ, max, true, false, Some, None, List, ◌∷◌, ◌++◌, []}
use Rattle.std.proofs.Common.{refl, ap, sym, subst, ◌∙◌, Ok}
use Rattle.coap_types.specs.Past.{Ever, Since}
use Rattle.coap_types.proofs.Facts.Traces.{Ever_back, Ever_map}
use Rattle.coap_types.specs.declared.endpoint.Endpoint.{Endpoint}
use Rattle.coap_layer.specs.declared.setup.Setup.{Setup}
use Rattle.coap_block.specs.Sizes.{Sizes}
use Rattle.coap_exchange.specs.declared.asker.Event.TheVariants as event_of
use Rattle.coap_exchange.specs.AskerTrace as E
use Rattle.coap_exchange.specs.AskerFollows as F
use Rattle.coap_exchange.proofs.Facts.ClientSide.{are_exchanges}
use Rattle.coap_client.specs.Trace.{Call, Feeds}
use Rattle.coap_client.specs.Own.{Registering, Own}
use Rattle.coap_client_laws.specs.Follows.AnswersLastRequest.{AnswersLast}
use Rattle.coap_client.specs.Effects.{Effect}
use Rattle.coap_client.specs.Events.{happened}
use Rattle.coap_client.specs.Deeds.{at, close, deeds}
use Rattle.coap_client.specs.Steps.{lower}
use Rattle.coap_client.specs.Law.{ClientLaw, own_of, lower_of}
use Rattle.coap_client.specs.Sendings.{Sending, hears}
use Rattle.coap_client_laws.proofs.Uploading.Pieces.{answers_last}
use Rattle.coap_client.proofs.Facts.Turning.Leading.{client_back}
use Rattle.coap_client_laws.specs.Follows.Begins.{WasSent}
use Rattle.coap_client_laws.specs.Follows.Order.{call_of, HearsBy, HeardOnce}
use Rattle.coap_client_laws.specs.Follows.Tokens.{OwnTokens}
use Rattle.coap_client_laws.proofs.Sending.Asked.{AsksFor, sent_if_asked}
use Rattle.coap_client_laws.proofs.Sending.Tokens.{own_tokens, one_of_token}
use Rattle.coap_client_laws.proofs.Sending.LiveTokens.{last_was_sent}
use Rattle.coap_client_laws.proofs.Hearing.Noted.{last_there}

-- something since began among these, or it did before and these keep it
since_split : {X : Type 0} (B K : X → Type 0) (xs ys : List X) → Since B K (xs ++ ys)
    → Ever B xs ⊎ ((Ever (λ e. K e → ⊥) xs → ⊥) × Since B K ys)
since_split B K [] ys h = inr (λ e. e, h)
since_split B K (x ∷ xs) ys (inl h) = inl (inl h)
since_split B K (x ∷ xs) ys (inr h) = elim (since_split B K xs ys h.1) [
  | inl b ↦ inl (inr b)
  | inr k ↦ inr (λ e. (elim e [ inl f ↦ f h.0 | inr f ↦ k.0 f ]), k.1)
]

asks_if_begun : (token : List ℕ) (c : E.Call) → F.Begins token c → (r : E.Request) × AsksFor r token c
asks_if_begun token (E.Ask now r w below (Ok k)) h = let e : k
    ≡ token = cc h in (r, record { now = now; word = w; below = below; is = ap (λ z. E.Ask now r w below (Ok z)) e })
asks_if_begun token _ h = absurd (cc h)

-- which of them
first_of : (token : List ℕ) (xs : List E.Call) → Ever (F.Begins token) xs → (r : E.Request) × Ever (AsksFor r token) xs
first_of token [] h = absurd h
first_of token (c ∷ xs) (inl h) = let k = asks_if_begun token c h in (k.0, inl k.1)
first_of token (c ∷ xs) (inr h) = let k = first_of token xs h in (k.0, inr k.1)

-- an answer ends an exchange, and is of the one that was open

ends_it : (c : E.Call) (m : _) → F.answered c ≡ Some m → F.ends c ≡ true
ends_it (E.Receive now from bytes up settled (Some (event_of.Answer a))) m h = refl
ends_it _ m h = absurd (cc h)

-- what a call hears is answered by the exchange that it hands it to
pub heard_beneath : (s : Own) (c : Call) (m : _) → hears c ≡ Some m → Ever (λ b. F.answered b ≡ Some m) (lower s c)
heard_beneath s (Feeds now from bytes w up settled (Some (event_of.Answer a)) sent token kept) m h =
    let z : ℕ = max s.clock now in
    let e : Effect = happened (at now s) z (Some (event_of.Answer a)) in
    let k = close z e token in
    Ever_back (λ b. F.answered b ≡ Some m) (deeds k.deed k.own z w sent token kept)
    (deeds e.deed e.own z w sent token kept ++ E.Receive z from bytes up settled (Some (event_of.Answer a)) ∷ [])
    (last_there (λ b. F.answered b ≡ Some m) (deeds e.deed e.own z w sent token kept)
    (E.Receive z from bytes up settled (Some (event_of.Answer a))) h)
heard_beneath s _ m h = absurd (cc h)

-- at the input of a feed, what was open is so behind the calls before
open_before : (s : Own) (c : Call) (ys : List E.Call) (m : _) → hears c ≡ Some m → F.AreExchanges (lower s c ++ ys)
    → F.Open m.token ys
open_before s (Feeds now from bytes w up settled (Some (event_of.Answer a)) sent token kept) ys m h law =
    let z : ℕ = max s.clock now in
    let e : Effect = happened (at now s) z (Some (event_of.Answer a)) in
    let k = close z e token in
    by (deeds k.deed k.own z w sent token kept) (deeds e.deed e.own z w sent token kept) law
  where
    abbrev_input : E.Call
    abbrev_input = E.Receive (max s.clock now) from bytes up settled (Some (event_of.Answer a))

    second : (first : List E.Call) → F.AreExchanges ((first ++ abbrev_input ∷ []) ++ ys) → F.Open m.token ys
    second [] law = law.0.answer m h
    second (x ∷ first) law = second first law.1

    by : (later first : List E.Call) → F.AreExchanges ((later ++ (first ++ abbrev_input ∷ [])) ++ ys)
        → F.Open m.token ys
    by [] first law = second first law
    by (x ∷ later) first law = by later first law.1
open_before s _ ys m h law = absurd (cc h)

module _ (sizes : Sizes) where
  -- what was heard with a token answers a request that was sent with it
  pub heard_of_sent : (t : List Call) (token : List ℕ) → AnswersLast sizes t → Ever (HearsBy token) t
      → (z : Sending) × WasSent sizes z t × (z.token ≡ token)
  heard_of_sent [] token answers h = absurd h
  heard_of_sent (c ∷ t) token answers (inl h) = let a =
      answers.0 h.0 h.1 in (a.sending, inr (last_was_sent sizes t a.sending a.last), a.token ∙ h.2)
  heard_of_sent (c ∷ t) token answers (inr h) = let k = heard_of_sent t token answers.1 h in (k.0, inr k.1, k.2)

  -- a request with this token was sent to register
  record IsRegistered (t : List Call) (token : List ℕ) : Type 0 where
    sending : Sending
    sent : WasSent sizes sending t
    token_is : sending.token ≡ token
    number : ℕ
    path : List (List ℕ)
    operation : sending.operation ≡ Registering number path

  is_later : (t : List Call) (c : Call) (token : List ℕ) → IsRegistered t token → IsRegistered (c ∷ t) token
  is_later t c token h = record {
    sending = h.sending;
    sent = inr h.sent;
    token_is = h.token_is;
    number = h.number;
    path = h.path;
    operation = h.operation;
  }

  -- An exchange is open whose token an answer had: it is that of a cancel.
  open_again : (t : List Call) (token : List ℕ) → OwnTokens sizes t → AnswersLast sizes t
      → F.Open token (lower_of sizes t)
      → Ever (HearsBy token) t → IsRegistered t token
  open_again [] token own answers h heard = absurd heard
  open_again (c ∷ t) token own answers h heard =
      by (since_split (F.Begins token) (λ b. F.ends b ≡ false) (lower (own_of sizes t) c) (lower_of sizes t) h) heard
      (open_again t token own.1 answers.1)
    where
      new : Ever (F.Begins token) (lower (own_of sizes t) c) → IsRegistered (c ∷ t) token
      new b =
          let f = first_of token (lower (own_of sizes t) c) b in
          let x = sent_if_asked (own_of sizes t) c f.0 token f.1 in
          let z = before heard in
          let d = own.0 x.sending z.0 x.sends_it z.1 (z.2 ∙ sym x.token_is) in
          record {
            sending = z.0;
            sent = inr z.1;
            token_is = z.2;
            number = d.number;
            path = d.path;
            operation = d.registers;
          }
        where
          before : Ever (HearsBy token) (c ∷ t) → (z : Sending) × WasSent sizes z t × (z.token ≡ token)
          before (inl k) = let a = answers.0 k.0 k.1 in (
            a.sending,
            last_was_sent sizes t a.sending a.last,
            a.token
                ∙ k.2,
          )
          before (inr k) = heard_of_sent t token answers.1 k

      by : Ever (F.Begins token) (lower (own_of sizes t) c)
          ⊎ ((Ever (λ e. (F.ends e ≡ false) → ⊥) (lower (own_of sizes t) c) → ⊥) × F.Open token (lower_of sizes t))
          → Ever (HearsBy token) (c ∷ t)
          → (F.Open token (lower_of sizes t) → Ever (HearsBy token) t → IsRegistered t token)
          → IsRegistered (c ∷ t) token
      by (inl b) heard ih = new b
      by (inr k) (inr before) ih = is_later t c token (ih k.1 before)
      by (inr k) (inl now) ih =
          absurd (k.0 (Ever_map (λ b. F.answered b ≡ Some now.0) (λ e. (F.ends e ≡ false) → ⊥)
          (λ e is f. (let z = ends_it e now.0 is in cc (z, f))) (lower (own_of sizes t) c)
          (heard_beneath (own_of sizes t) c now.0 now.1)))

once_here : (server : Endpoint) (sizes : Sizes) (setup : Setup) (t : List Call) (c : Call)
    → ClientLaw server sizes setup (c ∷ t)
    → (x : Sending) (k : ℕ) → WasSent sizes x t → call_of x.operation ≡ Some k → HearsBy x.token c
    → Ever (HearsBy x.token) t → ⊥
once_here server sizes setup t c law x k was is now before =
    let past = client_back server sizes setup (c ∷ []) t law in
    let exchanges = are_exchanges server setup (lower_of sizes (c ∷ t)) law.exchanges.rows in
    let open_now : F.Open x.token (lower_of sizes t) =
    subst (λ z. F.Open z (lower_of sizes t)) now.2
    (open_before (own_of sizes t) c (lower_of sizes t) now.0 now.1 exchanges) in
    let z = open_again sizes t x.token (own_tokens sizes server setup t past)
    (answers_last sizes server setup t past) open_now before in
    elim (one_of_token sizes server setup t past x z.sending was z.sent (sym z.token_is)) [
      | inl e ↦ (let w : call_of x.operation ≡ None = ap (λ (y : Sending). call_of y.operation) e
          ∙ ap call_of z.operation in cc (w, is))
      | inr r ↦ elim r [
        | inl d ↦ (let w : call_of x.operation ≡ None = ap call_of d.registers in cc (w, is))
        | inr d ↦ (let w : call_of x.operation ≡ None = ap call_of d.cancels in cc (w, is))
      ]
    ]

pub heard_once : (server : Endpoint) (sizes : Sizes) (setup : Setup) (t : List Call) → ClientLaw server sizes setup t
    → HeardOnce sizes t
heard_once server sizes setup [] law = tt
heard_once server sizes setup (c ∷ t) law = (
  once_here server sizes setup t c law,
  heard_once server sizes setup t (client_back server sizes setup (c ∷ []) t law),
)
