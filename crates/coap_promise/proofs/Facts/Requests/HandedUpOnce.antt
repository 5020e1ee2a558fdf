-- A request of the client's address is handed up once at most, and so is applied once at most for each call.
use Rattle.std.proofs.Common.{◌≡◌, ◌≤◌, inl, inr, ℕ, ◌+◌, Bool, true, false, Option, Some, None, List, [], ◌∷◌, refl}
use Rattle.std.proofs.Common.{ap, sym, subst, ◌∙◌, cond, arith}
use Rattle.coap_types.specs.Past.{Ever, Always}
use Rattle.coap_types.specs.declared.endpoint.Endpoint.{Endpoint}
use Rattle.coap_codec.specs.Message.{Message, Spells}
use Rattle.coap_layer.specs.Channel.{Hop, Near, Far, near_of, far_of, OnFar}
use Rattle.coap_layer.specs.Clocks.{Clocks}
use Rattle.coap_layer.specs.Paced.{ChannelLaw, HandsUpAs}
use Rattle.coap_layer.specs.Trace as T
use Rattle.coap_layer.specs.Words.{Open, begun}
use Rattle.coap_layer.proofs.Facts.Paced.{earlier, handed_once}
use Rattle.coap_layer.specs.declared.setup.Setup.{Setup}
use Rattle.coap_exchange.specs.declared.answerer.Asked.{Asked}
use Rattle.coap_exchange.specs.AnswererFollows.{hits, same_asked}
use Rattle.coap_exchange.specs.AnswererSteps.{asked_of, asked_in, handed_up}
use Rattle.coap_client_laws.specs.Follows.Sendings.{NoNons}
use Rattle.coap_server_laws.specs.Follows.Counts.{asked_at, ups}
use Rattle.coap_server.proofs.Facts.EachCall.{same_asked_is}
use Rattle.coap_promise.proofs.Facts.Requests.CameFrom.{UpOf, here, find, no_more}

-- an entry that hands up this request
abbrev pub Any : Message → Type 0
Any m = Unit {0}

up_in : (a : Asked) (from : Endpoint) (bytes : List ℕ) (e : T.Entry) (answer : T.Answer) → e.call ≡ T.Receive from bytes
    → e.answer ≡ answer → asked_in (handed_up from answer) ≡ Some a → UpOf Any a e
up_in a from bytes e (T.Becomes (T.Request m true)) call is h =
    let same : asked_of from m ≡ a = cc h in
    let from_is : from ≡ a.from = ap (λ (x : Asked). x.from) same in
    record {
      message = m;
      bytes = bytes;
      call = call ∙ ap (λ f. T.Receive f bytes) from_is;
      answer = is;
      asked_is = sym same ∙ ap (λ f. asked_of f m) from_is;
      verdict = tt;
    }
up_in a from bytes e _ call is h = absurd (cc h)

up_by : (a : Asked) (e : T.Entry) (call : T.Call) → e.call ≡ call → asked_at call e.answer ≡ Some a → UpOf Any a e
up_by a e (T.Receive from bytes) is h = up_in a from bytes e e.answer is refl h
up_by a e _ is h = absurd (cc h)

-- an entry counts once where it hands it up, and else not
data Counts (a : Asked) (e : T.Entry) (n : ℕ) : Type 0 where
  counts : UpOf Any a e → n ≡ 1 → Counts a e n
  silent : n ≡ 0 → Counts a e n

counts_by : (a : Asked) (e : T.Entry) (o : Option Asked) → asked_at e.call e.answer ≡ o
    → Counts a e (hits (same_asked a) o)
counts_by a e None is = silent refl
counts_by a e (Some b) is = by (same_asked a b) refl
  where
    by : (w : Bool) → same_asked a b ≡ w → Counts a e (cond w 1 0)
    by true k = counts (up_by a e e.call refl (is ∙ ap (λ x. Some x) (sym (same_asked_is a b k)))) refl
    by false k = silent refl

none_counted : (a : Asked) (hs : List Hop) → (Ever (OnFar (UpOf Any a)) hs → ⊥) → ups a (far_of hs) ≡ 0
none_counted a [] f = refl
none_counted a (Near e ∷ past) f = none_counted a past (λ k. f (inr k))
none_counted a (Far e ∷ past) f = by (counts_by a e (asked_at e.call e.answer) refl)
    (none_counted a past (λ k. f (inr k)))
  where
    by : Counts a e (hits (same_asked a) (asked_at e.call e.answer)) → ups a (far_of past) ≡ 0
        → hits (same_asked a) (asked_at e.call e.answer) + ups a (far_of past) ≡ 0
    by (counts u n) k = absurd (f (inl u))
    by (silent n) k = omega (arith, n, k)

abbrev pub UpOnce : Asked → List Hop → Type 0
UpOnce a hs = Always (λ past h. OnFar (UpOf Any a) h → Ever (OnFar (UpOf Any a)) past → ⊥) hs

pub once_counted : (a : Asked) (hs : List Hop) → UpOnce a hs → ups a (far_of hs) ≤ 1
once_counted a [] h = omega arith
once_counted a (Near e ∷ past) h = once_counted a past h.1
once_counted a (Far e ∷ past) h = by (counts_by a e (asked_at e.call e.answer) refl) (once_counted a past h.1)
  where
    by : Counts a e (hits (same_asked a) (asked_at e.call e.answer)) → ups a (far_of past) ≤ 1
        → hits (same_asked a) (asked_at e.call e.answer) + ups a (far_of past) ≤ 1
    by (counts u n) k = let z = none_counted a past (λ w. h.0 u w) in omega (arith, n, z)
    by (silent n) k = omega (arith, n, k)

-- one CON has this token
abbrev pub OneConBy : List ℕ → List T.Entry → Type 0
OneConBy token t =
    (a b : Open) → Ever (λ e. begun e ≡ Some a) t → Ever (λ e. begun e ≡ Some b) t → (x y : Message)
    → Spells a.bytes x → Spells b.bytes y → a.id ≡ x.id → b.id ≡ y.id
    → x.token ≡ token → y.token ≡ token → a ≡ b

module _ (one other : Setup) (near far : Endpoint) (a : Asked) (from : a.from ≡ near) where
  one_more : (h : Hop) (past : List Hop) → OneConBy a.token (near_of (h ∷ past)) → OneConBy a.token (near_of past)
  one_more (Near e) past f = λ x y k l. f x y (inr k) (inr l)
  one_more (Far e) past f = f

  pub up_once : {clocks : Clocks} (hs : List Hop) → ChannelLaw clocks one other near far hs → NoNons (near_of hs)
      → OneConBy a.token (near_of hs)
      → UpOnce a hs
  up_once {clocks} [] law nons cons = tt
  up_once {clocks} (Near e ∷ past) law nons cons = (
    λ u k. u,
    up_once past (earlier clocks one other near far past (Near e) law)
        (no_more clocks one other near far Any a from (Near e) past nons) (one_more (Near e) past cons),
  )
  up_once {clocks} (Far e ∷ past) law nons cons = (
    λ u k. twice u k,
    up_once past (earlier clocks one other near far past (Far e) law) nons cons,
  )
    where
      twice : UpOf Any a e → Ever (OnFar (UpOf Any a)) past → ⊥
      twice u k =
          let f = here clocks one other near far Any a from past e law nons u in
          let g = find clocks one other near far Any a from past (earlier clocks one other near far past (Far e) law)
          nons k in
          let same : f.0.con ≡ g.con =
          cons f.0.con g.con f.0.begun_before g.begun_before f.0.message g.message f.0.spells
          g.spells f.0.id g.id (sym (ap (λ (x : Asked). x.token) f.0.asked))
          (sym (ap (λ (x : Asked). x.token) g.asked)) in
          (handed_once clocks one other near far (Far e ∷ past) law f.0.con f.0.begun_before).0 f.1
          (subst (λ c. Ever (OnFar (HandsUpAs clocks near c)) past) (sym same) g.arrived)
