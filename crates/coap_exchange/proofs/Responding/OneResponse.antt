-- A request that is handed up has at most one response, and at most 16 are deferred.
use Rattle.std.proofs.Common.{◌≡◌, ◌≤◌, ◌<◌, inl, inr, ℕ, ◌+◌, max, Bool, true, false, Some, None, List, [], ◌∷◌, ◌++◌}
use Rattle.std.proofs.Common.{length, refl, ap, sym, subst, ◌∙◌, cond, arith, ◌&&◌, not}
use Rattle.std.specs.Option.{option_map}
use Rattle.std.specs.Cmp.{unsigned_Decides}
use Rattle.coap_types.specs.Past.{Ever}
use Rattle.coap_types.specs.declared.endpoint.Endpoint.{Endpoint}
use Rattle.coap_types.specs.SameEndpoint.{same_endpoint}
use Rattle.coap_types.proofs.Facts.Endpoints.{same_endpoint_self}
use Rattle.coap_codec.specs.Message.{kind_number}
use Rattle.std.proofs.lemmas.Bool.{ltb-true}
use Rattle.coap_exchange.specs.declared.answerer.Asked.{Asked}
use Rattle.coap_exchange.specs.declared.separate.Deferred.{Deferred}
use Rattle.coap_exchange.specs.declared.separate.Separate.{Separate}
use Rattle.coap_exchange.specs.AnswererTrace.{Own, Call, Incoming, Answers, Defers, Responds, Ready}
use Rattle.coap_exchange.specs.AnswererTrace.{Take, Forgets}
use Rattle.coap_exchange.specs.AnswererSteps.{IsRight, after, may_defer, is_ready, first_ready, without_ready}
use Rattle.coap_exchange.specs.AnswererSteps.{deferred_elsewhere, max_deferred}
use Rattle.coap_exchange.specs.AnswererLaw.{own_of, AnswererLaw}
use Rattle.coap_exchange.specs.AnswererFollows.{hands, responds, hits, same_asked, times_handed, times_answered}
use Rattle.coap_exchange.specs.AnswererFollows.{Responses, AreResponses}
use Rattle.coap_exchange.proofs.Facts.SameToken.{same_token_self}

pub same_asked_self : (a : Asked) → same_asked a a ≡ true
same_asked_self a = all _ _ _ _ (same_endpoint_self a.from)
    ((unsigned_Decides (kind_number a.kind) (kind_number a.kind)).1 refl) ((unsigned_Decides a.id.0 a.id.0).1 refl)
    (same_token_self a.token)
  where
    all : (p q r s : Bool) → p ≡ true → q ≡ true → r ≡ true → s ≡ true → (p && (q && (r && s))) ≡ true
    all p q r s hp hq hr hs = cc (hp, hq, hr, hs)

pub self_hits : (a : Asked) → hits (same_asked a) (Some a) ≡ 1
self_hits a = ap (λ b. cond b 1 0) (same_asked_self a)

-- the deferred requests of this kind
abbrev pub deferred_hits : Asked → List Deferred → ℕ
deferred_hits a [] = 0
deferred_hits a (d ∷ ds) = hits (same_asked a) (Some d.asked) + deferred_hits a ds

hits_append : (a : Asked) (ds : List Deferred) (d : Deferred)
    → deferred_hits a (ds ++ d ∷ []) ≡ deferred_hits a ds + hits (same_asked a) (Some d.asked)
hits_append a [] d = omega arith
hits_append a (e ∷ ds) d = let h = hits_append a ds d in omega (arith, h)

module _ (a b : Asked) (at : ℕ) (xs : List Separate) where
  taken_by : (d : Deferred) (ds : List Deferred)
      → (option_map (λ (e : Deferred). e.asked) (first_ready at xs ds) ≡ Some b
      → deferred_hits a ds ≡ hits (same_asked a) (Some b) + deferred_hits a (without_ready at xs ds))
      → (w : Bool) → option_map (λ (e : Deferred). e.asked) (cond w (Some d) (first_ready at xs ds)) ≡ Some b
      → deferred_hits a (d ∷ ds) ≡ hits (same_asked a) (Some b) + deferred_hits a
      (cond w ds (d ∷ without_ready at xs ds))
  taken_by d ds ih true h = ap (λ o. hits (same_asked a) o + deferred_hits a ds) h
  taken_by d ds ih false h = let k = ih h in omega (arith, k)

  -- the one that is ready is taken out
  pub taken_out : (ds : List Deferred) → option_map (λ (e : Deferred). e.asked) (first_ready at xs ds) ≡ Some b
      → deferred_hits a ds ≡ hits (same_asked a) (Some b) + deferred_hits a (without_ready at xs ds)
  taken_out [] h = absurd (cc h)
  taken_out (d ∷ ds) h = taken_by d ds (taken_out ds) (is_ready at xs d) h

-- each was handed up
abbrev pub Handed : List Call → Asked → Type 0
Handed t a = Ever (λ b. hands b ≡ Some a) t

abbrev pub AllHanded : List Call → List Deferred → Type 0
AllHanded t [] = Unit {0}
AllHanded t (d ∷ ds) = Ever (λ b. hands b ≡ Some d.asked) t × AllHanded t ds

all_later : (c : Call) (t : List Call) (ds : List Deferred) → AllHanded t ds → AllHanded (c ∷ t) ds
all_later c t [] h = tt
all_later c t (d ∷ ds) h = (inr h.0, all_later c t ds h.1)

all_with : (t : List Call) (ds : List Deferred) (d : Deferred) → AllHanded t ds → Handed t d.asked
    → AllHanded t (ds ++ d ∷ [])
all_with t [] d h k = (k, tt)
all_with t (e ∷ ds) d h k = (h.0, all_with t ds d h.1 k)

module _ (t : List Call) (at : ℕ) (xs : List Separate) where
  all_by : (d : Deferred) (ds : List Deferred) (w : Bool) → AllHanded t (d ∷ ds) → AllHanded t (without_ready at xs ds)
      → AllHanded t (cond w ds (d ∷ without_ready at xs ds))
  all_by d ds true h k = h.1
  all_by d ds false h k = (h.0, k)

  all_without : (ds : List Deferred) → AllHanded t ds → AllHanded t (without_ready at xs ds)
  all_without [] h = tt
  all_without (d ∷ ds) h = all_by d ds (is_ready at xs d) h (all_without ds h.1)

  ready_by : (a : Asked) (d : Deferred) (ds : List Deferred) (w : Bool) → AllHanded t (d ∷ ds)
      → (option_map (λ (e : Deferred). e.asked) (first_ready at xs ds) ≡ Some a → Handed t a)
      → option_map (λ (e : Deferred). e.asked) (cond w (Some d) (first_ready at xs ds)) ≡ Some a → Handed t a
  ready_by a d ds true h ih e = let same : d.asked ≡ a = cc e in subst (λ x. Ever (λ b. hands b ≡ Some x) t) same h.0
  ready_by a d ds false h ih e = ih e

  ready_handed : (a : Asked) (ds : List Deferred) → AllHanded t ds
      → option_map (λ (e : Deferred). e.asked) (first_ready at xs ds) ≡ Some a → Handed t a
  ready_handed a [] h e = absurd (cc e)
  ready_handed a (d ∷ ds) h e = ready_by a d ds (is_ready at xs d) h (ready_handed a ds h.1) e

-- how many are deferred
pub length_with : (ds : List Deferred) (d : Deferred) → length (ds ++ d ∷ []) ≡ length ds + 1
length_with [] d = refl
length_with (e ∷ ds) d = let h = length_with ds d in omega (arith, h)

length_by : (w : Bool) (d : Deferred) (ds es : List Deferred) → length es ≤ length ds
    → length (cond w ds (d ∷ es)) ≤ length (d ∷ ds)
length_by true d ds es h = omega arith
length_by false d ds es h = omega (arith, h)

length_without : (at : ℕ) (xs : List Separate) (ds : List Deferred) → length (without_ready at xs ds) ≤ length ds
length_without at xs [] = omega arith
length_without at xs (d ∷ ds) = length_by (is_ready at xs d) d ds (without_ready at xs ds) (length_without at xs ds)

-- those of other peers
module _ (peer : Endpoint) where
  fewer_hits_by : (a : Asked) (d : Deferred) (ds es : List Deferred) (w : Bool)
      → deferred_hits a es ≤ deferred_hits a ds → deferred_hits a (cond w (d ∷ es) es) ≤ deferred_hits a (d ∷ ds)
  fewer_hits_by a d ds es true h = omega (arith, h)
  fewer_hits_by a d ds es false h = omega (arith, h)

  fewer_hits : (a : Asked) (ds : List Deferred) → deferred_hits a (deferred_elsewhere peer ds) ≤ deferred_hits a ds
  fewer_hits a [] = omega arith
  fewer_hits a (d ∷ ds) = fewer_hits_by a d ds (deferred_elsewhere peer ds) (not (same_endpoint d.asked.from peer))
      (fewer_hits a ds)

  fewer_by : (d : Deferred) (ds es : List Deferred) (w : Bool) → length es ≤ length ds
      → length (cond w (d ∷ es) es) ≤ length (d ∷ ds)
  fewer_by d ds es true h = omega (arith, h)
  fewer_by d ds es false h = omega (arith, h)

  pub fewer_elsewhere : (ds : List Deferred) → length (deferred_elsewhere peer ds) ≤ length ds
  fewer_elsewhere [] = omega arith
  fewer_elsewhere (d ∷ ds) = fewer_by d ds (deferred_elsewhere peer ds) (not (same_endpoint d.asked.from peer))
      (fewer_elsewhere ds)

  handed_by : (t : List Call) (d : Deferred) (es : List Deferred) (w : Bool) → Handed t d.asked → AllHanded t es
      → AllHanded t (cond w (d ∷ es) es)
  handed_by t d es true h k = (h, k)
  handed_by t d es false h k = k

  all_elsewhere : (t : List Call) (ds : List Deferred) → AllHanded t ds → AllHanded t (deferred_elsewhere peer ds)
  all_elsewhere t [] h = tt
  all_elsewhere t (d ∷ ds) h = handed_by t d (deferred_elsewhere peer ds) (not (same_endpoint d.asked.from peer)) h.0
      (all_elsewhere t ds h.1)

-- what the words find
pub record Counted (t : List Call) (s : Own) : Type 0 where
  pub count : (a : Asked) → times_answered a t +
      (hits (same_asked a) s.pending + deferred_hits a s.deferred) ≤ times_handed a t
  pub pending : (a : Asked) → s.pending ≡ Some a → Ever (λ b. hands b ≡ Some a) t
  pub deferred : AllHanded t s.deferred
  pub few : length s.deferred ≤ max_deferred

module _ (t : List Call) (s : Own) (known : Counted t s) where
  first_of : (a b : Asked) (rest : ℕ) → a ≡ b → times_answered b t +
      (hits (same_asked b) (Some b) + rest) ≤ times_handed b t → times_answered a t < times_handed a t
  first_of a b rest e h = let k = self_hits b in subst (λ x. times_answered x t < times_handed x t) (sym e)
      (omega (arith, h, k))

  quiet : (c : Call) → responds c ≡ None → Responses t c
  quiet c none = record { handed = λ a h. absurd (cc (h, none)); first = λ a h. absurd (cc (h, none)) }

  incoming_on : (now : ℕ) (from : Endpoint) (bytes : List ℕ) (up : _) (answer : _)
      → Counted (Incoming now from bytes up answer ∷ t) (after s (Incoming now from bytes up answer))
  incoming_on now from bytes up answer = record {
    count = λ a. let k = known.count a in omega (arith, k);
    pending = λ a h. inl h;
    deferred = all_later (Incoming now from bytes up answer) t s.deferred known.deferred;
    few = known.few;
  }

  answers_on : (b : Asked) (r : _) (below : _) → s.pending ≡ Some b
      → Responses t (Answers b r below) × Counted (Answers b r below ∷ t) (after s (Answers b r below))
  answers_on b r below is =
      let here : (a : Asked) → times_answered a t +
      (hits (same_asked a) (Some b) + deferred_hits a s.deferred) ≤ times_handed a t =
      λ a. subst (λ o. times_answered a t + (hits (same_asked a) o + deferred_hits a s.deferred) ≤ times_handed a t) is
      (known.count a) in (
        record {
          handed = λ a h. known.pending a (is ∙ h);
          first = λ a h. let same : b ≡ a = cc h in first_of a b (deferred_hits b s.deferred) (sym same) (here b);
        },
        record {
          count = λ a. let k = here a in omega (arith, k);
          pending = λ a h. absurd (cc h);
          deferred = all_later (Answers b r below) t s.deferred known.deferred;
          few = known.few;
        },
      )

  defers_on : (now : ℕ) (b : Asked) (delay : ℕ) (answer : Bool) → s.pending ≡ Some b → answer ≡ may_defer s.deferred
      → Counted (Defers now b delay answer ∷ t) (after s (Defers now b delay answer))
  defers_on now b delay true is right =
      let d : Deferred = record { asked = b; at = record { 0 = max s.clock now }; delay = delay } in
      record {
        count = λ a.
            let k = subst (λ o. times_answered a t + (hits (same_asked a) o + deferred_hits a s.deferred) ≤ times_handed
            a t) is (known.count a) in
            let l = hits_append a s.deferred d in
            omega (arith, k, l);
        pending = λ a h. absurd (cc h);
        deferred = all_later (Defers now b delay true) t (s.deferred ++ d ∷ [])
            (all_with t s.deferred d known.deferred (known.pending b is));
        few = let l = length_with s.deferred d in let lt =
            ltb-true (length s.deferred) max_deferred (sym right) in omega (arith, l, lt);
      }
  defers_on now b delay false is right = record {
    count = λ a. let k = known.count a in omega (arith, k);
    pending = λ a h. inr (known.pending a h);
    deferred = all_later (Defers now b delay false) t s.deferred known.deferred;
    few = known.few;
  }

  responds_on : (now : ℕ) (b : Asked) (r : _) (word id : ℕ)
      → option_map (λ (d : Deferred). d.asked) (first_ready (max s.clock now) s.separate s.deferred) ≡ Some b
      → Responses t (Responds now b r word id) × Counted (Responds now b r word id ∷ t)
      (after s (Responds now b r word id))
  responds_on now b r word id is =
      let at : ℕ = max s.clock now in
      let left : List Deferred = without_ready at s.separate s.deferred in
      let here : (a : Asked) → times_answered a t +
      (hits (same_asked a) s.pending + (hits (same_asked a) (Some b) + deferred_hits a left)) ≤ times_handed a t =
      λ a. subst (λ n. times_answered a t + (hits (same_asked a) s.pending + n) ≤ times_handed a t)
      (taken_out a b at s.separate s.deferred is) (known.count a) in (
        record {
          handed = λ a h. let same : b ≡ a = cc h in subst (Handed t) same
              (ready_handed t at s.separate b s.deferred known.deferred is);
          first = λ a h. let same : b ≡ a = cc h in first_of a b (hits (same_asked b) s.pending + deferred_hits b left)
              (sym same) (let k = here b in omega (arith, k));
        },
        record {
          count = λ a. let k = here a in omega (arith, k);
          pending = λ a h. absurd (cc h);
          deferred = all_later (Responds now b r word id) t left
              (all_without t at s.separate s.deferred known.deferred);
          few = let l = length_without at s.separate s.deferred in let f = known.few in omega (arith, l, f);
        },
      )

  forgets_on : (peer : Endpoint) → Counted (Forgets peer ∷ t) (after s (Forgets peer))
  forgets_on peer = record {
    count = λ a. let k = known.count a in let l = fewer_hits peer a s.deferred in omega (arith, k, l);
    pending = λ a h. inr (known.pending a h);
    deferred = all_later (Forgets peer) t (deferred_elsewhere peer s.deferred)
        (all_elsewhere peer t s.deferred known.deferred);
    few = let l = fewer_elsewhere peer s.deferred in let f = known.few in omega (arith, l, f);
  }

  on : (c : Call) → IsRight s c → Responses t c × Counted (c ∷ t) (after s c)
  on (Incoming now from bytes up answer) right = (quiet _ refl, incoming_on now from bytes up answer)
  on (Answers b r below) right = answers_on b r below right.0
  on (Defers now b delay answer) right = (quiet _ refl, defers_on now b delay answer right.0 right.2)
  on (Responds now b r word id) right = responds_on now b r word id right.0
  on (Ready now to answer) right = (
    quiet _ refl,
    record {
      count = λ a. let k = known.count a in omega (arith, k);
      pending = λ a h. inr (known.pending a h);
      deferred = all_later (Ready now to answer) t s.deferred known.deferred;
      few = known.few;
    },
  )
  on (Take answer) right = (
    quiet _ refl,
    record {
      count = λ a. let k = known.count a in omega (arith, k);
      pending = λ a h. inr (known.pending a h);
      deferred = all_later (Take answer) t s.deferred known.deferred;
      few = known.few;
    },
  )
  on (Forgets peer) right = (quiet _ refl, forgets_on peer)
  on c right = (
    quiet c refl,
    record {
      count = λ a. let k = known.count a in omega (arith, k);
      pending = λ a h. absurd (cc h);
      deferred = all_later c t s.deferred known.deferred;
      few = known.few;
    },
  )

pub counted : (t : List Call) → AnswererLaw t → AreResponses t × Counted t (own_of t)
counted [] law = (
  tt,
  record {
    count = λ a. omega arith;
    pending = λ a h. absurd (cc h);
    deferred = tt;
    few = omega arith;
  },
)
counted (c ∷ t) law = let earlier = counted t law.1 in let here =
    on t (own_of t) earlier.1 c law.0 in ((here.0, earlier.0), here.1)
