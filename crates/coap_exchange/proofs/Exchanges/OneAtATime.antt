-- Exchanges don't overlap, each ends once, and what is told has the token of the exchange or a kept one.
use Rattle.std.proofs.Common.{◌≡◌, ◌⊎◌, inl, inr, ℕ, Bool, true, false, Option, Some, None, List, [], ◌∷◌, refl, ap}
use Rattle.std.proofs.Common.{sym, subst, ◌∙◌, ◌&&◌, ◌||◌, not}
use Rattle.coap_types.specs.declared.endpoint.Endpoint.{Endpoint}
use Rattle.coap_codec.specs.Message.{Message}
use Rattle.coap_layer.specs.Trace as L
use Rattle.coap_exchange.specs.declared.asker.Event.{Event}
use Rattle.coap_exchange.specs.declared.asker.Event.TheVariants as event
use Rattle.coap_exchange.specs.declared.matching.Verdict.{Verdict}
use Rattle.coap_exchange.specs.declared.matching.Verdict.TheVariants.{AnswerCon, Answer}
use Rattle.coap_exchange.specs.declared.matching.Verdict.TheVariants.{NoticeCon, Notice, EndByReset}
use Rattle.coap_exchange.specs.declared.asker.Exchange.{Exchange}
use Rattle.coap_exchange.specs.AskerTrace.{Request, Own, Call, Ask, Receive, Keep, Release}
use Rattle.coap_exchange.specs.AskerSteps.{IsRight, after}
use Rattle.coap_exchange.specs.AskerArrivals.{told, verdict_on}
use Rattle.coap_exchange.specs.AskerRequests.{opened, opening_of, sent_as}
use Rattle.coap_exchange.specs.AskerLaw.{own_of, AskerLaw}
use Rattle.coap_exchange.specs.AskerFollows.{answered, noticed, ends, Begins, Open, keeps, releases, Kept, AreExchanges}
use Rattle.coap_exchange.specs.Tokens.{same_token, is_kept, may_keep, kept_with, kept_without}
use Rattle.coap_exchange.proofs.Facts.SameToken.{same_token_is, same_token_self}
use Rattle.coap_exchange.proofs.Exchanges.KeptLemmas.{without_is, with_is}
use Rattle.coap_exchange.proofs.Facts.Verdicts.{Fits, verdict_fits}
use Rattle.coap_exchange.proofs.Facts.Moves as move
use Rattle.coap_exchange.proofs.Facts.Moves.{token_in, Moves, moves}
use Rattle.coap_layer.specs.declared.setup.Setup.{Setup}
use Rattle.std.proofs.lemmas.Bool.{and_parts}

-- the exchange that runs is the one that the words find
pub record Runs (t : List Call) (running : Option Exchange) : Type 0 where
  pub opens : (token : List ℕ) → token_in running ≡ Some token → Open token t
  pub runs_it : (token : List ℕ) → Open token t → token_in running ≡ Some token

-- what a call tells of the exchange that runs
pub record Tells (t : List Call) (c : Call) : Type 0 where
  pub alone : (token other : List ℕ) → Begins token c → Open other t → ⊥
  pub of_open : ends c ≡ true → (token : List ℕ) × Open token t
  pub answer : (m : Message) → answered c ≡ Some m → Open m.token t

module _ (t : List Call) (c : Call) (before now : Option Exchange) (runs : Runs t before) where
  runs_on : Moves before now c → Tells t c × Runs (c ∷ t) now
  runs_on (move.starts x b e a none is) = (
    record {
      alone = λ token other h o. absurd (cc (runs.runs_it other o, ap token_in none));
      of_open = λ h. absurd (cc (h, e));
      answer = λ m h. absurd (cc (h, a));
    },
    record {
      opens = λ token h. inl (let k : Some x.token ≡ Some token = sym (ap token_in is) ∙ h in b ∙ k);
      runs_it = λ token o. elim o [
        | inl h ↦ (let k : Some x.token ≡ Some token = sym b ∙ h in ap token_in is ∙ k)
        | inr old ↦ absurd (cc (runs.runs_it token old.1, ap token_in none))
      ];
    },
  )
  runs_on (move.stops x b e a is none) =
      let here : Open x.token t = runs.opens x.token (ap token_in is) in (
        record {
          alone = λ token other h o. absurd (cc (h, b));
          of_open = λ h. (x.token, here);
          answer = λ m h. subst (λ k. Open k t) (sym (a m h)) here;
        },
        record {
          opens = λ token h. absurd (cc (h, ap token_in none));
          runs_it = λ token o. elim o [ inl h ↦ absurd (cc (h, b)) | inr old ↦ absurd (cc (old.0, e)) ];
        },
      )
  runs_on (move.keeps b e a same) = (
    record {
      alone = λ token other h o. absurd (cc (h, b));
      of_open = λ h. absurd (cc (h, e));
      answer = λ m h. absurd (cc (h, a));
    },
    record {
      opens = λ token h. inr (e, runs.opens token (sym same ∙ h));
      runs_it = λ token o. elim o [ inl h ↦ absurd (cc (h, b)) | inr old ↦ same ∙ runs.runs_it token old.1 ];
    },
  )

-- the tokens that are kept are those that the words find
pub record Keeps (t : List Call) (kept : List (List ℕ)) : Type 0 where
  pub held : (token : List ℕ) → is_kept token kept ≡ true → Kept token t
  pub holds : (token : List ℕ) → Kept token t → is_kept token kept ≡ true

or_split : (a b : Bool) → (a || b) ≡ true → (a ≡ true) ⊎ (b ≡ true)
or_split true b h = inl refl
or_split false b h = inr h

or_left : (a b : Bool) → a ≡ true → (a || b) ≡ true
or_left a b h = rw h refl

or_right : (a b : Bool) → b ≡ true → (a || b) ≡ true
or_right true b h = refl
or_right false b h = h

not_is : (b : Bool) → not b ≡ true → b ≡ true → ⊥
not_is true h k = cc h
not_is false h k = cc k

not_of : (b : Bool) → (b ≡ true → ⊥) → not b ≡ true
not_of true f = absurd (f refl)
not_of false f = refl

some_is : (a b : List ℕ) → Some a ≡ Some b → a ≡ b
some_is a b h = cc h

module _ (t : List Call) (kept : List (List ℕ)) (known : Keeps t kept) where
  -- a call that keeps and releases none
  keeps_still : (c : Call) → keeps c ≡ None → releases c ≡ None → Keeps (c ∷ t) kept
  keeps_still c k r = record {
    held = λ token h. inr ((λ z. absurd (cc (z, r))), known.held token h);
    holds = λ token h. elim h [ inl z ↦ absurd (cc (z, k)) | inr old ↦ known.holds token old.1 ];
  }

  keep_on : (token : List ℕ) (answer b : Bool) → answer ≡ b → answer ≡ may_keep token kept
      → Keeps (Keep token answer ∷ t) (kept_with token kept)
  keep_on token answer true is right =
      let may : may_keep token kept ≡ true = sym right ∙ is in
      let k : keeps (Keep token answer) ≡ Some token = ap (λ a. keeps (Keep token a)) is in
      record {
        held = λ other h. elim (or_split _ _ (sym (with_is token other kept) ∙ h)) [
          | inl old ↦ inr ((λ z. absurd (cc z)), known.held other old)
          | inr new ↦ inl (k ∙ ap (λ x. Some x) (sym (same_token_is other token (and_parts _ _ new).1)))
        ];
        holds = λ other h. with_is token other kept ∙ elim h [
          | inl z ↦ (let same : token ≡ other = some_is token other (sym k ∙ z) in
              or_right (is_kept other kept) _ (ap (λ m. m && same_token other token) may
              ∙ subst (λ x. same_token x token ≡ true) same (same_token_self token)))
          | inr old ↦ or_left _ _ (known.holds other old.1)
        ];
      }
  keep_on token answer false is right =
      let may : may_keep token kept ≡ false = sym right ∙ is in
      let k : keeps (Keep token answer) ≡ None = ap (λ a. keeps (Keep token a)) is in
      let same : (other : List ℕ) → is_kept other (kept_with token kept)
      ≡ (is_kept other kept || (false && same_token other token)) = λ other. with_is token other kept
      ∙ ap (λ m. is_kept other kept || (m && same_token other token)) may in
      record {
        held = λ other h. elim (or_split _ _ (sym (same other) ∙ h))
            [ inl old ↦ inr ((λ z. absurd (cc z)), known.held other old) | inr new ↦ absurd (cc new) ];
        holds = λ other h. same other ∙ elim h [
          | inl z ↦ absurd (cc (z, k))
          | inr old ↦ or_left _ _
              (known.holds other old.1)
        ];
      }

  release_on : (token : List ℕ) (answer b : Bool) → answer ≡ b → answer ≡ is_kept token kept
      → Keeps (Release token answer ∷ t) (kept_without token kept)
  release_on token answer true is right =
      let r : releases (Release token answer) ≡ Some token = ap (λ a. releases (Release token a)) is in
      record {
        held = λ other h. let p = and_parts (not (same_token token other)) (is_kept other kept)
            (sym (without_is token other kept) ∙ h) in
            inr (
              (λ z. let same : token ≡ other = some_is token other (sym r ∙ z) in not_is _ p.0
                  (subst (λ x. same_token token x ≡ true) same (same_token_self token))),
              known.held other p.1,
            );
        holds = λ other h. elim h [
          | inl z ↦ absurd (cc z)
          | inr old ↦ without_is token other kept ∙ (ap (λ b. b && is_kept other kept)
              (not_of (same_token token other) (λ z. old.0 (r ∙ ap (λ x. Some x) (same_token_is token other z))))
              ∙ known.holds other old.1)
        ];
      }
  release_on token answer false is right =
      let r : releases (Release token answer) ≡ None = ap (λ a. releases (Release token a)) is in
      let not_kept : is_kept token kept ≡ false = sym right ∙ is in
      record {
        held = λ other h. let p = and_parts (not (same_token token other)) (is_kept other kept)
            (sym (without_is token other kept) ∙ h) in inr ((λ z. absurd (cc (z, r))), known.held other p.1);
        holds = λ other h. elim h [
          | inl z ↦ absurd (cc z)
          | inr old ↦ without_is token other kept
              ∙ (ap (λ b. b && is_kept other kept) (not_of (same_token token other)
              (λ z. let e = known.holds other old.1 in cc
              (not_kept, subst (λ x. is_kept x kept ≡ true) (sym (same_token_is token other z)) e)))
              ∙ known.holds other old.1)
        ];
      }

pub opened_kept : (s : Own) (r : Request) (o : Option ℕ) → (opened s r o).kept ≡ s.kept
opened_kept s r None = refl
opened_kept s r (Some id) = refl

keeps_next : (s : Own) (t : List Call) (c : Call) → IsRight s c → Keeps t s.kept → Keeps (c ∷ t) (after s c).kept
keeps_next s t (Ask now r word below answer) right k =
    subst (Keeps _) (sym (opened_kept s r (sent_as (opening_of s r) below))) (keeps_still t s.kept k _ refl refl)
keeps_next s t (Keep token answer) right k = keep_on t s.kept k token answer answer refl right
keeps_next s t (Release token answer) right k = release_on t s.kept k token answer answer refl right
keeps_next s t _ right k = keeps_still t s.kept k _ refl refl

-- a notification has a kept token
module _ (s : Own) (t : List Call) (k : Keeps t s.kept) (now : ℕ) (from : Endpoint) (bytes : List ℕ) (up : L.Answer)
    (settled : Bool) (answer : Option Event) (m : Message) where
  abbrev told_of : Option Event → Option Message
  told_of a = noticed (Receive now from bytes up settled a)

  not_noticed : (a : Option Event) → answer ≡ a → told_of a ≡ None → told_of answer ≡ Some m → Kept m.token t
  not_noticed a is none h = let e : told_of answer ≡ None = ap told_of is ∙ none in absurd (cc (e, h))

  as_noticed : (n : Message) → answer ≡ Some (event.Notice n) → is_kept n.token s.kept ≡ true → told_of answer ≡ Some m
      → Kept m.token t
  as_noticed n is kept h = let e : Some n ≡ Some m = sym (ap told_of is)
      ∙ h in let same : n ≡ m = cc e in subst (λ (x : Message). Kept x.token t) same (k.held n.token kept)

  notice_by : (v : Verdict) → Fits s from up v → answer ≡ told v up → told_of answer ≡ Some m → Kept m.token t
  notice_by EndByReset f right h = not_noticed _ right refl h
  notice_by AnswerCon f right h = not_noticed _ (right ∙ ap (told AnswerCon) f.is) refl h
  notice_by Answer f right h = not_noticed _ (right ∙ ap (told Answer) f.is) refl h
  notice_by NoticeCon f right h = as_noticed f.message (right ∙ ap (told NoticeCon) f.is) f.kept h
  notice_by Notice f right h = as_noticed f.message (right ∙ ap (told Notice) f.is) f.kept h
  notice_by _ f right h = not_noticed None right refl h

notice_of : (s : Own) (t : List Call) (c : Call) → IsRight s c → Keeps t s.kept → (m : Message) → noticed c ≡ Some m
    → Kept m.token t
notice_of s t (Receive now from bytes up settled answer) right k m h =
    notice_by s t k now from bytes up settled answer m (verdict_on s from up) (verdict_fits s from up) right h
notice_of s t _ right k m h = absurd (cc h)

-- what the words find
pub record Known (t : List Call) (s : Own) : Type 0 where
  pub runs : Runs t s.running
  pub keeps_them : Keeps t s.kept

pub known : (server : Endpoint) (setup : Setup) (t : List Call) → AskerLaw server setup t
    → AreExchanges t × Known t (own_of server setup t)
known server setup [] law = (
  tt,
  record {
    runs = record { opens = λ token h. absurd (cc h); runs_it = λ token o. absurd o };
    keeps_them = record { held = λ token h. absurd (cc h); holds = λ token h. absurd h };
  },
)
known server setup (c ∷ t) law =
    let earlier = known server setup t law.1 in
    let s : Own = own_of server setup t in
    let here = runs_on t c s.running (after s c).running earlier.1.runs (moves s c law.0) in (
      (
        record {
          alone = here.0.alone;
          of_open = here.0.of_open;
          answer = here.0.answer;
          notice = notice_of s t c law.0 earlier.1.keeps_them;
        },
        earlier.0,
      ),
      record { runs = here.1; keeps_them = keeps_next s t c law.0 earlier.1.keeps_them },
    )
