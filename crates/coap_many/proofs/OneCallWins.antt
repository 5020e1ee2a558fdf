-- Of all calls of all clients that ask for one entity-tag of a path at most one is applied.
use Rattle.std.proofs.Common.{◌≡◌, ◌⊎◌, ◌+◌, inl, inr, ℕ, Bool, true, false, not, ◌||◌, Option, Some, None, List, []}
use Rattle.std.proofs.Common.{◌∷◌}
use Rattle.std.proofs.Common.{◌++◌, map, refl, sym, ap, subst, ◌∙◌}
use Rattle.std.specs.Cmp.Lexicographic.{bytes_decides}
use Rattle.coap_types.specs.CoapOption.{option}
use Rattle.coap_types.specs.Past.{Sometime, Always}
use Rattle.coap_types.specs.declared.option_number.TheConstants.{IF_MATCH as if_match, IF_NONE_MATCH as if_none_match}
use Rattle.coap_types.specs.declared.request.Method.{Method}
use Rattle.coap_types.specs.declared.request.Method.TheVariants.{Get, Post, Put, Delete}
use Rattle.coap_resource.specs.Content.{Held}
use Rattle.coap_resource.specs.RequestOptions.{precondition_fails, is_tag_of, tag_of}
use Rattle.coap_client.specs.Requests.{flag_option}
use Rattle.coap_client.specs.Trace.{Request}
use Rattle.coap_client_laws.specs.Follows.Numbers.{NumbersOnce}
use Rattle.coap_server.specs.Follows.Serves.{Serving}
use Rattle.coap_many.proofs.Promises.{Promises}
use Rattle.coap_promise.specs.Applied.{Does, conditions_of}
use Rattle.coap_many.specs.Agrees.{IsOf}
use Rattle.coap_many.specs.Clients.{Client, Config, IsClient, world_of}
use Rattle.coap_many.specs.Entries.{Entry, OfClient, OfServer, client_of}
use Rattle.coap_many.specs.View.{view_entries}
use Rattle.coap_many.specs.Winners.{OneCallWins, Wins}
use Rattle.coap_many.specs.Words.{SentFor, holds_at, changes_in}
use Rattle.coap_many.proofs.Entries.{client_view}
use Rattle.coap_many.proofs.OneRequest.{one_request, numbers_back}
use Rattle.coap_many.proofs.OneWinner.{Won, Win, never_again}
use Rattle.coap_many.proofs.ServerTrace.{Rows, Stamped, rows_back, stamped_back}
use Rattle.coap_many.proofs.Wholes.{Law, wholes}

-- what a condition on one tag says of what is held
asked : (o : Option Held) (tag : List ℕ) (b : Bool) → (tag ≡ [] → ⊥)
    → precondition_fails o (option if_match tag ∷ flag_option if_none_match b) ≡ false
    → (h : Held) × (o ≡ Some h) × (tag ≡ tag_of h.version)
asked None tag b some h = absurd (cc h)
asked (Some held) [] b some h = absurd (some refl)
asked (Some held) (x ∷ tag) true some h = by (is_tag_of held.version (x ∷ tag)) refl h
  where
    by : (m : Bool) → is_tag_of held.version (x ∷ tag) ≡ m → (not (m || false) || true) ≡ false
        → (h : Held) × (Some held ≡ Some h) × ((x ∷ tag) ≡ tag_of h.version)
    by true e f = (held, refl, (bytes_decides (x ∷ tag) (tag_of held.version)).0 e)
    by false e f = absurd (cc f)
asked (Some held) (x ∷ tag) false some h = by (is_tag_of held.version (x ∷ tag)) refl h
  where
    by : (m : Bool) → is_tag_of held.version (x ∷ tag) ≡ m → (not (m || false) || false) ≡ false
        → (h : Held) × (Some held ≡ Some h) × ((x ∷ tag) ≡ tag_of h.version)
    by true e f = (held, refl, (bytes_decides (x ∷ tag) (tag_of held.version)).0 e)
    by false e f = absurd (cc f)

leaves : (m : Method) (r : Request) (v : ℕ) (before after : Option Held) → Does m r r.body v before after
    → (after ≡ None) ⊎ ((g : Held) × (after ≡ Some g) × (g.version ≡ v))
leaves Get r v before after h = absurd h
leaves Put r v before after h = inr (_, h, refl)
leaves Post r v before after h = inr (_, h.2, refl)
leaves Delete r v before after h = inl h

module _ (config : Config) where
  module _ (k : Client) (m : ℕ) (all : List Entry) where
    won : (path : List (List ℕ)) (tag : List ℕ) (past : List Entry) (e : Entry) → (tag ≡ [] → ⊥)
        → NumbersOnce (client_of k.at past) → Law config k m all past e → Wins config k m path tag all past e
        → Won config path tag past e
    won path tag past e some once law w =
        let whole = law w.applies in
        let same : whole.request ≡ w.request = one_request (client_of k.at past) once m whole.request w.request
        whole.called w.called in
        let r = w.request in
        let conditions : precondition_fails (holds_at config r.path past) (conditions_of r) ≡ false =
        subst (λ q. precondition_fails (holds_at config q.path past) (conditions_of q) ≡ false) same whole.conditions in
        let at_path : precondition_fails (holds_at config path past) (option if_match tag ∷
        flag_option if_none_match r.if_none_match) ≡ false =
        ap (λ ts. precondition_fails (holds_at config path past) (map (option if_match) ts
        ++ flag_option if_none_match r.if_none_match)) (sym w.condition)
        ∙ subst (λ p. precondition_fails (holds_at config p past) (conditions_of r) ≡ false) w.path_is conditions in
        let held = asked (holds_at config path past) tag r.if_none_match some at_path in
        let does = leaves whole.request.method whole.request (changes_in config past + 1)
        (holds_at config whole.request.path past) (holds_at config whole.request.path (e ∷ past)) whole.does in
        record {
          held = held.0;
          there = held.1;
          tag_is = held.2;
          left = subst (λ p. (holds_at config p (e ∷ past) ≡ None)
              ⊎ ((g : Held) × (holds_at config p (e ∷ past) ≡ Some g) × (g.version ≡ changes_in config past + 1)))
              (ap (λ (q : Request). q.path) same ∙ w.path_is) does;
        }

    all_win : (path : List (List ℕ)) (tag : List ℕ) → (tag ≡ [] → ⊥) → (es : List Entry)
        → NumbersOnce (client_of k.at es)
        → Always (Law config k m all) es → Win config path tag (Wins config k m path tag all) es
    all_win path tag some [] once law = tt
    all_win path tag some (e ∷ past) once law = (
      (λ w. won path tag past e some (numbers_back k e past once) law.0 w),
      all_win path tag some past (numbers_back k e past once) law.1,
    )

  module _ (all : List Entry) (k l : Client) (of_k : IsClient config k) (of_l : IsClient config l) (m n : ℕ)
      (path : List (List ℕ)) (tag : List ℕ)
      (one : (x : Serving) → IsOf config x all k m → IsOf config x all l n → (k ≡ l) × (m ≡ n)) where
    -- at one entry one request is served
    at_one : (past : List Entry) (e : Entry) → Wins config k m path tag all past e → Wins config l n path tag all past e
        → (k ≡ l) × (m ≡ n)
    at_one past (OfClient who c) a b = absurd a.applies.here
    at_one past (OfServer c) a b =
        let z : Some a.applies.request ≡ Some b.applies.request = sym a.applies.here ∙ b.applies.here in
        let same : a.applies.request ≡ b.applies.request = cc z in
        one a.applies.request (of_k, a.applies.from, a.applies.belongs) (
          of_l,
          ap (λ (x : Serving). x.asked.from) same ∙ b.applies.from,
          subst (λ (x : Serving). SentFor l n x.asked.token all) (sym same) b.applies.belongs,
        )

    go : (es : List Entry) → Rows config es → Stamped config es
        → Win config path tag (Wins config k m path tag all) es → Win config path tag (Wins config l n path tag all) es
        → Sometime (Wins config k m path tag all) es → Sometime (Wins config l n path tag all) es → (k ≡ l) × (m ≡ n)
    go [] rows stamps of_first of_second a b = absurd a
    go (e ∷ past) rows stamps of_first of_second (inl a) (inl b) = at_one past e a b
    go (e ∷ past) rows stamps of_first of_second (inl a) (inr b) =
        absurd (never_again config path tag (Wins config l n path tag all) e past (rows_back config e past rows)
        (stamped_back config e past stamps) of_second.1 (of_first.0 a) b)
    go (e ∷ past) rows stamps of_first of_second (inr a) (inl b) =
        absurd (never_again config path tag (Wins config k m path tag all) e past (rows_back config e past rows)
        (stamped_back config e past stamps) of_first.1 (of_second.0 b) a)
    go (e ∷ past) rows stamps of_first of_second (inr a) (inr b) =
        go past (rows_back config e past rows) (stamped_back config e past stamps) of_first.1 of_second.1 a b

  pub one_call_wins : (all : List Entry) → Rows config all → Stamped config all
      → ((k : Client) → IsClient config k → Promises (world_of config k) (view_entries k.at all))
      → ((k l : Client) (m n : ℕ) (x : Serving) → IsOf config x all k m → IsOf config x all l n → (k ≡ l) × (m ≡ n))
      → OneCallWins config all
  one_call_wins all rows stamps agrees one k l of_k of_l m n path tag some a b =
      go all k l of_k of_l m n path tag (one k l m n) all rows stamps
      (all_win k m all path tag some all (subst NumbersOnce (client_view k.at all) (agrees k of_k).one_number)
      (wholes config k m all (agrees k of_k)))
      (all_win l n all path tag some all (subst NumbersOnce (client_view l.at all) (agrees l of_l).one_number)
      (wholes config l n all (agrees l of_l))) a b
