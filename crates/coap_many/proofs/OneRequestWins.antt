-- Of all requests that ask for one entity-tag of a path, from whatever address, at most one is applied.
use Rattle.std.proofs.Common.{◌≡◌, ◌⊎◌, ◌+◌, inl, inr, ℕ, Bool, true, false, not, ◌||◌, ◌&&◌, ◌==◌, Option, Some, None}
use Rattle.std.proofs.Common.{List}
use Rattle.std.proofs.Common.{[], ◌∷◌, is_some, refl, sym, ap, subst, ◌∙◌, if◌then◌else◌}
use Rattle.std.specs.Cmp.Lexicographic.{bytes_decides}
use Rattle.coap_types.specs.CoapOption.{CoapOption}
use Rattle.coap_types.specs.OptionValues.{has, value_of}
use Rattle.coap_types.specs.Past.{Always, Sometime}
use Rattle.coap_types.specs.declared.option_number.TheConstants.{IF_MATCH as if_match, IF_NONE_MATCH as if_none_match}
use Rattle.coap_types.specs.declared.request.Method.{Method}
use Rattle.coap_types.specs.declared.request.Method.TheVariants.{Get, Post, Put, Delete}
use Rattle.coap_resource.specs.Content.{Content, Held}
use Rattle.coap_resource.specs.RequestOptions.{precondition_fails, if_match_names, matches, is_tag_of, tag_of}
use Rattle.coap_resource.specs.Serves.{Question}
use Rattle.coap_exchange.specs.declared.answerer.Due.TheVariants as due
use Rattle.coap_server.specs.Follows.Holds.{AllServed, Does}
use Rattle.coap_server.specs.Follows.Serves.{Serving, serving, serving_of}
use Rattle.coap_server.specs.Handling.{incoming, ticking, heard}
use Rattle.coap_server.specs.Law.{own_of}
use Rattle.coap_server.specs.Steps.{after}
use Rattle.coap_server.specs.Trace as S
use Rattle.coap_server.specs.Trace.{Own, Feeds, Ticks, Serves}
use Rattle.coap_server.proofs.Facts.Holds.{version_is}
use Rattle.coap_many.specs.Clients.{Config}
use Rattle.coap_many.specs.Entries.{Entry, OfClient, OfServer, server_trace}
use Rattle.coap_many.specs.Winners.{OneRequestWins, WinsHere, values_of}
use Rattle.coap_many.specs.Words.{holds_at, changes_in}
use Rattle.coap_many.proofs.OneWinner.{Won, Win, never_again}
use Rattle.coap_many.proofs.ServerTrace.{Rows, Stamped, rows_back, stamped_back}

-- the values of If-Match

abbrev is_any : List (List ℕ) → Bool
is_any [] = false
is_any (t ∷ ts) = true

abbrev any_matches : ℕ → List (List ℕ) → Bool
any_matches v [] = false
any_matches v (t ∷ ts) = matches v t || any_matches v ts

has_values : (os : List CoapOption) → has if_match os ≡ is_any (values_of if_match os)
has_values [] = refl
has_values (o ∷ os) = by (o.number == if_match) (has_values os)
  where
    by : (b : Bool) → has if_match os ≡ is_any (values_of if_match os)
        → is_some (if b then Some o.value else value_of if_match os)
        ≡ is_any (if b then o.value ∷ values_of if_match os else values_of if_match os)
    by true r = refl
    by false r = r

names_values : (v : ℕ) (os : List CoapOption) → if_match_names v os ≡ any_matches v (values_of if_match os)
names_values v [] = refl
names_values v (o ∷ os) = by (o.number == if_match) (names_values v os)
  where
    by : (b : Bool) → if_match_names v os ≡ any_matches v (values_of if_match os)
        → ((b && matches v o.value) || if_match_names v os)
        ≡ any_matches v (if b then o.value ∷ values_of if_match os else values_of if_match os)
    by true r = ap (λ x. matches v o.value || x) r
    by false r = r

-- what a condition on one tag says of what is held
asked : (o : Option Held) (os : List CoapOption) (tag : List ℕ) → (tag ≡ [] → ⊥) → values_of if_match os ≡ tag ∷ []
    → precondition_fails o os ≡ false → (h : Held) × (o ≡ Some h) × (tag ≡ tag_of h.version)
asked None os tag some is h =
    let e : true ≡ false = sym (has_values os ∙ ap is_any is) ∙ h in absurd (cc e)
asked (Some held) os [] some is h = absurd (some refl)
asked (Some held) os (x ∷ tag) some is h = by (is_tag_of held.version (x ∷ tag)) refl
    (sym (ap (λ b. (b && not (if_match_names held.version os)) || has if_none_match os) (has_values os ∙ ap is_any is)
    ∙ ap (λ b. not b || has if_none_match os) (names_values held.version os ∙ ap (any_matches held.version) is)) ∙ h)
  where
    by : (m : Bool) → is_tag_of held.version (x ∷ tag) ≡ m
        → (not (is_tag_of held.version (x ∷ tag) || false) || has if_none_match os) ≡ false
        → (h : Held) × (Some held ≡ Some h) × ((x ∷ tag) ≡ tag_of h.version)
    by true e f = (held, refl, (bytes_decides (x ∷ tag) (tag_of held.version)).0 e)
    by false e f =
        let k : true ≡ false = sym (ap (λ b. not (b || false) || has if_none_match os) e) ∙ f in absurd (cc k)

-- the store that serves is the server's
pub record Stored (s : Own) (c : S.Call) (x : Serving) : Type 0 where
  pub old : x.old ≡ s.store
  pub left : (after s c).store ≡ x.left

of_it : (s : Own) (c : S.Call) (x y : Serving) → Some x ≡ Some y → Stored s c x → Stored s c y
of_it s c x y h k = let same : x ≡ y = cc h in subst (Stored s c) same k

pub stored : (s : Own) (c : S.Call) (x : Serving) → serving s c ≡ Some x → Stored s c x
stored s (Feeds now from bytes word up (Some p) (Serves q reply left) below) x h =
    let w : Own = heard s now (incoming s now from bytes up (Some p)) in
    of_it s (Feeds now from bytes word up (Some p) (Serves q reply left) below) (serving_of w p.0 q reply left) x h
    (record { old = refl; left = refl })
stored s (Ticks now word below room (due.Ready a) passed (Serves q reply left) id answer) x h =
    let w : Own = heard s now (ticking s now below room (due.Ready a)) in
    of_it s (Ticks now word below room (due.Ready a) passed (Serves q reply left) id answer)
    (serving_of w a q reply left) x h (record { old = refl; left = refl })
stored s _ x e = absurd (cc e)

-- what is applied leaves nothing, or something of the next version
leaves : (m : Method) (q : Question) (old left : Content) → Does m q old left
    → (left.holds q.path ≡ None) ⊎ ((g : Held) × (left.holds q.path ≡ Some g) × (g.version ≡ old.tally.version + 1))
leaves Get q old left h = absurd h
leaves Put q old left h = inr (_, h, refl)
leaves Post q old left h = inr (_, h.2, refl)
leaves Delete q old left h = inl h

module _ (config : Config) (path : List (List ℕ)) (tag : List ℕ) (some : tag ≡ [] → ⊥) where
  abbrev Served : List Entry → Type 0
  Served es = AllServed config.limits config.szx (server_trace config es)

  served_back : (e : Entry) (past : List Entry) → Served (e ∷ past) → Served past
  served_back (OfClient who c) past h = h
  served_back (OfServer c) past h = h.1

  won : (past : List Entry) (e : Entry) → Rows config past → Served (e ∷ past) → WinsHere config path tag past e
      → Won config path tag past e
  won past (OfClient who c) rows served w = absurd w.here
  won past (OfServer c) rows served w =
      let x = w.request in
      let s : Own = own_of config.limits config.szx (server_trace config past) in
      let there = stored s c x w.here in
      let whole = served.0.applied x w.here w.applied in
      let held = asked (x.old.holds x.question.path) x.question.options tag some w.condition whole.preconditions in
      let left = leaves x.question.method x.question x.old x.left whole.does in
      let before : x.old.holds path ≡ holds_at config path past = ap (λ (o : Content). o.holds path) there.old in
      let after : x.left.holds path ≡ holds_at config path (OfServer c ∷ past) =
      sym (ap (λ (o : Content). o.holds path) there.left) in
      let version : x.old.tally.version ≡ changes_in config past = ap (λ (o : Content). o.tally.version) there.old
      ∙ version_is config.limits config.szx (server_trace config past) rows in
      record {
        held = held.0;
        there = sym before ∙ ap x.old.holds (sym w.path_is) ∙ held.1;
        tag_is = held.2;
        left = subst (λ n. (holds_at config path (OfServer c ∷ past) ≡ None)
            ⊎ ((g : Held) × (holds_at config path (OfServer c ∷ past) ≡ Some g) × (g.version ≡ n + 1))) version
            (subst (λ o. (o ≡ None) ⊎ ((g : Held) × (o ≡ Some g) × (g.version ≡ x.old.tally.version + 1)))
            (ap x.left.holds w.path_is ∙ after) left);
      }

  all_win : (es : List Entry) → Rows config es → Served es → Win config path tag (WinsHere config path tag) es
  all_win [] rows served = tt
  all_win (e ∷ past) rows served = (
    (λ w. won past e (rows_back config e past rows) served w),
    all_win past (rows_back config e past rows) (served_back e past served),
  )

  pub one_request : (es : List Entry) → Rows config es → Stamped config es → Served es
      → Always (λ past e. WinsHere config path tag past e → Sometime (WinsHere config path tag) past → ⊥) es
  one_request es rows stamps served = go es rows stamps (all_win es rows served)
    where
      go : (es : List Entry) → Rows config es → Stamped config es → Win config path tag (WinsHere config path tag) es
          → Always (λ past e. WinsHere config path tag past e → Sometime (WinsHere config path tag) past → ⊥) es
      go [] rows stamps wins = tt
      go (e ∷ past) rows stamps wins = (
        (λ w s. never_again config path tag (WinsHere config path tag) e past (rows_back config e past rows)
            (stamped_back config e past stamps) wins.1 (wins.0 w) s),
        go past (rows_back config e past rows) (stamped_back config e past stamps) wins.1,
      )

pub one_request_wins : (config : Config) (all : List Entry) → Rows config all → Stamped config all
    → AllServed config.limits config.szx (server_trace config all) → OneRequestWins config all
one_request_wins config all rows stamps served path tag some = one_request config path tag some all rows stamps served
