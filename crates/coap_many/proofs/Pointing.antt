-- Where what a client of many reads was held: a call's body or valid version, and an observation's value.
use Rattle.std.proofs.Common.{◌≡◌, inl, inr, ⊎_elim, ℕ, Bool, true, false, Ok, if◌then◌else◌, Option, Some, List, []}
use Rattle.std.proofs.Common.{◌∷◌}
use Rattle.std.proofs.Common.{◌++◌, refl, sym, ap, subst, ◌∙◌}
use Rattle.coap_types.specs.Past.{Ever, Sometime, Always}
use Rattle.coap_types.specs.SameEndpoint.{same_endpoint}
use Rattle.coap_resource.specs.Content.{Held}
use Rattle.coap_resource.specs.RequestOptions.{tag_of}
use Rattle.coap_client.specs.Trace as C
use Rattle.coap_client.specs.Trace.{Request, Report, Body, Valid, Value}
use Rattle.coap_client_laws.specs.Follows.Numbers.{NumbersOnce, number_given}
use Rattle.coap_client_laws.specs.Follows.OfObservations as O
use Rattle.coap_server_laws.proofs.Facts.EachCall.{held_small}
use Rattle.coap_many.proofs.Promises.{Promises}
use Rattle.coap_promise.specs.Held.{ValueSince}
use Rattle.coap_promise.specs.Rising.{Names}
use Rattle.coap_many.specs.Clients.{Client, Config, IsClient, world_of}
use Rattle.coap_many.specs.Reads.{Reads, Tells}
use Rattle.coap_many.specs.Entries.{Entry, OfClient, OfServer, client_of, server_trace}
use Rattle.coap_many.specs.View.{view_entries}
use Rattle.coap_many.specs.Words.{WasCalled, ReportsAt, last_at}
use Rattle.coap_many.specs.Points.{Effect, IsDefinite, Shows}
use Rattle.coap_many.proofs.Entries.{client_view}
use Rattle.coap_many.proofs.InOrder.{HoldsV}
use Rattle.coap_many.proofs.OneRequest.{one_request, numbers_back, called_still}
use Rattle.coap_many.proofs.OneWinner.{one_version}
use Rattle.coap_many.proofs.Pointed.{has_point, from_view}
use Rattle.coap_many.proofs.ServerTrace.{Stamped, stamped_back}
use Rattle.coap_many.proofs.Told.{last_is}

module _ (config : Config) (all : List Entry)
    (agrees : (k : Client) → IsClient config k → Promises (world_of config k) (view_entries k.at all)) where
  -- what an observation shows was held
  pub record ShowsValue (k : Client) (number : ℕ) (tag : Option (List ℕ)) (past : List Entry) (e : Entry) : Type 0 where
    path : List (List ℕ)
    observed : O.WasObserved (record { number = number; path = path }) (client_of k.at past)
    held : Held
    tag_is : tag ≡ Some (tag_of held.version)
    there : last_at config path (e ∷ past) ≡ Some held

  value_points : (k : Client) → IsClient config k → (number sequence : ℕ) (tag : Option (List ℕ)) (format : Option ℕ)
      (body : List ℕ) → Always (λ past e. ReportsAt k (record {
        number = number;
        report = Value sequence tag format body;
      })
      past e → Sometime (ShowsValue k number tag) past) all
  value_points k client number sequence tag format body =
      from_view config k all (agrees k client) number (Value sequence tag format body)
      (ValueSince (world_of config k) number sequence tag format body) (ShowsValue k number tag)
      (λ past c h. record {
        path = h.path;
        observed = subst (O.WasObserved (record { number = number; path = h.path })) (client_view k.at past) h.observed;
        held = record { version = h.version; format = format; body = body };
        tag_is = h.holds.tag_is;
        there = sym (last_is config k h.path past) ∙ h.holds.there;
      })
      (λ past c h. record {
        path = h.path;
        observed = subst (O.WasObserved (record { number = number; path = h.path })) (client_view k.at past) h.observed;
        held = record { version = h.version; format = format; body = body };
        tag_is = h.holds.tag_is;
        there = sym (last_is config k h.path (OfServer c ∷ past)) ∙ h.holds.there;
      })
      ((agrees k client).each_value number sequence tag format body)

  -- of one request, or of one observation, and under one tag
  record Pointed (T : List Entry → Type 0) (path : List (List ℕ)) (tag : Option (List ℕ)) (past : List Entry)
      (e : Entry)
      : Type 0 where
    begun : T past
    held : Held
    tag_is : tag ≡ Some (tag_of held.version)
    there : last_at config path (e ∷ past) ≡ Some held

  -- a tag says the version
  named : (T : List Entry → Type 0) (path : List (List ℕ)) (tag : Option (List ℕ)) (v : ℕ) → Names v tag
      → (es : List Entry) → Stamped config es → Sometime (Pointed T path tag) es
      → Sometime (λ past e. T past × HoldsV config path v past e) es
  named T path tag v names [] stamps h = h
  named T path tag v names (e ∷ past) stamps (inl h) =
      let is : Some (tag_of v) ≡ Some (tag_of h.held.version) = sym names.is ∙ h.tag_is in
      let same : tag_of v ≡ tag_of h.held.version = cc is in
      inl (
        h.begun,
        record {
          held = h.held;
          there = h.there;
          version_is = one_version h.held.version v (tag_of h.held.version)
              (held_small config.limits config.szx path h.held (server_trace config (e ∷ past)) stamps h.there)
              names.small
              refl (sym same);
        },
      )
  named T path tag v names (e ∷ past) stamps (inr h) =
      inr (named T path tag v names past (stamped_back config e past stamps) h)

  -- a call's reads
  module _ (k : Client) (m : ℕ) where
    abbrev AnyShows : Option (List ℕ) → List Entry → Entry → Type 0
    AnyShows tag past e = (r : Request) × (held : Held) × Shows config k m tag held r past e

    record OfOne (tag : Option (List ℕ)) (es : List Entry) : Type 0 where
      r : Request
      called : WasCalled k m r es
      there : Sometime (Pointed (λ t. WasCalled k m r t) r.path tag) es

    of_one : (tag : Option (List ℕ)) (es : List Entry) → Sometime (AnyShows tag) es → OfOne tag es
    of_one tag [] h = absurd h
    of_one tag (e ∷ past) (inl h) = record {
      r = h.0;
      called = called_still k m h.0 e past h.2.called;
      there = inl (record { begun = h.2.called; held = h.1; tag_is = h.2.tag_is; there = h.2.there });
    }
    of_one tag (e ∷ past) (inr h) =
        let o = of_one tag past h in
        record { r = o.r; called = called_still k m o.r e past o.called; there = inr o.there }

    reads_at : (path : List (List ℕ)) (v : ℕ) (tag : Option (List ℕ)) (request : Request) → Names v tag
        → (past : List Entry) → Stamped config past → NumbersOnce (client_of k.at past) → WasCalled k m request past
        → request.path ≡ path → Sometime (AnyShows tag) past
        → Sometime (λ p x. WasCalled k m request p × HoldsV config path v p x) past
    reads_at path v tag request names past stamps once called path_is h =
        let o = of_one tag past h in
        let same : o.r ≡ request = one_request (client_of k.at past) once m o.r request o.called called in
        subst (λ q. Sometime (λ p x. WasCalled k m request p × HoldsV config q v p x) past) path_is
        (named (λ t. WasCalled k m request t) request.path tag v names past stamps
        (subst (λ (q : Request). Sometime (Pointed (λ t. WasCalled k m q t) q.path tag) past) same o.there))

  -- an observation's values

  pub observed_still : (k : Client) (n : ℕ) (path : List (List ℕ)) (e : Entry) (past : List Entry)
      → O.WasObserved (record { number = n; path = path }) (client_of k.at past)
      → O.WasObserved (record { number = n; path = path }) (client_of k.at (e ∷ past))
  observed_still k n path (OfServer c) past h = h
  observed_still k n path (OfClient who c) past h = by (same_endpoint who k.at)
    where
      by : (b : Bool) → O.WasObserved (record { number = n; path = path })
          ((if b then c ∷ [] else []) ++ client_of k.at past)
      by true = inr h
      by false = h

  given_of : (c : C.Call) (n : ℕ) (path : List (List ℕ)) → O.observes c ≡ Some (record { number = n; path = path })
      → number_given c ≡ Some n
  given_of (C.Observes now p (Ok m)) n path h =
      let f : ◌≡◌ {A = O.Observed} (record { number = m; path = p }) (record { number = n; path = path }) = cc h in
      ap (λ (x : O.Observed). Some x.number) f
  given_of _ n path h = absurd (cc h)

  ever_given : (t : List C.Call) (n : ℕ) (path : List (List ℕ)) → O.WasObserved (record { number = n; path = path }) t
      → Ever (λ c. number_given c ≡ Some n) t
  ever_given [] n path h = h
  ever_given (c ∷ t) n path (inl h) = inl (given_of c n path h)
  ever_given (c ∷ t) n path (inr h) = inr (ever_given t n path h)

  one_path : (t : List C.Call) → NumbersOnce t → (n : ℕ) (p q : List (List ℕ))
      → O.WasObserved (record { number = n; path = p }) t → O.WasObserved (record { number = n; path = q }) t → p ≡ q
  one_path [] law n p q a b = absurd a
  one_path (c ∷ t) law n p q (inl a) (inl b) =
      let e : ◌≡◌ {A = Option O.Observed} (Some (record { number = n; path = p }))
      (Some (record { number = n; path = q })) =
      sym a ∙ b in
      let f : ◌≡◌ {A = O.Observed} (record { number = n; path = p }) (record { number = n; path = q }) = cc e in
      ap (λ (x : O.Observed). x.path) f
  one_path (c ∷ t) law n p q (inl a) (inr b) = absurd (law.0 n (given_of c n p a) (ever_given t n q b))
  one_path (c ∷ t) law n p q (inr a) (inl b) = absurd (law.0 n (given_of c n q b) (ever_given t n p a))
  one_path (c ∷ t) law n p q (inr a) (inr b) = one_path t law.1 n p q a b

  module _ (k : Client) (m : ℕ) where
    abbrev pub Seen : List (List ℕ) → List Entry → Type 0
    Seen path t = O.WasObserved (record { number = m; path = path }) (client_of k.at t)

    record OfOnePath (tag : Option (List ℕ)) (es : List Entry) : Type 0 where
      path : List (List ℕ)
      observed : Seen path es
      there : Sometime (Pointed (Seen path) path tag) es

    of_one_path : (tag : Option (List ℕ)) (es : List Entry) → Sometime (ShowsValue k m tag) es → OfOnePath tag es
    of_one_path tag [] h = absurd h
    of_one_path tag (e ∷ past) (inl h) = record {
      path = h.path;
      observed = observed_still k m h.path e past h.observed;
      there = inl (record { begun = h.observed; held = h.held; tag_is = h.tag_is; there = h.there });
    }
    of_one_path tag (e ∷ past) (inr h) =
        let o = of_one_path tag past h in
        record { path = o.path; observed = observed_still k m o.path e past o.observed; there = inr o.there }

    values_at : (path : List (List ℕ)) (v : ℕ) (tag : Option (List ℕ)) → Names v tag → (past : List Entry)
        → Stamped config past → NumbersOnce (client_of k.at past) → Seen path past → Sometime (ShowsValue k m tag) past
        → Sometime (λ p x. Seen path p × HoldsV config path v p x) past
    values_at path v tag names past stamps once observed h =
        let o = of_one_path tag past h in
        let same : o.path ≡ path = one_path (client_of k.at past) once m o.path path o.observed observed in
        named (Seen path) path tag v names past stamps
        (subst (λ q. Sometime (Pointed (Seen q) q tag) past) same o.there)

  -- what is promised of the reports of a number at a position
  module _ (k : Client) (m : ℕ) where
    pub record Law (past : List Entry) (e : Entry) : Type 0 where
      pub reads : (report : Report) → IsDefinite report → ReportsAt k (record { number = m; report = report }) past e
          → Sometime (Effect config k m report all) past
      pub tells : (sequence : ℕ) (tag : Option (List ℕ)) (format : Option ℕ) (body : List ℕ)
          → ReportsAt k (record { number = m; report = Value sequence tag format body }) past e
          → Sometime (ShowsValue k m tag) past
      pub numbers : NumbersOnce (client_of k.at past)

    laws : (es : List Entry)
        → ((report : Report) → IsDefinite report → Always (λ past e.
        ReportsAt k (record { number = m; report = report }) past e → Sometime (Effect config k m report all) past) es)
        → ((sequence : ℕ) (tag : Option (List ℕ)) (format : Option ℕ) (body : List ℕ) → Always (λ past e.
        ReportsAt k (record { number = m; report = Value sequence tag format body }) past e
        → Sometime (ShowsValue k m tag) past) es)
        → NumbersOnce (client_of k.at es) → Always Law es
    laws [] r t once = tt
    laws (e ∷ past) r t once = (
      record {
        reads = λ report d. (r report d).0;
        tells = λ s g f b. (t s g f b).0;
        numbers = numbers_back k e past once;
      },
      laws past (λ report d. (r report d).1) (λ s g f b. (t s g f b).1) (numbers_back k e past once),
    )

    bodies : (tag : Option (List ℕ)) (format : Option ℕ) (body : List ℕ) (es : List Entry)
        → Sometime (Effect config k m (Body tag format body) all) es → Sometime (AnyShows k m tag) es
    bodies tag format body [] h = h
    bodies tag format body (e ∷ past) (inl h) = inl (h.0, _, h.2)
    bodies tag format body (e ∷ past) (inr h) = inr (bodies tag format body past h)

    valids : (tag : Option (List ℕ)) (es : List Entry) → Sometime (Effect config k m (Valid tag) all) es
        → Sometime (AnyShows k m tag) es
    valids tag [] h = h
    valids tag (e ∷ past) (inl h) = inl (h.0, h.1, h.2)
    valids tag (e ∷ past) (inr h) = inr (valids tag past h)

    pub reads_there : (path : List (List ℕ)) (v : ℕ) (past : List Entry) (e : Entry) → Stamped config past → Law past e
        → (r : Reads k m path v past e) → Sometime (λ p x. WasCalled k m r.request p × HoldsV config path v p x) past
    reads_there path v past e stamps law r =
        reads_at k m path v r.tag r.request r.names past stamps law.numbers r.called r.path_is
        (⊎_elim (λ b. bodies r.tag b.0 b.1 past (law.reads (Body r.tag b.0 b.1) tt b.2))
        (λ b. valids r.tag past (law.reads (Valid r.tag) tt b)) r.here)

    pub tells_there : (path : List (List ℕ)) (v : ℕ) (past : List Entry) (e : Entry) → Stamped config past → Law past e
        → Tells k m path v past e → Sometime (λ p x. Seen k m path p × HoldsV config path v p x) past
    tells_there path v past e stamps law t =
        values_at k m path v t.tag t.names past stamps law.numbers t.observed
        (law.tells t.sequence t.tag t.format t.body t.here)

  pub just_holds : (path : List (List ℕ)) (v : ℕ) (T : List Entry → Type 0) (es : List Entry)
      → Sometime (λ p x. T p × HoldsV config path v p x) es → Sometime (HoldsV config path v) es
  just_holds path v T [] h = h
  just_holds path v T (e ∷ past) (inl h) = inl h.1
  just_holds path v T (e ∷ past) (inr h) = inr (just_holds path v T past h)

  pub law_of : (k : Client) → IsClient config k → (m : ℕ) → Always (Law k m) all
  law_of k client m = laws k m all (λ report d. has_point config k all (agrees k client) m report d)
      (λ s g f b. value_points k client m s g f b) (subst NumbersOnce (client_view k.at all)
      (agrees k client).one_number)
