-- A request of a method that there is none of is refused, and so is each datagram that is fed with 0.31 as its code.
use Rattle.std.proofs.Common.{◌≡◌, inl, inr, ℕ, ◌==◌, ◌&&◌, ◌||◌, nat_le, max, Bool, true, false, Option, Some}
use Rattle.std.proofs.Common.{None, List}
use Rattle.std.proofs.Common.{[], ◌∷◌, refl, sym, subst, ◌∙◌, cond}
use Rattle.std.specs.Cmp.{unsigned_Decides}
use Rattle.coap_types.specs.Past.{Always}
use Rattle.coap_types.specs.MethodCode.{method_of}
use Rattle.coap_types.specs.OptionValues.{has}
use Rattle.coap_types.specs.Recognised.{lacks_critical}
use Rattle.coap_types.specs.declared.direction.Direction.TheVariants as direction
use Rattle.coap_types.specs.declared.endpoint.Endpoint.{Endpoint}
use Rattle.coap_types.specs.declared.message.Kind.{Kind}
use Rattle.coap_types.specs.declared.message.Kind.TheVariants.{Con, Non, Ack, Rst}
use Rattle.coap_types.specs.declared.option_number.TheConstants.{PROXY_URI as proxy_uri, PROXY_SCHEME as proxy_scheme}
use Rattle.coap_types.specs.declared.request.Method.{Method}
use Rattle.coap_types.specs.declared.request.Method.TheVariants.{Get, Post, Put, Delete}
use Rattle.coap_codec.specs.Message.{Message, Spells}
use Rattle.coap_layer.specs.Trace as L
use Rattle.coap_layer.specs.declared.setup.Setup.{Setup}
use Rattle.coap_resource.specs.Limits.{Limits}
use Rattle.coap_exchange.specs.declared.answerer.Asked.{Asked}
use Rattle.coap_exchange.specs.AnswererTrace as E
use Rattle.coap_exchange.specs.AnswererFollows.{AreRequests}
use Rattle.coap_exchange.proofs.Facts.ServerSide.{came_in}
use Rattle.coap_server.specs.Trace.{Own, Handling, Call, Feeds}
use Rattle.coap_server.specs.Checks.{Verdict, Ignored, Refused, Asks, Uploads, verdict_on, bad_by, asked_by, asks}
use Rattle.coap_server.specs.Checks.{proxying_not_supported}
use Rattle.coap_server.specs.Handling.{incoming, heard, Handles}
use Rattle.coap_server.specs.Asks.{answering}
use Rattle.coap_server.specs.Law.{ServerLaw, own_of, lower_of}
use Rattle.coap_server.specs.Follows.Holds.{change}
use Rattle.coap_server.proofs.Facts.Exact.Asked.{joined}
use Rattle.coap_server.proofs.Facts.Serving.Brought.{server_back}
use Rattle.coap_server_laws.specs.Follows.Refusals.{IsRefused, RefusesUnknown, NeverServed, unasked}
use Rattle.coap_server_laws.proofs.Progress.TokensShort.{requests_back}

-- ---- the verdict on a request of no method is a refusal

abbrev IsRefusal : Verdict → Type 0
IsRefusal Ignored = Unit {0}
IsRefusal (Refused code) = Unit {0}
IsRefusal _ = ⊥

bad_refuses : (k : Kind) → IsRefusal (bad_by k)
bad_refuses Con = tt
bad_refuses Non = tt
bad_refuses Ack = tt
bad_refuses Rst = tt

verdict_refuses : (szx : ℕ) (m : Message) → method_of m.code ≡ None → IsRefusal (verdict_on szx m)
verdict_refuses szx m none =
    by (lacks_critical direction.Request m.options) (has proxy_uri (asks m)) (has proxy_scheme (asks m))
    (method_of m.code) none
  where
    by : (a b c : Bool) (o : Option Method) → o ≡ None
        → IsRefusal (cond a (bad_by m.kind) (cond (b || c) (Refused proxying_not_supported) (asked_by szx o m)))
    by true b c o is = bad_refuses m.kind
    by false true c o is = tt
    by false false true o is = tt
    by false false false None is = tt
    by false false false (Some x) is = absurd (cc is)

refused_by : (s : Own) (a : Asked) (v : Verdict) (h : Handling) → IsRefusal v → Handles s a v h → IsRefused h
refused_by s a Ignored h k is = inl is
refused_by s a (Refused code) h k is = inr (code, is)
refused_by s a (Asks q) h k is = absurd k
refused_by s a (Uploads q b) h k is = absurd k

-- what is refused changes nothing
change_none : (s : Own) (now : ℕ) (from : Endpoint) (bytes : List ℕ) (word : ℕ) (up : L.Answer)
    (came : Option (Asked × Message)) (h : Handling) (below : L.Answer) → IsRefused h
    → change s (Feeds now from bytes word up came h below) ≡ None
change_none s now from bytes word up None h below (inl is) = refl
change_none s now from bytes word up None h below (inr is) = refl
change_none s now from bytes word up (Some p) h below (inl is) =
    subst (λ (x : Handling). change s (Feeds now from bytes word up (Some p) x below) ≡ None) (sym is) refl
change_none s now from bytes word up (Some p) h below (inr is) =
    subst (λ (x : Handling). change s (Feeds now from bytes word up (Some p) x below) ≡ None) (sym is.1) refl

-- ---- the code of what is fed as no request

not_asking : (code : ℕ) → (nat_le 1 code && nat_le code 31) ≡ false → method_of code ≡ None
not_asking code none = by (code == 1) (code == 2) (code == 3) (code == 4) refl refl refl refl
  where
    in_range : (n : ℕ) → (nat_le 1 n && nat_le n 31) ≡ true → (code == n) ≡ true → ⊥
    in_range n inside is =
        let same : code ≡ n = (unsigned_Decides code n).0 is in
        let no : (nat_le 1 n && nat_le n 31) ≡ false = subst (λ k. (nat_le 1 k && nat_le k 31) ≡ false) same none in
        cc (inside, no)

    by : (a b c d : Bool) → (code == 1) ≡ a → (code == 2) ≡ b → (code == 3) ≡ c → (code == 4) ≡ d
        → cond a (Some Get) (cond b (Some Post) (cond c (Some Put) (cond d (Some Delete) None))) ≡ None
    by true b c d i j k l = absurd (in_range 1 refl i)
    by false true c d i j k l = absurd (in_range 2 refl j)
    by false false true d i j k l = absurd (in_range 3 refl k)
    by false false false true i j k l = absurd (in_range 4 refl l)
    by false false false false i j k l = refl

second : (datagram : List ℕ) (b code : ℕ) (rest : List ℕ) → b ∷ code ∷ rest ≡ unasked datagram
    → method_of code ≡ None
second [] b code rest is = absurd (cc is)
second (x ∷ []) b code rest is = absurd (cc is)
second (x ∷ y ∷ ys) b code rest is = by (nat_le 1 y && nat_le y 31) refl is
  where
    by : (t : Bool) → (nat_le 1 y && nat_le y 31) ≡ t → b ∷ code ∷ rest ≡ cond t (x ∷ 31 ∷ ys) (x ∷ y ∷ ys)
        → method_of code ≡ None
    by true e k = let same : 31 ≡ code = cc k in subst (λ n. method_of n ≡ None) same refl
    by false e k = let same : y ≡ code = cc k in subst (λ n. method_of n ≡ None) same (not_asking y e)

no_method : (datagram bytes : List ℕ) (m : Message) → Spells bytes m → bytes ≡ unasked datagram
    → method_of m.code ≡ None
no_method datagram bytes m spells is = second datagram _ m.code _ (sym spells.parts ∙ is)

-- ---- in the law of a server

module _ (limits : Limits) (szx : ℕ) (setup : Setup) where
  -- what came was spelled by what was fed
  came_spelled : (t : List Call) (now : ℕ) (from : Endpoint) (bytes : List ℕ) (w : ℕ) (up : L.Answer)
      (p : Asked × Message) (h : Handling) (below : L.Answer)
      → ServerLaw limits szx setup (Feeds now from bytes w up (Some p) h below ∷ t) → Spells bytes p.1
  came_spelled t now from bytes w up p h below law =
      let s : Own = own_of limits szx t in
      let first : E.Call = incoming s now from bytes up (Some p) in
      let asked : List E.Call = answering (heard s now first) (Some p) h below in
      let all = came_in setup (lower_of limits szx (Feeds now from bytes w up (Some p) h below ∷ t)) law.exchanges.rows
      law.exchanges.left law.exchanges.layer in
      let one = requests_back asked (first ∷ lower_of limits szx t)
      (subst AreRequests (joined asked first (lower_of limits szx t)) all) in
      (one.0.came (max s.clock now) from bytes up p.0 p.1 refl).1

  unknown_here : (t : List Call) (c : Call) → ServerLaw limits szx setup (c ∷ t) → RefusesUnknown limits szx t c
  unknown_here t (Feeds now from bytes w up None h below) law =
      λ none. (inl law.rows.0, change_none (own_of limits szx t) now from bytes w up None h below (inl law.rows.0))
  unknown_here t (Feeds now from bytes w up (Some p) h below) law = λ none.
      let s : Own = heard (own_of limits szx t) now (incoming (own_of limits szx t) now from bytes up (Some p)) in
      let refused = refused_by s p.0 (verdict_on s.szx p.1) h (verdict_refuses s.szx p.1 none) law.rows.0 in
      (refused, change_none (own_of limits szx t) now from bytes w up (Some p) h below refused)
  unknown_here t _ law = tt

  never_here : (t : List Call) (c : Call) → ServerLaw limits szx setup (c ∷ t) → NeverServed limits szx t c
  never_here t (Feeds now from bytes w up None h below) law =
      λ datagram is. unknown_here t (Feeds now from bytes w up None h below) law tt
  never_here t (Feeds now from bytes w up (Some p) h below) law = λ datagram is.
      unknown_here t (Feeds now from bytes w up (Some p) h below) law
      (no_method datagram bytes p.1 (came_spelled t now from bytes w up p h below law) is)
  never_here t _ law = tt

  pub refuses_unknown : (t : List Call) → ServerLaw limits szx setup t → Always (RefusesUnknown limits szx) t
  refuses_unknown [] law = tt
  refuses_unknown (c ∷ t) law =
      (unknown_here t c law, refuses_unknown t (server_back limits szx setup c t law))

  pub never_served : (t : List Call) → ServerLaw limits szx setup t → Always (NeverServed limits szx) t
  never_served [] law = tt
  never_served (c ∷ t) law = (never_here t c law, never_served t (server_back limits szx setup c t law))
