-- What a path holds at a later entry is no older than what an earlier entry left there.
use Rattle.std.proofs.Common.{◌≡◌, ◌⊎◌, ◌≤◌, ◌<◌, inl, inr, ⊎_elim, ℕ, Option, Some, None, List, [], ◌∷◌, ◌++◌}
use Rattle.std.proofs.Common.{refl, sym, ap, subst, ◌∙◌, arith}
use Rattle.coap_types.specs.Past.{Sometime}
use Rattle.coap_resource.specs.Content.{Held}
use Rattle.coap_server.specs.Follows.Holds.{held_at, changes}
use Rattle.coap_server.specs.Follows.Tags.{AreStamped}
use Rattle.coap_server.specs.Law.{ServerRows}
use Rattle.coap_server.specs.Trace as S
use Rattle.coap_server.proofs.Facts.Holds.{holds_changes}
use Rattle.coap_many.specs.Clients.{Config}
use Rattle.coap_many.specs.DoneReads.{IsNoOlder}
use Rattle.coap_many.specs.Entries.{Entry, server_of, server_trace}
use Rattle.coap_many.specs.Words.{last_at, changes_in}
use Rattle.coap_many.proofs.ServerTrace.{Rows, Stamped, rows_back, stamped_back, rows_of, stamps_of, served_behind}
use Rattle.coap_many.proofs.Versions.{bounded, later}

-- where it is
record At (Q : List Entry → Entry → Type 0) (es : List Entry) : Type 0 where
  mid : List Entry
  e : Entry
  past : List Entry
  is : es ≡ mid ++ e ∷ past
  holds : Q past e

at_some : (Q : List Entry → Entry → Type 0) (es : List Entry) → Sometime Q es → At Q es
at_some Q [] h = absurd h
at_some Q (e ∷ past) (inl h) = record { mid = []; e = e; past = past; is = refl; holds = h }
at_some Q (e ∷ past) (inr h) =
    let k = at_some Q past h in
    record { mid = e ∷ k.mid; e = k.e; past = k.past; is = ap (λ l. e ∷ l) k.is; holds = k.holds }

some_at : (R : List Entry → Entry → Type 0) (mid : List Entry) (f : Entry) (q : List Entry) → R q f
    → Sometime R (mid ++ f ∷ q)
some_at R [] f q h = inl h
some_at R (e ∷ mid) f q h = inr (some_at R mid f q h)

module _ (config : Config) (path : List (List ℕ)) where
  -- the path holds this version here
  pub record HoldsV (v : ℕ) (past : List Entry) (e : Entry) : Type 0 where
    pub held : Held
    pub there : last_at config path (e ∷ past) ≡ Some held
    pub version_is : held.version ≡ v

  module _ (mid : List Entry) (f : Entry) (q : List Entry) (rows : Rows config (mid ++ f ∷ q))
      (stamps : Stamped config (mid ++ f ∷ q)) (g : Held) (there : last_at config path (mid ++ f ∷ q) ≡ Some g) where
    abbrev trace : List S.Call
    trace = server_of mid ++ server_trace config (f ∷ q)

    behind : server_trace config (mid ++ f ∷ q) ≡ trace
    behind = served_behind config mid (f ∷ q)

    now : held_at config.limits config.szx path trace ≡ Some g
    now = subst (λ t. held_at config.limits config.szx path t ≡ Some g) behind there

    low : (h : Held) → last_at config path (f ∷ q) ≡ Some h → h.version ≤ changes_in config (f ∷ q)
    low = bounded config.limits config.szx path (server_trace config (f ∷ q))
        (holds_changes config.limits config.szx (server_trace config (f ∷ q)) (rows_of config mid (f ∷ q) rows))
        (stamps_of config mid (f ∷ q) stamps)

    since : (held_at config.limits config.szx path trace ≡ last_at config path (f ∷ q))
        ⊎ ((h : Held) → held_at config.limits config.szx path trace ≡ Some h → changes_in config (f ∷ q) < h.version)
    since = later config.limits config.szx path (server_of mid) (server_trace config (f ∷ q))
        (holds_changes config.limits config.szx trace (subst (ServerRows config.limits config.szx) behind rows))
        (subst (AreStamped config.limits config.szx) behind stamps)

    pub no_older : (o : Option Held) → last_at config path (f ∷ q) ≡ o
        → IsNoOlder o (changes_in config (f ∷ q)) g.version
    no_older (Some h) is = ⊎_elim
        (λ same. let z : Some h ≡ Some g = sym is ∙ sym same ∙ now in
        let y : h ≡ g = cc z in
        let a = ap (λ (x : Held). x.version) y in
        omega (arith, a))
        (λ newer. let a = newer g now in
        let b = low h is in
        omega (arith, a, b)) since
    no_older None is = ⊎_elim
        (λ same. let z : Some g ≡ None = sym now ∙ same ∙ is in absurd (cc z))
        (λ newer. newer g now) since

  -- what was begun after a report is read after what that showed
  module _ (T : List Entry → Type 0) (further : (e : Entry) (past : List Entry) → T past → T (e ∷ past)) (w : ℕ)
      (Q R : List Entry → Entry → Type 0)
      (follows : (mid : List Entry) (f : Entry) (q : List Entry) → Rows config (mid ++ f ∷ q)
      → Stamped config (mid ++ f ∷ q) → Q q f → (g : Held) → last_at config path (mid ++ f ∷ q) ≡ Some g → g.version ≡ w
      → R q f) where
    abbrev pub Late : List Entry → Entry → Type 0
    Late past e = T past × HoldsV w past e

    abbrev pub Early : List Entry → Entry → Type 0
    Early past e = Sometime Q past × (T (e ∷ past) → ⊥)

    begun : (es : List Entry) → Sometime Late es → T es
    begun [] h = absurd h
    begun (e ∷ past) (inl h) = further e past h.0
    begun (e ∷ past) (inr h) = further e past (begun past h)

    showed : (es : List Entry) → Sometime Early es → Sometime Q es
    showed [] h = h
    showed (e ∷ past) (inl h) = inr h.0
    showed (e ∷ past) (inr h) = inr (showed past h)

    pub in_order : (es : List Entry) → Rows config es → Stamped config es → Sometime Late es → Sometime Early es
        → Sometime R es
    in_order [] rows stamps a b = absurd a
    in_order (e ∷ past) rows stamps (inl a) (inl b) = absurd (b.1 (further e past a.0))
    in_order (e ∷ past) rows stamps (inl a) (inr b) =
        let k = at_some Q past (showed past b) in
        let is : e ∷ past ≡ e ∷ (k.mid ++ k.e ∷ k.past) = ap (λ l. e ∷ l) k.is in
        subst (Sometime R) (sym is) (some_at R (e ∷ k.mid) k.e k.past
        (follows (e ∷ k.mid) k.e k.past (subst (Rows config) is rows) (subst (Stamped config) is stamps) k.holds
        a.1.held
        (subst (λ l. last_at config path l ≡ Some a.1.held) is a.1.there) a.1.version_is))
    in_order (e ∷ past) rows stamps (inr a) (inl b) = absurd (b.1 (further e past (begun past a)))
    in_order (e ∷ past) rows stamps (inr a) (inr b) =
        inr (in_order past (rows_back config e past rows) (stamped_back config e past stamps) a b)
