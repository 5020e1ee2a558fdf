-- Two calls of the server that tell the client's observation with a token: the later one tells a later version, and is
-- not the one that makes the registration.
use Rattle.std.proofs.Common.{◌≡◌, inl, inr, ◌<◌, ℕ, true, List, ◌∷◌, ◌++◌, ap, sym, subst, ◌∙◌}
use Rattle.coap_types.specs.Past.{Sometime}
use Rattle.coap_types.proofs.Facts.Traces.{Always_back, Sometime_back}
use Rattle.coap_server_laws.specs.Follows.Told.{ServesPair, pair_of}
use Rattle.coap_server.specs.Follows.Tells.{Pair, Telling}
use Rattle.coap_server.specs.Law.{ServerLaw}
use Rattle.coap_server.specs.Trace as S
use Rattle.coap_server_laws.proofs.Facts.EachCall.{are_under}
use Rattle.coap_server_laws.proofs.Facts.Laws as server_facts
use Rattle.coap_record.specs.Events.{Config}
use Rattle.coap_promise.proofs.Facts.Observations.Following.{OnceOf, split, follow_here, told_since}
use Rattle.coap_smooth.proofs.Watching.Ticks.ToldHeld.{Tells}

module _ (config : Config) (token : List ℕ) (calls : List S.Call)
    (law_of_all : ServerLaw config.limits config.server_szx config.server_setup calls)
    (once : OnceOf config.limits config.server_szx config.server_setup
    (record { to = config.addresses.client; token = token })
    calls) where
  -- the calls before, and that one
  record Two (P Q : List S.Call → S.Call → Type 0) : Type 0 where
    after : List S.Call
    oldest : List S.Call
    first : S.Call
    second : S.Call
    is_first : P oldest first
    is_second : Q (after ++ first ∷ oldest) second
    law : ServerLaw config.limits config.server_szx config.server_setup (second ∷ (after ++ first ∷ oldest))
    once_there : OnceOf config.limits config.server_szx config.server_setup
        (record { to = config.addresses.client; token = token }) (second ∷ (after ++ first ∷ oldest))

  two : (P Q : List S.Call → S.Call → Type 0) → Sometime (λ p b. Q p b × Sometime P p) calls → Two P Q
  two P Q s =
      let a = split (λ p b. Q p b × Sometime P p) calls s in
      let b = split P a.older a.here.1 in
      let whole : calls ≡ a.newer ++ (a.entry ∷ (b.newer ++ b.entry ∷ b.older)) =
      a.is ∙ ap (λ l. a.newer ++ a.entry ∷ l) b.is in
      record {
        after = b.newer;
        oldest = b.older;
        first = b.entry;
        second = a.entry;
        is_first = b.here;
        is_second = subst (λ l. Q l a.entry) b.is a.here.0;
        law = server_facts.back config.limits config.server_szx config.server_setup a.newer
            (a.entry ∷ (b.newer ++ b.entry ∷ b.older))
            (subst (ServerLaw config.limits config.server_szx config.server_setup) whole law_of_all);
        once_there = Always_back _ a.newer (a.entry ∷ (b.newer ++ b.entry ∷ b.older))
            (subst (OnceOf config.limits config.server_szx config.server_setup
            (record { to = config.addresses.client; token = token })) whole once);
      }

  pair_is : (y : Telling) → y.to ≡ config.addresses.client → y.token ≡ token
      → pair_of config.limits config.server_szx y ≡ record { to = config.addresses.client; token = token }
  pair_is y to under = ap {B = Pair} (λ z. record { to = z; token = y.token }) to
      ∙ ap {B = Pair} (λ z. record { to = config.addresses.client; token = z }) under

  module _ (u v : Telling) (to_is : u.to ≡ config.addresses.client) (token_is : u.token ≡ token) where
    abbrev A : List S.Call → S.Call → Type 0
    A = Tells config config.addresses.client token u

    abbrev B : List S.Call → S.Call → Type 0
    B = Tells config config.addresses.client token v

    -- told behind that it shows a later version
    pub told_behind : Sometime (λ p b. B p b × Sometime A p) calls → u.version < v.version
    told_behind s =
        let w = two A B s in
        (follow_here config.limits config.server_szx config.server_setup w.after w.oldest w.first w.second u v w.law
        (subst (λ p. OnceOf config.limits config.server_szx config.server_setup p
        (w.second ∷ (w.after ++ w.first ∷ w.oldest)))
        (sym (pair_is u to_is token_is)) w.once_there)
        w.is_first.is w.is_second.is
        (w.is_second.to_is ∙ sym to_is) (w.is_second.token_is ∙ sym token_is)).version

    -- what makes the registration is told first
    pub not_first : u.registers ≡ true → Sometime (λ p b. A p b × Sometime B p) calls → ⊥
    not_first registers s =
        let w = two B A s in
        let under = are_under config.limits config.server_szx config.server_setup
        (w.second ∷ (w.after ++ w.first ∷ w.oldest))
        w.law in
        let made : Sometime (ServesPair config.limits config.server_szx (pair_of config.limits config.server_szx v))
        (w.first ∷ w.oldest) =
        told_since config.limits config.server_szx config.server_setup w.oldest w.first v
        (Always_back _ w.after (w.first ∷ w.oldest) under.1).0 w.is_first.is in
        let before : Sometime (ServesPair config.limits config.server_szx
        (record { to = config.addresses.client; token = token }))
        (w.after ++ w.first ∷ w.oldest) =
        Sometime_back _ w.after (w.first ∷ w.oldest)
        (subst (λ p. Sometime (ServesPair config.limits config.server_szx p) (w.first ∷ w.oldest))
        (pair_is v w.is_first.to_is w.is_first.token_is) made) in
        elim (under.0 u w.is_second.is) [
          | inl now_made ↦ w.once_there.0
              (subst (λ p. ServesPair config.limits config.server_szx p (w.after ++ w.first ∷ w.oldest) w.second)
              (pair_is u to_is token_is) now_made.1) before
          | inr not_now ↦ cc (registers, not_now.0)
        ]
