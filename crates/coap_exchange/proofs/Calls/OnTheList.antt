-- A test of what is on a list, of which the last input can be taken back.
use Rattle.std.proofs.Common.{◌≡◌, Bool, true, false, List, [], ◌∷◌, ◌&&◌, ◌||◌, refl, ap}
use Rattle.std.specs.List.{cons_option, list_any}
use Rattle.coap_exchange.specs.declared.listed.Listed.{Listed}
use Rattle.coap_exchange.specs.Machine.Listed.{entry_if, listed}

pub any_listed : {T : Type 0} (p : T → Bool) (ks : List (Listed T))
    → list_any (λ k. k.now && p k.entry) ks ≡ list_any p (listed ks)
any_listed p [] = refl
any_listed {T} p (k ∷ ks) = go k.now (any_listed p ks)
  where
    go : (b : Bool) → list_any (λ (x : Listed T). x.now && p x.entry) ks ≡ list_any p (listed ks)
        → ((b && p k.entry) || list_any (λ (x : Listed T). x.now && p x.entry) ks)
        ≡ list_any p (cons_option (entry_if b k.entry) (listed ks))
    go true e = ap (λ w. p k.entry || w) e
    go false e = e
