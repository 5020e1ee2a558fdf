-- A chain of sends is carried on at its end.
use Rattle.std.proofs.Common.{ℕ, List, [], ◌∷◌, ◌++◌, ◌≡◌, refl, subst, sym, length, ◌+◌, ◌<◌, ◌^◌, arith}
use Rattle.std.proofs.lemmas.List.{length-append}
use Rattle.coap_types.specs.declared.endpoint.Endpoint.{Endpoint}
use Rattle.coap_layer.specs.Trace.{Packet}
use Rattle.coap_links.specs.Pumping.{SendsAll}

pub SendsAll-snoc : {E L : Type 0} (gives : E → Packet → E → Type 0) (sends : L → Endpoint → List ℕ → L → Type 0)
    (e : E) (l : L) (ps : List Packet) (f : E) (m : L) (p : Packet) (g : E) (n : L)
    → SendsAll gives sends e l ps f m → gives f p g → sends m p.to p.bytes n
    → SendsAll gives sends e l (ps ++ p ∷ []) g n
SendsAll-snoc gives sends e l [] f m p g n h a b =
    let a1 : gives e p g = subst (λ x. gives x p g) h.0 a in
    let b1 : sends l p.to p.bytes n = subst (λ x. sends x p.to p.bytes n) h.1 b in
    (g, n, a1, b1, (refl, refl))
SendsAll-snoc gives sends e l (x ∷ xs) f m p g n h a b =
    (h.0, h.1, h.2, h.3, SendsAll-snoc gives sends h.0 h.1 xs f m p g n h.4 a b)

pub length-snoc : {A : Type 0} (xs : List A) (x : A) → length (xs ++ x ∷ []) ≡ length xs + 1
length-snoc xs x = length-append xs (x ∷ [])

-- the bound that each step of the loop reads is a bound on the whole list
pub few_along : {A : Type 0} (n : ℕ) (ds ws vs : List A) → n ≡ length ds → ws ≡ ds ++ vs
    → (0 < n → length ws < 2 ^ 64) → length vs < 2 ^ 64 → length ws < 2 ^ 64
few_along n [] ws vs count parts before now = subst (λ xs. length xs < 2 ^ 64) (sym parts) now
few_along n (d ∷ ds) ws vs count parts before now = before (omega (arith, count))
