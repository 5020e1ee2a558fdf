-- The test of keys decides equality.
use Rattle.std.proofs.Common.{◌≡◌, ◌∙◌, true, refl, ap, sym, Decides}
use Rattle.std.proofs.lemmas.Bool.Decides.{Decides-and}
use Rattle.coap_types.specs.declared.request.Method.{Method}
use Rattle.coap_types.specs.declared.request.Method.TheVariants.{Get, Post, Put, Delete}
use Rattle.coap_types.proofs.Facts.Paths.{same_path-decides}
use Rattle.coap_types.proofs.Facts.Endpoints.{same_endpoint-decides}
use Rattle.coap_block.specs.AssemblyState.{Key, same_key, same_method}

is_method : (a b : Method) → same_method a b ≡ true → a ≡ b
is_method Get Get h = refl
is_method Post Post h = refl
is_method Put Put h = refl
is_method Delete Delete h = refl
is_method _ _ h = absurd cc

same_method_self : (a : Method) → same_method a a ≡ true
same_method_self Get = refl
same_method_self _ = refl

same_method-decides : (a b : Method) → Decides (same_method a b) (a ≡ b)
same_method-decides a b = (is_method a b, λ e. ap (λ (m : Method). same_method a m) (sym e) ∙ same_method_self a)

pub same_key-decides : (a b : Key) → Decides (same_key a b) (a ≡ b)
same_key-decides a b =
    let parts = Decides-and _ _ (same_endpoint-decides a.from b.from)
    (Decides-and _ _ (same_path-decides a.path b.path) (same_method-decides a.method b.method)) in (
      λ h. let e = parts.0 h in λ i. record { from = e.0 i; path = e.1.0 i; method = e.1.1 i },
      λ e. parts.1 (ap (λ (k : Key). k.from) e, (ap (λ (k : Key). k.path) e, ap (λ (k : Key). k.method) e)),
    )

pub same_key_self : (a : Key) → same_key a a ≡ true
same_key_self a = (same_key-decides a a).1 refl
