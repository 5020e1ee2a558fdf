-- A number of a client is that of one request, whenever it is looked at.
use Rattle.std.proofs.Common.{◌≡◌, inl, inr, ℕ, Bool, true, false, Option, Some, Ok, if◌then◌else◌, List, [], ◌∷◌, ◌++◌}
use Rattle.std.proofs.Common.{sym, ap, ◌∙◌}
use Rattle.coap_types.specs.Past.{Ever}
use Rattle.coap_types.specs.SameEndpoint.{same_endpoint}
use Rattle.coap_client.specs.Trace as C
use Rattle.coap_client.specs.Trace.{Request}
use Rattle.coap_client_laws.specs.Follows.Numbers.{NumbersOnce, number_given}
use Rattle.coap_client.specs.Sendings.{Taken, takes}
use Rattle.coap_many.specs.Clients.{Client}
use Rattle.coap_many.specs.Entries.{Entry, OfClient, OfServer, client_of}
use Rattle.coap_many.specs.Words.{WasCalled}

given_of : (c : C.Call) (n : ℕ) (r : Request) → takes c ≡ Some (record { number = n; request = r })
    → number_given c ≡ Some n
given_of (C.Calls now q (Ok m)) n r h =
    let f : ◌≡◌ {A = Taken} (record { number = m; request = q }) (record { number = n; request = r }) = cc h in
    ap (λ (x : Taken). Some x.number) f
given_of _ n r h = absurd (cc h)

ever_given : (t : List C.Call) (n : ℕ) (r : Request)
    → Ever (λ c. takes c ≡ Some (record { number = n; request = r })) t → Ever (λ c. number_given c ≡ Some n) t
ever_given [] n r h = h
ever_given (c ∷ t) n r (inl h) = inl (given_of c n r h)
ever_given (c ∷ t) n r (inr h) = inr (ever_given t n r h)

pub one_request : (t : List C.Call) → NumbersOnce t → (n : ℕ) (r s : Request)
    → Ever (λ c. takes c ≡ Some (record { number = n; request = r })) t
    → Ever (λ c. takes c ≡ Some (record { number = n; request = s })) t → r ≡ s
one_request [] law n r s a b = absurd a
one_request (c ∷ t) law n r s (inl a) (inl b) =
    let e : ◌≡◌ {A = Option Taken} (Some (record { number = n; request = r }))
    (Some (record { number = n; request = s })) =
    sym a ∙ b in
    let f : ◌≡◌ {A = Taken} (record { number = n; request = r }) (record { number = n; request = s }) = cc e in
    ap (λ (x : Taken). x.request) f
one_request (c ∷ t) law n r s (inl a) (inr b) = absurd (law.0 n (given_of c n r a) (ever_given t n s b))
one_request (c ∷ t) law n r s (inr a) (inl b) = absurd (law.0 n (given_of c n s b) (ever_given t n r a))
one_request (c ∷ t) law n r s (inr a) (inr b) = one_request t law.1 n r s a b

pub numbers_back : (k : Client) (e : Entry) (past : List Entry) → NumbersOnce (client_of k.at (e ∷ past))
    → NumbersOnce (client_of k.at past)
numbers_back k (OfServer c) past h = h
numbers_back k (OfClient who c) past h = by (same_endpoint who k.at) h
  where
    by : (b : Bool) → NumbersOnce ((if b then c ∷ [] else []) ++ client_of k.at past)
        → NumbersOnce (client_of k.at past)
    by true h = h.1
    by false h = h

-- a call that was taken was taken
pub called_still : (k : Client) (n : ℕ) (r : Request) (e : Entry) (past : List Entry) → WasCalled k n r past
    → WasCalled k n r (e ∷ past)
called_still k n r (OfServer c) past h = h
called_still k n r (OfClient who c) past h = by (same_endpoint who k.at)
  where
    by : (b : Bool) → Ever (λ c. takes c ≡ Some (record { number = n; request = r }))
        ((if b then c ∷ [] else []) ++ client_of k.at past)
    by true = inr h
    by false = h
