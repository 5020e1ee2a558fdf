-- The CON that is outstanding is the request of the exchange that runs: what each call does to it.
use Rattle.std.proofs.Common.{◌≡◌, inl, inr, ◌≤◌, ℕ, ◌*◌, ◌-◌, ◌==◌, Bool, true, false, Option, Some, None, List}
use Rattle.std.proofs.Common.{[], ◌∷◌, ◌++◌, refl, ap, sym, subst, ◌∙◌, ◌&&◌, cond}
use Rattle.std.specs.List.{filter_map, cons_option}
use Rattle.std.specs.Cmp.{unsigned_Decides}
use Rattle.coap_types.specs.declared.endpoint.Endpoint.{Endpoint}
use Rattle.coap_types.specs.declared.transmission.TheConstants.{FAILURE_TIMEOUTS as failure_timeouts}
use Rattle.coap_types.specs.SameEndpoint.{same_endpoint}
use Rattle.coap_types.proofs.Facts.Endpoints.{same_endpoint_is, same_endpoint_self}
use Rattle.coap_layer.specs.Trace.{Answer, Idle, Copied, Expired}
use Rattle.coap_layer.specs.Words.{Open, same}
use Rattle.coap_layer.specs.Machine.State.{tick_of, is_failed, is_copy_due}
use Rattle.std.proofs.lemmas.Bool.{leb-true}
use Rattle.coap_exchange.specs.declared.asker.Exchange.{Exchange}
use Rattle.coap_exchange.specs.AskerTrace.{Own}
use Rattle.coap_exchange.specs.AskerArrivals.{has_id, is_of_request}
use Rattle.coap_exchange.specs.AskerFollows.{Begun}
use Rattle.coap_exchange.specs.Machine.Outstanding.{IsSent, Lone}
use Rattle.std.proofs.lemmas.Bool.{and_parts}

-- the end of one retransmission
abbrev pub without : Endpoint → ℕ → List Open → List Open
without to id cs = filter_map (λ (c : Open). cond (same to id c.to c.id) None (Some c)) cs ++ []

same_id : (to place : Endpoint) (id n : ℕ) → place ≡ to → n ≡ id → same to id place n ≡ true
same_id to place id n p q =
    subst (λ x. same to id x n ≡ true) (sym p) (subst (λ y. same to id to y ≡ true) (sym q)
    (ap (λ b. b && (id == id)) (same_endpoint_self to) ∙ (unsigned_Decides id id).1 refl))

id_same : (to place : Endpoint) (id n : ℕ) → same to id place n ≡ true → (place ≡ to) × (n ≡ id)
id_same to place id n h = let b = and_parts (same_endpoint place to)
    (n == id) h in (same_endpoint_is place to b.0, (unsigned_Decides n id).0 b.1)

one_gone : (to : Endpoint) (id : ℕ) (c : Open) → same to id c.to c.id ≡ true → without to id (c ∷ []) ≡ []
one_gone to id c h = ap (λ b. cons_option (cond b None (Some c)) [] ++ []) h

one_left : (to : Endpoint) (id : ℕ) (c : Open) → same to id c.to c.id ≡ false → without to id (c ∷ []) ≡ c ∷ []
one_left to id c h = ap (λ b. cons_option (cond b None (Some c)) [] ++ []) h

pub ends_of : (server : Endpoint) (x : Exchange) (b : Option Begun) (cs : List Open) (to : Endpoint) (id : ℕ)
    → to ≡ server → id ≡ x.id.0 → Lone server (Some x) b cs → without to id cs ≡ []
ends_of server x b cs to id p q (inl s) = ap (without to id) s.only
    ∙ one_gone to id s.con (same_id to s.con.to id s.con.id (s.to_is ∙ sym p) (s.id_is ∙ sym q))
ends_of server x b cs to id p q (inr h) = ap (without to id) h.none

of_id : (x : Exchange) (id : ℕ) → id ≡ x.id.0 → has_id (Some x) id ≡ true
of_id x id h = (unsigned_Decides id x.id.0).1 h

-- what goes to no request leaves it
other_one : (s : Own) (x : Exchange) (b : Option Begun) (cs : List Open) (to : Endpoint) (id : ℕ) → s.running ≡ Some x
    → is_of_request s to id ≡ false → (z : IsSent s.server x b cs) → (m : Bool) → same to id z.con.to z.con.id ≡ m
    → IsSent s.server x b (without to id cs)
other_one s x b cs to id runs not_of z false is =
    record {
      con = z.con;
      only = ap (without to id) z.only ∙ one_left to id z.con is;
      to_is = z.to_is;
      id_is = z.id_is;
      unheard = z.unheard;
      begun = z.begun;
      last = z.last;
      first = z.first;
      timeout = z.timeout;
    }
other_one s x b cs to id runs not_of z true is =
    let k = id_same to z.con.to id z.con.id is in
    let to_server : to ≡ s.server = sym k.0 ∙ z.to_is in
    let id_here : id ≡ x.id.0 = sym k.1 ∙ z.id_is in
    let here : same_endpoint to s.server ≡ true =
    subst (λ y. same_endpoint to y ≡ true) to_server (same_endpoint_self to) in
    let has : has_id s.running id ≡ true = subst (λ r. has_id r id ≡ true) (sym runs) (of_id x id id_here) in
    let yes : is_of_request s to id ≡ true = ap (λ w. w && has_id s.running id) here ∙ has in
    absurd (cc (yes, not_of))

other_by : (s : Own) (running : Option Exchange) (b : Option Begun) (cs : List Open) (to : Endpoint) (id : ℕ)
    → s.running ≡ running → is_of_request s to id ≡ false → Lone s.server running b cs
    → Lone s.server running b (without to id cs)
other_by s None b cs to id is not_of lone = ap (without to id) lone
other_by s (Some x) b cs to id is not_of (inl z) = inl (other_one s x b cs to id is not_of z _ refl)
other_by s (Some x) b cs to id is not_of (inr h) =
    inr (record { none = ap (without to id) h.none; at = h.at; since = h.since })

pub other_left : (s : Own) (b : Option Begun) (cs : List Open) (to : Endpoint) (id : ℕ) → is_of_request s to id ≡ false
    → Lone s.server s.running b cs → Lone s.server s.running b (without to id cs)
other_left s b cs to id not_of lone = other_by s s.running b cs to id refl not_of lone

-- a retransmission leaves it, with its first sending
abbrev pub copied : ℕ → Endpoint → ℕ → List Open → List Open
copied at to id cs = filter_map (λ (c : Open). cond (same to id c.to c.id) (Some (record c { last = at })) (Some c)) cs
    ++ []

copied_one : (server : Endpoint) (x : Exchange) (b : Option Begun) (cs : List Open) (at : ℕ) (to : Endpoint) (id : ℕ)
    → (z : IsSent server x b cs) → (m : Bool) → same to id z.con.to z.con.id ≡ m
    → IsSent server x b (copied at to id cs)
copied_one server x b cs at to id z true is =
    record {
      con = record z.con { last = at };
      only = ap (copied at to id) z.only ∙ ap (λ w. cons_option
          (cond w (Some (record z.con { last = at })) (Some z.con)) [] ++ []) is;
      to_is = z.to_is;
      id_is = z.id_is;
      unheard = z.unheard;
      begun = z.begun;
      last = z.last;
      first = z.first;
      timeout = z.timeout;
    }
copied_one server x b cs at to id z false is =
    record {
      con = z.con;
      only = ap (copied at to id) z.only ∙ ap (λ w. cons_option
          (cond w (Some (record z.con { last = at })) (Some z.con)) [] ++ []) is;
      to_is = z.to_is;
      id_is = z.id_is;
      unheard = z.unheard;
      begun = z.begun;
      last = z.last;
      first = z.first;
      timeout = z.timeout;
    }

pub copied_left : (server : Endpoint) (running : Option Exchange) (b : Option Begun) (cs : List Open) (at : ℕ)
    (to : Endpoint) (id : ℕ) → Lone server running b cs → Lone server running b (copied at to id cs)
copied_left server None b cs at to id lone = ap (copied at to id) lone
copied_left server (Some x) b cs at to id (inl z) = inl (copied_one server x b cs at to id z _ refl)
copied_left server (Some x) b cs at to id (inr h) =
    inr (record { none = ap (copied at to id) h.none; at = h.at; since = h.since })

-- it failed
pub record HasFailed (at : ℕ) (b : Option Begun) : Type 0 where
  pub begun : Begun
  pub last : b ≡ Some begun
  pub late : begun.timeout * failure_timeouts ≤ at - begun.at

abbrev is_expired : Answer → Bool
is_expired (Expired to id) = true
is_expired _ = false

failed_one : (at : ℕ) (c : Open) (f d : Bool) → is_failed at c ≡ f → is_copy_due at c ≡ d
    → is_expired (cond f (Expired c.to c.id) (cond d (Copied c.to c.id) Idle)) ≡ true → is_failed at c ≡ true
failed_one at c true d h k e = h
failed_one at c false true h k e = absurd (cc e)
failed_one at c false false h k e = absurd (cc e)

pub failed : (server : Endpoint) (x : Exchange) (b : Option Begun) (cs : List Open) (at : ℕ) (to : Endpoint) (id : ℕ)
    → Lone server (Some x) b cs → Expired to id ≡ tick_of at cs → HasFailed at b
failed server x b cs at to id (inl z) is =
    let e : is_expired (tick_of at (z.con ∷ [])) ≡ true = sym (ap (λ ds. is_expired (tick_of at ds)) z.only)
    ∙ sym (ap is_expired is) in
    let f : z.con.timeout * failure_timeouts ≤ at - z.con.first =
    leb-true _ _ (failed_one at z.con (is_failed at z.con) (is_copy_due at z.con) refl refl e) in
    record {
      begun = z.begun;
      last = z.last;
      late =
          subst (λ w. w * failure_timeouts ≤ at - z.begun.at) z.timeout
          (subst (λ w. z.con.timeout * failure_timeouts ≤ at - w) z.first f);
    }
failed server x b cs at to id (inr h) is = let e : is_expired (tick_of at cs)
    ≡ true = sym (ap is_expired is) in absurd (cc (e, ap (λ ds. is_expired (tick_of at ds)) h.none))
