-- What the keys of a list find where one entry changes.
use Rattle.std.proofs.Common.{◌≡◌, ◌≤◌, ℕ, suc, ◌+◌, cond, Option, Some, None, List, []}
use Rattle.std.proofs.Common.{◌∷◌, ◌++◌}
use Rattle.std.proofs.Common.{IsSome, is_some, zero, set, slice_get, remove, refl, sym, ap}
use Rattle.std.proofs.Common.{◌∙◌, subst, arith}
use Rattle.std.proofs.lemmas.List.Sums.{sum_by-set}
use Rattle.slab.specs.Slab.{Slab, get, slab_len, with_value}
use Rattle.slab.proofs.SlabLemmas.{ContainsKey-within}
use Rattle.coap_operations.specs.declared.entry.Entry.{Entry}
use Rattle.coap_operations.specs.declared.entry.Entry.TheVariants.{Operation, Observation}
use Rattle.coap_operations.specs.declared.queued.Queued.{Queued}
use Rattle.coap_operations.specs.declared.queued.Queued.TheVariants.{Starts}
use Rattle.coap_operations.specs.declared.running.Running.{Running}
use Rattle.coap_operations.specs.declared.running.Running.TheVariants.{Started}
use Rattle.coap_operations.specs.Listed.{Listed}
use Rattle.coap_operations.specs.Keys.{EachOnce, hit, in_live, in_queue, in_running}
use Rattle.coap_operations.specs.Keys.{live_first, live_of, observations, operations}
use Rattle.coap_operations.specs.Keys.{queue_of, running_of, started, waits_first}
use Rattle.coap_operations.proofs.KeyCounts.{apart, found_in, hit_same, in_live_append, in_live_without}
use Rattle.coap_operations.proofs.KeyCounts.{in_queue_append}
use Rattle.coap_operations.proofs.KeyLists.{Lives, SaveAt, live_append, live_frame, lives_behind, lives_first_is}
use Rattle.coap_operations.proofs.KeyLists.{living, more_count, observation_there, queue_append, queue_frame}
use Rattle.coap_operations.proofs.KeyLists.{running_frame, same_count}

module _ {W O : Type 0} where
  -- the parts of a list

  abbrev pub listed : List (Queued W) → Option (Running W) → List O → ℕ → ℕ → Listed W O
  listed q r l spare places = record { queue = q; running = r; live = l; spare = spare; places = places }

  pub listed_is : (q new_q : List (Queued W)) (r new_r : Option (Running W)) (l new_l : List O) (spare places : ℕ)
      → new_q ≡ q → new_r ≡ r → new_l ≡ l
      → listed new_q new_r new_l spare places ≡ listed q r l spare places
  listed_is q new_q r new_r l new_l spare places eq er el =
      ap (λ x. listed x new_r new_l spare places) eq
      ∙ (ap (λ x. listed q x new_l spare places) er ∙ ap (λ x. listed q r x spare places) el)

  -- an operation that is new

  module _ (at to : ℕ → Option (Entry W O)) (q : List (Queued ℕ)) (r : Option (Running ℕ)) (l : List ℕ) (key : ℕ)
      (w : W) (was : at key ≡ None) (is : to key ≡ Some (Operation w)) (save : SaveAt key to at)
      (once : EachOnce at q r l) where
    not_live : in_live key l ≡ 0
    not_live = once.observation key ∙ ap observations was

    neither : in_queue key q + in_running key r ≡ 0
    neither = once.operation key ∙ ap operations was

    counted : (k : ℕ) → operations (to k) ≡ operations (at k) + hit key k
    counted = more_count operations at to key save (ap operations was) (ap operations is)

    uncounted : (k : ℕ) → observations (to k) ≡ observations (at k)
    uncounted = same_count observations at to key save (ap observations is ∙ sym (ap observations was))

    pub pushed_once : EachOnce to (q ++ Starts key ∷ []) r l
    pushed_once =
        record {
          operation = λ k. let a = in_queue_append k q (Starts key ∷ []) in let b = counted k in let c =
              once.operation k in omega (arith, a, b, c);
          observation = λ k. once.observation k ∙ sym (uncounted k);
        }

    pub pushed_queue : queue_of to (q ++ Starts key ∷ []) ≡ queue_of at q ++ Starts w ∷ []
    pushed_queue =
        queue_append to q (Starts key ∷ [])
        ∙ (ap (λ p. p ++ waits_first (to key) []) (queue_frame at to key save q (let n = neither in omega (arith, n)))
        ∙ ap (λ e. queue_of at q ++ waits_first e []) is)

    pub new_queue : queue_of to q ≡ queue_of at q
    new_queue = queue_frame at to key save q (let n = neither in omega (arith, n))

    pub new_running : running_of to r ≡ running_of at r
    new_running = running_frame at to key save r (let n = neither in omega (arith, n))

    pub new_live : live_of to l ≡ live_of at l
    new_live = live_frame at to key save l not_live

  -- one observation is written

  live_set : (at to : ℕ → Option (Entry W O)) (key : ℕ) (o : O) → SaveAt key to at → to key ≡ Some (Observation o)
      → (l : List ℕ) → Lives at l → in_live key l ≤ 1 → (p : ℕ) → slice_get l p ≡ Some key
      → live_of to l ≡ set (live_of at l) p o
  live_set at to key o save is [] h one p found = absurd (cc found)
  live_set at to key o save is (j ∷ l) h one zero found =
      let same : j ≡ key = cc found in
      let a : hit j key ≡ 1 = ap (λ x. hit x key) same ∙ hit_same key in
      ap (λ e. live_first e (live_of to l)) (ap to same ∙ is)
      ∙ (ap (λ m. o ∷ m) (live_frame at to key save l (omega (arith, a, one)))
      ∙ ap (λ e. set (live_first e (live_of at l)) 0 o) (sym (lives_first_is at j l h).1))
  live_set at to key o save is (j ∷ l) h one (suc p) found =
      let there = lives_first_is at j l h in
      let a = found_in l p key found in
      let none : hit j key + 0 ≡ 0 = omega (arith, a, one) in
      ap (λ e. live_first e (live_of to l)) (save j (apart j key 0 none) ∙ there.1)
      ∙ (ap (λ m. there.0 ∷ m) (live_set at to key o save is l (lives_behind at j l h) (omega (arith, one)) p found)
      ∙ ap (λ e. set (live_first e (live_of at l)) (suc p) o) (sym there.1))

  live_without : (at to : ℕ → Option (Entry W O)) (key : ℕ) → SaveAt key to at → (l : List ℕ) → Lives at l
      → in_live key l ≤ 1 → (p : ℕ) → slice_get l p ≡ Some key
      → live_of to (remove l p) ≡ remove (live_of at l) p
  live_without at to key save [] h one p found = absurd (cc found)
  live_without at to key save (j ∷ l) h one zero found =
      let same : j ≡ key = cc found in
      let a : hit j key ≡ 1 = ap (λ x. hit x key) same ∙ hit_same key in
      live_frame at to key save l (omega (arith, a, one))
      ∙ ap (λ e. remove (live_first e (live_of at l)) 0) (sym (lives_first_is at j l h).1)
  live_without at to key save (j ∷ l) h one (suc p) found =
      let there = lives_first_is at j l h in
      let a = found_in l p key found in
      let none : hit j key + 0 ≡ 0 = omega (arith, a, one) in
      ap (λ e. live_first e (live_of to (remove l p))) (save j (apart j key 0 none) ∙ there.1)
      ∙ (ap (λ m. there.0 ∷ m) (live_without at to key save l (lives_behind at j l h) (omega (arith, one)) p found)
      ∙ ap (λ e. remove (live_first e (live_of at l)) (suc p)) (sym there.1))

  pub live_there : (at : ℕ → Option (Entry W O)) (q : List (Queued ℕ)) (r : Option (Running ℕ)) (l : List ℕ)
      → EachOnce at q r l → (p key : ℕ) → slice_get l p ≡ Some key → (o : O) × (at key ≡ Some (Observation o))
  live_there at q r l once p key found = observation_there (at key)
      (let a = once.observation key in let b = found_in l p key found in omega (arith, a, b))

  -- the entry of a live observation changes

  module _ (at to : ℕ → Option (Entry W O)) (q : List (Queued ℕ)) (r : Option (Running ℕ)) (l : List ℕ) (key p : ℕ)
      (found : slice_get l p ≡ Some key) (save : SaveAt key to at) (once : EachOnce at q r l) where
    observed : (o : O) × (at key ≡ Some (Observation o))
    observed = live_there at q r l once p key found

    unqueued : in_queue key q + in_running key r ≡ 0
    unqueued = once.operation key ∙ ap operations observed.1

    lone : in_live key l ≤ 1
    lone = let a = once.observation key in let b = ap observations observed.1 in omega (arith, a, b)

    pub same_queue : queue_of to q ≡ queue_of at q
    same_queue = queue_frame at to key save q (let n = unqueued in omega (arith, n))

    pub same_running : running_of to r ≡ running_of at r
    same_running = running_frame at to key save r (let n = unqueued in omega (arith, n))

    pub set_live : (o : O) → to key ≡ Some (Observation o) → live_of to l ≡ set (live_of at l) p o
    set_live o is = live_set at to key o save is l (living at q r l once) lone p found

    pub removed_live : live_of to (remove l p) ≡ remove (live_of at l) p
    removed_live = live_without at to key save l (living at q r l once) lone p found

    pub removed_once : to key ≡ None → EachOnce to q r (remove l p)
    removed_once gone =
        record {
          operation = λ k. once.operation k ∙ sym
              (same_count operations at to key save (ap operations gone ∙ sym (ap operations observed.1)) k);
          observation = λ k.
              let a = once.observation k in
              let b = in_live_without k key l p found in
              let c = more_count observations to at key (λ j differs. sym (save j differs)) (ap observations gone)
              (ap observations observed.1) k in
              omega (arith, a, b, c);
        }

  -- an observation that is new

  module _ (at to : ℕ → Option (Entry W O)) (q : List (Queued ℕ)) (r : Option (Running ℕ)) (l : List ℕ) (key : ℕ)
      (o : O) (was : at key ≡ None) (is : to key ≡ Some (Observation o)) (save : SaveAt key to at)
      (once : EachOnce at q r l) where
    nowhere : in_queue key q + in_running key r ≡ 0
    nowhere = once.operation key ∙ ap operations was

    pub observed_once : EachOnce to q r (l ++ key ∷ [])
    observed_once =
        record {
          operation = λ k. once.operation k ∙ sym
              (same_count operations at to key save (ap operations is ∙ sym (ap operations was)) k);
          observation = λ k.
              let a = in_live_append k l (key ∷ []) in
              let b = once.observation k in
              let c = more_count observations at to key save (ap observations was) (ap observations is) k in
              omega (arith, a, b, c);
        }

    pub observed_queue : queue_of to q ≡ queue_of at q
    observed_queue = queue_frame at to key save q (let n = nowhere in omega (arith, n))

    pub observed_running : running_of to r ≡ running_of at r
    observed_running = running_frame at to key save r (let n = nowhere in omega (arith, n))

    pub observed_live : live_of to (l ++ key ∷ []) ≡ live_of at l ++ o ∷ []
    observed_live =
        live_append to l (key ∷ [])
        ∙ (ap (λ m. m ++ live_first (to key) [])
        (live_frame at to key save l (once.observation key ∙ ap observations was))
        ∙ ap (λ e. live_of at l ++ live_first e []) is)

  -- what ran leaves

  module _ (at to : ℕ → Option (Entry W O)) (q : List (Queued ℕ)) (l : List ℕ) (key : ℕ) (w : W)
      (was : at key ≡ Some (Operation w)) (save : SaveAt key to at) (once : EachOnce at q (Some (Started key)) l) where
    pub left_queue : queue_of to q ≡ queue_of at q
    left_queue = queue_frame at to key save q (let a = once.operation key in let b = hit_same key in let c =
        ap operations was in omega (arith, a, b, c))

    pub left_live : live_of to l ≡ live_of at l
    left_live = live_frame at to key save l (once.observation key ∙ ap observations was)

  pub started_is : (at : ℕ → Option (Entry W O)) (key : ℕ) (w : W) → at key ≡ Some (Operation w)
      → running_of at (Some (Started key)) ≡ Some (Started w)
  started_is at key w is = ap started is

-- one entry is written
pub set_count : {T : Type 0} (s : Slab T) (key : ℕ) (new : T) {old : T} → get s key ≡ Some old
    → slab_len (with_value s key new) ≡ slab_len s
set_count {T} s key new {old} was =
    let f : Option T → ℕ = λ o. cond (is_some o) 1 0 in
    let set_is = sum_by-set f s.slots key (Some new) None (ContainsKey-within s key (subst IsSome (sym was) refl)) in
    let one = ap f was in
    omega (arith, set_is, one)
