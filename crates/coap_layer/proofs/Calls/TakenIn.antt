-- What an input leaves of the lists, and what `undo` would.
use Rattle.std.proofs.Common.{◌≡◌, ◌≤◌, ◌<◌, ◌+◌, is_some, option_to_list, vec_len, vec_capacity, deque_len}
use Rattle.std.proofs.Common.{deque_capacity, ℕ, Bool, true, false, Option, Some, None, List, [], ◌∷◌, ◌++◌, length}
use Rattle.std.proofs.Common.{filter, take, refl, ap, sym, subst, ◌∙◌, arith, cond}
use Rattle.std.proofs.Math.Seq.{take-append_seam}
use Rattle.coap_types.specs.declared.endpoint.Endpoint.{Endpoint}
use Rattle.coap_layer.specs.declared.arriving.Arriving.{Arriving}
use Rattle.coap_layer.specs.declared.lists.Lists.{Lists}
use Rattle.coap_layer.specs.declared.room.Room.{Room}
use Rattle.coap_layer.specs.declared.mark.Awaiting.{Awaiting}
use Rattle.coap_layer.specs.declared.mark.Mark.{Mark}
use Rattle.coap_layer.specs.declared.retransmission.Sending.{Sending}
use Rattle.coap_layer.specs.Machine.Arriving.{keeps, newly_by}
use Rattle.coap_layer.specs.Machine.Entries.{IsUpTo, Memory}
use Rattle.coap_layer.specs.Machine.IdState.{IdState}
use Rattle.coap_layer.specs.Machine.Parts.{awaited, before_of, state_of_parts, open_before}
use Rattle.coap_layer.specs.Machine.Sound.{HasRoom, IsKept, IsWithin}
use Rattle.coap_layer.specs.Machine.State.{Arrived, forgotten, is_live, is_remembered}
use Rattle.coap_layer.specs.Trace.{Packet}
use Rattle.coap_layer.specs.Words.{Awaited, Open, is_con}
use Rattle.coap_layer.proofs.ListLemmas.{filter_implied, length_append}
use Rattle.coap_layer.proofs.Calls.Remembered.{unknown_filtered, upto_filtered, upto_later, upto_more}

-- what an input found, by lists that are the same
pub same_found : (most clock : ℕ) (w : Option Awaited) (ids : IdState) (es fs : List Arrived) (cs ds : List Open)
    (q r : List Packet) → es ≡ fs → cs ≡ ds → q ≡ r
    → Some (forgotten (state_of_parts most clock w ids es cs q))
    ≡ Some (forgotten (state_of_parts most clock w ids fs ds r))
same_found most clock w ids es fs cs ds q r a b d = cc (a, b, d)

module _ (clock : ℕ) (es fs : List Arrived) (settled : fs ≡ filter (is_live clock) es) where
  pub before_grown : {Z : Type 0} (most : ℕ) (mark : Mark) (awaits : Option Awaiting) (ids : IdState) (old : List Open)
      (ds : List (Sending Z)) (q r d : List Packet)
      → open_before ds ≡ old → r ≡ q ++ d → mark.clock.0 ≡ clock → mark.awaits ≡ awaits
      → mark.queued ≡ length q
      → before_of most (Some mark) ids fs ds r ≡ Some (forgotten (state_of_parts most clock (awaited awaits) ids es old
      q))
  before_grown most mark awaits ids old ds q r d opened sent c w k =
      let queue : take mark.queued r ≡ q = rw (k, sent) (take-append_seam q d) in
      let here : filter (is_live clock) fs ≡ filter (is_live clock) es =
      ap (filter (is_live clock)) settled ∙ filter_implied (is_live clock) (is_live clock) (λ x y. y) es in
      let awaiting : awaited mark.awaits ≡ awaited awaits = ap awaited w in
      cc (c, here, opened, queue, awaiting)

  pub within_grown : (mark : Mark) (q r d : List Packet) → r ≡ q ++ d → mark.queued ≡ length q → mark.clock.0 ≡ clock
      → IsUpTo clock es → IsWithin (Some mark) fs (length r)
  within_grown mark q r d sent k c upto =
      let f : length r ≡ length q + length d = ap length sent ∙ length_append q d in (
        omega (arith, f, k),
        subst (λ n. IsUpTo n fs) (sym c)
            (subst (IsUpTo clock) (sym settled) (upto_filtered clock clock es upto)),
      )

  -- what is settled then arrived before
  pub settled_upto : (at : ℕ) → clock ≤ at → IsUpTo clock es → IsUpTo at fs
  settled_upto at le upto = subst (IsUpTo at) (sym settled)
      (upto_later clock at _ le (upto_filtered clock clock es upto))

  pub settled_unknown : (at : ℕ) (from : Endpoint) (id : ℕ) → is_remembered at from id es ≡ false
      → is_remembered at from id fs ≡ false
  settled_unknown at from id h = ap (is_remembered at from id) settled ∙ unknown_filtered at clock from id es h

-- what is new arrived now
pub newly_upto : (at : ℕ) (from : Endpoint) (a : Arriving) → IsUpTo at (newly_by at from a)
newly_upto at from a = go (keeps a.verdict a.kind)
  where
    go : (b : Bool) → IsUpTo at (cond b (record { from = from; id = a.id.0; at = at; con = is_con a.kind; reply = None }
        ∷ []) [])
    go true = (omega arith, tt)
    go false = tt

pub kept_grown : (at : ℕ) (from : Endpoint) (id : ℕ) (b : Bool) (m : Memory) (new : List Arrived) → IsUpTo at m.settled
    → IsUpTo at new → option_to_list m.newest ≡ new
    → (b ≡ true → is_remembered at from id m.settled ≡ false)
    → IsKept at (cond b (Some (record { from = from; id = id })) None) true m
kept_grown at from id true m new old upto is unknown =
    (upto_more at m.settled _ old (subst (IsUpTo at) (sym is) upto), unknown refl)
kept_grown at from id false m new old upto is unknown =
    (upto_more at m.settled _ old (subst (IsUpTo at) (sym is) upto), tt)

pub kept_none : (at : ℕ) (replies : Bool) (m : Memory) → IsUpTo at m.settled → m.newest ≡ None
    → IsKept at None replies m
kept_none at replies m old none = (
  upto_more at m.settled _ old
      (subst (λ o. IsUpTo at (option_to_list o)) (sym none) tt),
  tt,
)

-- room stays room
pub room_kept : {Z X Y : Type 0} (r : Room Z) (old new : Lists Z X Y) → HasRoom r old
    → vec_len new.sendings ≤ vec_len old.sendings → vec_capacity new.sendings ≡ vec_capacity old.sendings
    → (deque_len old.waiting < deque_capacity old.waiting → deque_len new.waiting < deque_capacity new.waiting)
    → HasRoom r new
room_kept r old new room len capacity waiting made =
    let ready = room made in (ready.0, omega (arith, ready.1, len, capacity), waiting ready.2)

pub none_of : {A : Type 0} (d : Option A) → option_to_list d ≡ [] → is_some d ≡ false
none_of None h = refl
none_of (Some x) h = absurd cc
