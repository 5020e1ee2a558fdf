-- Where each end ticks each 1,000 ms, the server ticks less than 1,000 ms after each moment.
use Rattle.std.proofs.Common.{◌≡◌, ◌⊎◌, inl, inr, ◌≤◌, ◌<◌, ℕ, ◌+◌, List, [], ◌∷◌, arith}
use Rattle.std.proofs.Math.Decide.{dec_le}
use Rattle.coap_types.specs.Past.{Ever, Sometime, Always}
use Rattle.coap_record.specs.Events.{TickServer}
use Rattle.coap_record.specs.Legal.{AllLegal, NotBefore}
use Rattle.coap_record.specs.Record.{Turn}
use Rattle.coap_smooth.specs.Smooth.{max_age, TicksOften}
use Rattle.coap_smooth.specs.TicksLeave.{TicksThen, TicksInTime}
use Rattle.coap_record.specs.declared.addresses.Addresses.{Addresses}

pub lifted : (past : List Turn) (at now : ℕ) → at ≤ now → NotBefore past at → NotBefore past now
lifted [] at now h k = tt
lifted (t ∷ past) at now h k = omega (arith, h, k)

Sometime_ever : (P : Turn → Type 0) (past : List Turn) → Sometime (λ older t. P t) past → Ever P past
Sometime_ever P [] h = h
Sometime_ever P (t ∷ past) (inl h) = inl h
Sometime_ever P (t ∷ past) (inr h) = inr (Sometime_ever P past h)

-- the run began earlier, so it is no older than that
young : (past : List Turn) (at when : ℕ) → Ever (λ (t : Turn). t.event.at < when) past
    → Always (λ older (t : Turn). at ≤ t.event.at + max_age) past → at < when + max_age
young [] at when h all = absurd h
young (t ∷ past) at when (inl h) all = let k = all.0 in omega (arith, h, k)
young (t ∷ past) at when (inr h) all = young past at when h all.1

-- a tick from a moment on
abbrev TicksSince : ℕ → List Turn → Turn → Type 0
TicksSince when older t = (t.event.what ≡ TickServer) × (when ≤ t.event.at)

-- a tick that is too old, or one from that moment on
last_tick : (past : List Turn) (at when : ℕ)
    → Ever (λ (t : Turn). (t.event.what ≡ TickServer) × (at ≤ t.event.at + max_age)) past
    → (at < when + max_age) ⊎ Sometime (TicksSince when) past
last_tick [] at when h = absurd h
last_tick (t ∷ past) at when (inl h) =
    let since = h.1 in
    elim (dec_le when t.event.at) [ yes k ↦ inr (inl (h.0, k)) | no k ↦ inl (omega (arith, since, k)) ]
last_tick (t ∷ past) at when (inr h) =
    elim (last_tick past at when h) [ inl k ↦ inl k | inr k ↦ inr (inr k) ]

abbrev OldAt : ℕ → List Turn → Type 0
OldAt when past = Ever (λ (t : Turn). t.event.at < when) past

-- what is old stands before a tick from the moment on
old_before : (addresses : Addresses) (t : Turn) (past : List Turn) (when : ℕ) → AllLegal addresses (t ∷ past)
    → OldAt when (t ∷ past)
    → Sometime (TicksSince when) past → OldAt when past
old_before addresses t past when legal (inr h) s = h
old_before addresses t past when legal (inl h) s = absurd (not_later past legal.0.later legal.1 s)
  where
    not_later : (us : List Turn) → NotBefore us t.event.at → AllLegal addresses us → Sometime (TicksSince when) us → ⊥
    not_later [] later all k = k
    not_later (u ∷ us) later all (inl k) = let from = k.1 in omega (arith, from, later, h)
    not_later (u ∷ us) later all (inr k) = not_later us (lifted us u.event.at t.event.at later all.0.later) all.1 k

-- the first tick from that moment on is soon
soon : (addresses : Addresses) (past : List Turn) (when : ℕ) → AllLegal addresses past
    → TicksOften past → OldAt when past
    → Sometime (TicksSince when) past → Sometime (λ older t. TicksThen when t) past
soon addresses [] when legal goes old h = h
soon addresses (t ∷ past) when legal goes old (inr h) =
    inr (soon addresses past when legal.1 goes.1 (old_before addresses t past when legal old h) h)
soon addresses (t ∷ past) when legal goes old (inl h) = by goes.0.1
    (soon addresses past when legal.1 goes.1 before)
  where
    before : OldAt when past
    before = elim old [ inl k ↦ absurd (let from = h.1 in omega (arith, from, k)) | inr k ↦ k ]

    this : t.event.at < when + max_age → Sometime (λ older u. TicksThen when u) (t ∷ past)
    this less = inl (record { what = h.0; from = h.1; till = less })

    by : Ever (λ (u : Turn). (u.event.what ≡ TickServer) × (t.event.at ≤ u.event.at + max_age)) past
        ⊎ Always (λ older (u : Turn). t.event.at ≤ u.event.at + max_age) past
        → (Sometime (TicksSince when) past → Sometime (λ older u. TicksThen when u) past)
        → Sometime (λ older u. TicksThen when u) (t ∷ past)
    by (inr all) sooner = this (young past t.event.at when before all)
    by (inl e) sooner =
        elim (last_tick past t.event.at when e) [ inl less ↦ this less | inr k ↦ inr (sooner k) ]

-- a tick from the moment on
since : (past : List Turn) (at when : ℕ) → when + max_age ≤ at → OldAt when past
    → Ever (λ (u : Turn). (u.event.what ≡ TickServer) × (at ≤ u.event.at + max_age)) past
    ⊎ Always (λ older (u : Turn). at ≤ u.event.at + max_age) past → Sometime (TicksSince when) past
since past at when late old (inr all) = let k = young past at when old all in absurd (omega (arith, k, late))
since past at when late old (inl e) =
    elim (last_tick past at when e) [ inl less ↦ absurd (omega (arith, less, late)) | inr k ↦ k ]

ticks_soon : (addresses : Addresses) (turn : Turn) (past : List Turn) → AllLegal addresses (turn ∷ past)
    → TicksOften (turn ∷ past)
    → (when : ℕ) → OldAt when past → when + max_age ≤ turn.event.at → Sometime (λ older t. TicksThen when t) past
ticks_soon addresses turn past legal goes when old late =
    soon addresses past when legal.1 goes.1 old (since past turn.event.at when late old goes.0.1)

pub ticks_in_time : (addresses : Addresses) (turns : List Turn) → AllLegal addresses turns → TicksOften turns
    → TicksInTime turns
ticks_in_time addresses [] legal goes = tt
ticks_in_time addresses (turn ∷ past) legal goes = (
  λ when old late. Sometime_ever (λ (t : Turn). TicksThen when t) past
      (ticks_soon addresses turn past legal goes when old late),
  ticks_in_time addresses past legal.1 goes.1,
)
