-- Clocks that keep pace, in whichever order two instants come.
use Rattle.std.proofs.Common.{⊎_elim, ◌≤◌, ◌<◌, ◌-◌, ℕ, ◌+◌, arith}
use Rattle.std.proofs.lemmas.Bool.{cases_lt}
use Rattle.coap_types.specs.declared.transmission.TheConstants.{EXCHANGE_LIFETIME_MS as exchange_lifetime}
use Rattle.coap_layer.specs.Clocks.{Clocks, turned, max_gain, KeepsPace, KeepPace}

-- where the one shows at most so much more, the other shows at most so much and max_gain more
gap : (one other : ℕ → ℕ) → KeepsPace one other → KeepsPace other one → (i j n : ℕ) → n ≤ exchange_lifetime
    → one j ≤ one i + n → other j ≤ other i + n + max_gain
gap one other this that i j n short h = ⊎_elim before behind (cases_lt j i)
  where
    before : j < i → other j ≤ other i + n + max_gain
    before less = let r = that.rises j i (omega (arith, less)) in omega (arith, r)

    behind : i ≤ j → other j ≤ other i + n + max_gain
    behind le =
        let r : one i ≤ one j = this.rises i j le in
        let p : other j ≤ other i + (one j - one i) + max_gain =
        this.pace i j (one j - one i) le (omega (arith, h, short)) (omega (arith, r)) in
        omega (arith, p, h)

pub far_gap : (c : Clocks) → KeepPace c → (i j n : ℕ) → n ≤ exchange_lifetime → c.near j ≤ c.near i + n
    → c.far j ≤ c.far i + n + max_gain
far_gap c k = gap c.near c.far k.near k.far

pub near_gap : (c : Clocks) → KeepPace c → (i j n : ℕ) → n ≤ exchange_lifetime → c.far j ≤ c.far i + n
    → c.near j ≤ c.near i + n + max_gain
near_gap c k = gap c.far c.near k.far k.near

pub pace_turned : (c : Clocks) → KeepPace c → KeepPace (turned c)
pace_turned c k = record { near = k.far; far = k.near }
