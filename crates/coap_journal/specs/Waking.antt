-- The moment at which the server of a journal goes on.
use Rattle.std.specs.Prelude.{◌≡◌, ◌≤◌, ◌+◌, ◌-◌, ◌^◌, ℕ, max, min}
use Rattle.coap_journal.specs.declared.beginning.Boot.{Boot}
use Rattle.coap_journal.specs.declared.beginning.Life.{Life}

-- the same boot of the machine, at no earlier uptime
pub record IsSameBoot (life : Life) (boot : Boot) (uptime : ℕ) : Type 0 where
  pub boot_is : life.boot ≡ boot
  pub later : life.uptime ≤ uptime

-- the moment of the last life, and what passed since by the uptime; not before the last moment that counted
abbrev pub same_boot_moment : Life → ℕ → ℕ → ℕ
same_boot_moment life latest uptime = max latest (min (life.moment.0 + (uptime - life.uptime)) (2 ^ 64 - 1))
