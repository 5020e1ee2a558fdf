-- When a CON is sent again (RFC 7252, section 4.2): each wait is twice as long as the one before.
use Rattle.std.specs.Prelude.{ℕ, zero, suc, ◌-◌, ◌^◌, List, [], ◌∷◌, ◌++◌}

-- so many initial timeouts after the first sending the first n retransmissions are due: 1, 3, 7, 15 ..
abbrev pub factors : ℕ → List ℕ
factors zero = []
factors (suc n) = factors n ++ (2 ^ suc n - 1) ∷ []
