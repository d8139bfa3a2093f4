-- Loops as functions: `for` takes i from lo up to hi, `falling` from n - 1 down to 0; each turn is s := f i s.
use Rattle.std.specs.Prelude.{ℕ, zero, suc, ◌+◌, ◌-◌}

-- s after the first c turns from lo on
unfoldable pub turns : {S : Type 0} → ℕ → (ℕ → S → S) → S → ℕ → S
turns lo f s zero = s
turns lo f s (suc c) = f (lo + c) (turns lo f s c)

unfoldable pub for : {S : Type 0} → ℕ → ℕ → (ℕ → S → S) → S → S
unfolding turns
for lo hi f s = turns lo f s (hi - lo)

unfoldable pub falling : {S : Type 0} → ℕ → (ℕ → S → S) → S → S
falling zero f s = s
falling (suc i) f s = falling i f (f i s)
