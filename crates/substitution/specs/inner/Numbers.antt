-- The numbers of a row, by column.
use Rattle.std.specs.Prelude.{ℕ, zero, suc, Float}
use Rattle.substitution.specs.declared.row.Four.{Four}

abbrev pub single : Float → ℕ → Float
single x j = x

abbrev pub of_four : Four → ℕ → Float
of_four x zero = x.first
of_four x (suc zero) = x.second
of_four x (suc (suc zero)) = x.third
of_four x (suc (suc (suc j))) = x.fourth
