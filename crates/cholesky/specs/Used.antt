-- How many columns used the floor: of those from the earlier order m on that are finished, those whose updated diagonal fails its test.
use Rattle.std.specs.Prelude.{Bool, cond, not, ◌&&◌, ℕ, ◌+◌, leb}
use Rattle.answer.specs.Answer.{is_done}
use Rattle.matrix.specs.Matrix.{Matrix}
use Rattle.matrix.specs.Loop.{for}
use Rattle.cholesky.specs.Column.{updated}
use Rattle.cholesky.specs.Run.{Rule, Outcome, factor_column, started}
use Rattle.cholesky.specs.Floor.{passes}

-- whether column j is one of them, o being what the columns before it came to
unfoldable pub used_at : Rule → ℕ → ℕ → Outcome → Bool
used_at ρ m j o = leb m j && (is_done (factor_column ρ m j o).answer && not (passes (updated o.cells j j j)))

-- how many of the columns lo to hi are, o being what the columns before lo came to
unfoldable pub used_from : Rule → ℕ → ℕ → ℕ → Outcome → ℕ
used_from ρ m lo hi o = for lo hi (λ j count. cond (used_at ρ m j (for lo j (factor_column ρ m) o)) (count + 1) count) 0

-- of all n columns
abbrev pub used_by : Rule → ℕ → ℕ → Matrix → ℕ
used_by ρ m n A = used_from ρ m 0 n (started A)
