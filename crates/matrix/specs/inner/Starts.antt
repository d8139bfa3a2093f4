-- How a column's start is worked out.
use Rattle.std.specs.Prelude.{cond, ℕ, ◌+◌}
use Rattle.matrix.specs.declared.Layout.{Layout}

-- twice a column's start is j times what two columns have, less this
unfoldable pub left_out : Layout → ℕ → ℕ
left_out y j = cond y.packed (j + 1) 0
