-- `unscale` meets its contract. Assumes nothing.
use Rattle.std.proofs.Common.{ℕ, ◌≡◌, ◌≤◌, ◌<◌, get_or}
use Rattle.std.specs.Float.{nan}
use Rattle.matrix.specs.Rounded.{◌⊘◌}
use Rattle.strips.proofs.unscale.Given as goal

abbrev pub invariant-loop-x : goal.invariant-loop-x
invariant-loop-x l = record {
  done : (k : ℕ) → k < l.x-index → get_or l.x-items k nan ≡ get_or l.initial.x-items k nan ⊘ l.d;
  ahead : (k : ℕ) → l.x-index ≤ k → get_or l.x-items k nan ≡ get_or l.initial.x-items k nan;
}
