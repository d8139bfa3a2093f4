-- `Layout::length` meets its contract. Assumes nothing.
use mathlib.Core.Path.{refl}
use native.Mathlib.Omega.{arith}
use Rattle.matrix.specs.Layouts.{size_of}
use Rattle.matrix.proofs.Places.{product_small}
use Rattle.matrix.proofs.Layout.length.Goals as goal

pub entries-requires : goal.entries-requires
entries-requires c = c.requires.small

pub returns-then-self : goal.returns-then-self
unfolding size_of
returns-then-self c = rw c.if-self.true c.entries.ensures

pub overflow_mul-result : goal.overflow_mul-result
overflow_mul-result c =
    let small = c.requires.small in
    omega (arith, product_small _ _ small small)

pub returns : goal.returns
unfolding size_of
returns c = rw c.if-self.false refl
