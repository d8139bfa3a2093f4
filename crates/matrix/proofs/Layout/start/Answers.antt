-- `Layout::start` meets its contract: the product of two numbers up to 1,024 fits, and what is left out is no more. Assumes nothing.
use mathlib.Core.Path.{refl}
use native.Mathlib.Omega.{arith}
use Rattle.matrix.specs.Layouts.{start_of}
use Rattle.matrix.proofs.Triangles.{entries_fit}
use Rattle.matrix.proofs.Places.{product_small}
use Rattle.matrix.proofs.Layout.start.Goals as goal

pub overflow_mul-result : goal.overflow_mul-result
overflow_mul-result c = omega (arith, product_small c.args.j c.args.self.room (omega (arith, c.requires)) c.requires.roomy.small)

pub entries-requires : goal.entries-requires
entries-requires c = omega (arith, c.requires)

pub overflow_sub-result : goal.overflow_sub-result
overflow_sub-result c = omega (arith, c.entries.ensures, entries_fit c.args.j c.args.self.room (omega (arith, c.requires)))

pub returns-then-self : goal.returns-then-self
unfolding start_of
returns-then-self c = rw (c.if-self.true, c.entries.ensures) refl

pub overflow_mul-result-2 : goal.overflow_mul-result-2
overflow_mul-result-2 c = omega (arith, product_small c.args.j c.args.self.room (omega (arith, c.requires)) c.requires.roomy.small)

pub returns : goal.returns
unfolding start_of
returns c = rw c.if-self.false refl
