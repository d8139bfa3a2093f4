-- `axpy` meets its contract. Assumes nothing.
use mathlib.Core.Path.{◌≡◌, sym, ◌∙◌, ap, subst}
use mathlib.Core.List.{List}
use Prim.Native.Nat.{◌≤◌, ◌<◌}
use lib.ListN.{length, get_or}
use lib.Ieee.{Float, nan}
use Rattle.std.specs.List.{fold}
use Rattle.std.proofs.lemmas.List.Sums.{fold_more}
use Rattle.std.proofs.Common.{rules}
use Rattle.std.proofs.lemmas.List.{take_all}
use Rattle.strips.specs.declared.Source.{Source}
use Rattle.strips.specs.inner.Strip.{row_at, plus}
use Rattle.strips.proofs.Strips.{strip_more, axpy_row}
use Rattle.strips.proofs.axpy.Goals as goal

pub loop-s-preserved : goal.loop-s-preserved
unfolding plus
loop-s-preserved g c =
    let inside : c.loop-s.s-index < length c.args.sources = search rules in
    let none : Source = record { start = 0; scale = nan } in
    ap (λ (x : Float). plus c.loop-i.a (get_or c.args.sources c.loop-s.s-index none) c.loop-i.i x) c.loop-s.invariant
    ∙ sym (fold_more (λ x s. plus c.loop-i.a s c.loop-i.i x) (row_at c.loop-i.a c.args.to c.loop-i.i) c.args.sources c.loop-s.s-index none inside)

pub loop-i-preserved : goal.loop-i-preserved
loop-i-preserved g c =
    let past : length c.args.sources ≤ c.loop-s.s-index = search rules in
    let all = subst (λ (ss : List Source). c.loop-s.x ≡ fold (λ x s. plus c.loop-i.a s c.loop-i.i x) (row_at c.loop-i.a c.args.to c.loop-i.i) ss) (take_all c.loop-s.s-index c.args.sources past) c.loop-s.invariant in
    strip_more _ c.loop-i.invariant c.loop-i-test.true c.requires.to_in_bounds (all ∙ axpy_row c.args.sources c.loop-i.invariant c.loop-i-test.true c.requires.elsewhere)
