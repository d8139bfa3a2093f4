-- `same_rows` meets its contract. Assumes nothing.
use Rattle.std.proofs.Common.{refl, arith, rules}
use Rattle.std.proofs.lemmas.Iterator.{cases_from_all, YieldsList-from_range}
use Rattle.matrix.specs.Grid.{load}
use Rattle.matrix.specs.Layouts.{lower}
use Rattle.twins.proofs.Rows.{Alike, told_by}
use Rattle.twins.proofs.same_rows.Goals as goal

pub returns : goal.returns
returns c =
    told_by (lower c.args.y) c.args.a.now c.args.p c.args.q c.all.result c.type_inv.a
    (cases_from_all _ _ _ (Alike (load (lower c.args.y) c.args.a.now) c.args.p c.args.q) (λ k. Alike (load (lower c.args.y) c.args.a.now) c.args.p c.args.q k → ⊥) c.all.ensures.ran
    (YieldsList-from_range 0 c.args.y.order c.args.y.order refl (omega arith)) (λ x q k. search rules) (λ x q k. search rules))
