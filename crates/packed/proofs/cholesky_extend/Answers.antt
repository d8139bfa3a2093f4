-- `cholesky_extend` joins the parts where its checks admit them, and works on the batch; else it writes nothing. Assumes nothing.
use mathlib.Core.Path.{refl, sym, ◌∙◌}
use native.Mathlib.Omega.{arith}
use borrow.Author.Tests.{le-leb, lt-leb, eq-eqb, ne_eqb}
use Rattle.answer.proofs.Tested.{here, later}
use Rattle.matrix.proofs.Triangles.{entries_rise}
use Rattle.packed.proofs.Growing.{rows_long, grown_unfit, grown_fit}
use Rattle.packed.proofs.cholesky_extend.Goals as goal

pub returns-then-n-gt1024 : goal.returns-then-n-gt1024
returns-then-n-gt1024 c = grown_unfit (here (lt-leb _ _ c.if-n-gt1024.true) refl)

pub returns-then-earlier-gt1024 : goal.returns-then-earlier-gt1024
returns-then-earlier-gt1024 c = grown_unfit (later (le-leb _ _ c.if-n-gt1024.false) (here (lt-leb _ _ c.if-earlier-gt1024.true) refl))

pub returns-then-n-earlier : goal.returns-then-n-earlier
returns-then-n-earlier c = grown_unfit (later (le-leb _ _ c.if-n-gt1024.false) (later (le-leb _ _ c.if-earlier-gt1024.false) (here (lt-leb _ _ c.if-n-earlier.true) refl)))

pub returns-then-old-entries : goal.returns-then-old-entries
returns-then-old-entries c = grown_unfit (later (le-leb _ _ c.if-n-gt1024.false) (later (le-leb _ _ c.if-earlier-gt1024.false) (later (le-leb _ _ c.if-n-earlier.false) (here (ne_eqb _ _ (λ e. c.if-old-entries.true (e ∙ sym c.entries.ensures))) refl))))

pub overflow_sub-entries : goal.overflow_sub-entries
overflow_sub-entries c = omega (arith, entries_rise c.args.earlier c.args.n c.if-n-earlier.false, c.entries-2.ensures, c.entries-3.ensures)

pub returns-then-rows-entries : goal.returns-then-rows-entries
returns-then-rows-entries c = grown_unfit (later (le-leb _ _ c.if-n-gt1024.false) (later (le-leb _ _ c.if-earlier-gt1024.false) (later (le-leb _ _ c.if-n-earlier.false) (later (eq-eqb _ _ (c.if-old-entries.false ∙ c.entries.ensures)) (here (ne_eqb _ _ (λ e. c.if-rows-entries.true (e ∙ sym (rows_long _ _ c.entries-2.ensures c.entries-3.ensures refl)))) refl)))))

pub returns-then-fresh-entries : goal.returns-then-fresh-entries
returns-then-fresh-entries c = grown_unfit (later (le-leb _ _ c.if-n-gt1024.false) (later (le-leb _ _ c.if-earlier-gt1024.false) (later (le-leb _ _ c.if-n-earlier.false) (later (eq-eqb _ _ (c.if-old-entries.false ∙ c.entries.ensures)) (later (eq-eqb _ _ (rows_long _ _ c.entries-2.ensures c.entries-3.ensures c.if-rows-entries.false)) (here (ne_eqb _ _ (λ e. c.if-fresh-entries.true (e ∙ sym c.entries-4.ensures))) refl))))))

pub join-requires : goal.join-requires
join-requires c = record { further = record { rising = c.if-n-earlier.false; small = c.if-n-gt1024.false; long = rows_long _ _ c.entries-2.ensures c.entries-3.ensures c.if-rows-entries.false; room = c.if-fresh-entries.false ∙ c.entries-4.ensures }; first = c.if-old-entries.false ∙ c.entries.ensures }

pub returns : goal.returns
returns c = grown_fit (record { further = record { rising = c.if-n-earlier.false; small = c.if-n-gt1024.false; long = rows_long _ _ c.entries-2.ensures c.entries-3.ensures c.if-rows-entries.false; room = c.if-fresh-entries.false ∙ c.entries-4.ensures }; first = c.if-old-entries.false ∙ c.entries.ensures }) c.join.ensures (rw c.packed.ensures at c.extend_on.ensures)
