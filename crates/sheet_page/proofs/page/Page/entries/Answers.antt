-- The lines of the places from `p` on are still to come.
use Rattle.std.proofs.Common.{ap, ◌∙◌, arith}
use Rattle.sheet_text.specs.declared.place.Places.{Places}
use Rattle.sheet_text.specs.inner.Next.{rest_from}
use Rattle.sheet_text.proofs.PlaceLaws.{length_places}
use Rattle.sheet_page.proofs.Loops.{entries_start, room, entries_more, entries_all}
use Rattle.sheet_page.proofs.page.Page.entries.Goals as goal

pub loop-p-init : goal.loop-p-init
loop-p-init c =
    entries_start _ _ _ _ (ap (λ (q : Places). rest_from q.order q.at) c.into_iter-p-iterator.ensures.into_iter_gives ∙ c.new-p-items.ensures)

pub overflow_add-count : goal.overflow_add-count
overflow_add-count c =
    omega (arith, room c.loop-p.invariant c.in-Some.ensures.steps, length_places c.args.n c.requires.small)

pub loop-p-preserved : goal.loop-p-preserved
loop-p-preserved c = entries_more c.loop-p.invariant c.in-Some.ensures.steps c.entry.ensures

pub returns-clause-wrote : goal.returns-clause-wrote
returns-clause-wrote c = entries_all c.loop-p.invariant c.in-None.ensures.steps.0
