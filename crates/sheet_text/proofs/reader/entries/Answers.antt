-- The places still to come and the bytes from `next` on give what all places and the bytes from `at` on give.
use Rattle.std.proofs.Common.{◌+◌, sym, ap, ◌∙◌}
use Rattle.answer.specs.declared.Refusal.TheVariants.{BadLine}
use Rattle.sheet_text.specs.declared.place.Places.{Places}
use Rattle.sheet_text.specs.inner.Next.{rest_from}
use Rattle.sheet_text.specs.inner.Read.{Taken}
use Rattle.sheet_text.proofs.Entries.{start, more, ended_early, all_read}
use Rattle.sheet_text.proofs.NextLaws.{place_next, none_found, refused}
use Rattle.sheet_text.proofs.reader.entries.Goals as goal

pub loop-p-init : goal.loop-p-init
loop-p-init c =
    start _ _ _ _ _ c.requires (ap (λ (q : Places). rest_from q.order q.at) c.into_iter-p-iterator.ensures.into_iter_gives ∙ c.new-p-items.ensures)

pub returns-in_err-bits : goal.returns-in_err-bits
returns-in_err-bits c =
    let e = c.in_err-bits.ensures in
    let missing = none_found c.args.s.now _ (sym e.ok_part ∙ c.entry_at.ensures) in
    let taken = ended_early c.loop-p.invariant c.in-Some.ensures.steps missing in
    rw (refused _ _ _ _ e.value e.ok_part c.from_residual.ensures.1) (
      ap (λ (k : Taken). k.whole) taken,
      c.wrong.ensures ∙ ap (λ (k : Taken). BadLine (k.count + 2)) (sym taken),
      ap (λ (k : Taken). k.cells) (sym taken),
    )

pub loop-p-preserved : goal.loop-p-preserved
loop-p-preserved c =
    more c.loop-p.invariant c.in-Some.ensures.steps (place_next c.args.s.now c.loop-p.next _ (sym c.in_ok-bits.ensures.ok_part ∙ c.entry_at.ensures)).read c.store.ensures

pub returns : goal.returns
returns c = sym (all_read c.loop-p.invariant c.in-None.ensures.steps.0)
