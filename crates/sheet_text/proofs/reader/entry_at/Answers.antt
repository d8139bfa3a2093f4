use Rattle.sheet_text.proofs.EntrySteps.{place_missing, other_row, other_column, in_place_law}
use Rattle.sheet_text.proofs.NextLaws.{entry_next, none_found, found_is, none_is}
use Rattle.sheet_text.proofs.reader.entry_at.Goals as goal
use Rattle.sheet_text.proofs.reader.entry_at.Goals.{then-value-p-via-then-value-p, then-value-p-via-else-value-p+then-value-p-2}

pub returns-in_err-value : goal.returns-in_err-value
returns-in_err-value c =
    rw c.from_residual.ensures (none_is c.args.s.now (place_missing _ _ (none_found c.args.s.now _ c.in_err-value.ensures)))

pub returns-then-value-p : goal.returns-then-value-p
returns-then-value-p c =
    let read = (entry_next c.args.s.now c.args.at c.in_ok-value.ensures).read in
    none_is c.args.s.now (elim c.then-value-p.branch [
      | then-value-p-via-then-value-p w ↦ other_row _ _ _ _ read w.if-value-p.true
      | then-value-p-via-else-value-p+then-value-p-2 w ↦ other_column _ _ _ _ read w.if-value-p.false w.if-value-p-2.true
    ])

pub returns : goal.returns
returns c =
    let n = entry_next c.args.s.now c.args.at c.in_ok-value.ensures in
    found_is c.args.s.now record { read = in_place_law _ _ _ _ n.read c.if-value-p.false c.if-value-p-2.false; within = n.within }
