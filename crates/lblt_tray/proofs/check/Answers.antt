-- `check`: test by test, in the order of the table.
use Rattle.lblt_tray.proofs.Sizes.{many, large, matrices_wrong, records_wrong, sides_wrong, runs_wrong, answers_wrong, all_right}
use Rattle.lblt_tray.proofs.check.Goals as goal

pub returns-then-count-gt1024 : goal.returns-then-count-gt1024
returns-then-count-gt1024 c =
    many c.args.n c.args.count c.args.a.now c.args.words.now c.args.b.now c.args.runs.now c.args.answers.now c.if-count-gt1024.true

pub returns-then-n-gt64 : goal.returns-then-n-gt64
returns-then-n-gt64 c =
    large c.args.n c.args.count c.args.a.now c.args.words.now c.args.b.now c.args.runs.now c.args.answers.now c.if-count-gt1024.false c.if-n-gt64.true

pub returns-then-a-n : goal.returns-then-a-n
returns-then-a-n c =
    matrices_wrong c.args.n c.args.count c.args.a.now c.args.words.now c.args.b.now c.args.runs.now c.args.answers.now c.if-count-gt1024.false c.if-n-gt64.false c.if-a-n.true

pub returns-then-words-count : goal.returns-then-words-count
returns-then-words-count c =
    records_wrong c.args.n c.args.count c.args.a.now c.args.words.now c.args.b.now c.args.runs.now c.args.answers.now c.if-count-gt1024.false c.if-n-gt64.false c.if-a-n.false (rw c.words.ensures at c.if-words-count.true)

pub returns-then-b-n : goal.returns-then-b-n
returns-then-b-n c =
    sides_wrong c.args.n c.args.count c.args.a.now c.args.words.now c.args.b.now c.args.runs.now c.args.answers.now c.if-count-gt1024.false c.if-n-gt64.false c.if-a-n.false (rw c.words.ensures at c.if-words-count.false) c.if-b-n.true

pub returns-then-runs-count : goal.returns-then-runs-count
returns-then-runs-count c =
    runs_wrong c.args.n c.args.count c.args.a.now c.args.words.now c.args.b.now c.args.runs.now c.args.answers.now c.if-count-gt1024.false c.if-n-gt64.false c.if-a-n.false (rw c.words.ensures at c.if-words-count.false) c.if-b-n.false c.if-runs-count.true

pub returns-then-answers-count : goal.returns-then-answers-count
returns-then-answers-count c =
    answers_wrong c.args.n c.args.count c.args.a.now c.args.words.now c.args.b.now c.args.runs.now c.args.answers.now c.if-count-gt1024.false c.if-n-gt64.false c.if-a-n.false (rw c.words.ensures at c.if-words-count.false) c.if-b-n.false c.if-runs-count.false c.if-answers-count.true

pub returns : goal.returns
returns c =
    all_right c.args.n c.args.count c.args.a.now c.args.words.now c.args.b.now c.args.runs.now c.args.answers.now c.if-count-gt1024.false c.if-n-gt64.false c.if-a-n.false (rw c.words.ensures at c.if-words-count.false) c.if-b-n.false c.if-runs-count.false c.if-answers-count.false
