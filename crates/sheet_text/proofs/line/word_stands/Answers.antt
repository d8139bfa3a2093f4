use Rattle.std.proofs.Common.{◌∙◌}
use Rattle.sheet_text.proofs.Steps.{word_is}
use Rattle.sheet_text.proofs.line.word_stands.Goals as goal

pub returns : goal.returns
returns c = c.starts_with.ensures.value ∙ word_is c.args.word.now c.args.s.now c.args.at c.min.result c.min.ensures
