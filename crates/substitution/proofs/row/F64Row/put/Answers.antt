-- A number stored in a single column.
use Rattle.std.proofs.Common.{sym, ap, ◌∙◌, length-set, set}
use Rattle.substitution.proofs.Instances.{whole}
use Rattle.substitution.proofs.row.F64Row.put.Goals as goal

pub returns : goal.returns
returns c j below =
    whole _ _ (length-set _ _ _ ∙ c.requires.b_len) j below ∙ sym (ap (λ l. set l c.args.i c.args.self) (whole _ _ c.requires.b_len j below))
