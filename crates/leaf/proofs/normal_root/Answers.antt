-- `normal_root` meets its contract.
use mathlib.Core.Path.{◌∙◌}
use Rattle.leaf.proofs.Fields.{root_rounded, normal_root}
use Rattle.leaf.proofs.normal_root.Goals as goal

pub returns : goal.returns
returns c = c.scaled_root.ensures ∙ root_rounded (normal_root c.args.bits c.requires)
