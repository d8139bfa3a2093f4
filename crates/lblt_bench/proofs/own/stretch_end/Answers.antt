-- `stretch_end` looks for the first column that has another number.
use Rattle.std.proofs.Common.{◌∙◌, sym, arith}
use Rattle.lblt_bench.proofs.Stretches.{stretch_some, stretch_apart, stretch_none}
use Rattle.lblt_bench.proofs.own.stretch_end.Goals as goal

pub overflow_add-result : goal.overflow_add-result
overflow_add-result c =
    let s = stretch_some c.args.benches.now c.args.number c.args.from c.requires (sym c.first_other.ensures ∙ c.in-Some.is) in
    omega (arith, s.ends)

pub returns-in-Some-clause-stretch : goal.returns-in-Some-clause-stretch
returns-in-Some-clause-stretch c = stretch_some c.args.benches.now c.args.number c.args.from c.requires (sym c.first_other.ensures ∙ c.in-Some.is)

pub returns-in-Some-clause-other_number : goal.returns-in-Some-clause-other_number
returns-in-Some-clause-other_number c = λ below. stretch_apart c.args.benches.now c.args.number c.args.from c.requires (sym c.first_other.ensures ∙ c.in-Some.is)

pub returns-in-None-clause-stretch : goal.returns-in-None-clause-stretch
returns-in-None-clause-stretch c = stretch_none c.args.benches.now c.args.number c.args.from c.requires (sym c.first_other.ensures ∙ c.in-None.is)
