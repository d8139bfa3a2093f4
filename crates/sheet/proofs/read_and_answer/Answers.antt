use Rattle.sheet.proofs.Answers.{refuses_it, factors_it}
use Rattle.sheet.proofs.read_and_answer.Goals as goal

pub returns-in-Err : goal.returns-in-Err
returns-in-Err c = refuses_it c.in-Err.ensures c.put_refusal.ensures

pub returns : goal.returns
returns c = factors_it c.in-Ok.ensures _ c.words-count.ensures c.requires c.factor_and_write.ensures
