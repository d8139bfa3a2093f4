-- `maximum` meets its contract.
use Rattle.leaf.proofs.Nan.{is_a_nan, no_nan}
use Rattle.leaf.proofs.Larger.{of_nan, of_less, of_rest}
use Rattle.leaf.proofs.maximum.Goals as goal

pub returns-then-a : goal.returns-then-a
returns-then-a c = let a = c.args in of_nan a.a a.b (is_a_nan a.a c.if-a.true)

pub returns-then-a-b : goal.returns-then-a-b
returns-then-a-b c = let a = c.args in of_less a.a a.b (no_nan a.a c.if-a.false) c.if-a-b.true

pub returns : goal.returns
returns c = let a = c.args in of_rest a.a a.b (no_nan a.a c.if-a.false) c.if-a-b.false
