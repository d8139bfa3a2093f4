use Rattle.std.proofs.Common.{length, ap, arith}
use Rattle.sheet_text.specs.declared.place.Place.{Place}
use Rattle.sheet_text.specs.inner.Next.{rest_from}
use Rattle.sheet_text.proofs.PlaceLaws.{rest_none, rest_more}
use Rattle.sheet_text.proofs.place.PlacesIterator.next.Goals as goal

pub returns-then-self-clause-steps : goal.returns-then-self-clause-steps
returns-then-self-clause-steps c =
    let p = c.args.self.now in
    let none = rest_none p.order p.at c.if-self.true (p.within c.if-self.true) in
    (none, none)

pub returns-clause-steps : goal.returns-clause-steps
returns-clause-steps c = rw c.next-self.ensures (rest_more _ _ c.if-self.false)

pub returns-clause-goes : goal.returns-clause-goes
returns-clause-goes c =
    let p = c.args.self.now in
    let after = ap (λ (q : Place). length (rest_from p.order q)) c.next-self.ensures in
    let fewer = ap length (rest_more p.order p.at c.if-self.false) in
    record { on = λ _. (tt, tt, omega arith); keeps = tt; rests = λ _. tt }
