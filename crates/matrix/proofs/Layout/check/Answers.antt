-- `Layout::check` answers by the first test of size that fails. Assumes nothing.
use mathlib.Core.Path.{refl, sym, ◌∙◌}
use borrow.Author.Tests.{le-leb, lt-leb, ne_eqb}
use Rattle.answer.proofs.Tested.{here, later, tested_at}
use Rattle.matrix.proofs.Sizes.{fits_pass}
use Rattle.matrix.proofs.Layout.check.Goals as goal

pub returns-then-self-gt1024 : goal.returns-then-self-gt1024
returns-then-self-gt1024 c = sym (tested_at _ _ (here (lt-leb _ _ c.if-self-gt1024.true) refl))

pub returns-then-self-gt1024-2 : goal.returns-then-self-gt1024-2
returns-then-self-gt1024-2 c = sym (tested_at _ _ (later (le-leb _ _ c.if-self-gt1024.false) (here (lt-leb _ _ c.if-self-gt1024-2.true) refl)))

pub returns-then-earlier-gt1024 : goal.returns-then-earlier-gt1024
returns-then-earlier-gt1024 c =
    sym (tested_at _ _ (later (le-leb _ _ c.if-self-gt1024.false) (later (le-leb _ _ c.if-self-gt1024-2.false) (here (lt-leb _ _ c.if-earlier-gt1024.true) refl))))

pub returns-then-self : goal.returns-then-self
returns-then-self c =
    sym
    (tested_at _ _
    (later (le-leb _ _ c.if-self-gt1024.false)
    (later (le-leb _ _ c.if-self-gt1024-2.false) (later (le-leb _ _ c.if-earlier-gt1024.false) (here (lt-leb _ _ c.if-self.true) refl)))))

pub returns-then-self-earlier : goal.returns-then-self-earlier
returns-then-self-earlier c =
    sym
    (tested_at _ _
    (later (le-leb _ _ c.if-self-gt1024.false)
    (later (le-leb _ _ c.if-self-gt1024-2.false)
    (later (le-leb _ _ c.if-earlier-gt1024.false)
    (later (le-leb _ _ c.if-self.false) (here (lt-leb _ _ c.if-self-earlier.true) refl))))))

pub length-requires : goal.length-requires
length-requires c =
    record { ordered = c.if-self.false; small = c.if-self-gt1024.false }

pub returns-then-len-length : goal.returns-then-len-length
returns-then-len-length c =
    sym
    (tested_at _ _
    (later (le-leb _ _ c.if-self-gt1024.false)
    (later (le-leb _ _ c.if-self-gt1024-2.false)
    (later (le-leb _ _ c.if-earlier-gt1024.false)
    (later (le-leb _ _ c.if-self.false)
    (later (le-leb _ _ c.if-self-earlier.false) (here (ne_eqb _ _ (λ e. c.if-len-length.true (e ∙ sym c.length.ensures))) refl)))))))

pub returns : goal.returns
returns c =
    sym
    (fits_pass _ _ _
    (record {
      roomy = record { ordered = c.if-self.false; small = c.if-self-gt1024.false };
      rising = c.if-self-earlier.false;
      long = c.if-len-length.false ∙ c.length.ensures;
    }) _)
