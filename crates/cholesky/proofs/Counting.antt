-- The laws of the count of columns that used the floor, by any rule. Assumes nothing.
--     used_none, used_one, used_join   no column, one, some after others
--     used_before, used_early          no column before m is counted
--     used_at_law                          a column from m on is counted exactly if it passes and its diagonal does not
--     used_unfinished, used_refused    a refused column is not counted, nor is one after it
--     none_counted                     no column is
--     used_upto_law                        no more than the columns
--     used_like                        the same of two matrices that agree on the first n rows
--     used_later                       from column m on it does not matter where the batch begins
--     used_judged                      one column from m on, by its judgement
use mathlib.Core.Path.{◌≡◌, refl, sym, ◌∙◌, ap, ap₂, subst}
use mathlib.Core.Bool.{Bool, true, false, cond, not, ◌&&◌}
use Prim.Native.Nat.{ℕ, zero, suc, ◌+◌, ◌-◌, ◌≤◌, ◌<◌}
use native.Mathlib.Omega.{arith}
use lib.Dec.{leb}
use lib.Ieee.{Float}
use borrow.Author.Tests.{le-leb, lt-leb, le-ltb}
use Rattle.answer.specs.Answer.{Answer, is_done}
use Rattle.matrix.specs.Matrix.{Matrix}
use Rattle.matrix.specs.Loop.{for}
use Rattle.matrix.proofs.Loops.{for_none, for_one, for_join, for_keeps, for_same, for_past}
use Rattle.cholesky.specs.Column.{updated}
use Rattle.cholesky.specs.Run.{Rule, Outcome, updates, judged_column, worked, factor_column, started}
use Rattle.cholesky.specs.Floor.{passes}
use Rattle.cholesky.specs.Used.{used_at, used_from}
use Rattle.cholesky.specs.inner.Engine.{used_once}
use Rattle.cholesky.proofs.Parts.{updated_agree}
use Rattle.cholesky.proofs.Onward.{column_later, column_judged, column_stays, refusal_stays}
use Rattle.cholesky.proofs.Outcomes.{Like, column_like, columns_like}
use Rattle.cholesky.proofs.Rows.{updates_in, judged_answer}

-- c, or one more
abbrev more_if : Bool → ℕ → ℕ
more_if b c = cond b (c + 1) c

module _ (ρ : Rule) (m : ℕ) where
  abbrev after : ℕ → ℕ → Outcome → Outcome
  after lo hi o = for lo hi (factor_column ρ m) o

  abbrev turn : ℕ → Outcome → ℕ → ℕ → ℕ
  turn lo o j c = more_if (used_at ρ m j (after lo j o)) c

  pub used_none : (lo : ℕ) (o : Outcome) → used_from ρ m lo lo o ≡ 0
  unfolding used_from
  used_none lo o = for_none lo (turn lo o) 0

  pub used_one : (j : ℕ) (o : Outcome) → used_from ρ m j (j + 1) o ≡ cond (used_at ρ m j o) 1 0
  unfolding used_from
  used_one j o = for_one j (turn j o) 0 ∙ ap (λ (p : Outcome). more_if (used_at ρ m j p) 0) (for_none j (factor_column ρ m) o)

  pub used_join : (lo mid hi : ℕ) (o : Outcome) → lo ≤ mid → mid ≤ hi → used_from ρ m lo hi o ≡ used_from ρ m lo mid o + used_from ρ m mid hi (after lo mid o)
  unfolding used_from
  used_join lo mid hi o from upto =
      sym (for_join lo mid hi (turn lo o) 0 from upto)
      ∙ for_same mid hi (turn lo o) (turn mid (after lo mid o)) first (λ j c above below. ap (λ (p : Outcome). more_if (used_at ρ m j p) c) (sym (for_join lo mid j (factor_column ρ m) o from above)))
      ∙ ap (for mid hi (turn mid (after lo mid o))) start
      ∙ for_past mid hi (turn mid (after lo mid o)) (λ (c : ℕ). first + c) 0 (λ j c above below. past (used_at ρ m j (after mid j (after lo mid o))) c)
    where
      first : ℕ
      first = for lo mid (turn lo o) 0

      start : first ≡ first + 0
      start = omega arith

      past : (b : Bool) (c : ℕ) → more_if b (first + c) ≡ first + more_if b c
      past true c = omega arith
      past false c = refl

  pub none_counted : (lo hi : ℕ) (o : Outcome) → ((j : ℕ) → lo ≤ j → j < hi → used_at ρ m j (after lo j o) ≡ false) → used_from ρ m lo hi o ≡ 0
  unfolding used_from
  none_counted lo hi o each = for_keeps (λ (c : ℕ). c ≡ 0) lo hi (turn lo o) 0 refl (λ j c from upto is. ap (λ (b : Bool). more_if b c) (each j from upto) ∙ is)

  pub used_before : (j : ℕ) (o : Outcome) → j < m → used_at ρ m j o ≡ false
  unfolding used_at
  used_before j o early = rw (lt-leb m j early)

  pub used_at_law : (j : ℕ) (o : Outcome) → m ≤ j → is_done o.answer ≡ true
      → used_at ρ m j o ≡ (is_done (ρ.verdict (updated o.cells j j j) j) && not (passes (updated o.cells j j j)))
  unfolding used_at
  used_at_law j o from done =
      rw (le-leb m j from)
      (ap (λ (r : Answer). is_done r && not (passes (updated o.cells j j j)))
      (ap (λ (p : Outcome). p.answer) (column_judged ρ m j o from done) ∙ judged_answer ρ j (updates j j o.cells) ∙ ap (λ (d : Float). ρ.verdict d j) (updates_in j j o.cells j (omega arith))))

  pub used_early : (lo hi : ℕ) (o : Outcome) → hi ≤ m → used_from ρ m lo hi o ≡ 0
  used_early lo hi o early = none_counted lo hi o (λ j from upto. used_before j _ (omega arith))

  pub used_unfinished : (j : ℕ) (o : Outcome) → is_done (factor_column ρ m j o).answer ≡ false → used_at ρ m j o ≡ false
  unfolding used_at
  used_unfinished j o failed = rw failed (nothing (leb m j))
    where
      nothing : (b : Bool) → (b && false) ≡ false
      nothing true = refl
      nothing false = refl

  pub used_refused : (lo hi : ℕ) (o : Outcome) → is_done o.answer ≡ false → used_from ρ m lo hi o ≡ 0
  used_refused lo hi o refused =
      none_counted lo hi o
      (λ j from upto. ap (used_at ρ m j) (refusal_stays ρ m lo j o refused) ∙ used_unfinished j o (ap (λ (p : Outcome). is_done p.answer) (column_stays ρ m j o refused) ∙ refused))

  pub used_upto_law : (lo hi : ℕ) (o : Outcome) → lo ≤ hi → used_from ρ m lo hi o + lo ≤ hi
  used_upto_law lo hi o from =
      let some : lo + (hi - lo) ≡ hi = omega arith in
      let bound = subst (λ (h : ℕ). used_from ρ m lo h o ≤ hi - lo) some (go (hi - lo)) in
      omega arith
    where
      once : (b : Bool) → cond b 1 0 ≤ 1
      once true = omega arith
      once false = omega arith

      go : (c : ℕ) → used_from ρ m lo (lo + c) o ≤ c
      go zero =
          let end : lo + 0 ≡ lo = omega arith in
          let none : used_from ρ m lo (lo + 0) o ≡ 0 = ap (λ (h : ℕ). used_from ρ m lo h o) end ∙ used_none lo o in
          omega arith
      go (suc c) =
          let end : lo + suc c ≡ lo + c + 1 = omega arith in
          let last = after lo (lo + c) o in
          let split : used_from ρ m lo (lo + suc c) o ≡ used_from ρ m lo (lo + c) o + used_from ρ m (lo + c) (lo + c + 1) last =
          ap (λ (h : ℕ). used_from ρ m lo h o) end ∙ used_join lo (lo + c) (lo + c + 1) o (omega arith) (omega arith) in
          let one : used_from ρ m (lo + c) (lo + c + 1) last ≡ cond (used_at ρ m (lo + c) last) 1 0 = used_one (lo + c) last in
          let small = once (used_at ρ m (lo + c) last) in
          let before = go c in
          omega arith

  at_like : {n : ℕ} {o p : Outcome} (j : ℕ) → j < n → Like n o p → used_at ρ m j o ≡ used_at ρ m j p
  unfolding used_at
  at_like {n} {o} {p} j lt same =
      ap₂ (λ (r : Answer) (d : Float). leb m j && (is_done r && not (passes d)))
      (column_like ρ m j lt same).answer
      (updated_agree o.cells p.cells j j j (same.cells.at j j (omega arith) lt) (λ c h. same.cells.at j c (omega arith) lt) (λ c h. same.cells.at j c (omega arith) lt))

  pub used_like : {n : ℕ} {o p : Outcome} (lo hi : ℕ) → hi ≤ n → Like n o p → used_from ρ m lo hi o ≡ used_from ρ m lo hi p
  unfolding used_from
  used_like {o = o} {p = p} lo hi upto same =
      for_same lo hi (turn lo o) (turn lo p) 0
      (λ j c from below. ap (λ (b : Bool). more_if b c) (at_like j (omega arith) (columns_like ρ m lo j (omega arith) same)))

pub used_later : (ρ : Rule) (m lo hi : ℕ) (o : Outcome) → m ≤ lo → used_from ρ m lo hi o ≡ used_from ρ 0 lo hi o
unfolding used_from used_at
used_later ρ m lo hi o from =
    for_same lo hi (turn ρ m lo o) (turn ρ 0 lo o) 0
    (λ j c above below.
    ap₂ (λ (b : Bool) (r : Outcome × Matrix). more_if (b && (is_done r.0.answer && not (passes (updated r.1 j j j)))) c)
    (le-leb m j (omega arith) ∙ sym (le-leb 0 j (omega arith)))
    (ap₂ (λ (q p : Outcome). (q, p.cells)) (column_later ρ m j (after ρ m lo j o) (omega arith) ∙ ap (factor_column ρ 0 j) (same j)) (same j)))
  where
    same : (j : ℕ) → after ρ m lo j o ≡ after ρ 0 lo j o
    same j = for_same lo j (factor_column ρ m) (factor_column ρ 0) o (λ k p above below. column_later ρ m k p (omega arith))

pub used_judged : (ρ : Rule) (m j : ℕ) (M : Matrix) → m ≤ j
    → used_from ρ m j (j + 1) (started M) ≡ used_once (is_done (judged_column ρ j (updates j j M)).answer) (updates j j M j j)
unfolding used_at factor_column worked
used_judged ρ m j M from =
    used_one ρ m j (started M)
    ∙ rw (le-leb m j from, le-ltb j m from)
    (ap (used_once (is_done (judged_column ρ j (updates j j M)).answer)) (sym (updates_in j j M j (omega arith))))
