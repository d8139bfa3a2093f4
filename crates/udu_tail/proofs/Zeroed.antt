-- What a call that is refused at column j leaves up to that column. Assumes nothing.
use Rattle.std.specs.Prelude.{Err}
use mathlib.Core.Bool.{Bool, true, false}
use mathlib.Core.List.{List}
use mathlib.Core.Path.{◌≡◌, refl, sym, ◌∙◌, ap, subst}
use Prim.Native.Nat.{ℕ, suc, ◌+◌, ◌<◌}
use native.Mathlib.Omega.{arith}
use borrow.Author.Tests.{eq-eqb, ne_eqb}
use lib.Ieee.{Float, eq}
use Rattle.answer.specs.declared.Refusal.TheVariants.{ZeroDiagonal}
use Rattle.answer.specs.Answer.{Answer}
use Rattle.matrix.specs.Matrix.{Matrix}
use Rattle.matrix.specs.Grid.{load}
use Rattle.matrix.specs.Layouts.{upper}
use Rattle.matrix.specs.Rounded.{plus_zero}
use Rattle.matrix.proofs.Loops.{falling_keeps}
use Rattle.matrix.proofs.Places.{square_at}
use Rattle.udu.specs.Columns.{Factors, nothing, udu_diagonal, with_diagonal, with_column, UduRun, accepted, refused, column_by, udu_column, udu_columns}
use Rattle.udu.specs.Promise.{UduSized, udu_of, udu_answer, factors_of, Holding, UduFactored}
use Rattle.udu.proofs.Holding.{cell}
use Rattle.udu.proofs.Sizes.{columned}
use Rattle.udu_tail.specs.Tail.{Zeroed}

-- the first a numbers of d and the first c columns of u are +0
record Clear (a c : ℕ) (F : Factors) : Type 0 where
  d : (k : ℕ) → k < a → F.d k ≡ plus_zero
  u : (i k : ℕ) → k < c → F.u i k ≡ plus_zero

record Stopped (n j : ℕ) (F : Factors) : Type 0 where
  within : j < n
  found : eq (F.d j) plus_zero ≡ true
  clear : Clear j (j + 1) F

-- what was found while c columns are left
abbrev Left : ℕ → ℕ → UduRun → Type 0
Left n c (accepted F) = Clear c c F
Left n c (refused j F) = Stopped n j F

module _ (n : ℕ) (P : Matrix) where
  left_by : (F : Factors) (j : ℕ) → j < n → Clear (suc j) (suc j) F → (x : Float) (b : Bool) → eq x plus_zero ≡ b → Left n j (column_by n P F j x b)
  unfolding with_diagonal with_column
  left_by F j below clear x true zero = record {
    within = below;
    found = simp (eq-eqb j j refl) zero;
    clear = record {
      d = λ k less. simp (ne_eqb k j (λ e. omega arith)) (clear.d k (omega arith));
      u = λ i k less. clear.u i k (omega arith);
    };
  }
  left_by F j below clear x false zero = record {
    d = λ k less. simp (ne_eqb k j (λ e. omega arith)) (clear.d k (omega arith));
    u = λ i k less. simp (ne_eqb k j (λ e. omega arith)) (clear.u i k (omega arith));
  }

  left_column : (j : ℕ) (R : UduRun) → j < n → Left n (suc j) R → Left n j (udu_column n P j R)
  unfolding udu_column
  left_column j (accepted F) below clear = left_by F j below clear (udu_diagonal n P F j) (eq (udu_diagonal n P F j) plus_zero) refl
  left_column j (refused k F) below stopped = stopped

  left_all : Left n 0 (udu_columns n P)
  unfolding udu_columns nothing
  left_all =
      falling_keeps (Left n) n (udu_column n P) (accepted nothing) (record { d = λ k less. refl; u = λ i k less. refl })
      (λ j R below is. left_column j R below is)

stopped_at : (n j : ℕ) (R : UduRun) → Left n 0 R → udu_answer R ≡ Err (ZeroDiagonal j) → Stopped n j (factors_of R)
stopped_at n j (accepted F) clear e = absurd (let z : ◌≡◌ {A = ℕ} 0 1 = cc in omega arith)
stopped_at n j (refused k F) stopped e = let same : k ≡ j = cc in subst (λ (i : ℕ). Stopped n i F) same stopped

pub zeroed : {p u₀ d₀ u d : List Float} {n j : ℕ} {r : Answer} → UduSized n p u₀ d₀ → UduFactored p u₀ d₀ n r u d → r ≡ Err (ZeroDiagonal j) → Zeroed n j u d
unfolding udu_of
zeroed {p} {u = u} {d = d} {n = n} {j = j} sized call is = record {
  within = stopped.within;
  found = ap (λ (x : Float). eq x plus_zero) (held.diagonal.cells j stopped.within) ∙ stopped.found;
  before = λ k less. held.diagonal.cells k (omega (arith, stopped.within)) ∙ stopped.clear.d k less;
  columns = λ i k row upto.
      let column : k < n = omega (arith, stopped.within) in
      square_at n u i k row column ∙ cell _ held.upper i k row column ∙ stopped.clear.u i k (omega arith);
}
  where
    stopped : Stopped n j (factors_of (udu_of n p))
    stopped = stopped_at n j (udu_of n p) (left_all n (load (upper n) p)) (sym (columned sized call).answer ∙ is)

    held : Holding n (factors_of (udu_of n p)) u d
    held = (columned sized call).slices
