-- The promise of `cholesky`: refused, worked, unique, and there is always one. Assumes nothing.
use Rattle.std.specs.Prelude.{Err}
use mathlib.Core.Path.{◌≡◌, refl, sym, ◌∙◌, ap, subst}
use mathlib.Core.Bool.{true}
use mathlib.Core.List.{List}
use mathlib.Core.Logic.{⊎_elim}
use Prim.Native.Nat.{ℕ, ◌≤◌, ◌<◌}
use lib.Dec.{T}
use lib.ListN.{length}
use lib.Ieee.{Float}
use borrow.Author.Tests.{le-leb, lt-leb}
use Rattle.answer.specs.declared.Refusal.{Refusal}
use Rattle.answer.specs.declared.Refusal.TheVariants.{OutOfRange}
use Rattle.answer.specs.Answer.{Answer, Done, is_done}
use Rattle.answer.specs.Refusals.{tested}
use Rattle.answer.proofs.Tested.{all_hold, tested_refused, leaving_done, leaving_refused, leaving_alike}
use Rattle.answer.proofs.Tests.{lt_or_ge}
use Rattle.matrix.specs.declared.Layout.{Layout}
use Rattle.matrix.specs.Matrix.{Matrix}
use Rattle.matrix.specs.Grid.{load, Holds}
use Rattle.matrix.specs.Layouts.{in_room, lower}
use Rattle.matrix.specs.Sizes.{size_tests, Fits}
use Rattle.matrix.proofs.Grids.{holds_part, holds_as, holds_unique, same_cells}
use Rattle.matrix.proofs.Places.{lower_low, lower_under, in_lower_law, rows_part}
use Rattle.matrix.proofs.Sizes.{hold_fits, fits_pass}
use Rattle.cholesky.specs.Crate.{crate_rule}
use Rattle.cholesky.specs.Leaves.{Leaves}
use Rattle.cholesky.specs.Promise.{batch}
use Rattle.cholesky.proofs.Refusals.{crate_names}
use Rattle.teaching.specs.Promise.{teaching_tests, reached, Taught}
use Rattle.teaching.specs.inner.Rows.{by_rows, Does}
use Rattle.teaching.proofs.Rows.{RowsAre, rows_are}

module _ (room n : ℕ) where
  -- up to order 64 the tests are the main engine's
  pub small_tests : (len : ℕ) (r : Answer) → n ≤ 64 → tested (teaching_tests room n len) r ≡ tested (size_tests (in_room n room) 0 len) r
  unfolding tested
  small_tests len r small = rw (le-leb n 64 small)

  large_tests : (len : ℕ) (r : Answer) → 64 < n → tested (teaching_tests room n len) r ≡ Err OutOfRange
  unfolding tested
  large_tests len r large = rw (lt-leb n 64 large)

  pub taught_large : {l : List Float} → 64 < n → Taught room n l l (Err OutOfRange)
  taught_large {l} large = record {
    answer = sym (large_tests (length l) (batch (in_room n room) 0 l).answer large);
    left = leaving_refused (ap is_done (large_tests (length l) Done large)) refl;
  }

  pub taught_unfit : {y : Layout} {l : List Float} {fault : Refusal} → y ≡ in_room n room → n ≤ 64 → Err fault ≡ tested (size_tests y 0 (length l)) Done → Taught room n l l (Err fault)
  taught_unfit {l = l} at small told =
      let is = sym (told ∙ ap (λ (y : Layout). tested (size_tests y 0 (length l)) Done) at) in
      record {
        answer = sym (small_tests (length l) (batch (in_room n room) 0 l).answer small ∙ tested_refused (size_tests (in_room n room) 0 (length l)) (batch (in_room n room) 0 l).answer is);
        left = leaving_refused (ap is_done (small_tests (length l) Done small ∙ is)) refl;
      }

  pub fits_tests : {len : ℕ} (r : Answer) → n ≤ 64 → Fits (in_room n room) 0 len → tested (teaching_tests room n len) r ≡ r
  fits_tests {len} r small fits = small_tests len r small ∙ fits_pass (in_room n room) 0 len fits r

  -- what is done fits
  pub taught_fits : (len : ℕ) → is_done (tested (teaching_tests room n len) Done) ≡ true → Fits (in_room n room) 0 len
  taught_fits len done = hold_fits (in_room n room) 0 len (all_hold (teaching_tests room n len) Done done).0.1

  -- row after row, in the rows that are reached
  rows_left : {l₀ l : List Float} → Fits (in_room n room) 0 (length l₀) → Holds (lower (in_room n room)) l₀ l (by_rows crate_rule n (load (lower (in_room n room)) l₀)).cells
      → Leaves (in_room (reached n (batch (in_room n room) 0 l₀).answer) room) l₀ l (batch (in_room n room) 0 l₀).cells
  rows_left {l₀} {l} fits holds = record {
    holds =
        holds_as
        (holds_part (rows_part room c n so.upto fits.roomy) holds
        (λ i j inside outside. so.later i j (late i j inside outside)))
        (same_cells (lower (in_room c room)) (by_rows crate_rule n A).cells (batch (in_room n room) 0 l₀).cells
        (λ i j t. so.rows i j (lower_under (in_room c room) i j t) (lower_low (in_room c room) i j t)));
  }
    where
      A : Matrix
      A = load (lower (in_room n room)) l₀

      c : ℕ
      c = reached n (batch (in_room n room) 0 l₀).answer

      so : RowsAre crate_rule A n
      so = rows_are crate_names A n

      late : (i j : ℕ) → T ((lower (in_room n room)).inside i j) → (T ((lower (in_room c room)).inside i j) → ⊥) → c ≤ i
      late i j inside outside = ⊎_elim (λ early. absurd (outside (in_lower_law (in_room c room) i j (lower_under (in_room n room) i j inside) early))) (λ from. from) (lt_or_ge i c)

  pub taught_fit : {y : Layout} {l₀ l : List Float} {r : Answer} → y ≡ in_room n room → n ≤ 64 → Fits y 0 (length l₀) → Does y (by_rows crate_rule n) l₀ l r → Taught room n l₀ l r
  taught_fit {y} {l₀} {l} {r} at small fit done =
      let fits = subst (λ (y : Layout). Fits y 0 (length l₀)) at fit in
      let did = subst (λ (y : Layout). Does y (by_rows crate_rule n) l₀ l r) at done in
      let is : r ≡ (batch (in_room n room) 0 l₀).answer = did.answer ∙ (rows_are crate_names (load (lower (in_room n room)) l₀) n).answer in
      record {
        answer = is ∙ sym (fits_tests (batch (in_room n room) 0 l₀).answer small fits);
        left =
            leaving_done (ap is_done (fits_tests Done small fits))
            (subst (λ (s : Answer). Leaves (in_room (reached n s) room) l₀ l (batch (in_room n room) 0 l₀).cells) (sym is) (rows_left fits did.holds));
      }

  -- the promise fixes the answer and the slice
  pub taught_unique : {l₀ l l' : List Float} {r r' : Answer} → Taught room n l₀ l r → Taught room n l₀ l' r' → (r ≡ r') × (l ≡ l')
  taught_unique {l₀} {l} {l'} {r} {r'} t t' =
      let same : r ≡ r' = t.answer ∙ sym t'.answer in (
        same,
        leaving_alike refl t.left t'.left
            (λ h h'. holds_unique h.holds (subst (λ (s : Answer). Leaves (in_room (reached n s) room) l₀ l' (batch (in_room n room) 0 l₀).cells) (sym same) h').holds)
            (λ h h'. h ∙ sym h'),
      )
