-- The call beside the main engine's on the same buffer, from their two promises. Assumes nothing.
use mathlib.Core.Path.{◌≡◌, sym, ◌∙◌, ap, subst}
use mathlib.Core.Bool.{false}
use mathlib.Core.List.{List}
use Prim.Native.Nat.{ℕ, ◌+◌, ◌≤◌, ◌<◌}
use native.Mathlib.Omega.{arith}
use lib.ListN.{length}
use lib.Ieee.{Float}
use Rattle.answer.specs.Answer.{Answer, Done, is_done}
use Rattle.answer.specs.Number.{place_of}
use Rattle.answer.specs.Refusals.{tested}
use Rattle.answer.proofs.Done.{done_or_refused}
use Rattle.matrix.specs.Matrix.{Matrix}
use Rattle.matrix.specs.Grid.{load}
use Rattle.matrix.specs.Layouts.{in_room, start_of, lower}
use Rattle.matrix.specs.Sizes.{size_tests, Fits}
use Rattle.matrix.proofs.Grids.{holds_unique}
use Rattle.matrix.proofs.Places.{lower_at, free_at}
use Rattle.matrix.proofs.Sizes.{done_fits}
use Rattle.cholesky.specs.Leaves.{Leaves}
use Rattle.cholesky.specs.Promise.{batch, Extended}
use Rattle.cholesky.proofs.Parts.{leaves_agree}
use Rattle.cholesky.proofs.Promises.{extended_answer, extended_leaves}
use Rattle.cholesky.proofs.Refusals.{crate_names}
use Rattle.teaching.specs.Promise.{reached, Taught}
use Rattle.teaching.specs.Beside.{entry_in, BesideMain}
use Rattle.teaching.proofs.Rows.{reached_all, reached_refused, rows_are}
use Rattle.teaching.proofs.Promises.{small_tests, fits_tests}

-- an entry that is left
left_at : (room c : ℕ) {l₀ l : List Float} {M : Matrix} → Leaves (in_room c room) l₀ l M → (i j : ℕ) → j ≤ i → i < c → entry_in room l i j ≡ M i j
unfolding start_of
left_at room c {l = l} h i j low lt = sym (lower_at (in_room c room) l i j low lt) ∙ (leaves_agree h).at i j low lt

module _ {room n : ℕ} {l₀ l whole : List Float} {r w : Answer} (small : n ≤ 64) (taught : Taught room n l₀ l r) (main : Extended (in_room n room) 0 l₀ whole w) where
  same : r ≡ w
  same = taught.answer ∙ small_tests room n (length l₀) (batch (in_room n room) 0 l₀).answer small ∙ sym main.answer

  -- refused by size, both leave what was given
  unfit : is_done (tested (size_tests (in_room n room) 0 (length l₀)) Done) ≡ false → BesideMain room l₀ l r whole w
  unfit failed =
      let as-given = taught.left.refused (ap is_done (small_tests room n (length l₀) Done small) ∙ failed) in
      let main-as-given = main.left.refused failed in
      record {
        answer = same;
        accepted = λ done. as-given ∙ sym main-as-given;
        upto = λ refused i c low at. ap (λ (k : List Float). entry_in room k i c) (as-given ∙ sym main-as-given);
        below = λ refused i c at under. ap (λ (k : List Float). entry_in room k i c) as-given;
        right = λ refused i c at under. ap (λ (k : List Float). entry_in room k i c) as-given;
      }

  module _ (fits : Fits (in_room n room) 0 (length l₀)) where
    left : (c : ℕ) → reached n r ≡ c → Leaves (in_room c room) l₀ l (batch (in_room n room) 0 l₀).cells
    left c is =
        subst (λ (c : ℕ). Leaves (in_room c room) l₀ l (batch (in_room n room) 0 l₀).cells) is
        (taught.left.done (ap is_done (fits_tests room n Done small fits)))

    main_left : Leaves (in_room n room) l₀ whole (batch (in_room n room) 0 l₀).cells
    main_left = extended_leaves main fits

    -- the refused row is one of the n
    place_inside : is_done r ≡ false → place_of r + 1 ≤ n
    place_inside refused =
        let told : r ≡ (batch (in_room n room) 0 l₀).answer = same ∙ extended_answer main fits in
        let upto : reached n r ≤ n = subst (λ (s : Answer). reached n s ≤ n) (sym told) (rows_are crate_names (load (lower (in_room n room)) l₀) n).upto in
        omega (arith, reached_refused n r refused)

    fit : BesideMain room l₀ l r whole w
    fit = record {
      answer = same;
      accepted = λ done. holds_unique (left n (reached_all n r done)).holds main_left.holds;
      upto = λ refused i c low at.
          left_at room (place_of r + 1) (left (place_of r + 1) (reached_refused n r refused)) i c low (omega arith)
          ∙ sym (left_at room n main_left i c low (omega (arith, place_inside refused)));
      below = λ refused i c at under. kept refused i c under (λ low lt. omega arith);
      right = λ refused i c at under. kept refused i c under (λ low lt. omega arith);
    }
      where
        kept : is_done r ≡ false → (i c : ℕ) → i < room → (c ≤ i → i < place_of r + 1 → ⊥) → entry_in room l i c ≡ entry_in room l₀ i c
        kept refused i c under off =
            let ordered = fits.roomy.ordered in
            (left (place_of r + 1) (reached_refused n r refused)).holds.kept _ (free_at room (place_of r + 1) i c (omega (arith, place_inside refused)) under off)

  pub beside_main : BesideMain room l₀ l r whole w
  beside_main =
      done_or_refused (tested (size_tests (in_room n room) 0 (length l₀)) Done)
      (λ done. fit (done_fits (in_room n room) 0 (length l₀) Done done))
      unfit
