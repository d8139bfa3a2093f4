-- The promise of the further batch: refused, grown, and unique. Assumes nothing.
use Rattle.std.specs.Prelude.{Err}
use mathlib.Core.Path.{◌≡◌, refl, sym, ◌∙◌, ap, ap₂}
use mathlib.Core.Bool.{true}
use mathlib.Core.List.{List}
use Prim.Native.Nat.{ℕ, ◌-◌, ◌≤◌}
use native.Mathlib.Omega.{arith}
use lib.ListN.{length}
use lib.Ieee.{Float}
use borrow.Author.Tests.{le-leb, leb-true, eq-eqb, eqb-true}
use Rattle.answer.specs.declared.Refusal.{Refusal}
use Rattle.answer.specs.Answer.{Answer, Done, is_done}
use Rattle.answer.specs.Refusals.{tested}
use Rattle.answer.proofs.Tested.{AllHold, Fails, tested_all, tested_at, all_hold, leaving_done, leaving_refused, leaving_alike}
use Rattle.matrix.specs.Matrix.{Matrix}
use Rattle.matrix.specs.Grid.{load, mask, Holds}
use Rattle.matrix.specs.Layouts.{packed, entries_of, size_of, lower}
use Rattle.matrix.specs.Sizes.{Fits}
use Rattle.matrix.proofs.Grids.{holds_unique}
use Rattle.packing.specs.Joined.{row_start}
use Rattle.packing.specs.inner.Sizes.{Parts}
use Rattle.cholesky.specs.Crate.{crate_rule}
use Rattle.cholesky.specs.Run.{factor_columns}
use Rattle.cholesky.specs.Leaves.{Leaves}
use Rattle.cholesky.specs.Promise.{Extended}
use Rattle.cholesky.proofs.Promises.{extended_fit, extended_answer, extended_leaves}
use Rattle.packed.specs.Growing.{grow_tests, handed_in, grown, Grown}

-- the length of the rows, worked out
pub rows_long : (m n : ℕ) {all before len : ℕ} → all ≡ entries_of n → before ≡ entries_of m → len ≡ all - before → len ≡ row_start m n
unfolding row_start
rows_long m n all before is = is ∙ ap₂ ◌-◌ all before

module _ (m n : ℕ) (old rows fresh : List Float) where
  parts_hold : Parts m n old rows fresh → AllHold (grow_tests m n (length old) (length rows) (length fresh))
  parts_hold p =
      let rising : m ≤ n = p.further.rising in
      let small : n ≤ 1024 = p.further.small in (
        le-leb n 1024 small,
        (
          le-leb m 1024 (omega arith),
          (
            le-leb m n rising,
            (eq-eqb (length old) (entries_of m) p.first, (eq-eqb (length rows) (row_start m n) p.further.long, (eq-eqb (length fresh) (entries_of n) p.further.room, tt))),
          ),
        ),
      )

  hold_parts : AllHold (grow_tests m n (length old) (length rows) (length fresh)) → Parts m n old rows fresh
  hold_parts h = record {
    further = record {
      rising = leb-true m n h.1.1.0;
      small = leb-true n 1024 h.0;
      long = eqb-true (length rows) (row_start m n) h.1.1.1.1.0;
      room = eqb-true (length fresh) (entries_of n) h.1.1.1.1.1.0;
    };
    first = eqb-true (length old) (entries_of m) h.1.1.1.0;
  }

  pub parts_pass : Parts m n old rows fresh → (r : Answer) → tested (grow_tests m n (length old) (length rows) (length fresh)) r ≡ r
  parts_pass p r = tested_all (grow_tests m n (length old) (length rows) (length fresh)) r (parts_hold p)

  -- what is not refused by size has the right parts
  pub done_parts : is_done (tested (grow_tests m n (length old) (length rows) (length fresh)) Done) ≡ true → Parts m n old rows fresh
  done_parts done = hold_parts (all_hold (grow_tests m n (length old) (length rows) (length fresh)) Done done).0

  -- so the fresh buffer is a slice of its layout
  pub grown_fits : is_done (tested (grow_tests m n (length old) (length rows) (length fresh)) Done) ≡ true → Fits (packed n) m (length fresh)
  unfolding size_of
  grown_fits done =
      let p = done_parts done in
      record { roomy = record { ordered = omega arith; small = p.further.small }; rising = p.further.rising; long = p.further.room }

module _ {m n : ℕ} {old rows fresh : List Float} where
  -- a test fails
  pub grown_unfit : {fault : Refusal} → Fails fault (grow_tests m n (length old) (length rows) (length fresh)) → Grown m n old rows fresh (Err fault) fresh
  grown_unfit fails =
      let tests = grow_tests m n (length old) (length rows) (length fresh) in
      record { answer = sym (tested_at tests (grown m n old rows).answer fails); left = leaving_refused (ap is_done (tested_at tests Done fails)) refl }

  -- the parts are joined, and the batch is worked on
  pub grown_fit : {joint fresh' : List Float} {r : Answer} → Parts m n old rows fresh → Holds (lower (packed n)) fresh joint (handed_in m n old rows) → Extended (packed n) m joint fresh' r
      → Grown m n old rows fresh r fresh'
  unfolding lower size_of
  grown_fit {joint} {fresh'} {r} p joins call =
      record {
        answer = extended_answer call fits ∙ ap (λ (M : Matrix). (factor_columns crate_rule m n M).answer) joins.cells ∙ sym (parts_pass m n old rows fresh p (grown m n old rows).answer);
        left = leaving_done (ap is_done (parts_pass m n old rows fresh p Done)) (record { holds = worked });
      }
    where
      fits : Fits (packed n) m (length joint)
      fits = record { roomy = record { ordered = omega arith; small = p.further.small }; rising = p.further.rising; long = joins.sound.long }

      leaves : Leaves (packed n) joint fresh' (factor_columns crate_rule m n (load (lower (packed n)) joint)).cells
      leaves = extended_leaves call fits

      worked : Holds (lower (packed n)) fresh fresh' (mask (lower (packed n)) (grown m n old rows).cells)
      worked = record {
        sound = leaves.holds.sound;
        cells = leaves.holds.cells ∙ ap (λ (M : Matrix). mask (lower (packed n)) (factor_columns crate_rule m n M).cells) joins.cells;
        kept = λ q free. leaves.holds.kept q free ∙ joins.kept q free;
      }

  -- the other way round: over the joined parts, it is the batch of the packed layout
  pub grown_extended : {joint fresh' : List Float} {r : Answer} → Parts m n old rows fresh → Holds (lower (packed n)) fresh joint (handed_in m n old rows) → Grown m n old rows fresh r fresh'
      → Extended (packed n) m joint fresh' r
  unfolding lower size_of
  grown_extended {joint} {fresh'} {r} p joins call =
      extended_fit (record { roomy = record { ordered = omega arith; small = p.further.small }; rising = p.further.rising; long = joins.sound.long })
      (record {
        answer = call.answer ∙ parts_pass m n old rows fresh p (grown m n old rows).answer ∙ ap (λ (M : Matrix). (factor_columns crate_rule m n M).answer) (sym joins.cells);
        leaves = record {
          holds = record {
            sound = worked.sound;
            cells = worked.cells ∙ ap (λ (M : Matrix). mask (lower (packed n)) (factor_columns crate_rule m n M).cells) (sym joins.cells);
            kept = λ q free. worked.kept q free ∙ sym (joins.kept q free);
          };
        };
      })
    where
      worked : Holds (lower (packed n)) fresh fresh' (mask (lower (packed n)) (grown m n old rows).cells)
      worked = (call.left.done (ap is_done (parts_pass m n old rows fresh p Done))).holds

  -- the promise fixes the answer and the buffer
  pub grown_unique : {r s : Answer} {fresh₁ fresh₂ : List Float} → Grown m n old rows fresh r fresh₁ → Grown m n old rows fresh s fresh₂ → (r ≡ s) × (fresh₁ ≡ fresh₂)
  grown_unique g h = (g.answer ∙ sym h.answer, leaving_alike refl g.left h.left (λ x y. holds_unique x.holds y.holds) (λ x y. x ∙ sym y))
