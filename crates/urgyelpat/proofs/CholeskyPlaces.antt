-- The places that Cholesky's calls answer. Assumes nothing.
use Rattle.std.proofs.Common.{Result, Ok, Err, List, refl, sym, subst, ℕ, ◌≤◌, arith, leb, length, Float}
use borrow.Author.Tests.{leb-true}
use Rattle.answer.specs.declared.Refusal.{Refusal}
use Rattle.answer.specs.declared.Refusal.TheVariants.{OutOfRange}
use Rattle.answer.specs.Answer.{Answer, Done}
use Rattle.answer.specs.Refusals.{tested}
use Rattle.answer.proofs.Done.{done_is, done_or_refused}
use Rattle.answer.proofs.Within.{Within, within_none, within_test, within_tested}
use Rattle.matrix.specs.declared.Layout.{Layout}
use Rattle.matrix.specs.Matrix.{Matrix}
use Rattle.matrix.specs.Grid.{load}
use Rattle.matrix.specs.Layouts.{in_room, lower}
use Rattle.matrix.specs.Sizes.{size_tests}
use Rattle.matrix.proofs.Sizes.{sizes_within}
use Rattle.cholesky.specs.declared.Floored.{Floored}
use Rattle.cholesky.specs.Run.{Rule, started, factor_columns}
use Rattle.cholesky.specs.Promise.{batch, ExtendedBy, Extended}
use Rattle.cholesky.specs.Floored.{ExtendedFloored}
use Rattle.cholesky.specs.Solve.{sides_tests, CholeskySolved}
use Rattle.cholesky.specs.Readers.{copy_tests, Copied, Unpacked, CholeskyDetermined}
use Rattle.cholesky.proofs.Refusals.{columns_answered, NamesColumn, crate_names, floor_names, refused_in}
use Rattle.teaching.specs.Promise.{Taught}
use Rattle.packed.specs.Growing.{grow_tests, handed_in, Grown}

-- n columns are refused, if at all, at one of them
columns_within : {ρ : Rule} → NamesColumn ρ → (m n : ℕ) (A : Matrix) → Within n (factor_columns ρ m n A).answer
unfolding factor_columns
columns_within {ρ} names m n A =
    done_or_refused r (λ e. subst (Within n) (sym (done_is r e)) (within_none n))
    (λ e. let at = refused_in names (columns_answered ρ m 0 n 0 (λ j low from. low) (started A) refl) e in omega arith)
  where
    r : Answer
    r = (factor_columns ρ m n A).answer

-- by any rule whose refusals name their column, and so by the crate's own and with a floor
within_by : {ρ : Rule} {y : Layout} {m : ℕ} {l₀ l : List Float} {r : Answer} → NamesColumn ρ → ExtendedBy ρ y m l₀ l r → Within 1024 r
within_by {y = y} {m = m} {l₀ = l₀} names x = subst (Within 1024) (sym x.answer) (sizes_within y m (length l₀) _ (columns_within names m y.order (load (lower y) l₀)))

pub extended_within : {y : Layout} {m : ℕ} {l₀ l : List Float} {r : Answer} → Extended y m l₀ l r → Within 1024 r
extended_within = within_by crate_names

pub floored_within : {s : Float} {y : Layout} {m : ℕ} {l₀ l : List Float} {r : Floored} → ExtendedFloored s y m l₀ l r → Within 1024 r.answer
floored_within {s} x = within_by (floor_names s) x.extended

pub taught_within : {room n : ℕ} {l₀ l : List Float} {r : Answer} → Taught room n l₀ l r → Within 1024 r
unfolding tested
taught_within {room} {n} {l₀} x =
    subst (Within 1024) (sym x.answer)
    (within_test 1024 (leb n 64) (tested (size_tests (in_room n room) 0 (length l₀)) (batch (in_room n room) 0 l₀).answer) (Err OutOfRange)
    (λ small. sizes_within (in_room n room) 0 (length l₀) _ (columns_within crate_names 0 n (load (lower (in_room n room)) l₀)))
    (λ large. omega arith))

pub solved_within : {y : Layout} {columns : ℕ} {a b b' : List Float} {r : Answer} → CholeskySolved y columns a b b' r → Within 1024 r
solved_within {y} {columns} {a} {b} x =
    subst (Within 1024) (sym x.answer)
    (within_tested 1024 (sides_tests y columns (length a) (length b)) Done (omega arith, (omega arith, (omega arith, (omega arith, (omega arith, (omega arith, (omega arith, (omega arith, tt)))))))) (λ h. within_none 1024))

pub copied_within : {y : Layout} {a l₀ l : List Float} {r : Answer} → Copied y a l₀ l r → Within 1024 r
copied_within {y} {a} {l₀} x =
    subst (Within 1024) (sym x.answer)
    (within_tested 1024 (copy_tests y (length a) (length l₀)) Done (omega arith, (omega arith, (omega arith, (omega arith, (omega arith, (omega arith, (omega arith, tt))))))) (λ h. within_none 1024))

pub unpacked_within : {y : Layout} {l₀ l : List Float} {r : Answer} → Unpacked y l₀ l r → Within 1024 r
unpacked_within {y} {l₀} x = subst (Within 1024) (sym x.answer) (sizes_within y 0 (length l₀) Done (within_none y.order))

pub determined_within : {y : Layout} {l : List Float} {r : Result Float Refusal} → CholeskyDetermined y l r → Within 1024 r
determined_within {y} {l} x = subst (Within 1024) (sym x.answer) (sizes_within y 0 (length l) (Ok _) (within_none y.order))

pub grown_within : {m n : ℕ} {old rows fresh fresh' : List Float} {r : Answer} → Grown m n old rows fresh r fresh' → Within 1024 r
grown_within {m} {n} {old} {rows} {fresh} x =
    subst (Within 1024) (sym x.answer)
    (within_tested 1024 (grow_tests m n (length old) (length rows) (length fresh)) _ (omega arith, (omega arith, (omega arith, (omega arith, (omega arith, (omega arith, tt))))))
    (λ h. let small : n ≤ 1024 = leb-true n 1024 h.0 in let last = columns_within crate_names m n (handed_in m n old rows) in omega (arith, last, small)))
