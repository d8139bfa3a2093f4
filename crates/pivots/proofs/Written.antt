-- A record that is written block by block, as the factor does, is accepted.
--     Written n words k m     the blocks up to row k are written and sound; m is the first mark: 0, or a row before k, of size 1 and with its own index, plus 1
--     written_none            nothing written
--     written_one, written_two_law, written_zero     one more block: of size 1, of size 2, and a zero column that sets the mark
--     paired_kept, paired_index, paired_size     what a pair leaves, and itself
--     ended_kept, ended_length, ended_mark, ended_run     what the mark and a run number leave, and themselves
--     stamped_other, stamped_length, stamped_own     what the run number leaves; its own leaves all
--     written_all, written_run     the mark and a run number are put at the end: the record is accepted, and the number stands in it
--     stamped_accepted     an accepted record with another run number is accepted
use mathlib.Core.List.{List}
use mathlib.Core.Logic.{◌⊎◌, inl, inr, ⊎_elim}
use mathlib.Core.Path.{◌≡◌, refl, sym, ap, subst, ◌∙◌}
use Prim.Native.Nat.{ℕ, ◌+◌, ◌-◌, ◌<◌, ◌≤◌}
use native.Mathlib.Omega.{arith}
use lib.ListN.{length, get_or, set, length-set}
use lib.Seq.{get_or-set_same, get_or-set_other, set-get_or}
use Rattle.answer.specs.Answer.{Done, is_done}
use Rattle.answer.proofs.Tests.{eq_or_ne}
use Rattle.pivots.specs.Words.{words_of, index_word, size_word, mark_word, run_word, index_at, size_at, mark_at, run_at, Sized, paired, marked, stamped}
use Rattle.pivots.specs.Rule.{fault_of, checked, Accepted}
use Rattle.pivots.proofs.SamePairs.{SamePairs}
use Rattle.pivots.proofs.Blocks.{one_rows, two_rows}
use Rattle.pivots.proofs.Faults.{Going, going_none, going_more, going_all}
use Rattle.pivots.proofs.Checked.{unmarked, mark_sound}
use Rattle.pivots.proofs.Boundaries.{Upto, start, one, two, boundary_all, Marks, mark_row}

pub record Written (n : ℕ) (words : List ℕ) (k m : ℕ) : Type 0 where
  pub sized : Sized n words
  pub within : k ≤ n
  pub blocks : Upto n words k
  pub mark : (m ≡ 0) ⊎ Marks words k m

-- ---- what a write leaves

-- the pairs of the rows before k are those that stood there
abbrev Kept : List ℕ → List ℕ → ℕ → Type 0
Kept words words' k = SamePairs k words' words

kept_less : {words words' : List ℕ} {j k : ℕ} → j ≤ k → Kept words words' k → Kept words words' j
kept_less below s = record { index = λ r h. s.index r (omega arith); size = λ r h. s.size r (omega arith) }

kept_upto : {n : ℕ} {words words' : List ℕ} {k : ℕ} → Kept words words' k → Upto n words k → Upto n words' k
kept_upto s (start e) = start e
kept_upto {n} {words} {words'} {k} s (one {j = j} u o e) =
    let i = s.index j (omega arith) in
    let z = s.size j (omega arith) in
    one (kept_upto (kept_less (omega arith) s) u) (record { size = omega (arith, o.size); low = omega (arith, o.low); high = omega (arith, o.high) }) e
kept_upto {n} {words} {words'} {k} s (two {j = j} u t e) =
    let i = s.index j (omega arith) in
    let z = s.size j (omega arith) in
    let i₂ = s.index (j + 1) (omega arith) in
    let z₂ = s.size (j + 1) (omega arith) in
    two (kept_upto (kept_less (omega arith) s) u)
    (record {
      size = omega (arith, t.size);
      room = t.room;
      low = omega (arith, t.low);
      high = omega (arith, t.high);
      index₂ = omega (arith, t.index₂);
      size₂ = omega (arith, t.size₂);
    })
    e

kept_marks : {words words' : List ℕ} {k m : ℕ} → Kept words words' k → Marks words k m → Marks words' k m
kept_marks {m = m} s mk = record {
  set = mk.set;
  passed = mk.passed;
  size = s.size (m - 1) (omega (arith, mk.set, mk.passed)) ∙ mk.size;
  index = s.index (m - 1) (omega (arith, mk.set, mk.passed)) ∙ mk.index;
}

pub paired_length : (words : List ℕ) (row index size : ℕ) → length (paired words row index size) ≡ length words
unfolding paired
paired_length words row index size = simp length-set

below : (l : List ℕ) (i j a : ℕ) → j < i → get_or (set l i a) j 0 ≡ get_or l j 0
below l i j a h = get_or-set_other l i j a 0 (λ (e : j ≡ i). omega arith)

pub paired_kept : (words : List ℕ) (row index size : ℕ) → Kept words (paired words row index size) row
unfolding paired
paired_kept words row index size = record {
  index = λ r h. below (set words (index_word row) index) (size_word row) (index_word r) size (omega arith) ∙ below words (index_word row) (index_word r) index (omega arith);
  size = λ r h. below (set words (index_word row) index) (size_word row) (size_word r) size (omega arith) ∙ below words (index_word row) (size_word r) index (omega arith);
}

module _ (words : List ℕ) (row index size : ℕ) (room : size_word row < length words) where
  pub paired_size : size_at (paired words row index size) row ≡ size
  unfolding paired
  paired_size = get_or-set_same (set words (index_word row) index) (size_word row) size 0 (simp length-set room)

  pub paired_index : index_at (paired words row index size) row ≡ index
  unfolding paired
  paired_index =
      below (set words (index_word row) index) (size_word row) (index_word row) size (omega arith)
      ∙ get_or-set_same words (index_word row) index 0 (omega arith)

pub ended_kept : (n : ℕ) (words : List ℕ) (mark run : ℕ) → Kept words (stamped n (marked n words mark) run) n
unfolding marked stamped
ended_kept n words mark run = record {
  index = λ r h. below (set words (mark_word n) mark) (run_word n) (index_word r) run (omega arith) ∙ below words (mark_word n) (index_word r) mark (omega arith);
  size = λ r h. below (set words (mark_word n) mark) (run_word n) (size_word r) run (omega arith) ∙ below words (mark_word n) (size_word r) mark (omega arith);
}

module _ (n : ℕ) (words : List ℕ) (mark run : ℕ) (total : length words ≡ words_of n) where
  pub ended_length : length (stamped n (marked n words mark) run) ≡ words_of n
  unfolding marked stamped
  ended_length = simp length-set total

  pub ended_mark : mark_at n (stamped n (marked n words mark) run) ≡ mark
  unfolding marked stamped
  ended_mark = below (set words (mark_word n) mark) (run_word n) (mark_word n) run (omega arith) ∙ get_or-set_same words (mark_word n) mark 0 (omega arith)

  pub ended_run : run_at n (stamped n (marked n words mark) run) ≡ run
  unfolding marked stamped
  ended_run = get_or-set_same (set words (mark_word n) mark) (run_word n) run 0 (simp length-set (omega arith))

pub stamped_other : (n : ℕ) (words : List ℕ) (run p : ℕ) → (p ≡ run_word n → ⊥) → get_or (stamped n words run) p 0 ≡ get_or words p 0
unfolding stamped
stamped_other n words run p other = get_or-set_other words (run_word n) p run 0 other

pub stamped_length : (n : ℕ) (words : List ℕ) (run : ℕ) → length (stamped n words run) ≡ length words
unfolding stamped
stamped_length n words run = length-set words (run_word n) run

pub stamped_own : (n : ℕ) (words : List ℕ) → stamped n words (run_at n words) ≡ words
unfolding stamped
stamped_own n words = set-get_or words (run_word n) 0

paired_sized : {n : ℕ} {words : List ℕ} (row index size : ℕ) → Sized n words → Sized n (paired words row index size)
paired_sized {n} {words} row index size s = record { order = s.order; total = paired_length words row index size ∙ s.total }

-- ---- the mark

more_marks : {words : List ℕ} {k k' m : ℕ} → k ≤ k' → Marks words k m → Marks words k' m
more_marks h mk = record { set = mk.set; passed = omega (arith, mk.passed); size = mk.size; index = mk.index }

mark_kept : {words words' : List ℕ} {k k' m : ℕ} → k ≤ k' → Kept words words' k → (m ≡ 0) ⊎ Marks words k m → (m ≡ 0) ⊎ Marks words' k' m
mark_kept h s (inl none) = inl none
mark_kept h s (inr mk) = inr (more_marks h (kept_marks s mk))

-- ---- block by block

pub written_none : {n : ℕ} {words : List ℕ} → Sized n words → Written n words 0 0
written_none s = record { sized = s; within = omega arith; blocks = start refl; mark = inl refl }

pub written_one
    : {n : ℕ} {words : List ℕ} {k m : ℕ} (p : ℕ)
    → Written n words k m → k ≤ p → p < n
    → Written n (paired words k p 1) (k + 1) m
written_one {n} {words} {k} {m} p w low high =
    let room : size_word k < length words = omega (arith, w.sized.total) in
    let i = paired_index words k p 1 room in
    record {
      sized = paired_sized k p 1 w.sized;
      within = omega arith;
      blocks = one (kept_upto (paired_kept words k p 1) w.blocks)
          (record { size = paired_size words k p 1 room; low = omega arith; high = omega arith }) refl;
      mark = mark_kept (omega arith) (paired_kept words k p 1) w.mark;
    }

-- a zero column while no mark is set: the pivot is its own row, and the mark names it
pub written_zero : {n : ℕ} {words : List ℕ} {k : ℕ} → Written n words k 0 → k < n → Written n (paired words k k 1) (k + 1) (k + 1)
written_zero {n} {words} {k} w high =
    let room : size_word k < length words = omega (arith, w.sized.total) in
    let back : k + 1 - 1 ≡ k = omega arith in
    let next = written_one k w (omega arith) high in
    record {
      sized = next.sized;
      within = next.within;
      blocks = next.blocks;
      mark = inr (record {
        set = omega arith;
        passed = omega arith;
        size = rw back (paired_size words k k 1 room);
        index = rw back (paired_index words k k 1 room);
      });
    }

pub written_two_law
    : {n : ℕ} {words : List ℕ} {k m : ℕ} (p : ℕ)
    → Written n words k m → k + 1 ≤ p → p < n
    → Written n (paired (paired words k p 2) (k + 1) p 2) (k + 2) m
written_two_law {n} {words} {k} {m} p w low high =
    let first = paired words k p 2 in
    let room : size_word k < length words = omega (arith, w.sized.total) in
    let room₂ : size_word (k + 1) < length first = omega (arith, w.sized.total, paired_length words k p 2) in
    let both : Kept words (paired first (k + 1) p 2) k = kept_both (omega arith) (paired_kept words k p 2) (paired_kept first (k + 1) p 2) in
    let i : index_at (paired first (k + 1) p 2) k ≡ p = (paired_kept first (k + 1) p 2).index k (omega arith) ∙ paired_index words k p 2 room in
    let z : size_at (paired first (k + 1) p 2) k ≡ 2 = (paired_kept first (k + 1) p 2).size k (omega arith) ∙ paired_size words k p 2 room in
    record {
      sized = paired_sized (k + 1) p 2 (paired_sized k p 2 w.sized);
      within = omega arith;
      blocks = two (kept_upto both w.blocks)
          (record {
            size = z;
            room = omega arith;
            low = omega arith;
            high = omega arith;
            index₂ = paired_index first (k + 1) p 2 room₂ ∙ sym i;
            size₂ = paired_size first (k + 1) p 2 room₂;
          })
          refl;
      mark = mark_kept (omega arith) both w.mark;
    }
  where
    kept_both : {words words' words'' : List ℕ} {j k : ℕ} → k ≤ j → Kept words words' k → Kept words' words'' j → Kept words words'' k
    kept_both h s t = record { index = λ r b. t.index r (omega arith) ∙ s.index r b; size = λ r b. t.size r (omega arith) ∙ s.size r b }

-- ---- the end

passed : {n : ℕ} {words : List ℕ} {k : ℕ} → Upto n words k → k ≤ n → Going n words k
passed {n} {words} (start e) h = subst (Going n words) (sym e) (going_none n words)
passed {n} {words} (one {j = j} u o e) h =
    subst (Going n words) (sym e)
    (going_more (passed u (omega arith)) (omega arith) (sym (one_rows n words j o)) (λ z. absurd (omega arith)))
passed {n} {words} (two {j = j} u t e) h =
    subst (Going n words) (sym e)
    (going_more (passed u (omega arith)) (omega arith) (sym (two_rows n words j t)) (λ z. absurd (omega arith)))

pub written_all : {n : ℕ} {words : List ℕ} {m : ℕ} (run : ℕ) → Written n words n m → Accepted n (stamped n (marked n words m) run)
written_all {n} {words} {m} run w =
    record { sized = record { order = w.sized.order; total = ended_length n words m run w.sized.total }; done = ap is_done (sym (at w.mark)) }
  where
    final : List ℕ
    final = stamped n (marked n words m) run

    kept : Kept words final n
    kept = ended_kept n words m run

    rows : n ≤ fault_of n final
    rows = omega (arith, going_all (passed (kept_upto kept w.blocks) (omega arith)) (omega arith))

    reads : m ≡ mark_at n final
    reads = sym (ended_mark n words m run w.sized.total)

    at : (m ≡ 0) ⊎ Marks words n m → Done ≡ checked n final
    at (inl none) = unmarked n final rows reads none
    at (inr mk) =
        let marks = kept_marks kept mk in
        mark_sound n final rows reads mk.set mk.passed marks.size marks.index

pub written_run : {n : ℕ} {words : List ℕ} {m : ℕ} (run : ℕ) → Written n words n m → run_at n (stamped n (marked n words m) run) ≡ run
written_run {n} {words} {m} run w = ended_run n words m run w.sized.total

pub stamped_accepted : {n : ℕ} {words : List ℕ} (run : ℕ) → Accepted n words → Accepted n (stamped n words run)
unfolding marked
stamped_accepted {n} {words} run a =
    subst (λ (w : List ℕ). Accepted n (stamped n w run)) (set-get_or words (mark_word n) 0)
    (written_all run
    (record {
      sized = a.sized;
      within = omega arith;
      blocks = (boundary_all a).before;
      mark = ⊎_elim (λ (none : mark_at n words ≡ 0). inl none) (λ marked. inr (mark_row a marked)) (eq_or_ne (mark_at n words) 0);
    }))
