-- Going over the columns of a slice.
--     column_within, column_length    a column lies within the slice and has n numbers
--     column_replaced                 one column is another, the others as they were
--     chosen_column, chosen_long      after all that are chosen: column j is f of what it was if it is chosen, else as it was
--     chosen_all, chosen_none         a stretch of columns that all are chosen, or none of them
--     each_column_law, each_long          after all of them: column j is f of what it was, and nothing else
--     columns_same                    slices with the same columns are the same
--     each_same, each_none            two steps that agree on a column; no step
--     each_after, each_then           two steps one after the other
--     each_loop                       the turns of a loop
--     one_column, whole_column        a slice of one column, and that column
use mathlib.Core.Bool.{Bool, true, false, cond}
use mathlib.Core.List.{List, ◌++◌, append-nil}
use mathlib.Core.Logic.{◌⊎◌, inl, inr, ⊎_elim}
use mathlib.Core.Path.{◌≡◌, refl, sym, ap, fun_ext, subst, ◌∙◌}
use Prim.Native.Nat.{ℕ, zero, suc, ◌+◌, ◌-◌, ◌*◌, ◌<◌, ◌≤◌}
use native.Mathlib.Nat.{mul-le-mul_right, mul_comm, suc-mul, eq-or-lt_of_le}
use native.Mathlib.Numerals.{add-one}
use native.Mathlib.Omega.{arith}
use borrow.Author.Tests.{ltb-true, ltb-false}
use lib.Dec.{ltb}
use lib.ListN.{length, take, drop, length-append, length-drop, take-append-drop, drop_of_length-le}
use lib.Seq.{length-take-le, take_at, drop_at, take-add, take_all, take-append-le, drop-append-le, drop-append-add, drop-drop}
use Rattle.answer.proofs.Tests.{either}
use Rattle.matrix.specs.Loop.{for}
use Rattle.matrix.specs.Columns.{column, at_column, each_column, at_chosen, each_chosen, ButColumn}
use Rattle.matrix.proofs.Loops.{for_none, for_one, for_more, for_still, for_same}
use Rattle.matrix.proofs.ColumnsLoops.{Keeping, Keeps, Loop, Uniform}

-- ---- where a column stands

-- a column ends before a later one begins
before : (n i j : ℕ) → i < j → i * n + n ≤ j * n
before n i j h =
    let row : (i + 1) * n ≤ j * n = mul-le-mul_right n (omega arith) in
    let split : (i + 1) * n ≡ i * n + n = rw add-one (suc-mul i n) in
    omega arith

pub column_within : (n columns j : ℕ) → j < columns → j * n + n ≤ n * columns
column_within n columns j below = omega (arith, before n j columns below, mul_comm columns n)

pub column_length : {A : Type 0} (n j : ℕ) (b : List A) → j * n + n ≤ length b → length (column n j b) ≡ n
unfolding column
column_length n j b within = length-take-le n (drop (j * n) b) (simp length-drop (omega arith))

apart : (i j : ℕ) → (i ≡ j → ⊥) → (i < j) ⊎ (j < i)
apart i j other = at (ltb i j) refl
  where
    at : (t : Bool) → ltb i j ≡ t → (i < j) ⊎ (j < i)
    at true e = inl (ltb-true i j e)
    at false e = let past : j ≤ i = ltb-false i j e in inr (omega (arith, other))

-- ---- one column, replaced

module _ {A : Type 0} (n j : ℕ) (b : List A) (within : j * n + n ≤ length b) (part : List A) (whole : length part ≡ n) where
  replaced : List A
  replaced = take (j * n) b ++ (part ++ drop n (drop (j * n) b))

  front : length (take (j * n) b) ≡ j * n
  front = length-take-le (j * n) b (omega arith)

  replaced_long : length replaced ≡ length b
  unfolding replaced
  replaced_long =
      let rest : length (drop n (drop (j * n) b)) ≡ length b - j * n - n = simp (length-drop, length-drop) in
      simp (length-append, length-append) (omega (arith, front, whole, rest))

  replaced_here : column n j replaced ≡ part
  unfolding column replaced
  replaced_here =
      ap (take n) (drop_at (take (j * n) b) (part ++ drop n (drop (j * n) b)) (j * n) front)
      ∙ take_at part (drop n (drop (j * n) b)) n whole

  -- an earlier column
  earlier : (i : ℕ) → i < j → column n i replaced ≡ column n i b
  unfolding column replaced
  earlier i less =
      within_front _ ∙ sym (within_front (drop (j * n) b)) ∙ ap (λ (l : List A). take n (drop (i * n) l)) (take-append-drop (j * n) b)
    where
      within_front : (rest : List A) → take n (drop (i * n) (take (j * n) b ++ rest)) ≡ take n (drop (i * n) (take (j * n) b))
      within_front rest =
          let room : i * n + n ≤ j * n = before n i j less in
          ap (take n) (drop-append-le (i * n) (take (j * n) b) rest (omega (arith, front)))
          ∙ take-append-le n (drop (i * n) (take (j * n) b)) rest (simp length-drop (omega (arith, front)))

  -- a later column
  later : (i : ℕ) → j < i → column n i replaced ≡ column n i b
  unfolding column replaced
  later i more =
      let t : ℕ = i * n - (j * n + n) in
      let past : j * n + n ≤ i * n = before n j i more in
      let place : i * n ≡ length (take (j * n) b) + (length part + t) = omega (arith, front, whole) in
      let back : j * n + (n + t) ≡ i * n = omega arith in
      ap (take n)
      (ap (λ (q : ℕ). drop q (take (j * n) b ++ (part ++ drop n (drop (j * n) b)))) place
      ∙ drop-append-add (take (j * n) b) (part ++ drop n (drop (j * n) b)) (length part + t)
      ∙ drop-append-add part (drop n (drop (j * n) b)) t
      ∙ drop-drop t n (drop (j * n) b)
      ∙ drop-drop (n + t) (j * n) b
      ∙ ap (λ (q : ℕ). drop q b) back)

  -- another column
  replaced_there : (i : ℕ) → (i ≡ j → ⊥) → column n i replaced ≡ column n i b
  replaced_there i other = ⊎_elim (earlier i) (later i) (apart i j other)

  pub column_replaced : {b' : List A} → b' ≡ take (j * n) b ++ (part ++ drop n (drop (j * n) b)) → ButColumn n j b b' × (column n j b' ≡ part)
  unfolding replaced
  column_replaced e = rw e (record { long = replaced_long; others = replaced_there }, replaced_here)

-- ---- one column, f applied to it

module _ {A : Type 0} (n : ℕ) (f : List A → List A) (keeps : Keeping f) where
  module _ (j : ℕ) (b : List A) (within : j * n + n ≤ length b) where
    middle : length (f (column n j b)) ≡ n
    middle = keeps (column n j b) ∙ column_length n j b within

    pub at_long : length (at_column n f j b) ≡ length b
    unfolding at_column replaced
    at_long = replaced_long n j b within (f (column n j b)) middle

    column_here : column n j (at_column n f j b) ≡ f (column n j b)
    unfolding at_column replaced
    column_here = replaced_here n j b within (f (column n j b)) middle

    column_there : (i : ℕ) → (i ≡ j → ⊥) → column n i (at_column n f j b) ≡ column n i b
    unfolding at_column replaced
    column_there = replaced_there n j b within (f (column n j b)) middle

  -- ---- the columns that are chosen

  module _ (chosen : ℕ → Bool) where
    -- the first c columns are gone through, the others as they were
    record Columned (b : List A) (c : ℕ) (l : List A) : Type 0 where
      pub long : length l ≡ length b
      pub done : (i : ℕ) → i < c → column n i l ≡ cond (chosen i) (f (column n i b)) (column n i b)
      pub left : (i : ℕ) → c ≤ i → column n i l ≡ column n i b

    module _ (columns : ℕ) (b : List A) (lined : length b ≡ n * columns) where
      -- column c is gone through: l becomes l'
      columned_more
          : (c : ℕ) (l l' : List A) → Columned b c l → length l' ≡ length l
          → column n c l' ≡ cond (chosen c) (f (column n c l)) (column n c l)
          → ((i : ℕ) → (i ≡ c → ⊥) → column n i l' ≡ column n i l)
          → Columned b (c + 1) l'
      columned_more c l l' h long here there =
          record {
            long = long ∙ h.long;
            done = λ i less.
                ⊎_elim
                (λ (e : i ≡ c). rw e (here ∙ ap (λ (x : List A). cond (chosen c) (f x) x) (h.left c (omega arith))))
                (λ (lower : i < c). there i (λ (e : i ≡ c). omega arith) ∙ h.done i lower)
                (eq-or-lt_of_le (let less' : i ≤ c = omega arith in less'));
            left = λ i past. there i (λ (e : i ≡ c). omega arith) ∙ h.left i (omega arith);
          }

      columned_at : (c : ℕ) (l : List A) → c < columns → Columned b c l → Columned b (c + 1) (at_chosen n chosen f c l)
      unfolding at_chosen
      columned_at c l below h =
          either (Columned b (c + 1)) (chosen c)
          (λ e. columned_more c l (at_column n f c l) h (at_long c l within) (rw e (column_here c l within)) (column_there c l within))
          (λ e. columned_more c l l h refl (rw e refl) (λ i other. refl))
        where
          within : c * n + n ≤ length l
          within = omega (arith, column_within n columns c below, h.long, lined)

      columned : (c : ℕ) → c ≤ columns → Columned b c (for 0 c (at_chosen n chosen f) b)
      columned zero h =
          subst (Columned b 0) (sym (for_none 0 (at_chosen n chosen f) b))
          (record { long = refl; done = λ i less. absurd (omega arith); left = λ i past. refl })
      columned (suc c) h =
          subst (λ m. Columned b m (for 0 m (at_chosen n chosen f) b)) (add-one c)
          (subst (Columned b (c + 1)) (sym (for_more 0 c (at_chosen n chosen f) b (omega arith)))
          (columned_at c (for 0 c (at_chosen n chosen f) b) (omega arith) (columned c (omega arith))))

      pub chosen_column : (j : ℕ) → j < columns → column n j (each_chosen n columns chosen f b) ≡ cond (chosen j) (f (column n j b)) (column n j b)
      unfolding each_chosen
      chosen_column j below = (columned columns (omega arith)).done j below

      pub chosen_long : length (each_chosen n columns chosen f b) ≡ length b
      unfolding each_chosen
      chosen_long = (columned columns (omega arith)).long

  -- ---- all columns

  module _ (columns : ℕ) (b : List A) (lined : length b ≡ n * columns) where
    pub each_column_law : (j : ℕ) → j < columns → column n j (each_column n columns f b) ≡ f (column n j b)
    unfolding each_column each_chosen at_chosen
    each_column_law j below = chosen_column (λ i. true) columns b lined j below

    pub each_long : length (each_column n columns f b) ≡ length b
    unfolding each_column each_chosen at_chosen
    each_long = chosen_long (λ i. true) columns b lined

-- ---- a loop over the columns that are chosen

module _ {A : Type 0} (n : ℕ) (chosen : ℕ → Bool) (f : List A → List A) where
  pub chosen_all : (lo hi : ℕ) (b : List A) → ((i : ℕ) → lo ≤ i → i < hi → chosen i ≡ true) → for lo hi (at_column n f) b ≡ for lo hi (at_chosen n chosen f) b
  unfolding at_chosen
  chosen_all lo hi b all = for_same lo hi (at_column n f) (at_chosen n chosen f) b (λ i l from upto. rw (all i from upto) refl)

  pub chosen_none : (lo hi : ℕ) (b : List A) → ((i : ℕ) → lo ≤ i → i < hi → chosen i ≡ false) → b ≡ for lo hi (at_chosen n chosen f) b
  unfolding at_chosen
  chosen_none lo hi b none = sym (for_still (λ (l : List A). l) lo hi (at_chosen n chosen f) b (λ i l from upto. rw (none i from upto) refl))

-- ---- again and again

module _ {A : Type 0} (n columns : ℕ) where
  pub columns_same
      : (b b' : List A) → length b ≡ n * columns → length b' ≡ n * columns
      → ((j : ℕ) → j < columns → column n j b ≡ column n j b')
      → b ≡ b'
  unfolding column
  columns_same b b' long long' same = sym (whole b long) ∙ first columns (omega arith) ∙ whole b' long'
    where
      whole : (l : List A) → length l ≡ n * columns → take (columns * n) l ≡ l
      whole l h = take_all (columns * n) l (omega (arith, h, mul_comm columns n))

      first : (c : ℕ) → c ≤ columns → take (c * n) b ≡ take (c * n) b'
      first zero h = rw (let none : 0 * n ≡ 0 = omega arith in none) refl
      first (suc c) h =
          let split : suc c * n ≡ c * n + n = suc-mul c n in
          ap (λ (m : ℕ). take m b) split
          ∙ take-add (c * n) n b
          ∙ ap (λ (l : List A). l ++ take n (drop (c * n) b)) (first c (omega arith))
          ∙ ap (λ (l : List A). take (c * n) b' ++ l) (same c (omega arith))
          ∙ sym (take-add (c * n) n b')
          ∙ ap (λ (m : ℕ). take m b') (sym split)

  pub each_same
      : (f g : List A → List A) → Keeping f → Keeping g → (b : List A) → length b ≡ n * columns
      → ((l : List A) → length l ≡ n → f l ≡ g l)
      → each_column n columns f b ≡ each_column n columns g b
  each_same f g kf kg b long agree =
      columns_same (each_column n columns f b) (each_column n columns g b)
      (each_long n f kf columns b long ∙ long)
      (each_long n g kg columns b long ∙ long)
      (λ j below.
      each_column_law n f kf columns b long j below
      ∙ agree (column n j b) (column_length n j b (omega (arith, column_within n columns j below, long)))
      ∙ sym (each_column_law n g kg columns b long j below))

  pub each_none : (b : List A) → length b ≡ n * columns → each_column n columns (λ l. l) b ≡ b
  each_none b long =
      columns_same (each_column n columns (λ l. l) b) b (each_long n (λ l. l) (λ l. refl) columns b long ∙ long) long
      (λ j below. each_column_law n (λ l. l) (λ l. refl) columns b long j below)

  pub each_after
      : (f g : List A → List A) → Keeping f → Keeping g → (b : List A) → length b ≡ n * columns
      → each_column n columns g (each_column n columns f b) ≡ each_column n columns (λ l. g (f l)) b
  each_after f g kf kg b long =
      columns_same (each_column n columns g (each_column n columns f b)) (each_column n columns (λ l. g (f l)) b)
      (each_long n g kg columns (each_column n columns f b) first ∙ first)
      (each_long n (λ l. g (f l)) both columns b long ∙ long)
      (λ j below.
      each_column_law n g kg columns (each_column n columns f b) first j below
      ∙ ap g (each_column_law n f kf columns b long j below)
      ∙ sym (each_column_law n (λ l. g (f l)) both columns b long j below))
    where
      first : length (each_column n columns f b) ≡ n * columns
      first = each_long n f kf columns b long ∙ long

      both : Keeping (λ l. g (f l))
      both l = kg (f l) ∙ kf l

  -- two steps, and what they are together
  pub each_then
      : (b₀ : List A) → length b₀ ≡ n * columns
      → (f g h : List A → List A) → Keeping f → Keeping g → ((l : List A) → g (f l) ≡ h l)
      → {b₁ b₂ : List A} → b₁ ≡ each_column n columns f b₀ → b₂ ≡ each_column n columns g b₁
      → b₂ ≡ each_column n columns h b₀
  each_then b₀ long f g h kf kg same e₁ e₂ =
      e₂ ∙ ap (each_column n columns g) e₁ ∙ each_after f g kf kg b₀ long ∙ ap (λ (f : List A → List A). each_column n columns f b₀) (fun_ext same)

  -- the turns of a loop
  pub each_loop
      : (loop : Loop) → Uniform loop → (f : ℕ → List A → List A) → Keeps f → (b : List A) → length b ≡ n * columns
      → loop (List A) (λ i. each_column n columns (f i)) b ≡ each_column n columns (loop (List A) f) b
  each_loop loop uniform f keeps b long =
      (uniform (List A) (List A → List A) (λ l g. (l ≡ each_column n columns g b) × Keeping g) (λ i. each_column n columns (f i)) (λ i g l. f i (g l))
      (λ i l g h. (ap (each_column n columns (f i)) h.0 ∙ each_after g (f i) h.1 (keeps i) b long, λ m. keeps i (g m) ∙ h.1 m))
      b (λ l. l) (sym (each_none b long), λ l. refl)).0
      ∙ ap (λ (g : List A → List A). each_column n columns g b) (fun_ext single)
    where
      single : (l : List A) → loop (List A → List A) (λ i g m. f i (g m)) (λ m. m) l ≡ loop (List A) f l
      single l = uniform (List A → List A) (List A) (λ g m. g l ≡ m) (λ i g m. f i (g m)) f (λ i g m e. ap (f i) e) (λ m. m) l refl

pub one_column
    : {A : Type 0} (n : ℕ) {columns : ℕ} (f : List A → List A) (b : List A) {b' : List A} → columns ≡ 1 → b' ≡ at_column n f 0 b
    → b' ≡ each_column n columns f b
unfolding each_column
one_column n f b one e = e ∙ sym (for_one 0 (at_column n f) b) ∙ ap (λ (c : ℕ). for 0 c (at_column n f) b) (sym one)

-- a column that is the whole slice
pub whole_column : {A : Type 0} (n : ℕ) (f : List A → List A) (b : List A) → length b ≡ n → at_column n f 0 b ≡ f b
unfolding at_column column
whole_column {A} n f b long =
    let start : 0 * n ≡ 0 = omega arith in
    rw start
    (ap (λ (l : List A). f l ++ drop n b) (take_all n b (omega (arith, long)))
    ∙ ap (λ (l : List A). f b ++ l) (drop_of_length-le b {i = n} (omega (arith, long)))
    ∙ append-nil (f b))
