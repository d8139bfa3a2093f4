-- The laws of loops.
--   for_none for_one for_two for_four    no turn, one, two, four
--   for_more for_first for_at            the last turn, the first, one in between
--   for_join                             one loop after another
--   for_shift                            turns counted from m on
--   for_related                          two loops that stay related, turn by turn; of it:
--   for_keeps for_still for_same for_past   what all turns keep or leave; loops whose turns agree; a change that no turn sees
--   for_fused                            two loops one after the other as one
--   falling_related falling_keeps        the same of loops that fall, by how many turns are left
--   falling_join                         the first turns, and the rest
--   Ran    from lo on, up to i, f has turned s₀ into s: the invariant of a loop that rises
--   Fell   the turns below i make of s what all n make of s₀: that of a loop that falls
-- Assumes nothing.
use mathlib.Core.Path.{◌≡◌, refl, sym, ◌∙◌, ap}
use Prim.Native.Nat.{ℕ, zero, suc, ◌+◌, ◌-◌, ◌≤◌, ◌<◌}
use native.Mathlib.Omega.{arith}
use Rattle.matrix.specs.Loop.{turns, for, falling}

-- no turn
pub for_none : {S : Type 0} (lo : ℕ) (f : ℕ → S → S) (s : S) → for lo lo f s ≡ s
unfolding for turns
for_none lo f s =
    let none : lo - lo ≡ 0 = omega arith in
    ap (turns lo f s) none

-- one turn more, the last
pub for_more : {S : Type 0} (lo i : ℕ) (f : ℕ → S → S) (s : S) → lo ≤ i → for lo (i + 1) f s ≡ f i (for lo i f s)
unfolding for turns
for_more lo i f s from =
    let count : i + 1 - lo ≡ suc (i - lo) = omega arith in
    let last : lo + (i - lo) ≡ i = omega arith in
    ap (turns lo f s) count ∙ ap (λ (k : ℕ). f k (turns lo f s (i - lo))) last

pub for_one : {S : Type 0} (lo : ℕ) (f : ℕ → S → S) (s : S) → for lo (lo + 1) f s ≡ f lo s
for_one lo f s = for_more lo lo f s (omega arith) ∙ ap (f lo) (for_none lo f s)

-- the turn after the first k
next : {S : Type 0} (lo k : ℕ) (f : ℕ → S → S) (s : S) {x : S} → for lo (lo + k) f s ≡ x → for lo (lo + (k + 1)) f s ≡ f (lo + k) x
next lo k f s e =
    let place : lo + (k + 1) ≡ lo + k + 1 = omega arith in
    ap (λ (h : ℕ). for lo h f s) place ∙ for_more lo (lo + k) f s (omega arith) ∙ ap (f (lo + k)) e

pub for_two : {S : Type 0} (lo : ℕ) (f : ℕ → S → S) (s : S) → for lo (lo + 2) f s ≡ f (lo + 1) (f lo s)
for_two lo f s = next lo 1 f s (for_one lo f s)

pub for_four : {S : Type 0} (lo : ℕ) (f : ℕ → S → S) (s : S) → for lo (lo + 4) f s ≡ f (lo + 3) (f (lo + 2) (f (lo + 1) (f lo s)))
for_four lo f s = next lo 3 f s (next lo 2 f s (for_two lo f s))

-- one loop after another
pub for_join : {S : Type 0} (lo mid hi : ℕ) (f : ℕ → S → S) (s : S) → lo ≤ mid → mid ≤ hi → for mid hi f (for lo mid f s) ≡ for lo hi f s
unfolding for turns
for_join {S} lo mid hi f s from upto =
    let count : (mid - lo) + (hi - mid) ≡ hi - lo = omega arith in
    go (hi - mid) ∙ ap (turns lo f s) count
  where
    go : (c : ℕ) → turns mid f (turns lo f s (mid - lo)) c ≡ turns lo f s ((mid - lo) + c)
    go zero = let none : mid - lo ≡ (mid - lo) + 0 = omega arith in ap (turns lo f s) none
    go (suc c) =
        let place : mid + c ≡ lo + ((mid - lo) + c) = omega arith in
        let count : suc ((mid - lo) + c) ≡ (mid - lo) + suc c = omega arith in
        ap (f (mid + c)) (go c) ∙ ap (λ (k : ℕ). f k (turns lo f s ((mid - lo) + c))) place ∙ ap (turns lo f s) count

-- a loop up to turn j, turn j, and the rest
pub for_at : {S : Type 0} (lo hi j : ℕ) (f : ℕ → S → S) (s : S) → lo ≤ j → j < hi → for lo hi f s ≡ for (j + 1) hi f (f j (for lo j f s))
for_at lo hi j f s from upto = sym (for_join lo (j + 1) hi f s (omega arith) (omega arith)) ∙ ap (for (j + 1) hi f) (for_more lo j f s from)

pub for_first : {S : Type 0} (lo hi : ℕ) (f : ℕ → S → S) (s : S) → lo < hi → for lo hi f s ≡ for (lo + 1) hi f (f lo s)
for_first {S} lo hi f s some = for_at lo hi lo f s (omega arith) some ∙ ap (λ (x : S). for (lo + 1) hi f (f lo x)) (for_none lo f s)

-- turns counted from m on
pub for_shift : {S : Type 0} (m lo hi : ℕ) (f : ℕ → S → S) (s : S) → for lo hi (λ (i : ℕ). f (m + i)) s ≡ for (m + lo) (m + hi) f s
unfolding for turns
for_shift {S} m lo hi f s =
    let count : hi - lo ≡ (m + hi) - (m + lo) = omega arith in
    go (hi - lo) ∙ ap (turns (m + lo) f s) count
  where
    go : (c : ℕ) → turns lo (λ (i : ℕ). f (m + i)) s c ≡ turns (m + lo) f s c
    go zero = refl
    go (suc c) = let place : m + (lo + c) ≡ m + lo + c = omega arith in ap (f (m + (lo + c))) (go c) ∙ ap (λ (k : ℕ). f k (turns (m + lo) f s c)) place

-- ---- what holds through a loop

-- two loops that stay related, turn by turn
pub for_related : {S X : Type 0} (R : S → X → Type 0) (lo hi : ℕ) (f : ℕ → S → S) (g : ℕ → X → X) {s : S} {x : X}
    → R s x → ((i : ℕ) (t : S) (y : X) → lo ≤ i → i < hi → R t y → R (f i t) (g i y)) → R (for lo hi f s) (for lo hi g x)
unfolding for turns
for_related R lo hi f g {s} {x} start each = go (hi - lo) (omega arith)
  where
    go : (c : ℕ) → c ≤ hi - lo → R (turns lo f s c) (turns lo g x c)
    go zero h = start
    go (suc c) h = each (lo + c) (turns lo f s c) (turns lo g x c) (omega arith) (omega arith) (go c (omega arith))

-- what each turn keeps
pub for_keeps : {S : Type 0} (P : S → Type 0) (lo hi : ℕ) (f : ℕ → S → S) (s : S) → P s → ((i : ℕ) (x : S) → lo ≤ i → i < hi → P x → P (f i x)) → P (for lo hi f s)
for_keeps {S} P lo hi f s start each = for_related {X = S} (λ x y. P x) lo hi f f {x = s} start (λ i x y from upto is. each i x from upto is)

-- what no turn changes
pub for_still : {S X : Type 0} (see : S → X) (lo hi : ℕ) (f : ℕ → S → S) (s : S) → ((i : ℕ) (x : S) → lo ≤ i → i < hi → see (f i x) ≡ see x) → see (for lo hi f s) ≡ see s
for_still {S} see lo hi f s each = for_keeps (λ (x : S). see x ≡ see s) lo hi f s refl (λ i x from upto is. each i x from upto ∙ is)

-- two loops whose turns agree
pub for_same : {S : Type 0} (lo hi : ℕ) (f g : ℕ → S → S) (s : S) → ((i : ℕ) (x : S) → lo ≤ i → i < hi → f i x ≡ g i x) → for lo hi f s ≡ for lo hi g s
for_same {S} lo hi f g s same = for_related {S = S} {X = S} (λ x y. x ≡ y) lo hi f g refl (λ i x y from upto is. same i x from upto ∙ ap (g i) is)

-- a loop past a change that its turns do not see
pub for_past : {S : Type 0} (lo hi : ℕ) (f : ℕ → S → S) (h : S → S) (s : S) → ((i : ℕ) (x : S) → lo ≤ i → i < hi → f i (h x) ≡ h (f i x)) → for lo hi f (h s) ≡ h (for lo hi f s)
for_past {S} lo hi f h s each = for_related {S = S} {X = S} (λ x y. x ≡ h y) lo hi f f refl (λ i x y from upto is. ap (f i) is ∙ each i y from upto)

-- two loops as one, where a later turn of the first may come after an earlier one of the second
pub for_fused
    : {S : Type 0} (lo hi : ℕ) (f g : ℕ → S → S) (s : S)
    → ((i j : ℕ) (x : S) → lo ≤ i → i < j → j < hi → f j (g i x) ≡ g i (f j x))
    → for lo hi g (for lo hi f s) ≡ for lo hi (λ i x. g i (f i x)) s
unfolding for turns
for_fused {S} lo hi f g s past = go (hi - lo) (omega arith)
  where
    -- the first c turns of the second loop, and turn c of the first
    over : (c d : ℕ) → d ≤ c → c < hi - lo → (x : S) → turns lo g (f (lo + c) x) d ≡ f (lo + c) (turns lo g x d)
    over c zero h below x = refl
    over c (suc d) h below x = ap (g (lo + d)) (over c d (omega arith) below x) ∙ sym (past (lo + d) (lo + c) (turns lo g x d) (omega arith) (omega arith) (omega arith))

    go : (c : ℕ) → c ≤ hi - lo → turns lo g (turns lo f s c) c ≡ turns lo (λ i x. g i (f i x)) s c
    go zero h = refl
    go (suc c) h = ap (g (lo + c)) (over c c (omega arith) (omega arith) (turns lo f s c) ∙ ap (f (lo + c)) (go c (omega arith)))

-- ---- the invariant of a loop that rises

pub record Ran {S : Type 0} (lo hi : ℕ) (f : ℕ → S → S) (s₀ : S) (i : ℕ) (s : S) : Type 0 where
  pub from : lo ≤ i
  pub upto : i ≤ hi
  pub is : s ≡ for lo i f s₀

pub ran_none : {S : Type 0} {lo hi : ℕ} {f : ℕ → S → S} {s : S} → lo ≤ hi → Ran lo hi f s lo s
ran_none {lo = lo} {f = f} {s = s} h = record { from = omega arith; upto = h; is = sym (for_none lo f s) }

pub ran_more : {S : Type 0} {lo hi : ℕ} {f : ℕ → S → S} {s₀ : S} {i : ℕ} {s s' : S} → Ran lo hi f s₀ i s → i < hi → s' ≡ f i s → Ran lo hi f s₀ (i + 1) s'
ran_more {lo = lo} {f = f} {s₀ = s₀} {i = i} r below e =
    record { from = omega arith; upto = omega arith; is = e ∙ ap (f i) r.is ∙ sym (for_more lo i f s₀ r.from) }

pub ran_all : {S : Type 0} {lo hi : ℕ} {f : ℕ → S → S} {s₀ : S} {i : ℕ} {s : S} → Ran lo hi f s₀ i s → hi ≤ i → s ≡ for lo hi f s₀
ran_all {lo = lo} {f = f} {s₀ = s₀} r past = r.is ∙ ap (λ (k : ℕ). for lo k f s₀) (omega arith)

-- c turns more
pub ran_on : {S : Type 0} {lo hi : ℕ} {f : ℕ → S → S} {s₀ : S} {i : ℕ} {s s' : S} (c : ℕ) → Ran lo hi f s₀ i s → i + c ≤ hi → s' ≡ for i (i + c) f s → Ran lo hi f s₀ (i + c) s'
ran_on {lo = lo} {f = f} {s₀ = s₀} {i = i} c r below e =
    record { from = omega (arith, r.from); upto = below; is = e ∙ ap (for i (i + c) f) r.is ∙ for_join lo i (i + c) f s₀ r.from (omega arith) }

-- ---- loops that fall

-- two loops that stay related, turn by turn, by how many turns are left
pub falling_related : {S X : Type 0} (R : ℕ → S → X → Type 0) (n : ℕ) (f : ℕ → S → S) (g : ℕ → X → X) (s : S) (x : X)
    → R n s x → ((i : ℕ) (t : S) (y : X) → i < n → R (suc i) t y → R i (f i t) (g i y)) → R 0 (falling n f s) (falling n g x)
unfolding falling
falling_related R zero f g s x start each = start
falling_related R (suc i) f g s x start each =
    falling_related R i f g (f i s) (g i x) (each i s x (omega arith) start) (λ j t y below is. each j t y (omega arith) is)

-- what each turn keeps
pub falling_keeps : {S : Type 0} (P : ℕ → S → Type 0) (n : ℕ) (f : ℕ → S → S) (s : S) → P n s → ((i : ℕ) (x : S) → i < n → P (suc i) x → P i (f i x)) → P 0 (falling n f s)
falling_keeps {S} P n f s start each = falling_related {X = S} (λ i x y. P i x) n f f s s start (λ i x y below is. each i x below is)

-- the first w turns, which are counted from m on, and the other m
pub falling_join : {S : Type 0} (m w : ℕ) (f : ℕ → S → S) (s : S) → falling m f (falling w (λ (i : ℕ). f (m + i)) s) ≡ falling (m + w) f s
unfolding falling
falling_join m zero f s = let none : m ≡ m + 0 = omega arith in ap (λ (k : ℕ). falling k f s) none
falling_join m (suc w) f s =
    let next : suc (m + w) ≡ m + suc w = omega arith in
    falling_join m w f (f (m + w) s) ∙ ap (λ (k : ℕ). falling k f s) next

pub record Fell {S : Type 0} (n : ℕ) (f : ℕ → S → S) (s₀ : S) (i : ℕ) (s : S) : Type 0 where
  pub upto : i ≤ n
  pub left : falling i f s ≡ falling n f s₀

pub fell_none : {S : Type 0} {n : ℕ} {f : ℕ → S → S} {s : S} → Fell n f s n s
fell_none = record { upto = omega arith; left = refl }

pub fell_more : {S : Type 0} {n : ℕ} {f : ℕ → S → S} {s₀ : S} {i : ℕ} {s s' : S} → Fell n f s₀ i s → 0 < i → s' ≡ f (i - 1) s → Fell n f s₀ (i - 1) s'
unfolding falling
fell_more {f = f} {i = i} {s = s} r positive e =
    let next : suc (i - 1) ≡ i = omega arith in
    record { upto = omega (arith, r.upto); left = ap (falling (i - 1) f) e ∙ ap (λ (k : ℕ). falling k f s) next ∙ r.left }

pub fell_all : {S : Type 0} {n : ℕ} {f : ℕ → S → S} {s₀ : S} {i : ℕ} {s : S} → Fell n f s₀ i s → i ≤ 0 → s ≡ falling n f s₀
unfolding falling
fell_all {f = f} {i = i} {s = s} r none =
    let end : 0 ≡ i = omega arith in
    ap (λ (k : ℕ). falling k f s) end ∙ r.left
