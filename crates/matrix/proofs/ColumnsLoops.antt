-- Loops of any form over a column. Assumes nothing.
--     Keeping f, Keeps f       a step, the turns of a loop, that keep the length:   loop_keeps, for_long
--     Uniform loop             what the turns keep between two states, the loop keeps:   for_uniform, falling_uniform
use mathlib.Core.List.{List}
use mathlib.Core.Path.{◌≡◌, refl, ◌∙◌}
use Prim.Native.Nat.{ℕ}
use lib.ListN.{length}
use Rattle.matrix.specs.Loop.{for, falling}
use Rattle.matrix.proofs.Loops.{for_related, falling_related}

abbrev pub Keeping : {A : Type 0} → (List A → List A) → Type 0
Keeping {A} f = (l : List A) → length (f l) ≡ length l

abbrev pub Keeps : {A : Type 0} → (ℕ → List A → List A) → Type 0
Keeps {A} f = (i : ℕ) (l : List A) → length (f i l) ≡ length l

-- what turns a first state into a last one, for states of any type
abbrev pub Loop : Type 1
Loop = (S : Type 0) → (ℕ → S → S) → S → S

abbrev pub Uniform : Loop → Type 1
Uniform loop =
    (S T : Type 0) (R : S → T → Type 0) (f : ℕ → S → S) (g : ℕ → T → T) → ((i : ℕ) (s : S) (t : T) → R s t → R (f i s) (g i t))
    → (s : S) (t : T) → R s t → R (loop S f s) (loop T g t)

abbrev pub rising : ℕ → ℕ → Loop
rising lo hi S = for {S = S} lo hi

abbrev pub sinking : ℕ → Loop
sinking n S = falling {S = S} n

pub for_uniform : (lo hi : ℕ) → Uniform (rising lo hi)
for_uniform lo hi S T R f g step s t h = for_related R lo hi f g h (λ i s t from upto is. step i s t is)

pub falling_uniform : (n : ℕ) → Uniform (sinking n)
falling_uniform n S T R f g step s t h = falling_related (λ (i : ℕ). R) n f g s t h (λ i s t below is. step i s t is)

pub loop_keeps : {A : Type 0} (loop : Loop) → Uniform loop → (f : ℕ → List A → List A) (l : List A) → Keeps f → length (loop (List A) f l) ≡ length l
loop_keeps {A} loop uniform f l k = uniform (List A) (List A) (λ s t. length s ≡ length l) f f (λ i s t e. k i s ∙ e) l l refl

pub for_long : {A : Type 0} (lo hi : ℕ) (f : ℕ → List A → List A) (l : List A) → Keeps f → length (for lo hi f l) ≡ length l
for_long lo hi f l k = loop_keeps (rising lo hi) (for_uniform lo hi) f l k
