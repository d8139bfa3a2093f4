-- A loop that writes a slice in place: `Turning lo hi f b₀ i b` is its invariant. Assumes nothing.
use mathlib.Core.List.{List}
use mathlib.Core.Path.{◌≡◌, refl, ◌∙◌}
use Prim.Native.Nat.{ℕ, ◌+◌, ◌≤◌, ◌<◌}
use lib.ListN.{length}
use Rattle.matrix.specs.Loop.{for}
use Rattle.matrix.proofs.Loops.{Ran, ran_none, ran_more, ran_on, ran_all}

pub record Turning {A : Type 0} (lo hi : ℕ) (f : ℕ → List A → List A) (b₀ : List A) (i : ℕ) (b : List A) : Type 0 where
  pub ran : Ran lo hi f b₀ i b
  pub long : length b ≡ length b₀

module _ {A : Type 0} {lo hi : ℕ} {f : ℕ → List A → List A} where
  pub turning_none : {b : List A} → lo ≤ hi → Turning lo hi f b lo b
  turning_none h = record { ran = ran_none h; long = refl }

  module _ {b₀ : List A} {i : ℕ} {b : List A} (t : Turning lo hi f b₀ i b) where
    pub turning_more : {b' : List A} → i < hi → b' ≡ f i b → length b' ≡ length b → Turning lo hi f b₀ (i + 1) b'
    turning_more below step long = record { ran = ran_more t.ran below step; long = long ∙ t.long }

    -- c turns more
    pub turning_on : (c : ℕ) {b' : List A} → i + c ≤ hi → b' ≡ for i (i + c) f b → length b' ≡ length b → Turning lo hi f b₀ (i + c) b'
    turning_on c below step long = record { ran = ran_on c t.ran below step; long = long ∙ t.long }

    pub turning_all : hi ≤ i → b ≡ for lo hi f b₀
    turning_all past = ran_all t.ran past
