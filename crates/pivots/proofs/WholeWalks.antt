-- Walks over the blocks as a whole.
--     fused                                    two walks as one, where a later step of the first commutes with an earlier one of the second
--     forwards_uniform, backwards_uniform      what the steps keep between two states, the walk keeps
use mathlib.Core.Bool.{Bool, true, false, cond}
use mathlib.Core.List.{List}
use mathlib.Core.Path.{◌≡◌, refl, sym, ap, ◌∙◌}
use Prim.Native.Nat.{ℕ, zero, suc, ◌+◌, ◌-◌, ◌<◌, ◌≤◌}
use native.Mathlib.Omega.{arith}
use borrow.Author.Tests.{ltb-true}
use lib.Dec.{ltb}
use Rattle.pivots.specs.Rule.{Accepted}
use Rattle.pivots.specs.Blocks.{rows_of, blocks_from, forwards, blocks_to, backwards}
use Rattle.pivots.proofs.Boundaries.{Boundary, boundary_none}
use Rattle.pivots.proofs.Walks.{boundary_next}

-- ---- two walks as one

-- the step of the first at a block, then that of the second
abbrev pub together : {S : Type 0} → (ℕ → S → S) → (ℕ → S → S) → ℕ → S → S
together f g k s = g k (f k s)

module _
    {S : Type 0} (n : ℕ) (words : List ℕ) (f g : ℕ → S → S)
    (apart : (j k : ℕ) → Boundary n words j → j < n → k + rows_of words k ≤ j → (s : S) → f j (g k s) ≡ g k (f j s))
  where
    -- the first walk from a later block on, and a step of the second
    later : (fuel j k : ℕ) → Boundary n words j → k + rows_of words k ≤ j → (s : S) → blocks_from fuel n words f j (g k s) ≡ g k (blocks_from fuel n words f j s)
    unfolding blocks_from
    later zero j k b after s = refl
    later (suc fuel) j k b after s =
        go (λ below. later fuel (j + rows_of words j) k (boundary_next b below) (omega arith) (f j s)) (ltb j n) refl
      where
        next : S → S
        next = blocks_from fuel n words f (j + rows_of words j)

        go : (j < n → next (g k (f j s)) ≡ g k (next (f j s))) → (t : Bool) → ltb j n ≡ t → cond t (next (f j (g k s))) (g k s) ≡ g k (cond t (next (f j s)) s)
        go more true e =
            let below : j < n = ltb-true j n e in
            ap next (apart j k b below after s) ∙ more below
        go more false e = refl

    both : (fuel k : ℕ) → Boundary n words k → (s : S) → blocks_from fuel n words g k (blocks_from fuel n words f k s) ≡ blocks_from fuel n words (together f g) k s
    unfolding blocks_from
    both zero k b s = refl
    both (suc fuel) k b s = go (λ below. both fuel (k + rows_of words k) (boundary_next b below) (together f g k s)) (ltb k n) refl
      where
        next : (ℕ → S → S) → S → S
        next h = blocks_from fuel n words h (k + rows_of words k)

        go : (k < n → next g (next f (together f g k s)) ≡ next (together f g) (together f g k s)) → (t : Bool) → ltb k n ≡ t
            → cond t (next g (g k (cond t (next f (f k s)) s))) (cond t (next f (f k s)) s) ≡ cond t (next (together f g) (together f g k s)) s
        go more true e =
            let below : k < n = ltb-true k n e in
            ap (next g) (sym (later fuel (k + rows_of words k) k (boundary_next b below) (omega arith) (f k s))) ∙ more below
        go more false e = refl

    pub fused : Accepted n words → (s : S) → forwards n words g (forwards n words f s) ≡ forwards n words (together f g) s
    unfolding forwards
    fused a s = both n 0 (boundary_none a) s

-- ---- what the steps keep between two states

module _
    (words : List ℕ) (S T : Type 0) (R : S → T → Type 0) (f : ℕ → S → S) (g : ℕ → T → T)
    (step : (k : ℕ) (s : S) (t : T) → R s t → R (f k s) (g k t))
  where
    either : (b : Bool) {s₁ s₂ : S} {t₁ t₂ : T} → R s₁ t₁ → R s₂ t₂ → R (cond b s₁ s₂) (cond b t₁ t₂)
    either true h₁ h₂ = h₁
    either false h₁ h₂ = h₂

    from_uniform : (fuel n k : ℕ) (s : S) (t : T) → R s t → R (blocks_from fuel n words f k s) (blocks_from fuel n words g k t)
    unfolding blocks_from
    from_uniform zero n k s t h = h
    from_uniform (suc fuel) n k s t h = either (ltb k n) (from_uniform fuel n (k + rows_of words k) (f k s) (g k t) (step k s t h)) h

    to_uniform : (fuel k : ℕ) (s : S) (t : T) → R s t → R (blocks_to fuel words f k s) (blocks_to fuel words g k t)
    unfolding blocks_to
    to_uniform zero k s t h = h
    to_uniform (suc fuel) k s t h = either (ltb 0 k) (to_uniform fuel (k - rows_of words (k - 1)) (f k s) (g k t) (step k s t h)) h

module _ (n : ℕ) (words : List ℕ) where
  pub forwards_uniform
      : (S T : Type 0) (R : S → T → Type 0) (f : ℕ → S → S) (g : ℕ → T → T) → ((k : ℕ) (s : S) (t : T) → R s t → R (f k s) (g k t))
      → (s : S) (t : T) → R s t → R (forwards n words f s) (forwards n words g t)
  unfolding forwards
  forwards_uniform S T R f g step s t h = from_uniform words S T R f g step n n 0 s t h

  pub backwards_uniform
      : (S T : Type 0) (R : S → T → Type 0) (f : ℕ → S → S) (g : ℕ → T → T) → ((k : ℕ) (s : S) (t : T) → R s t → R (f k s) (g k t))
      → (s : S) (t : T) → R s t → R (backwards n words f s) (backwards n words g t)
  unfolding backwards
  backwards_uniform S T R f g step s t h = to_uniform words S T R f g step n n s t h
