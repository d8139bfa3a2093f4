-- Two records with the same pairs, mark and run number are the same.
use mathlib.Core.List.{List}
use mathlib.Core.Logic.{⊎_elim}
use mathlib.Core.Path.{◌≡◌, sym, subst, ◌∙◌}
use Prim.Native.Nat.{ℕ, ◌/◌, ◌+◌, ◌*◌, ◌<◌, ◌≤◌}
use native.Mathlib.Omega.{arith}
use lib.ListN.{length, get_or}
use lib.Seq.{ext_get_or}
use Rattle.answer.proofs.Tests.{lt_or_ge}
use Rattle.pivots.specs.Words.{words_of, index_word, size_word, mark_word, run_word, mark_at, run_at}
use Rattle.pivots.proofs.SamePairs.{SamePairs}

module _
    {n : ℕ} {words words' : List ℕ} (total : length words ≡ words_of n) (total' : length words' ≡ words_of n)
    (pairs : SamePairs n words words') (mark : mark_at n words ≡ mark_at n words') (run : run_at n words ≡ run_at n words')
  where
    abbrev Alike : ℕ → Type 0
    Alike i = get_or words i 0 ≡ get_or words' i 0

    -- a word of a row, or of the two at the end; the first or the second
    at : (i : ℕ) → i < length words → Alike i
    at i below =
        ⊎_elim
        (λ (row : i / 2 < n).
        ⊎_elim (λ (h : i < 2 * (i / 2) + 1). subst Alike (first h) (pairs.index (i / 2) row)) (λ (h : 2 * (i / 2) + 1 ≤ i). subst Alike (second h) (pairs.size (i / 2) row))
        (lt_or_ge i (2 * (i / 2) + 1)))
        (λ (end : n ≤ i / 2).
        ⊎_elim (λ (h : i < 2 * n + 1). subst Alike (let e : mark_word n ≡ i = omega arith in e) mark) (λ (h : 2 * n + 1 ≤ i). subst Alike (let e : run_word n ≡ i = omega arith in e) run)
        (lt_or_ge i (2 * n + 1)))
        (lt_or_ge (i / 2) n)
      where
        first : i < 2 * (i / 2) + 1 → index_word (i / 2) ≡ i
        first h = omega arith

        second : 2 * (i / 2) + 1 ≤ i → size_word (i / 2) ≡ i
        second h = omega arith

    pub same_words : words ≡ words'
    same_words = ext_get_or 0 words words' (total ∙ sym total') at
