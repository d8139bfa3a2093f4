-- The reader's promise leaves one answer for each text, and the entries that it stores.
use mathlib.Core.Path.{◌≡◌, sym, ap, ap₂, ◌∙◌}
use mathlib.Core.List.{List, ◌++◌, append_assoc}
use mathlib.Core.Logic.{◌⊎◌, inl, inr}
use Prim.Native.Nat.{ℕ, ◌-◌, ◌<◌, ◌≤◌}
use native.Mathlib.Omega.{arith}
use lib.Ieee.{Float}
use lib.ListN.{take, drop, take-append-drop}
use lib.Seq.{take-take}
use Rattle.answer.proofs.Tests.{lt_or_ge}
use Rattle.sheet_text.specs.Place.{places}
use Rattle.sheet_text.specs.Sheet.{Sheet, wrong_at, sheet_lines, join, Begins, FirstWrong, stored, Reads, right, wrong}
use Rattle.sheet_text.specs.inner.Read.{reading, read_of}
use Rattle.sheet_text.proofs.SheetLaws.{join_both, complete}
use Rattle.sheet_text.proofs.SheetSound.{after, sound}

fewer : (j k : ℕ) (s : List ℕ) → j ≤ k → Begins k s → Begins j s
fewer j k s h b =
    let x = b.begins in
    let lines = sheet_lines b.order b.bits in
    let has = x.has in
    let split : take j lines ++ drop j (take k lines) ≡ take k lines =
    ap (λ (ls : List (List ℕ)). ls ++ drop j (take k lines)) (sym (take-take j k lines h)) ∙ take-append-drop j (take k lines) in
    record {
      order = b.order;
      bits = b.bits;
      begins = record {
        sheet = x.sheet;
        has = omega arith;
        rest = join (drop j (take k lines)) ++ x.rest;
        same =
            x.same
            ∙ ap (λ (ls : List (List ℕ)). join ls ++ x.rest) (sym split)
            ∙ ap (λ (t : List ℕ). t ++ x.rest) (join_both (take j lines) (drop j (take k lines)))
            ∙ append_assoc (join (take j lines)) (join (drop j (take k lines))) x.rest;
      };
    }

no_earlier : (s : List ℕ) (j k : ℕ) → FirstWrong s j → FirstWrong s k → j < k → ⊥
no_earlier s j k f g h = f.here (fewer j (k - 1) s (omega arith) g.before)

pub one_line : (s : List ℕ) (j k : ℕ) → FirstWrong s j → FirstWrong s k → j ≡ k
one_line s j k f g = go (lt_or_ge j k) (lt_or_ge k j)
  where
    go : (j < k) ⊎ (k ≤ j) → (k < j) ⊎ (j ≤ k) → j ≡ k
    go (inl h) x = absurd (no_earlier s j k f g h)
    go (inr h) (inl x) = absurd (no_earlier s k j g f x)
    go (inr h) (inr x) = omega arith

-- a text that begins with lines of a sheet has those lines' numbers before its first wrong line
some_line : (s : List ℕ) (line : ℕ) → FirstWrong s line → 1 ≤ line
some_line s line f = go (lt_or_ge 0 line)
  where
    none : line ≤ 0 → Begins line s
    none h = fewer line (line - 1) s (omega arith) f.before

    go : (0 < line) ⊎ (line ≤ 0) → 1 ≤ line
    go (inl h) = h
    go (inr h) = absurd (f.here (none h))

pub reads_once : (s : List ℕ) (a : List Float) (r : Sheet) (a' : List Float) → Reads s a r a' → reading r a' ≡ read_of s a
reads_once s a r a' (right n bits h same e c) = ap₂ reading e c ∙ sym (ap (λ (t : List ℕ). read_of t a) same ∙ complete n bits a h)
reads_once s a r a' (wrong line n bits f e b c) = go (sound s a)
  where
    go : Reads s a (read_of s a).sheet (read_of s a).cells → reading r a' ≡ read_of s a
    go (right m other h same x y) = absurd (f.no_sheet m other h same)
    go (wrong found m other g x d y) =
        let one = one_line s found line g f in
        let there : (read_of s a).sheet ≡ wrong_at line = x ∙ ap wrong_at one in
        let low = some_line s line f in
        let back : line - 1 - 1 ≡ line - 2 = omega arith in
        let cells : (read_of s a).cells ≡ stored n (places n) (take (line - 2) bits) a =
        (after n bits (line - 1) s a line b there).kept (omega arith) ∙ ap (λ (k : ℕ). stored n (places n) (take k bits) a) back in
        ap₂ reading (e ∙ sym there) (c ∙ sym cells)
