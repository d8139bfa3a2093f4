-- A sheet's text fixes its order and its bits.
use mathlib.Core.Path.{◌≡◌, refl, sym, ap, ap₂, ◌∙◌}
use mathlib.Core.List.{List, [], ◌∷◌, ◌++◌, append_assoc}
use Prim.Native.Nat.{ℕ}
use native.Mathlib.Omega.{arith}
use lib.ListN.{length}
use Rattle.sheet_text.specs.declared.place.Place.{Place}
use Rattle.sheet_text.specs.Text.{bytes, number_line, entry_line}
use Rattle.sheet_text.specs.inner.Parse.{found, number_after}
use Rattle.sheet_text.specs.Place.{places}
use Rattle.sheet_text.specs.inner.Read.{entry_at}
use Rattle.sheet_text.specs.Sheet.{entry_lines, join, sheet_of, IsSheet}
use Rattle.sheet_text.proofs.LineLaws.{line_found, place_found}
use Rattle.sheet_text.proofs.EntriesLaws.{Wide, wide_tail, Short, short_places}
use Rattle.sheet_text.proofs.SheetLaws.{all_lines}

same_entries : (ps : List Place) (bits bits' t t' : List ℕ) → Short ps → Wide bits → Wide bits' → length bits ≡ length ps → length bits' ≡ length ps
    → join (entry_lines ps bits) ++ t ≡ join (entry_lines ps bits') ++ t' → bits ≡ bits'
unfolding entry_lines join
same_entries [] [] [] t t' h w w' l l' e = refl
same_entries [] [] (c ∷ bits') t t' h w w' l l' e = absurd (omega arith)
same_entries [] (b ∷ bits) bits' t t' h w w' l l' e = absurd (omega arith)
same_entries (p ∷ ps) [] bits' t t' h w w' l l' e = absurd (omega arith)
same_entries (p ∷ ps) (b ∷ bits) [] t t' h w w' l l' e = absurd (omega arith)
same_entries (p ∷ ps) (b ∷ bits) (c ∷ bits') t t' h w w' l l' e =
    let u = join (entry_lines ps bits) ++ t in
    let u' = join (entry_lines ps bits') ++ t' in
    let lines : entry_line p.row p.column b ++ u ≡ entry_line p.row p.column c ++ u' =
    sym (append_assoc (entry_line p.row p.column b) (join (entry_lines ps bits)) t) ∙ e ∙ append_assoc (entry_line p.row p.column c) (join (entry_lines ps bits')) t' in
    let read : found b u ≡ found c u' =
    sym (place_found p b u h.0.row h.0.column (w 0)) ∙ ap (entry_at p) lines ∙ place_found p c u' h.0.row h.0.column (w' 0) in
    let first : b ≡ c = cc in
    let after : u ≡ u' = cc in
    ap₂ ◌∷◌ first (same_entries ps bits bits' t t' h.1 (wide_tail b bits w) (wide_tail c bits' w') (omega arith) (omega arith) after)

pub record SameSheet (n : ℕ) (bits : List ℕ) (m : ℕ) (other : List ℕ) : Type 0 where
  pub order : n ≡ m
  pub entries : bits ≡ other

pub sheet_once : (n : ℕ) (bits : List ℕ) (m : ℕ) (other : List ℕ) → IsSheet n bits → IsSheet m other → sheet_of n bits ≡ sheet_of m other → SameSheet n bits m other
unfolding sheet_of
sheet_once n bits m other h k e =
    let high = h.most in
    let high' = k.most in
    let u = join (entry_lines (places n) bits) ++ (number_line (bytes "end\t") (length (entry_lines (places n) bits)) ++ []) in
    let v = join (entry_lines (places m) other) ++ (number_line (bytes "end\t") (length (entry_lines (places m) other)) ++ []) in
    let lines : number_line (bytes "order\t") n ++ u ≡ number_line (bytes "order\t") m ++ v =
    sym (all_lines n bits []) ∙ ap (λ (t : List ℕ). t ++ []) e ∙ all_lines m other [] in
    let read : found n u ≡ found m v =
    sym (line_found (bytes "order\t") n u (omega arith)) ∙ ap (number_after (bytes "order\t")) lines ∙ line_found (bytes "order\t") m v (omega arith) in
    let order : n ≡ m = cc in
    let after : u ≡ v = cc in
    record {
      order = order;
      entries =
          same_entries (places m) bits other
          (number_line (bytes "end\t") (length (entry_lines (places n) bits)) ++ []) (number_line (bytes "end\t") (length (entry_lines (places m) other)) ++ [])
          (short_places m k.most) h.wide k.wide (h.each ∙ ap (λ (j : ℕ). length (places j)) order) k.each
          (ap (λ (j : ℕ). join (entry_lines (places j) bits) ++ (number_line (bytes "end\t") (length (entry_lines (places n) bits)) ++ [])) (sym order) ∙ after);
    }
