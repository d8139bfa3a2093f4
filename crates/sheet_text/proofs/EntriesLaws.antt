-- The entry lines of a sheet and what is read of them, both ways.
use mathlib.Core.Path.{◌≡◌, refl, sym, ap, ◌∙◌}
use mathlib.Core.Bool.{true, false}
use mathlib.Core.List.{List, [], ◌∷◌, ◌++◌, append_assoc}
use Prim.Native.Nat.{ℕ, zero, suc, ◌+◌, ◌^◌, ◌<◌, ◌≤◌}
use native.Mathlib.Nat.{add-zero, not-suc-le-zero, le_of_suc-le-suc}
use native.Mathlib.Omega.{arith}
use lib.Ieee.{Float, binary64, of_bits}
use lib.ListN.{length, get_or, take, drop, set}
use Rattle.sheet_text.specs.declared.place.Place.{Place}
use Rattle.sheet_text.specs.Text.{entry_line}
use Rattle.sheet_text.specs.inner.Parse.{Parse, found, missing}
use Rattle.sheet_text.specs.Place.{places, cell}
use Rattle.sheet_text.specs.inner.Read.{entry_at, Taken, taken, take_entries}
use Rattle.sheet_text.specs.Sheet.{entry_lines, join, stored}
use Rattle.sheet_text.proofs.Steps.{false_is_not_true}
use Rattle.sheet_text.proofs.EntrySteps.{entries_stop, entries_more}
use Rattle.sheet_text.proofs.NumberLaws.{Spelled}
use Rattle.sheet_text.proofs.EachPlace.{Each, each_place}
use Rattle.sheet_text.proofs.LineLaws.{place_found, place_sound}

abbrev pub Wide : List ℕ → Type 0
Wide bits = (k : ℕ) → get_or bits k 0 < 2 ^ 64

pub wide_tail : (b : ℕ) (bits : List ℕ) → Wide (b ∷ bits) → Wide bits
wide_tail b bits w k = w (suc k)

pub wide_cons : (b : ℕ) (bits : List ℕ) → b < 2 ^ 64 → Wide bits → Wide (b ∷ bits)
wide_cons b bits h w zero = h
wide_cons b bits h w (suc k) = w k

pub wide_take : (k : ℕ) (bits : List ℕ) → Wide bits → Wide (take k bits)
wide_take zero bits w i = omega arith
wide_take (suc k) [] w i = omega arith
wide_take (suc k) (b ∷ bits) w zero = w 0
wide_take (suc k) (b ∷ bits) w (suc i) = wide_take k bits (wide_tail b bits w) i

-- ---- each place's row and column are numbers that a line can hold
pub record ShortPlace (p : Place) : Type 0 where
  pub row : p.row < 10000
  pub column : p.column < 10000

abbrev pub Short : List Place → Type 0
Short ps = Each ShortPlace ps

pub short_places : (n : ℕ) → n ≤ 64 → Short (places n)
short_places n h = each_place ShortPlace n (λ r c k l. record { row = omega arith; column = omega arith })

-- ---- the lines are read
pub entries_read : (n : ℕ) (ps : List Place) (bits t : List ℕ) (c : ℕ) (a : List Float) → Short ps → length bits ≤ length ps → Wide bits
    → take_entries n ps (join (entry_lines ps bits) ++ t) c a ≡ take_entries n (drop (length bits) ps) t (c + length bits) (stored n ps bits a)
unfolding entry_lines join stored
entries_read n [] [] t c a h l w = ap (λ (m : ℕ). take_entries n [] t m a) (sym (add-zero c))
entries_read n [] (b ∷ bits) t c a h l w = absurd (not-suc-le-zero l)
entries_read n (p ∷ ps) [] t c a h l w = ap (λ (m : ℕ). take_entries n (p ∷ ps) t m a) (sym (add-zero c))
entries_read n (p ∷ ps) (b ∷ bits) t c a h l w =
    let count : c + 1 + length bits ≡ c + suc (length bits) = omega arith in
    ap (λ (u : List ℕ). take_entries n (p ∷ ps) u c a) (append_assoc (entry_line p.row p.column b) (join (entry_lines ps bits)) t)
    ∙ entries_more n p ps (entry_line p.row p.column b ++ (join (entry_lines ps bits) ++ t)) c a b (join (entry_lines ps bits) ++ t)
    (place_found p b (join (entry_lines ps bits) ++ t) h.0.row h.0.column (w 0))
    ∙ entries_read n ps bits t (c + 1) (set a (cell n p) (of_bits binary64 b)) h.1 (le_of_suc-le-suc l) (wide_tail b bits w)
    ∙ ap (λ (m : ℕ). take_entries n (drop (length bits) ps) t m (stored n ps bits (set a (cell n p) (of_bits binary64 b)))) count

-- ---- what is read is the lines
pub record Extent (n : ℕ) (ps : List Place) (t : List ℕ) (c : ℕ) (a : List Float) (k : Taken) : Type 0 where
  pub bits : List ℕ
  pub wide : Wide bits
  pub count : k.count ≡ c + length bits
  pub text : t ≡ join (entry_lines ps bits) ++ k.left
  pub cells : k.cells ≡ stored n ps bits a
  pub fewer : length bits ≤ length ps
  pub all : k.whole ≡ true → length bits ≡ length ps
  pub some : k.whole ≡ false → length bits < length ps

none_read : (n : ℕ) (ps : List Place) (t : List ℕ) (c : ℕ) (a : List Float) (k : Taken) → k.count ≡ c → k.left ≡ t → k.cells ≡ a
    → (k.whole ≡ true → 0 ≡ length ps) → (k.whole ≡ false → 0 < length ps) → Extent n ps t c a k
unfolding entry_lines join stored
none_read n [] t c a k e f g all some = record { bits = []; wide = λ i. omega arith; count = e ∙ sym (add-zero c); text = sym f; cells = g; fewer = omega arith; all = all; some = some }
none_read n (p ∷ ps) t c a k e f g all some = record { bits = []; wide = λ i. omega arith; count = e ∙ sym (add-zero c); text = sym f; cells = g; fewer = omega arith; all = all; some = some }

one_read : (n : ℕ) (p : Place) (ps : List Place) (t : List ℕ) (c : ℕ) (a : List Float) (b : ℕ) (rest : List ℕ) → Spelled (entry_line p.row p.column) t b rest (2 ^ 64)
    → (k : Taken) → Extent n ps rest (c + 1) (set a (cell n p) (of_bits binary64 b)) k → Extent n (p ∷ ps) t c a k
unfolding entry_lines join stored
one_read n p ps t c a b rest line k x =
    let count = x.count in
    let fewer = x.fewer in
    record {
      bits = b ∷ x.bits;
      wide = wide_cons b x.bits line.small x.wide;
      count = omega arith;
      text = line.same ∙ ap (λ (u : List ℕ). entry_line p.row p.column b ++ u) x.text ∙ sym (append_assoc (entry_line p.row p.column b) (join (entry_lines ps x.bits)) k.left);
      cells = x.cells;
      fewer = omega arith;
      all = λ e. ap suc (x.all e);
      some = λ e. omega (arith, x.some e);
    }

pub entries_sound : (n : ℕ) (ps : List Place) (t : List ℕ) (c : ℕ) (a : List Float) → Extent n ps t c a (take_entries n ps t c a)
unfolding take_entries
entries_sound n [] t c a = none_read n [] t c a (taken true c t a) refl refl refl (λ e. refl) (λ e. absurd (false_is_not_true (sym e)))
entries_sound n (p ∷ ps) t c a = go (entry_at p t) refl (λ rest a'. entries_sound n ps rest (c + 1) a')
  where
    go : (r : Parse ℕ) → entry_at p t ≡ r → ((rest : List ℕ) (a' : List Float) → Extent n ps rest (c + 1) a' (take_entries n ps rest (c + 1) a')) → Extent n (p ∷ ps) t c a (take_entries n (p ∷ ps) t c a)
    go (found b rest) e more =
        let a' = set a (cell n p) (of_bits binary64 b) in
        rw (entries_more n p ps t c a b rest e) (one_read n p ps t c a b rest (place_sound p t b rest e) (take_entries n ps rest (c + 1) a') (more rest a'))
    go missing e more =
        rw (entries_stop n p ps t c a e)
        (none_read n (p ∷ ps) t c a (taken false c t a) refl refl refl (λ e. absurd (false_is_not_true e)) (λ e. omega arith))
