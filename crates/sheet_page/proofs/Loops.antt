-- The loops over the pivot lines and the entry lines: what is known at each turn, and how a turn keeps it.
use Rattle.std.proofs.Common.{◌≡◌, ℕ, suc, ◌+◌, ◌-◌, ◌<◌, ◌≤◌, List, [], ◌∷◌, ◌++◌, map, length, refl, ap, ◌∙◌, add-one, arith}
use Rattle.std.specs.Float.Ieee.{Float}
use Rattle.pivots.specs.Words.{index_at, size_at}
use Rattle.sheet_text.specs.declared.place.Place.{Place}
use Rattle.sheet_text.specs.Text.{entry_line}
use Rattle.sheet_text.specs.Place.{places}
use Rattle.sheet_text.specs.Sheet.{entry_lines, join}
use Rattle.sheet_text.proofs.EachPlace.{Each, InSquare, in_square}
use Rattle.sheet_page.specs.declared.page.Page.{Page}
use Rattle.sheet_page.specs.Page.{pivot_line, pivot_lines, matrix_in, bits_at, lower_bits}
use Rattle.sheet_page.specs.inner.Wrote.{Wrote}
use Rattle.sheet_page.proofs.Wrote.{wrote_none, wrote_then}

-- ---- a text that is being written: once the rest of it stands, all of it does
pub record ToGo (p : Page) (whole : List ℕ) (q : Page) (rest : List ℕ) : Type 0 where
  pub finish : (r : Page) → Wrote q rest r → Wrote p whole r

to_go_all : (p : Page) (whole : List ℕ) → ToGo p whole p whole
to_go_all p whole = record { finish = λ r w. w }

module _ {p : Page} {whole : List ℕ} {q : Page} {left : List ℕ} (g : ToGo p whole q left) where
  to_go_more : {line rest : List ℕ} {r : Page} → left ≡ line ++ rest → Wrote q line r → ToGo p whole r rest
  to_go_more {line} {rest} e w = record { finish = λ r v. g.finish r (rw e (wrote_then w v)) }

  to_go_none : left ≡ [] → Wrote p whole q
  to_go_none e = g.finish q (rw e (wrote_none q))

-- ---- pivot lines
abbrev pub pivot_text : List ℕ → ℕ → ℕ → List ℕ
pivot_text words n row = join (pivot_lines words row (n - row))

pub pivots_start : (p : Page) (words : List ℕ) (n : ℕ) → ToGo p (join (pivot_lines words 0 n)) p (pivot_text words n 0)
pivots_start p words n = let all : n - 0 ≡ n = omega arith in rw all (to_go_all p (join (pivot_lines words 0 n)))

pivot_text_more : (words : List ℕ) (n row : ℕ) → row < n → pivot_text words n row ≡ pivot_line row (index_at words row) (size_at words row) ++ pivot_text words n (row + 1)
unfolding pivot_lines join
pivot_text_more words n row h =
    let e : n - row ≡ suc (n - (row + 1)) = omega arith in
    rw (e, add-one row)

pivot_text_none : (words : List ℕ) (n row : ℕ) → n ≤ row → pivot_text words n row ≡ []
unfolding pivot_lines join
pivot_text_none words n row h = let e : n - row ≡ 0 = omega arith in rw e

module _ (words : List ℕ) (n row : ℕ) {p : Page} {whole : List ℕ} {q : Page} (g : ToGo p whole q (pivot_text words n row)) where
  pub pivots_more : {index size : ℕ} {r : Page} → row < n → index ≡ index_at words row → size ≡ size_at words row → Wrote q (pivot_line row index size) r → ToGo p whole r (pivot_text words n (row + 1))
  pivots_more h e f w = to_go_more g (pivot_text_more words n row h) (rw (e, f) at w)

  pub pivots_all : n ≤ row → Wrote p whole q
  pivots_all h = to_go_none g (pivot_text_none words n row h)

-- ---- entry lines
abbrev entry_text : ℕ → List Float → List Place → List ℕ
entry_text n a ps = join (entry_lines ps (map (bits_at (matrix_in n a)) ps))

pub record EntriesSoFar (p : Page) (n : ℕ) (a : List Float) (q : Page) (rest : List Place) (count : ℕ) : Type 0 where
  pub inside : Each (InSquare n) rest
  pub counted : count + length rest ≡ length (places n)
  pub to_go : ToGo p (entry_text n a (places n)) q (entry_text n a rest)

pub entries_start : (p : Page) (n : ℕ) (a : List Float) (rest : List Place) → rest ≡ places n → EntriesSoFar p n a p rest 0
entries_start p n a rest e = rw e record { inside = in_square n; counted = omega arith; to_go = to_go_all p (entry_text n a (places n)) }

entry_text_more : (n : ℕ) (a : List Float) (p : Place) (ps : List Place) → entry_text n a (p ∷ ps) ≡ entry_line p.row p.column (bits_at (matrix_in n a) p) ++ entry_text n a ps
unfolding entry_lines join
entry_text_more n a p ps = refl

module _ {p : Page} {n : ℕ} {a : List Float} {q : Page} {rest : List Place} {count : ℕ} (so : EntriesSoFar p n a q rest count) where
  module _ {place : Place} {others : List Place} (e : rest ≡ place ∷ others) where
    pub room : count < length (places n)
    room = omega (arith, so.counted, ap length e)

    pub entries_more : {r : Page} → Wrote q (entry_line place.row place.column (bits_at (matrix_in n a) place)) r → EntriesSoFar p n a r others (count + 1)
    entries_more w = record {
      inside = (rw e at so.inside).1;
      counted = omega (arith, so.counted, ap length e);
      to_go = to_go_more so.to_go (ap (entry_text n a) e ∙ entry_text_more n a place others) w;
    }

  pub entries_all : rest ≡ [] → Wrote p (join (entry_lines (places n) (lower_bits n (matrix_in n a)))) q
  unfolding lower_bits entry_lines join
  entries_all e = to_go_none so.to_go (ap (entry_text n a) e)
