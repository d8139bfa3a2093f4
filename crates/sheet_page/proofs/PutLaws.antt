-- Texts that are written one after the other.
use mathlib.Core.Path.{◌≡◌, refl, sym, ap, ap₂, ◌∙◌}
use mathlib.Core.List.{List, [], ◌∷◌, ◌++◌, append_assoc, append-nil}
use Prim.Native.Nat.{ℕ, zero, suc, ◌+◌, ◌-◌, ◌≤◌}
use native.Mathlib.Omega.{arith}
use lib.ListN.{length, take, drop, length-append, take-append-drop}
use lib.Seq.{take_all, length-take-le, drop-drop}
use Rattle.sheet_page.specs.Put.{Put}

pub put_none : (o : List ℕ) (at : ℕ) → at ≤ length o → Put o at [] at o
put_none o at h =
    let front = length-take-le at o h in
    record {
      long = refl;
      ends = omega arith;
      stands = sym (ap (take (length o)) (append-nil (take at o)) ∙ take_all (length o) (take at o) (omega arith));
      kept = refl;
    }

take_twice : (n : ℕ) (xs ys : List ℕ) → take n (take n xs ++ ys) ≡ take n (xs ++ ys)
take_twice zero xs ys = refl
take_twice (suc n) [] ys = refl
take_twice (suc n) (x ∷ xs) ys = ap (λ (l : List ℕ). x ∷ l) (take_twice n xs ys)

drop_later : (r k : ℕ) (xs ys : List ℕ) → r ≤ k → drop r xs ≡ drop r ys → drop k xs ≡ drop k ys
drop_later r k xs ys h e =
    let split : r + (k - r) ≡ k = omega arith in
    ap (λ (m : ℕ). drop m xs) (sym split) ∙ sym (drop-drop (k - r) r xs) ∙ ap (drop (k - r)) e ∙ drop-drop (k - r) r ys ∙ ap (λ (m : ℕ). drop m ys) split

pub put_then : {o : List ℕ} {at : ℕ} {text : List ℕ} {r : ℕ} {o' more : List ℕ} {r' : ℕ} {o'' : List ℕ} → Put o at text r o' → Put o' r more r' o'' → Put o at (text ++ more) r' o''
put_then {o} {at} {text} {r} {o'} {more} {r'} {o''} p q =
    let long = p.long in
    let ends = p.ends in
    let ends' = q.ends in
    let whole = length-append text more in
    record {
      long = q.long ∙ p.long;
      ends = omega arith;
      stands =
          q.stands
          ∙ ap (λ (n : ℕ). take n (take r o' ++ more)) p.long
          ∙ ap (λ (l : List ℕ). take (length o) (l ++ more)) p.stands
          ∙ take_twice (length o) (take at o ++ text) more
          ∙ ap (take (length o)) (append_assoc (take at o) text more);
      kept = q.kept ∙ drop_later r r' o' o (omega arith) p.kept;
    }

pub put_ends : {o : List ℕ} {at : ℕ} {text : List ℕ} {r : ℕ} {o' : List ℕ} → Put o at text r o' → r ≤ length o'
put_ends {o} {at} {text} {r} {o'} p =
    let long = p.long in
    let ends = p.ends in
    omega arith

pub put_same : {o : List ℕ} {at : ℕ} {text text' : List ℕ} {r : ℕ} {o' : List ℕ} → text ≡ text' → Put o at text r o' → Put o at text' r o'
put_same e p = rw e at p

-- a text that has room stands whole
pub put_whole : {o text : List ℕ} {r : ℕ} {o' : List ℕ} → Put o 0 text r o' → length text ≤ length o → take r o' ≡ text
put_whole {o} {text} p h = p.stands ∙ take_all (length o) text h

-- one text, one end, and one slice after it
pub put_once : {o : List ℕ} {at : ℕ} {text : List ℕ} {r k : ℕ} {o' o'' : List ℕ} → Put o at text r o' → Put o at text k o'' → (r ≡ k) × (o' ≡ o'')
put_once {o} {r = r} {k} {o'} {o''} p q =
    let end : r ≡ k = p.ends ∙ sym q.ends in
    let front : take r o' ≡ take k o'' = p.stands ∙ sym q.stands in
    let back : drop r o' ≡ drop k o'' = p.kept ∙ ap (λ (m : ℕ). drop m o) end ∙ sym q.kept in
    (end, sym (take-append-drop r o') ∙ ap₂ ◌++◌ front back ∙ take-append-drop k o'')
