-- Texts that are written one after the other.
use Rattle.std.proofs.Common.{◌≡◌, ℕ, suc, ◌+◌, ◌-◌, ◌/◌, ◌%◌, ◌<◌, ◌≤◌, List, [], ◌∷◌, ◌++◌, refl, sym, ap, ◌∙◌, arith}
use borrow.Author.Tests.{lt-ltb, le-ltb}
use Rattle.sheet_text.specs.Text.{digit, hex}
use Rattle.sheet_page.specs.declared.page.Page.{Page}
use Rattle.sheet_page.specs.Put.{Put}
use Rattle.sheet_page.specs.inner.Wrote.{Wrote}
use Rattle.sheet_page.proofs.PutLaws.{put_none, put_then}

pub wrote_none : (p : Page) → Wrote p [] p
wrote_none p = record { same = refl; put = put_none p.out.now p.end p.within }

pub wrote_then : {p q r : Page} {text more : List ℕ} → Wrote p text q → Wrote q more r → Wrote p (text ++ more) r
wrote_then w v = record { same = v.same ∙ w.same; put = put_then w.put v.put }

pub wrote_same : {p q : Page} {text text' : List ℕ} → text ≡ text' → Wrote p text q → Wrote p text' q
wrote_same {p} {q} e w = rw e at w

-- ---- the numbers
pub digit_low : (d : ℕ) → d < 10 → digit d ≡ 48 + d
unfolding digit
digit_low d h = rw (lt-ltb d 10 h)

pub digit_high : (d : ℕ) → 10 ≤ d → digit d ≡ 87 + d
unfolding digit
digit_high d h = rw (le-ltb d 10 h)

pub no_hex : (k b : ℕ) → k ≤ 0 → [] ≡ hex k b
unfolding hex
no_hex k b h = let none : k ≡ 0 = omega arith in rw none

pub more_hex : (k b : ℕ) → 0 < k → hex (k - 1) (b / 16) ++ (digit (b % 16) ∷ []) ≡ hex k b
unfolding hex
more_hex k b h = let one : k ≡ suc (k - 1) = omega arith in ap (λ (m : ℕ). hex m b) (sym one)

-- ---- the whole, into a slice that is written from its start on
pub whole : {p q : Page} {o text : List ℕ} {r : ℕ} {o' : List ℕ} → Wrote p text q → p.end ≡ 0 → p.out.now ≡ o → r ≡ q.end → o' ≡ q.out.now → Put o 0 text r o'
whole w start bytes end last = rw (← start, ← bytes, end, last) w.put
