-- The laws of a list of tests.
--   tests_refuse no test answers that all is done
--   tested_all   all tests hold: the answer is what comes after them
--   tested_at    a test fails and those before it hold: the answer is its refusal
--   tested_join  one list after another
--   tested_each  what is true of each refusal, and of what comes after where all hold, is true of the answer
--   all_hold     done: all tests hold
--   tested_fixed refused: the answer does not hang on what comes after
--   tested_passed, tested_refused  by the answer of the tests alone: what comes after answers, or it does not count
--   joined_passed, joined_refused  the same of further tests
--   tested_then  the answer of further tests where the first are passed, else theirs: that of both lists
--   then_done    done: the first are passed, and the further ones too
-- Assumes nothing.
use Rattle.std.specs.Prelude.{◌≡◌, Bool, true, false, cond, List, [], ◌∷◌, ◌++◌, ◌⊎◌, Result, Ok, Err}
use mathlib.Core.Path.{refl, sym, ◌∙◌, ap}
use mathlib.Core.Bool.{true≢false}
use mathlib.Core.Logic.{inl, inr}
use Rattle.answer.specs.declared.Refusal.{Refusal}
use Rattle.answer.specs.Answer.{Answer, Done, is_done}
use Rattle.answer.specs.Refusals.{Test, tested, Leaving}
use Rattle.answer.proofs.Done.{done_alike}

-- all tests hold
abbrev pub AllHold : List Test → Type 0
AllHold [] = Unit {0}
AllHold (t ∷ tests) = (t.holds ≡ true) × AllHold tests

-- a test fails, which refuses by r, and those before it hold
pub data Fails (r : Refusal) : List Test → Type 0 where
  here : {t : Test} {tests : List Test} → t.holds ≡ false → t.refusal ≡ r → Fails r (t ∷ tests)
  later : {t : Test} {tests : List Test} → t.holds ≡ true → Fails r tests → Fails r (t ∷ tests)

-- each refusal is P
abbrev pub Each : (Refusal → Type 0) → List Test → Type 0
Each P [] = Unit {0}
Each P (t ∷ tests) = P t.refusal × Each P tests

pub each_join : (P : Refusal → Type 0) (tests more : List Test) → Each P tests → Each P more → Each P (tests ++ more)
each_join P [] more each rest = rest
each_join P (t ∷ tests) more each rest = (each.0, each_join P tests more each.1 rest)

-- no test answers that all is done
abbrev pub Refusals : List Test → Type 0
Refusals = Each (λ r. is_done {A = Unit {0}} (Err r) ≡ false)

pub tests_refuse : (tests : List Test) → Refusals tests
tests_refuse [] = tt
tests_refuse (t ∷ tests) = (refl, tests_refuse tests)

pub tested_all : {A : Type 0} (tests : List Test) (r : Result A Refusal) → AllHold tests → tested tests r ≡ r
unfolding tested
tested_all [] r h = refl
tested_all (t ∷ tests) r h = rw h.0 (tested_all tests r h.1)

pub tested_at : {A : Type 0} {refusal : Refusal} (tests : List Test) (r : Result A Refusal) → Fails refusal tests → tested tests r ≡ Err refusal
unfolding tested
tested_at [] r x' = elim x' [ ]
tested_at (t ∷ tests) r (here fails is) = rw fails (ap Err is)
tested_at (t ∷ tests) r (later holds f) = rw holds (tested_at tests r f)

pub tested_join : {A : Type 0} (tests more : List Test) (r : Result A Refusal) → tested (tests ++ more) r ≡ tested tests (tested more r)
unfolding tested
tested_join [] more r = refl
tested_join {A} (t ∷ tests) more r = ap (λ (a : Result A Refusal). cond t.holds a (Err t.refusal)) (tested_join tests more r)

pub tested_each : {A : Type 0} (P : Result A Refusal → Type 0) (tests : List Test) (r : Result A Refusal) → Each (λ refusal. P (Err refusal)) tests → (AllHold tests → P r) → P (tested tests r)
unfolding tested
tested_each P [] r each last = last tt
tested_each P (t ∷ tests) r each last = pick t.holds refl (tested_each P tests r each.1)
  where
    pick : (b : Bool) → t.holds ≡ b → ((AllHold tests → P r) → P (tested tests r)) → P (cond b (tested tests r) (Err t.refusal))
    pick true e rest = rest (λ h. last (e, h))
    pick false e rest = each.0

-- all hold, or one fails
pub hold? : (tests : List Test) → AllHold tests ⊎ ((r : Refusal) × Fails r tests)
hold? [] = inl tt
hold? (t ∷ tests) = first t.holds refl (hold? tests)
  where
    first : (b : Bool) → t.holds ≡ b → AllHold tests ⊎ ((r : Refusal) × Fails r tests) → AllHold (t ∷ tests) ⊎ ((r : Refusal) × Fails r (t ∷ tests))
    first true e (inl all) = inl (e, all)
    first true e (inr f) = inr (f.0, later e f.1)
    first false e rest = inr (t.refusal, here e refl)

-- done: all tests hold, and so does what comes after them
pub all_hold : {A : Type 0} (tests : List Test) (r : Result A Refusal) → is_done (tested tests r) ≡ true → AllHold tests × (is_done r ≡ true)
unfolding tested
all_hold [] r done = (tt, done)
all_hold (t ∷ tests) r done = pick t.holds refl (all_hold tests r) done
  where
    pick : (b : Bool) → t.holds ≡ b → (is_done (tested tests r) ≡ true → AllHold tests × (is_done r ≡ true))
        → is_done (cond b (tested tests r) (Err t.refusal)) ≡ true → AllHold (t ∷ tests) × (is_done r ≡ true)
    pick true e rest done = let after = rest done in ((e, after.0), after.1)
    pick false e rest done = absurd (true≢false (sym done))

-- refused by the tests alone: refused the same, whatever comes after
pub tested_fixed : (tests : List Test) (r : Answer) → is_done (tested tests Done) ≡ false → tested tests r ≡ tested tests Done
unfolding tested
tested_fixed [] r refused = absurd (true≢false refused)
tested_fixed (t ∷ tests) r refused = pick t.holds (tested_fixed tests r) refused
  where
    pick : (b : Bool) → (is_done (tested tests Done) ≡ false → tested tests r ≡ tested tests Done)
        → is_done (cond b (tested tests Done) (Err t.refusal)) ≡ false → cond b (tested tests r) (Err t.refusal) ≡ cond b (tested tests Done) (Err t.refusal)
    pick true rest refused = rest refused
    pick false rest refused = refl

-- passed: what comes after answers
pub tested_passed : {A : Type 0} (tests : List Test) (r : Result A Refusal) → tested tests Done ≡ Done → tested tests r ≡ r
tested_passed tests r passed = tested_all tests r (all_hold tests Done (ap is_done passed)).0

-- refused: so, whatever comes after, of any type
pub tested_refused : {A : Type 0} (tests : List Test) (r : Result A Refusal) {refusal : Refusal} → tested tests Done ≡ Err refusal → tested tests r ≡ Err refusal
unfolding tested
tested_refused {A} [] r {refusal} e = absurd (true≢false (ap is_done e))
tested_refused {A} (t ∷ tests) r {refusal} e = pick t.holds (tested_refused tests r) e
  where
    pick : (b : Bool) → (tested tests Done ≡ Err refusal → tested tests r ≡ Err refusal)
        → cond b (tested tests Done) (Err t.refusal) ≡ Err refusal → cond b (tested tests r) (Err t.refusal) ≡ Err refusal
    pick true rest e = rest e
    pick false rest e = ap again e
      where
        again : Answer → Result A Refusal
        again (Ok x) = Err refusal
        again (Err found) = Err found

pub joined_passed : {A : Type 0} (tests more : List Test) (r : Result A Refusal) → tested tests Done ≡ Done → tested (tests ++ more) r ≡ tested more r
joined_passed tests more r passed = tested_join tests more r ∙ tested_passed tests (tested more r) passed

pub joined_refused : {A : Type 0} (tests more : List Test) (r : Result A Refusal) {refusal : Refusal} → tested tests Done ≡ Err refusal → tested (tests ++ more) r ≡ Err refusal
joined_refused tests more r refused = tested_join tests more r ∙ tested_refused tests (tested more r) refused

pub tested_then : (tests more : List Test) {s r : Answer} → s ≡ tested tests Done → r ≡ cond (is_done s) (tested more Done) s → r ≡ tested (tests ++ more) Done
tested_then tests more {s = Ok tt} first then = then ∙ sym (joined_passed tests more Done (sym first))
tested_then tests more {s = Err refusal} first then = then ∙ sym (joined_refused tests more Done (sym first))

pub then_done : {A : Type 0} (s t : Result A Refusal) {r : Result A Refusal} → r ≡ cond (is_done s) t s → is_done r ≡ true → (is_done s ≡ true) × (is_done t ≡ true)
then_done (Ok x) t then done = (refl, ap is_done (sym then) ∙ done)
then_done (Err refusal) t then done = absurd (true≢false (sym done ∙ ap is_done then))

-- ---- what is left behind

pub leaving_done : {A : Type 0} {r : Result A Refusal} {D U : Type 0} → is_done r ≡ true → D → Leaving r D U
leaving_done e d = record { done = λ f. d; refused = λ f. absurd (true≢false (sym e ∙ f)) }

pub leaving_refused : {A : Type 0} {r : Result A Refusal} {D U : Type 0} → is_done r ≡ false → U → Leaving r D U
leaving_refused e u = record { done = λ f. absurd (true≢false (sym f ∙ e)); refused = λ f. u }

-- two calls with the same answer
pub leaving_alike : {A : Type 0} {r r' : Result A Refusal} {D D' U U' : Type 0} {P : Type 0} → r ≡ r' → Leaving r D U → Leaving r' D' U' → (D → D' → P) → (U → U' → P) → P
leaving_alike same x y done refused = done_alike same (λ e e'. done (x.done e) (y.done e')) (λ e e'. refused (x.refused e) (y.refused e'))
