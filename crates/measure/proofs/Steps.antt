-- One step of each sum. Assumes nothing.
use Prim.Native.Nat.{ℕ, zero, suc, ◌+◌, ◌-◌, ◌*◌, ◌/◌, ◌≤◌, ◌<◌}
use mathlib.Core.Path.{◌≡◌, refl, ap, ◌∙◌}
use mathlib.Core.Bool.{Bool, true, false, cond}
use mathlib.Core.List.{List}
use native.Mathlib.Omega.{arith}
use lib.Dec.{eqb, leb}
use lib.ListN.{length, get_or, drop, drop_of_length-le}
use lib.Seq.{drop-cons}
use borrow.Author.Tests.{ne_eqb, eq-eqb, leb-true, leb-false}
use Rattle.rinex.specs.Fit.{row_codes}
use Rattle.measure.specs.Size.{slot_end, slots_width, rows_size, epochs_size, list_line_count, Told}

-- slots, from the last one on
module _ (st lo sg : List ℕ) (i : ℕ) where
  abbrev pub end_at : ℕ → ℕ
  end_at p = slot_end (get_or st p 0) (get_or lo p 0) (get_or sg p 0)

  pub slots_skip : (k : ℕ) → 0 < k → end_at (i + (k - 1)) ≡ 0 → slots_width st lo sg k i ≡ slots_width st lo sg (k - 1) i
  unfolding slots_width
  slots_skip zero h e = absurd (omega arith)
  slots_skip (suc k) h e =
      let q : suc k - 1 ≡ k = omega arith in
      let z : end_at (i + k) ≡ 0 = rw q at e in
      rw (q, eq-eqb (end_at (i + k)) 0 z) refl

  pub slots_stop : (k : ℕ) → 0 < k → (end_at (i + (k - 1)) ≡ 0 → ⊥) → slots_width st lo sg k i ≡ 16 * (k - 1) + end_at (i + (k - 1))
  unfolding slots_width
  slots_stop zero h e = absurd (omega arith)
  slots_stop (suc k) h e =
      let q : suc k - 1 ≡ k = omega arith in
      let z : end_at (i + k) ≡ 0 → ⊥ = rw q at e in
      rw (q, ne_eqb (end_at (i + k)) 0 z) refl

  pub slots_none : slots_width st lo sg 0 i ≡ 0
  unfolding slots_width
  slots_none = refl

pub end_few : (a b c : ℕ) → slot_end a b c ≤ 16
end_few a b c = at (eqb c 255) (eqb b 255) (eqb a 0)
  where
    at : (x y z : Bool) → cond x (cond y (cond z 0 14) 15) 16 ≤ 16
    at false y z = omega arith
    at true false z = omega arith
    at true true false = omega arith
    at true true true = omega arith

-- lists
pub lines_at : (l : List ℕ) (y : ℕ) → y < length l → list_line_count (drop y l) ≡ (get_or l y 0 + 12) / 13 + list_line_count (drop (y + 1) l)
lines_at l y h = let e : suc y ≡ y + 1 = omega arith in ap list_line_count (drop-cons l y 0 h) ∙ ap (λ (z : ℕ). (get_or l y 0 + 12) / 13 + list_line_count (drop z l)) e

pub lines_past : (l : List ℕ) (y : ℕ) → length l ≤ y → list_line_count (drop y l) ≡ 0
lines_past l y h = ap list_line_count (drop_of_length-le l h)

-- epochs, from the first one on
pub epochs_next : (cs : List ℕ) (n e : ℕ) → e < n → epochs_size cs (n - e) e ≡ cond (eqb (get_or cs e 0) 0) 36 57 + epochs_size cs (n - (e + 1)) (e + 1)
unfolding epochs_size
epochs_next cs n e h = let q : n - e ≡ suc (n - (e + 1)) = omega arith in rw q refl

pub epochs_none : (cs : List ℕ) (n e : ℕ) → n ≤ e → epochs_size cs (n - e) e ≡ 0
unfolding epochs_size
epochs_none cs n e h = let q : n - e ≡ 0 = omega arith in rw q refl

-- rows
module _ (ns sa st lo sg : List ℕ) where
  pub rows_next : (n j i : ℕ) → j < n → rows_size ns sa st lo sg (n - j) j i ≡ slots_width st lo sg (row_codes ns sa j) i + 4 + rows_size ns sa st lo sg (n - (j + 1)) (j + 1) (i + row_codes ns sa j)
  unfolding rows_size
  rows_next n j i h = let q : n - j ≡ suc (n - (j + 1)) = omega arith in rw q refl

  pub rows_none : (n j i : ℕ) → n ≤ j → rows_size ns sa st lo sg (n - j) j i ≡ 0
  unfolding rows_size
  rows_none n j i h = let q : n - j ≡ 0 = omega arith in rw q refl

-- what is told, of a size s and a limit m
module _ (m s r : ℕ) where
  pub told : r ≡ s → Told m s r
  told e = record { within = λ _. e; past = λ h. omega (arith, e, h) }

  pub told_past : m < r → r ≤ s → Told m s r
  told_past h k = record { within = λ w. absurd (omega (arith, h, k, w)); past = λ _. h }

  pub told_whole_lem : Told m s r → r ≤ m → r ≡ s
  told_whole_lem t h = at (leb s m) refl
    where
      at : (x : Bool) → leb s m ≡ x → r ≡ s
      at true e = t.within (leb-true s m e)
      at false e = absurd (omega (arith, t.past (leb-false s m e), h))

  pub told_more : (t : ℕ) → Told m s r → m < r → s ≤ t → Told m t r
  told_more t f h k = record { within = λ w. absurd (omega (arith, h, w, k, f.within (omega (arith, w, k)))); past = λ _. h }
