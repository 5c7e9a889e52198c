-- The counts of a summary, from the tables. Assumes nothing.
use Prim.Native.Nat.{ℕ, ◌+◌, ◌<◌}
use mathlib.Core.Path.{◌≡◌, refl, ap}
use mathlib.Core.Bool.{Bool, true, false, cond}
use mathlib.Core.List.{List, [], ◌∷◌, map}
use Rattle.std.specs.Prelude.{Option, None, Some}
use Rattle.std.specs.List.{count_by}
use Rattle.std.proofs.lemmas.List.Recursion.{is_count_by}
use native.Mathlib.Omega.{arith}
use lib.Dec.{ltb}
use lib.ListN.{length}
use lib.IntN.{ℤ}
use borrow.Author.Tests.{lt-ltb, le-ltb}
use Rattle.lists.specs.Lists.{All}
use Rattle.rinex.specs.File.{Slot, Epoch, observed, event}
use Rattle.rinex.specs.Tables.{state_of, flag_of}
use Rattle.rinex.specs.Summary.{observed_ones, event_ones, no_value, blank_ones}
use Rattle.rinex.proofs.Forms.{EpochForm}
use Rattle.summarize.specs.Count.{belows}

-- as the library counts
pub counted : (bound : ℕ) (xs : List ℕ) → belows bound xs ≡ count_by (λ (x : ℕ). ltb x bound) xs
unfolding belows
counted bound xs = is_count_by (belows bound) (λ (x : ℕ). ltb x bound) refl (λ x ys. step (ltb x bound) (belows bound ys)) xs
  where
    step : (b : Bool) (n : ℕ) → cond b 1 0 + n ≡ cond b (1 + n) n
    step true n = refl
    step false n = omega arith

-- flags 0 and 1 are the observed epochs
pub observed_counted : (lists : List (List (List ℕ))) (es : List Epoch) → All (EpochForm lists) es → belows 2 (map flag_of es) ≡ observed_ones es
unfolding belows
observed_counted lists [] a = refl
observed_counted lists (observed o ∷ es) a =
    let h : o.flag < 2 = omega (arith, a.0.flag) in
    rw (lt-ltb o.flag 2 h) (ap (λ (n : ℕ). 1 + n) (observed_counted lists es a.1))
observed_counted lists (event v ∷ es) a = rw (le-ltb v.flag 2 a.0.flag_from) (omega (arith, observed_counted lists es a.1))

-- the others are events
pub events_rest : (es : List Epoch) → observed_ones es + event_ones es ≡ length es
events_rest [] = refl
events_rest (observed o ∷ es) = omega (arith, events_rest es)
events_rest (event v ∷ es) = omega (arith, events_rest es)

-- state 0 is a blank value
pub blank_counted : (ss : List Slot) → belows 1 (map (λ (s : Slot). state_of s.value) ss) ≡ blank_ones ss
unfolding belows
blank_counted [] = refl
blank_counted (s ∷ ss) = go s.value (blank_counted ss)
  where
    go : (o : Option ℤ) → belows 1 (map (λ (x : Slot). state_of x.value) ss) ≡ blank_ones ss
        → cond (ltb (state_of o) 1) 1 0 + belows 1 (map (λ (x : Slot). state_of x.value) ss) ≡ no_value o + blank_ones ss
    go None h = omega (arith, h)
    go (Some z) h = omega (arith, h)
