-- What a state or a mark stands for, by cases; and what fit tables have. Assumes nothing.
use Prim.Native.Nat.{ℕ, zero, suc}
use mathlib.Core.Path.{◌≡◌, refl, sym, ap, ◌∙◌}
use mathlib.Core.Bool.{Bool, true, false, not}
use mathlib.Core.List.{List, [], ◌∷◌}
use Rattle.std.specs.Bool.{then_some}
use Rattle.std.specs.Prelude.{Option, None, Some}
use native.Mathlib.Omega.{arith}
use borrow.Author.Tests.{eq-eqb, ne_eqb}
use lib.Dec.{eqb}
use lib.ListN.{length, length-replicate}
use lib.IntN.{ℤ}
use lib.Seq.{sets}
use Rattle.lists.specs.Blank.{blanks}
use Rattle.lists.proofs.Bools.{Either, left, right}
use Rattle.write_field.specs.Normal.{digit, mark, decimal, decimal_fits, decimal_or_blank}
use Rattle.write_field.proofs.Written.{decimal_length}
use Rattle.rinex.specs.Fit.{state_fits}
use Rattle.rinex.specs.Held.{optional, mark_in}
use Rattle.rinex.proofs.Lent.{state_found}
use Rattle.columns.specs.Given.{FitsIf}

pub missing : {A : Type 0} (s : ℕ) (x : A) → s ≡ 0 → optional s x ≡ None
missing zero x h = refl
missing (suc s) x h = absurd (omega arith)

pub given : {A : Type 0} (s : ℕ) (x : A) → (s ≡ 0 → ⊥) → optional s x ≡ Some x
given zero x h = absurd (h refl)
given (suc s) x h = refl

-- what a state and a number hold, as the code takes it
pub held : {A : Type 0} (s : ℕ) (x : A) → then_some (not (eqb s 0)) x ≡ optional s x
held zero x = refl
held (suc s) x = let n : eqb (suc s) 0 ≡ false = ne_eqb (suc s) 0 (λ e. omega arith) in rw n

pub mark_blank : (m : ℕ) → m ≡ 255 → 32 ∷ [] ≡ mark (mark_in m)
mark_blank m h = rw (eq-eqb m 255 h)

pub mark_digit : (m : ℕ) → (m ≡ 255 → ⊥) → digit m ∷ [] ≡ mark (mark_in m)
mark_digit m h = rw (ne_eqb m 255 h)

-- a number or blanks, as they are put; y is the number as it was passed
pub blanks_put : (l m : List ℕ) (a w d s : ℕ) (z : ℤ) → s ≡ 0 → m ≡ sets l a (blanks w) → m ≡ sets l a (decimal_or_blank w d (optional s z))
blanks_put l m a w d s z h e = e ∙ ap (λ (o : Option ℤ). sets l a (decimal_or_blank w d o)) (sym (missing s z h))

pub number_put : (l m : List ℕ) (a w d s : ℕ) (y z : ℤ) → y ≡ z → (s ≡ 0 → ⊥) → m ≡ sets l a (decimal w d y) → m ≡ sets l a (decimal_or_blank w d (optional s z))
number_put l m a w d s y z q h e =
    e ∙ (ap (λ (x : ℤ). sets l a (decimal w d x)) q ∙ ap (λ (o : Option ℤ). sets l a (decimal_or_blank w d o)) (sym (given s z h)))

pub given_long : (w d s : ℕ) (z : ℤ) → FitsIf s (decimal_fits w d z) → length (decimal_or_blank w d (optional s z)) ≡ w
given_long w d zero z f = length-replicate w 32
given_long w d (suc s) z f = decimal_length w d z (f (λ e. omega arith))

-- a state that fits
pub state_fits_lem : (s : ℕ) (u v : Bool) → state_fits s u v ≡ true → FitsIf s v
state_fits_lem s u v h = at (state_found s u v h)
  where
    at : Either ((s ≡ 0) × (u ≡ true)) ((s ≡ 1) × (v ≡ true)) → FitsIf s v
    at (left e) = λ n. absurd (n e.0)
    at (right e) = λ n. e.1
