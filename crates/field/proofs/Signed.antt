-- The answer of a decimal field from the byte behind its blanks: a minus, or the first of the digits and the point. Assumes nothing.
use Prim.Native.Nat.{ℕ, ◌-◌, ◌≤◌, ◌<◌}
use mathlib.Core.Path.{◌≡◌, sym, ap, ◌∙◌}
use mathlib.Core.Bool.{true, false, true≢false}
use mathlib.Core.List.{List, ◌∷◌}
use Rattle.std.specs.Prelude.{ℤ, Option, Some, Result, Ok, Err, MatchResult, IsOkAnd}
use Rattle.std.specs.Result.{result_map_both}
use native.Mathlib.Omega.{arith}
use lib.ListN.{length, get_or, take, drop, length-drop}
use Rattle.lists.specs.Blank.{Blank}
use Rattle.lists.proofs.Parts.{next, to_end}
use Rattle.field.specs.Reading.{ReadsDecimal}
use Rattle.field.specs.Steps.{Lead, ReadsSigned}
use Rattle.field.specs.declared.Unfit.{Unfit}
use Rattle.field.proofs.Split.{all_blank, decimal_answer}

-- what is read of the number is what is read of what follows the sign
abbrev pub Taken : Result ℤ Unfit → Result (Option ℤ) Unfit → Type 0
Taken r t = MatchResult r (λ z. IsOkAnd t (λ o. o ≡ Some z)) (λ u. t ≡ Err u)

taken : (r : Result ℤ Unfit) (t : Result (Option ℤ) Unfit) → Taken r t → t ≡ result_map_both Some (λ (u : Unfit). u) r
taken (Ok z) (Ok o) h = ap Ok h
taken (Ok z) (Err u) h = absurd h
taken (Err u) t h = h

module _ (d : ℕ) (s : List ℕ) (b : ℕ) (l : Lead s b) (r : Result ℤ Unfit) (t : Result (Option ℤ) Unfit) (h : Taken r t) where
  -- `&s[b..]`, as the code has it
  abbrev left_of : List ℕ
  left_of = take (length s - b) (drop b s)

  some_left : 1 ≤ length left_of → b < length s
  some_left k = omega (arith, ap length (to_end s b), length-drop b s)

  pub under_minus : 1 ≤ length left_of → get_or left_of 0 0 ≡ 45 → ReadsSigned true d (take (length left_of - 1) (drop 1 left_of)) r → ReadsDecimal d s t
  under_minus k e q =
      let first : drop b s ≡ 45 ∷ take (length left_of - 1) (drop 1 left_of) = sym (to_end s b) ∙ (next left_of 0 k ∙ cc (e, to_end left_of 1)) in
      rw (taken r t h) (decimal_answer s b l d true _ first (λ x. absurd (true≢false x)) (some_left k) r q)

  pub with_no_sign : 1 ≤ length left_of → (get_or left_of 0 0 ≡ 45 → ⊥) → ReadsSigned false d left_of r → ReadsDecimal d s t
  with_no_sign k e q = rw (taken r t h) (decimal_answer s b l d false _ (sym (to_end s b)) (λ x. e) (some_left k) r q)

pub none_left : (s : List ℕ) (b : ℕ) → Lead s b → length (take (length s - b) (drop b s)) < 1 → Blank s
none_left s b l k = all_blank s b l (omega (arith, ap length (to_end s b), length-drop b s, l.within))
