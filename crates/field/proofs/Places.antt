-- A plain number by its places: its point is d + 1 places before the end. Assumes nothing.
use Prim.Native.Nat.{ℕ, suc, ◌+◌, ◌-◌, ◌<◌}
use mathlib.Core.Path.{◌≡◌, sym, ap, ◌∙◌}
use mathlib.Core.Bool.{true}
use mathlib.Core.List.{List, ◌∷◌, ◌++◌}
use Rattle.std.specs.Prelude.{Result, Ok, Err}
use Rattle.std.specs.Result.{result_ok}
use native.Mathlib.Numerals.{add-one}
use native.Mathlib.Omega.{arith}
use lib.ListN.{length, take, drop, get_or, length-append, length-drop}
use lib.Seq.{split_at, take_at, drop-append-add, get_or_at}
use Rattle.lists.proofs.Parts.{to_end}
use Rattle.lists.proofs.Maybe.{none_some}
use Rattle.field.specs.Field.{are_digits, value_of, Plain}
use Rattle.field.specs.Steps.{number_in, ReadsPlain}
use Rattle.field.specs.declared.Unfit.{Unfit}
use Rattle.field.proofs.Digits.{number_held, number_is}

-- the point's place, and the parts before it and after it, as the code has them
abbrev pub at : ℕ → List ℕ → ℕ
at d s = length s - d - 1

abbrev pub before : ℕ → List ℕ → List ℕ
before d s = take (at d s) s

abbrev pub after : ℕ → List ℕ → List ℕ
after d s = take (length s - (at d s + 1)) (drop (at d s + 1) s)

pub record Look (d : ℕ) (s : List ℕ) (n : ℕ) : Type 0 where
  pub long : d < length s
  pub point : get_or s (at d s) 0 ≡ 46
  pub digits : are_digits (before d s ++ after d s) ≡ true
  pub number : n ≡ value_of 0 (before d s ++ after d s)

pub make : (d : ℕ) (s : List ℕ) (n : ℕ) → Look d s n → Plain d s n
make d s n l =
    record {
      whole = before d s;
      part = after d s;
      spelled = split_at s (at d s) 0 (omega (arith, l.long)) ∙ cc (l.point, to_end s (at d s + 1), add-one (at d s));
      all_digits = l.digits;
      decimals = rw (to_end s (at d s + 1)) (simp length-drop (omega (arith, l.long)));
      number = l.number;
    }

pub look : (d : ℕ) (s : List ℕ) (n : ℕ) → Plain d s n → Look d s n
look d s n q =
    let w = q.whole in
    let f = q.part in
    let k : length s ≡ length w + suc (length f) = ap length q.spelled ∙ length-append w (46 ∷ f) in
    let p : length w ≡ at d s = omega (arith, q.decimals) in
    let b : before d s ≡ w = ap (take (at d s)) q.spelled ∙ take_at w (46 ∷ f) (at d s) p in
    let t : drop (at d s + 1) s ≡ f = cc (p, q.spelled, drop-append-add w (46 ∷ f) 1) in
    let a : after d s ≡ f = to_end s (at d s + 1) ∙ t in
    record {
      long = omega (arith, q.decimals);
      point = ap (λ (u : List ℕ). get_or u (at d s) 0) q.spelled ∙ get_or_at w 46 f 0 (at d s) p;
      digits = rw (b, a) q.all_digits;
      number = rw (b, a) q.number;
    }

-- the answer for the digits is the field's
pub plain_answer : (d : ℕ) (s : List ℕ) → d < length s → get_or s (at d s) 0 ≡ 46 → (r : Result ℕ Unfit)
    → number_in 0 (before d s ++ after d s) ≡ result_ok r → ReadsPlain d s r
plain_answer d s long point (Ok n) e =
    let h = number_held 0 (before d s ++ after d s) n e in
    (make d s n (record { long = long; point = point; digits = h.0; number = h.1 }), h.2)
plain_answer d s long point (Err u) e = λ n q k.
    let l = look d s n q in
    none_some _ (sym e ∙ number_is 0 (before d s ++ after d s) l.digits (omega (arith, l.number)))
