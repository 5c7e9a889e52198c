-- A field parts into blanks, a sign and the rest in one way, and so the answer for the rest is the field's. Assumes nothing.
use Prim.Native.Nat.{ℕ, ◌+◌, ◌-◌, ◌≤◌, ◌<◌}
use mathlib.Core.Path.{◌≡◌, refl, sym, ap, subst, ◌∙◌}
use mathlib.Core.Bool.{Bool, true, false}
use mathlib.Core.List.{List, [], ◌∷◌, ◌++◌}
use Rattle.std.specs.Prelude.{ℤ, Option, None, Some, Result, Ok, Err}
use Rattle.std.specs.Result.{result_map_both}
use native.Mathlib.Numerals.{add-one}
use native.Mathlib.Omega.{arith}
use lib.ListN.{length, take, drop, get_or, take-append-drop, length-drop, replicate-append-replicate}
use lib.Seq.{take-length, take-suc}
use lib.Dec.{eqb}
use Rattle.lists.specs.Blank.{Blank, blanks}
use Rattle.lists.proofs.Every.{every_replicate}
use Rattle.lists.proofs.Parts.{next}
use Rattle.field.specs.Field.{sign, Plain, Second}
use Rattle.field.specs.Found.{unblank}
use Rattle.field.specs.Reading.{ReadsWhole, ReadsDecimal}
use Rattle.field.specs.Steps.{Lead, ReadsDigits, ReadsSigned}
use Rattle.field.specs.declared.Unfit.{Unfit}
use Rattle.field.proofs.Found.{unblank_of, unblank_blank, whole_digits, decimal_rest, second_rest, plain_head, plain_length}
use Rattle.field.proofs.Signs.{signed_size}

abbrev head : List ℕ → ℕ
head u = get_or u 0 0

-- a sign and what follows it part in one way
sign_one :
    (m m' : Bool) (t t' : List ℕ)
    → (m ≡ false → head t ≡ 45 → ⊥) → (m' ≡ false → head t' ≡ 45 → ⊥)
    → sign m ++ t ≡ sign m' ++ t' → (m ≡ m') × (t ≡ t')
sign_one true true t t' a b e = (refl, ap (drop 1) e)
sign_one true false t t' a b e = absurd (b refl (sym (ap head e)))
sign_one false true t t' a b e = absurd (a refl (ap head e))
sign_one false false t t' a b e = (refl, e)

blank_all : (n : ℕ) → Blank (blanks n)
blank_all n = every_replicate (λ b. eqb b 32) n 32 refl

-- one blank more
pub blank_more : (s : List ℕ) (i : ℕ) → i < length s → take i s ≡ blanks i → get_or s i 0 ≡ 32 → take (i + 1) s ≡ blanks (i + 1)
blank_more s i h e x = cc (add-one i, take-suc s i 0 h, replicate-append-replicate {A = ℕ} i 1 32)

module _ (s : List ℕ) (b : ℕ) (l : Lead s b) where
  parted : s ≡ blanks b ++ drop b s
  parted = sym (take-append-drop b s) ∙ ap (λ (t : List ℕ). t ++ drop b s) l.blank

  -- what stands behind the leading blanks
  pub left : unblank s ≡ drop b s
  left = ap unblank parted ∙ unblank_of b (drop b s) (go (drop b s) refl)
    where
      go : (t : List ℕ) → drop b s ≡ t → head t ≡ 32 → ⊥
      go [] e h = omega arith
      go (x ∷ t) e h =
          let k : b < length s = omega (arith, ap length e, length-drop b s) in
          l.stop k (sym (ap head (next s b k)) ∙ ap head e ∙ h)

  pub all_blank : b ≡ length s → Blank s
  all_blank e = subst Blank (sym l.blank ∙ (ap (λ (n : ℕ). take n s) e ∙ take-length s)) (blank_all b)

  pub not_blank : b < length s → Blank s → ⊥
  not_blank k h = omega (arith, ap length (sym left ∙ unblank_blank s h), length-drop b s)

  -- the answer for the digits is the field's
  pub whole_answer : (r : Result (Option ℕ) Unfit) → ReadsDigits (drop b s) r → ReadsWhole s r
  whole_answer (Ok (Some n)) h =
      (record { lead = b; digits = drop b s; spelled = parted; some_digit = h.0; all_digits = h.1; number = h.2 }, h.3)
  whole_answer (Ok None) h = all_blank (omega (arith, ap length h, length-drop b s, l.within))
  whole_answer (Err e) h = (
    not_blank (omega (arith, h.0, length-drop b s)),
    λ n q k.
        let f : q.digits ≡ drop b s = sym (whole_digits s n q) ∙ left in
        h.1 (rw f at q.all_digits) (omega (arith, rw f at q.number, k)),
  )

  -- the answer for what follows the sign is the field's
  pub decimal_answer : (d : ℕ) (m : Bool) (t : List ℕ) → drop b s ≡ sign m ++ t → (m ≡ false → head t ≡ 45 → ⊥)
      → b < length s → (r : Result ℤ Unfit) → ReadsSigned m d t r → ReadsDecimal d s (result_map_both Some (λ (u : Unfit). u) r)
  decimal_answer d m t e o k (Ok z) h = (
    record { lead = b; minus = m; rest = t; size = h.0; spelled = parted ∙ ap (λ (u : List ℕ). blanks b ++ u) e; plain = h.1; number = h.3 },
    rw (h.3, signed_size m h.0) h.2,
  )
  decimal_answer d m t e o k (Err u) h = (
    not_blank k,
    λ z q small.
        let p = sign_one q.minus m q.rest t (λ f g. omega (arith, plain_head d q.rest q.size q.plain, g)) o (sym (decimal_rest d s z q) ∙ (left ∙ e)) in
        h q.size (subst (λ (v : List ℕ). Plain d v q.size) p.1 q.plain) (rw (q.number, signed_size q.minus q.size) at small),
  )

  -- one or two digits, a point and seven digits
  pub second_answer : (n : ℕ) → Plain 7 (drop b s) n → 9 ≤ length s - b → length s - b ≤ 10 → n < 600000000 → Second s n
  second_answer n p lo hi k =
      let e = plain_length 7 (drop b s) n p in
      let f = length-drop b s in
      record { lead = b; rest = drop b s; spelled = parted; plain = p; one_digit = omega arith; two_digits = omega arith; below = k }

  -- a field that is a second, behind its blanks
  pub record Behind (n : ℕ) : Type 0 where
    pub plain : Plain 7 (drop b s) n
    pub long : 9 ≤ length s - b
    pub short : length s - b ≤ 10
    pub below : n < 600000000

  pub second_behind : (n : ℕ) → Second s n → Behind n
  second_behind n q =
      let e : q.rest ≡ drop b s = sym (second_rest s n q) ∙ left in
      let f : length q.rest ≡ length s - b = ap length e ∙ length-drop b s in
      let g = plain_length 7 q.rest n q.plain in
      let o = q.one_digit in
      let w = q.two_digits in
      record { plain = subst (λ (u : List ℕ). Plain 7 u n) e q.plain; long = omega arith; short = omega arith; below = q.below }
