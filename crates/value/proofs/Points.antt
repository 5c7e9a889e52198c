-- A value field by its columns: whether it is fit, and what a fit one holds, with no search for where its number begins. Assumes nothing.
use Prim.Native.Nat.{ℕ, suc, ◌+◌, ◌*◌, ◌-◌, ◌^◌, ◌≤◌, ◌<◌}
use mathlib.Core.Path.{◌≡◌, refl, sym, ap, ◌∙◌}
use mathlib.Core.Bool.{Bool, true, false, cond, not, ◌&&◌, ◌||◌, and-true, and-false, and_assoc, true≢false}
use mathlib.Core.List.{List, [], ◌∷◌, ◌++◌, append_assoc}
use Rattle.std.specs.Prelude.{Option, None, Some}
use native.Mathlib.Nat.{pow-suc}
use native.Mathlib.Omega.{arith}
use lib.Dec.{eqb, leb}
use lib.IntN.{ℤ}
use lib.ListN.{length, get_or, take, drop, length-append, drop_of_length-le}
use lib.Seq.{split_at, take_at, drop-append-add, get_or_at}
use borrow.Author.Tests.{eqb-true, eq-eqb, eqb-false, ne_eqb, leb-true, lt-ltb}
use Rattle.lists.specs.Lists.{every, is_in}
use Rattle.lists.specs.Blank.{blanks, is_blank, Blank}
use Rattle.lists.specs.Maybe.{is_given, when, ◌>>=◌}
use Rattle.lists.proofs.Bools.{both, all_of, Either, left, right, or_assoc, or_false}
use Rattle.lists.proofs.Every.{every_append, every_take, every_drop, every_at}
use Rattle.lists.proofs.Maybe.{given_some}
use Rattle.lists.proofs.Parts.{next, to_end}
use Rattle.field.specs.Field.{is_digit, are_digits, value_of, sign, signed, Decimal}
use Rattle.field.specs.Found.{unblank, digits_of, plain_of, signed_plain, decimal_of}
use Rattle.field.proofs.Digits.{value_append, power}
use Rattle.field.proofs.Found.{plain_back, decimal_found, decimal_blank}
use Rattle.rinex.specs.Tables.{signed_of}
use Rattle.rinex.specs.Tests.{value_fits}
use Rattle.value.specs.Steps.{may_follow, follow}

digit_low : (x : ℕ) → is_digit x ≡ true → 48 ≤ x
digit_low x e = leb-true 48 x (both (leb 48 x) (leb x 57) e).0

eqb_turn : (a b : ℕ) → eqb a b ≡ eqb b a
eqb_turn a b = go (eqb b a) refl
  where
    go : (c : Bool) → eqb b a ≡ c → eqb a b ≡ c
    go true e = eq-eqb a b (sym (eqb-true b a e))
    go false e = ne_eqb a b (λ f. eqb-false b a e (sym f))

-- the loop over the columns before the point: the first two, a turn, and the end
module _ (s : List ℕ) where
  pub follow_two : 2 ≤ length s → {a b : Bool} → a ≡ may_follow 32 (get_or s 0 0) → b ≡ may_follow (get_or s 0 0) (get_or s 1 0)
      → ((a && b) && follow (get_or s 1 0) (drop 2 s)) ≡ follow 32 s
  unfolding follow
  follow_two h e f = rw (e, f, next s 0 (omega arith), next s 1 (omega arith)) (and_assoc (may_follow 32 (get_or s 0 0)) _ _)

  pub follow_turn : (fit : Bool) (i : ℕ) → 1 ≤ i → i < length s → {a : Bool} → a ≡ may_follow (get_or s (i - 1) 0) (get_or s i 0)
      → ((fit && a) && follow (get_or s (i + 1 - 1) 0) (drop (i + 1) s)) ≡ (fit && follow (get_or s (i - 1) 0) (drop i s))
  unfolding follow
  follow_turn fit i l h e = let f : i + 1 - 1 ≡ i = omega arith in rw (e, f, next s i h) (and_assoc fit _ _)

  pub follow_end : (fit : Bool) (p i : ℕ) → length s ≤ i → (fit && follow p (drop i s)) ≡ fit
  unfolding follow
  follow_end fit p i h = rw (drop_of_length-le s h) (and-true fit)

-- the loops over the columns of a fit value: its number, below a power of ten whatever the bytes are (each counts for 207 = 9 · 23 at most), and its minus
pub number_below : (v i : ℕ) → v + 23 ≤ 23 * 10 ^ i → i ≤ 10 → v < 10 ^ 12
number_below v i h k = omega (arith, power i 10 k)

pub number_grows : (v x i : ℕ) → v + 23 ≤ 23 * 10 ^ i → x ≤ 207 → v * 10 + x + 23 ≤ 23 * 10 ^ (i + 1)
number_grows v x i h k = let e : i + 1 ≡ suc i = omega arith in rw e (omega (arith, pow-suc 10 i))

module _ (s : List ℕ) (i : ℕ) (h : i < length s) where
  pub number_turn : (v : ℕ) {x : ℕ} → x ≡ get_or s i 0 - 48 → value_of (v * 10 + x) (drop (i + 1) s) ≡ value_of v (drop i s)
  number_turn v e = rw (e, next s i h)

  pub minus_turn : (found : Bool) → ((found || eqb (get_or s i 0) 45) || is_in eqb 45 (drop (i + 1) s)) ≡ (found || is_in eqb 45 (drop i s))
  minus_turn found = rw (next s i h, eqb_turn (get_or s i 0) 45) (or_assoc found (eqb 45 (get_or s i 0)) (is_in eqb 45 (drop (i + 1) s)))

-- behind another byte than a blank only digits may follow
follow_digits : (p : ℕ) (s : List ℕ) → (p ≡ 32 → ⊥) → follow p s ≡ are_digits s
unfolding follow may_follow
follow_digits p [] h = refl
follow_digits p (b ∷ s) h = rw (ne_eqb p 32 h, or_false (is_digit b)) (go (is_digit b) refl (follow_digits b s))
  where
    go : (c : Bool) → is_digit b ≡ c → ((b ≡ 32 → ⊥) → follow b s ≡ are_digits s) → (c && follow b s) ≡ (c && are_digits s)
    go true e ih = ih (λ f. omega (arith, digit_low b e, f))
    go false e ih = refl

-- a byte that does not pass the test of all is not among them
not_in : (p : ℕ → Bool) (b : ℕ) → p b ≡ false → (s : List ℕ) → every p s ≡ true → is_in eqb b s ≡ false
not_in p b h [] e = refl
not_in p b h (x ∷ s) e = let q = both (p x) (every p s) e in go (eqb b x) refl q.0 (not_in p b h s q.1)
  where
    go : (c : Bool) → eqb b x ≡ c → p x ≡ true → is_in eqb b s ≡ false → (c || is_in eqb b s) ≡ false
    go true f g k = absurd (true≢false (sym g ∙ (ap p (sym (eqb-true b x f)) ∙ h)))
    go false f g k = k

blank_value : (s : List ℕ) → Blank s → value_of 0 s ≡ 0
blank_value [] h = refl
blank_value (x ∷ s) h = let p = both (eqb x 32) (is_blank s) h in rw (eqb-true x 32 p.0) (blank_value s p.1)

given_when : {A : Type 0} (b : Bool) (v : A) → is_given (when b v) ≡ b
given_when true v = refl
given_when false v = refl

given_bind : (o : Option ℕ) (f : ℕ → ℤ) → is_given (o >>= λ n. Some (f n)) ≡ is_given o
given_bind None f = refl
given_bind (Some n) f = refl

-- a point d places before the end
module _ (d : ℕ) (p : List ℕ) (len : length p ≡ d) where
  plain_digits : (w : List ℕ) → digits_of d (w ++ 46 ∷ p) ≡ w ++ p
  unfolding digits_of
  plain_digits w =
      let s : List ℕ = w ++ 46 ∷ p in
      let k : length s ≡ length w + suc (length p) = length-append w (46 ∷ p) in
      let i : length w ≡ length s - (d + 1) = omega arith in
      let j : length s - d ≡ length w + 1 = omega arith in
      rw (take_at w (46 ∷ p) (length s - (d + 1)) i, j, drop-append-add w (46 ∷ p) 1)

  plain_given : (w : List ℕ) → is_given (plain_of d (w ++ 46 ∷ p)) ≡ (are_digits w && are_digits p)
  unfolding plain_of
  plain_given w =
      let s : List ℕ = w ++ 46 ∷ p in
      let k : length s ≡ length w + suc (length p) = length-append w (46 ∷ p) in
      let i : length w ≡ length s - (d + 1) = omega arith in
      rw (lt-ltb d (length s) (omega arith), eq-eqb _ _ (get_or_at w 46 p 0 (length s - (d + 1)) i), plain_digits w, given_when (are_digits (w ++ p)) (value_of 0 (w ++ p)))
      (every_append is_digit w p)

  -- what may stand before the point is what the rule takes: blanks, perhaps a minus, and digits
  lead_given : (t : List ℕ) → is_given (signed_plain d (unblank (t ++ 46 ∷ p))) ≡ (follow 32 t && are_digits p)
  unfolding signed_plain unblank follow may_follow
  lead_given [] = rw (given_bind (plain_of d (46 ∷ p)) (signed false)) (plain_given [])
  lead_given (x ∷ t) = go (eqb x 32) refl (lead_given t)
    where
      unsigned : (x ≡ 32 → ⊥) → (c : Bool) → eqb x 45 ≡ c
          → is_given (cond c (plain_of d (t ++ 46 ∷ p) >>= λ n. Some (signed true n)) (plain_of d (x ∷ (t ++ 46 ∷ p)) >>= λ n. Some (signed false n)))
          ≡ (((is_digit x || c) && follow x t) && are_digits p)
      unsigned h true e = rw (given_bind (plain_of d (t ++ 46 ∷ p)) (signed true), plain_given t, follow_digits x t h, eqb-true x 45 e)
      unsigned h false e = rw (given_bind (plain_of d (x ∷ (t ++ 46 ∷ p))) (signed false), plain_given (x ∷ t), follow_digits x t h, or_false (is_digit x))

      go : (c : Bool) → eqb x 32 ≡ c → is_given (signed_plain d (unblank (t ++ 46 ∷ p))) ≡ (follow 32 t && are_digits p)
          → is_given (signed_plain d (cond c (unblank (t ++ 46 ∷ p)) (x ∷ (t ++ 46 ∷ p)))) ≡ (((is_digit x || (c || eqb x 45)) && follow x t) && are_digits p)
      go true e ih = rw (eqb-true x 32 e) ih
      go false e ih = unsigned (eqb-false x 32 e) (eqb x 45) refl

  -- and its number is that of all columns: a blank and a minus count as 0
  plain_is : (w : List ℕ) → (are_digits w && are_digits p) ≡ true → plain_of d (w ++ 46 ∷ p) ≡ Some (value_of 0 (w ++ p))
  plain_is w e =
      plain_back d (w ++ 46 ∷ p) (value_of 0 (w ++ p))
      (record { whole = w; part = p; spelled = refl; all_digits = every_append is_digit w p ∙ e; decimals = len; number = refl })

  lead_number : (t : List ℕ) → (follow 32 t && are_digits p) ≡ true → signed_plain d (unblank (t ++ 46 ∷ p)) ≡ Some (signed (is_in eqb 45 t) (value_of 0 (t ++ p)))
  unfolding signed_plain unblank follow may_follow
  lead_number [] h = rw (plain_is [] h)
  lead_number (x ∷ t) h = go (eqb x 32) refl (lead_number t) h
    where
      unsigned : (x ≡ 32 → ⊥) → (c : Bool) → eqb x 45 ≡ c → (((is_digit x || c) && follow x t) && are_digits p) ≡ true
          → cond c (plain_of d (t ++ 46 ∷ p) >>= λ n. Some (signed true n)) (plain_of d (x ∷ (t ++ 46 ∷ p)) >>= λ n. Some (signed false n))
          ≡ Some (signed (is_in eqb 45 (x ∷ t)) (value_of 0 (x ∷ (t ++ p))))
      unsigned k true e g =
          let f : (are_digits t && are_digits p) ≡ true = rw (eqb-true x 45 e, follow_digits 45 t (λ f. omega (arith, f))) at g in
          rw (eqb-true x 45 e, plain_is t f)
      unsigned k false e g =
          let f : ((is_digit x && are_digits t) && are_digits p) ≡ true = rw (or_false (is_digit x), follow_digits x t k) at g in
          rw (plain_is (x ∷ t) f, not_in is_digit 45 refl (x ∷ t) (both (are_digits (x ∷ t)) (are_digits p) f).0)

      go : (c : Bool) → eqb x 32 ≡ c → ((follow 32 t && are_digits p) ≡ true → signed_plain d (unblank (t ++ 46 ∷ p)) ≡ Some (signed (is_in eqb 45 t) (value_of 0 (t ++ p))))
          → (((is_digit x || (c || eqb x 45)) && follow x t) && are_digits p) ≡ true
          → signed_plain d (cond c (unblank (t ++ 46 ∷ p)) (x ∷ (t ++ 46 ∷ p))) ≡ Some (signed (is_in eqb 45 (x ∷ t)) (value_of 0 (x ∷ (t ++ p))))
      go true e ih g = rw (eqb-true x 32 e) (ih (rw (eqb-true x 32 e) at g))
      go false e ih g = unsigned (eqb-false x 32 e) (eqb x 45) refl g

-- a field with a point is not blank, and a decimal number has its point in its place
point_there : (t p : List ℕ) → is_blank (t ++ 46 ∷ p) ≡ false
point_there t p = every_append (λ b. eqb b 32) t (46 ∷ p) ∙ and-false (is_blank t)

decimal_point : (d : ℕ) (s : List ℕ) (z : ℤ) → Decimal d s z → get_or s (length s - (d + 1)) 0 ≡ 46
decimal_point d s z q =
    let r = q.plain in
    let w : List ℕ = blanks q.lead ++ (sign q.minus ++ r.whole) in
    let e : s ≡ w ++ 46 ∷ r.part = cc (q.spelled, r.spelled, append_assoc (sign q.minus) r.whole (46 ∷ r.part), append_assoc (blanks q.lead) (sign q.minus ++ r.whole) (46 ∷ r.part)) in
    let k : length s ≡ length w + suc (length r.part) = ap length e ∙ length-append w (46 ∷ r.part) in
    let i : length w ≡ length s - (d + 1) = omega (arith, r.decimals) in
    ap (λ (u : List ℕ). get_or u (length s - (d + 1)) 0) e ∙ get_or_at w 46 r.part 0 (length s - (d + 1)) i

-- the 14 columns of a value
module _ (s : List ℕ) (len : length s ≡ 14) where
  behind : drop 11 s ≡ get_or s 11 0 ∷ get_or s 12 0 ∷ get_or s 13 0 ∷ []
  behind =
      let a : drop 11 s ≡ get_or s 11 0 ∷ drop 12 s = next s 11 (omega arith) in
      let b : drop 12 s ≡ get_or s 12 0 ∷ drop 13 s = next s 12 (omega arith) in
      let c : drop 13 s ≡ get_or s 13 0 ∷ drop 14 s = next s 13 (omega arith) in
      let n : drop 14 s ≡ [] = drop_of_length-le s {i = 14} (omega arith) in
      cc (a, b, c, n)

  parted : get_or s 10 0 ≡ 46 → s ≡ take 10 s ++ 46 ∷ (get_or s 11 0 ∷ get_or s 12 0 ∷ get_or s 13 0 ∷ [])
  parted e = split_at s 10 0 (omega arith) ∙ cc (e, behind)

  pub value_point : get_or s 10 0 ≡ 46 → {w x y z : Bool} → w ≡ follow 32 (take 10 s) → x ≡ is_digit (get_or s 11 0) → y ≡ is_digit (get_or s 12 0) → z ≡ is_digit (get_or s 13 0)
      → (((w && x) && y) && z) ≡ value_fits s
  unfolding value_fits decimal_of
  value_point e h i j k =
      let p : List ℕ = get_or s 11 0 ∷ get_or s 12 0 ∷ get_or s 13 0 ∷ [] in
      let f : value_fits s ≡ value_fits (take 10 s ++ 46 ∷ p) = ap value_fits (parted e) in
      let g : value_fits (take 10 s ++ 46 ∷ p) ≡ (follow 32 (take 10 s) && are_digits p) = rw (point_there (take 10 s) p) (lead_given 3 p refl (take 10 s)) in
      rw (h, i, j, k) (sym (f ∙ g ∙ turned (follow 32 (take 10 s)) (is_digit (get_or s 11 0)) (is_digit (get_or s 12 0)) (is_digit (get_or s 13 0))))
    where
      turned : (a b c d : Bool) → (a && (b && (c && (d && true)))) ≡ (((a && b) && c) && d)
      turned false b c d = refl
      turned true false c d = refl
      turned true true false d = refl
      turned true true true d = and-true d

  pub value_none : (get_or s 10 0 ≡ 46 → ⊥) → is_blank s ≡ value_fits s
  unfolding value_fits
  value_none h = sym (rw (go (is_given (decimal_of 3 s)) refl) (or_false (is_blank s)))
    where
      go : (b : Bool) → is_given (decimal_of 3 s) ≡ b → b ≡ false
      go true e =
          let z = given_some (decimal_of 3 s) e in
          let i : length s - 4 ≡ 10 = omega arith in
          absurd (h (rw i at (decimal_point 3 s z.0 (decimal_found 3 s z.0 z.1))))
      go false e = refl

  -- what a given value is: its number, and that it ends with a digit
  pub record Given : Type 0 where
    pub number : decimal_of 3 s ≡ Some (signed (is_in eqb 45 (take 10 s)) (value_of 0 (take 10 s) * 1000 + value_of 0 (drop 11 s)))
    pub last : 48 ≤ get_or s 13 0

  three : (m a b c : ℕ) → value_of m (a ∷ b ∷ c ∷ []) ≡ m * 1000 + value_of 0 (a ∷ b ∷ c ∷ [])
  three m a b c = omega arith

  value_given : get_or s 10 0 ≡ 46 → value_fits s ≡ true → Given
  unfolding decimal_of
  value_given e h =
      let a : ℕ = get_or s 11 0 in
      let b : ℕ = get_or s 12 0 in
      let c : ℕ = get_or s 13 0 in
      let p : List ℕ = a ∷ b ∷ c ∷ [] in
      let g : (((follow 32 (take 10 s) && is_digit a) && is_digit b) && is_digit c) ≡ true = value_point e refl refl refl refl ∙ h in
      let q = both ((follow 32 (take 10 s) && is_digit a) && is_digit b) (is_digit c) g in
      let r = both (follow 32 (take 10 s) && is_digit a) (is_digit b) q.0 in
      let t = both (follow 32 (take 10 s)) (is_digit a) r.0 in
      let ds : are_digits p ≡ true = rw (t.1, r.1, q.1) in
      let k : (follow 32 (take 10 s) && are_digits p) ≡ true = all_of (follow 32 (take 10 s)) (are_digits p) t.0 ds in
      let d : drop 11 s ≡ p = behind in
      let v : value_of 0 (take 10 s ++ p) ≡ value_of 0 (take 10 s) * 1000 + value_of 0 (drop 11 s) =
      value_append 0 (take 10 s) p ∙ (three (value_of 0 (take 10 s)) a b c ∙ ap (λ (u : List ℕ). value_of 0 (take 10 s) * 1000 + value_of 0 u) (sym d)) in
      record {
        number = ap (decimal_of 3) (parted e) ∙ (lead_number 3 p refl (take 10 s) k ∙ ap (λ (n : ℕ). Some (signed (is_in eqb 45 (take 10 s)) n)) v);
        last = digit_low c q.1;
      }

  -- a fit value is blank or given
  value_cases : value_fits s ≡ true → Either (Blank s) Given
  value_cases h = go (eqb (get_or s 10 0) 46) refl
    where
      go : (b : Bool) → eqb (get_or s 10 0) 46 ≡ b → Either (Blank s) Given
      go true e = right (value_given (eqb-true _ _ e) h)
      go false e = left (value_none (eqb-false _ _ e) ∙ h)

  pub value_number : value_fits s ≡ true → {m : Bool} {w f : ℕ} → m ≡ is_in eqb 45 (take 10 s) → w ≡ value_of 0 (take 10 s) → f ≡ value_of 0 (take (length s - 11) (drop 11 s))
      → signed m (w * 1000 + f) ≡ signed_of (decimal_of 3 s)
  value_number h e i j = rw (e, i, j, to_end s 11) (go (value_cases h))
    where
      go : Either (Blank s) Given → signed (is_in eqb 45 (take 10 s)) (value_of 0 (take 10 s) * 1000 + value_of 0 (drop 11 s)) ≡ signed_of (decimal_of 3 s)
      go (left b) =
          let t : Blank (take 10 s) = every_take (λ x. eqb x 32) 10 s b in
          let u : Blank (drop 11 s) = every_drop (λ x. eqb x 32) 11 s b in
          rw (decimal_blank 3 s b, not_in (λ x. eqb x 32) 45 refl (take 10 s) t, blank_value (take 10 s) t, blank_value (drop 11 s) u)
      go (right g) = sym (ap signed_of g.number)

  -- one that has a number ends with a digit
  pub number_there : value_fits s ≡ true → not (eqb (get_or s 13 0) 32) ≡ is_given (decimal_of 3 s)
  number_there h = go (value_cases h)
    where
      go : Either (Blank s) Given → not (eqb (get_or s 13 0) 32) ≡ is_given (decimal_of 3 s)
      go (left b) = rw (every_at (λ x. eqb x 32) s 13 0 b (omega arith), decimal_blank 3 s b)
      go (right g) = rw (ne_eqb (get_or s 13 0) 32 (λ e. omega (arith, g.last)), g.number)
