-- What `specs/Found` computes of a field is the number that it spells, both ways. Assumes nothing.
use Prim.Native.Nat.{ℕ, zero, suc, ◌+◌, ◌-◌, ◌≤◌, ◌<◌}
use mathlib.Core.Path.{◌≡◌, refl, ap, sym, ◌∙◌}
use mathlib.Core.Bool.{Bool, true, false, cond, ◌&&◌, ◌||◌}
use mathlib.Core.List.{List, [], ◌∷◌, ◌++◌}
use Rattle.std.specs.Prelude.{Option, None, Some}
use native.Mathlib.Omega.{arith}
use lib.Dec.{eqb, leb, ltb}
use lib.IntN.{ℤ}
use lib.ListN.{length, get_or, take, drop, length-append, length-drop}
use lib.Seq.{split_at, take_at, drop-append-add, get_or_at}
use borrow.Author.Tests.{eqb-true, eq-eqb, ne_eqb, leb-true, le-leb, ltb-true, lt-ltb}
use Rattle.lists.specs.Blank.{Blank, is_blank, blanks}
use Rattle.lists.specs.Maybe.{is_given, when, ◌>>=◌}
use Rattle.lists.proofs.Bools.{both, Either, left, right, or_either, or_right}
use Rattle.lists.proofs.Maybe.{none_some, some_one, when_some, given_some, bind_some}
use Rattle.field.specs.Field.{is_digit, are_digits, value_of, Whole, Plain, sign, signed, Decimal, DecimalOrBlank, Second}
use Rattle.field.specs.Found.{unblank, whole_of, digits_of, plain_of, signed_plain, decimal_of, second_of}

-- a first digit, and the others
pub record First (x : ℕ) (s : List ℕ) : Type 0 where
  pub low : 48 ≤ x
  pub high : x ≤ 57
  pub rest : are_digits s ≡ true

pub first : (x : ℕ) (s : List ℕ) → are_digits (x ∷ s) ≡ true → First x s
first x s e =
    let p = both (is_digit x) (are_digits s) e in
    let q = both (leb 48 x) (leb x 57) p.0 in
    record { low = leb-true 48 x q.0; high = leb-true x 57 q.1; rest = p.1 }

digit_head : (s : List ℕ) → 1 ≤ length s → are_digits s ≡ true → 48 ≤ get_or s 0 0
digit_head [] h e = absurd (omega arith)
digit_head (x ∷ s) h e = (first x s e).low

-- blanks, and what follows them
unblank_spelled : (s : List ℕ) → (b : ℕ) × (s ≡ blanks b ++ unblank s)
unfolding unblank
unblank_spelled [] = (0, refl)
unblank_spelled (x ∷ s) = go (eqb x 32) refl (unblank_spelled s)
  where
    go : (c : Bool) → eqb x 32 ≡ c → (b : ℕ) × (s ≡ blanks b ++ unblank s) → (b : ℕ) × ((x ∷ s) ≡ blanks b ++ cond c (unblank s) (x ∷ s))
    go true e h = (suc h.0, cc (eqb-true x 32 e, h.1))
    go false e h = (0, refl)

pub unblank_of : (b : ℕ) (u : List ℕ) → (get_or u 0 0 ≡ 32 → ⊥) → unblank (blanks b ++ u) ≡ u
unfolding unblank
unblank_of zero [] h = refl
unblank_of zero (x ∷ u) h = rw (ne_eqb x 32 h)
unblank_of (suc b) u h = unblank_of b u h

pub unblank_blank : (s : List ℕ) → Blank s → unblank s ≡ []
unfolding unblank
unblank_blank [] e = refl
unblank_blank (x ∷ s) e = let p = both (eqb x 32) (is_blank s) e in rw p.0 (unblank_blank s p.1)

-- whole numbers
pub whole_found : (s : List ℕ) (n : ℕ) → whole_of s ≡ Some n → Whole s n
unfolding whole_of
whole_found s n e =
    let p = when_some (leb 1 (length (unblank s)) && are_digits (unblank s)) (value_of 0 (unblank s)) n e in
    let q = both (leb 1 (length (unblank s))) (are_digits (unblank s)) p.0 in
    let u = unblank_spelled s in
    record { lead = u.0; digits = unblank s; spelled = u.1; some_digit = leb-true _ _ q.0; all_digits = q.1; number = sym p.1 }

pub whole_digits : (s : List ℕ) (n : ℕ) (w : Whole s n) → unblank s ≡ w.digits
whole_digits s n w =
    let h = digit_head w.digits w.some_digit w.all_digits in
    ap unblank w.spelled ∙ unblank_of w.lead w.digits (λ e. omega (arith, h, e))

pub whole_back : (s : List ℕ) (n : ℕ) → Whole s n → whole_of s ≡ Some n
unfolding whole_of
whole_back s n w =
    rw (whole_digits s n w, le-leb 1 (length w.digits) w.some_digit, w.all_digits) (ap Some (sym w.number))

pub whole_blank : (s : List ℕ) → Blank s → whole_of s ≡ None
unfolding whole_of
whole_blank s e = rw (unblank_blank s e)

pub blank_not_whole : (s : List ℕ) (n : ℕ) → Blank s → Whole s n → ⊥
blank_not_whole s n e w = none_some n (sym (whole_blank s e) ∙ whole_back s n w)

-- digits with a point
module _ (d : ℕ) (s : List ℕ) (n : ℕ) where
  plain_found : plain_of d s ≡ Some n → Plain d s n
  unfolding plain_of digits_of
  plain_found e =
      let i : ℕ = length s - (d + 1) in
      let p = when_some (ltb d (length s) && (eqb (get_or s i 0) 46 && are_digits (take i s ++ drop (length s - d) s))) (value_of 0 (take i s ++ drop (length s - d) s)) n e in
      let q = both (ltb d (length s)) _ p.0 in
      let r = both (eqb (get_or s i 0) 46) _ q.1 in
      let long : d < length s = ltb-true _ _ q.0 in
      let point : get_or s i 0 ≡ 46 = eqb-true _ _ r.0 in
      let step : suc i ≡ length s - d = omega arith in
      record {
        whole = take i s;
        part = drop (length s - d) s;
        spelled = split_at s i 0 (omega arith) ∙ cc (point, step);
        all_digits = r.1;
        decimals = simp length-drop (omega arith);
        number = sym p.1;
      }

  pub plain_back : Plain d s n → plain_of d s ≡ Some n
  unfolding plain_of digits_of
  plain_back q =
      let w = q.whole in
      let f = q.part in
      let i : ℕ = length s - (d + 1) in
      let k : length s ≡ length w + suc (length f) = ap length q.spelled ∙ length-append w (46 ∷ f) in
      let p : length w ≡ i = omega (arith, q.decimals) in
      let j : length s - d ≡ length w + 1 = omega (arith, q.decimals) in
      let b : take i s ≡ w = ap (take i) q.spelled ∙ take_at w (46 ∷ f) i p in
      let t : drop (length s - d) s ≡ f = cc (j, q.spelled, drop-append-add w (46 ∷ f) 1) in
      let c : get_or s i 0 ≡ 46 = ap (λ (u : List ℕ). get_or u i 0) q.spelled ∙ get_or_at w 46 f 0 i p in
      let long : d < length s = omega (arith, q.decimals) in
      rw (lt-ltb d (length s) long, eq-eqb _ _ c, b, t, q.all_digits) (ap Some (sym q.number))

-- a field of plain digits spells one number
pub plain_one : (d : ℕ) (s : List ℕ) (m n : ℕ) → Plain d s m → Plain d s n → m ≡ n
plain_one d s m n p q = some_one m n (sym (plain_back d s m p) ∙ plain_back d s n q)

pub plain_head : (d : ℕ) (s : List ℕ) (n : ℕ) → Plain d s n → 46 ≤ get_or s 0 0
plain_head d s n q = rw q.spelled (go q.whole q.part q.all_digits)
  where
    go : (w f : List ℕ) → are_digits (w ++ f) ≡ true → 46 ≤ get_or (w ++ 46 ∷ f) 0 0
    go [] f e = omega arith
    go (x ∷ w) f e = omega (arith, (first x (w ++ f) e).low)

-- decimal numbers
signed_found : (d : ℕ) (s u : List ℕ) (z : ℤ) (b : ℕ) → s ≡ blanks b ++ u → signed_plain d u ≡ Some z → Decimal d s z
unfolding signed_plain
signed_found d s [] z b e h = absurd (none_some z h)
signed_found d s (x ∷ u) z b e h = go (eqb x 45) refl h
  where
    go : (c : Bool) → eqb x 45 ≡ c → cond c (plain_of d u >>= λ n. Some (signed true n)) (plain_of d (x ∷ u) >>= λ n. Some (signed false n)) ≡ Some z → Decimal d s z
    go true f g =
        let p = bind_some (plain_of d u) (λ n. Some (signed true n)) z g in
        record {
          lead = b;
          minus = true;
          rest = u;
          size = p.0;
          spelled = cc (e, eqb-true x 45 f);
          plain = plain_found d u p.0 p.1;
          number = sym (some_one (signed true p.0) z p.2);
        }
    go false f g =
        let p = bind_some (plain_of d (x ∷ u)) (λ n. Some (signed false n)) z g in
        record {
          lead = b;
          minus = false;
          rest = x ∷ u;
          size = p.0;
          spelled = e;
          plain = plain_found d (x ∷ u) p.0 p.1;
          number = sym (some_one (signed false p.0) z p.2);
        }

pub decimal_found : (d : ℕ) (s : List ℕ) (z : ℤ) → decimal_of d s ≡ Some z → Decimal d s z
unfolding decimal_of
decimal_found d s z h = let u = unblank_spelled s in signed_found d s (unblank s) z u.0 u.1 h

signed_back : (d : ℕ) (m : Bool) (s : List ℕ) (n : ℕ) → Plain d s n → signed_plain d (sign m ++ s) ≡ Some (signed m n)
unfolding signed_plain
signed_back d true s n p = rw (plain_back d s n p)
signed_back d false [] n p = absurd (omega (arith, plain_head d [] n p))
signed_back d false (x ∷ s) n p = rw (ne_eqb x 45 (λ e. omega (arith, e, plain_head d (x ∷ s) n p)), plain_back d (x ∷ s) n p)

sign_head : (m : Bool) (s : List ℕ) → 46 ≤ get_or s 0 0 → get_or (sign m ++ s) 0 0 ≡ 32 → ⊥
sign_head true s h e = omega arith
sign_head false s h e = omega arith

pub decimal_rest : (d : ℕ) (s : List ℕ) (z : ℤ) (q : Decimal d s z) → unblank s ≡ sign q.minus ++ q.rest
decimal_rest d s z q =
    let h = plain_head d q.rest q.size q.plain in
    ap unblank q.spelled ∙ unblank_of q.lead (sign q.minus ++ q.rest) (sign_head q.minus q.rest h)

pub decimal_back : (d : ℕ) (s : List ℕ) (z : ℤ) → Decimal d s z → decimal_of d s ≡ Some z
unfolding decimal_of
decimal_back d s z q =
    ap (signed_plain d) (decimal_rest d s z q) ∙ (signed_back d q.minus q.rest q.size q.plain ∙ ap Some (sym q.number))

pub decimal_blank : (d : ℕ) (s : List ℕ) → Blank s → decimal_of d s ≡ None
unfolding decimal_of signed_plain
decimal_blank d s e = rw (unblank_blank s e)

-- a decimal number or blank is what `decimal_of` finds
pub decimal_or_blank_lem : (d : ℕ) (s : List ℕ) → (is_blank s || is_given (decimal_of d s)) ≡ true → DecimalOrBlank d s (decimal_of d s)
decimal_or_blank_lem d s h = go (decimal_of d s) refl (or_either (is_blank s) _ h)
  where
    go : (o : Option ℤ) → decimal_of d s ≡ o → Either (is_blank s ≡ true) (is_given (decimal_of d s) ≡ true) → DecimalOrBlank d s o
    go None e (left b) = b
    go None e (right g) = let p = given_some (decimal_of d s) g in absurd (none_some p.0 (sym e ∙ p.1))
    go (Some z) e x = decimal_found d s z e

pub decimal_or_blank_is : (d : ℕ) (s : List ℕ) (o : Option ℤ) → DecimalOrBlank d s o → o ≡ decimal_of d s
decimal_or_blank_is d s None h = sym (decimal_blank d s h)
decimal_or_blank_is d s (Some z) h = sym (decimal_back d s z h)

pub decimal_or_blank_fits : (d : ℕ) (s : List ℕ) (o : Option ℤ) → DecimalOrBlank d s o → (is_blank s || is_given (decimal_of d s)) ≡ true
decimal_or_blank_fits d s None h = rw h
decimal_or_blank_fits d s (Some z) h = rw (decimal_back d s z h) (or_right (is_blank s) true refl)

-- seconds
pub plain_length : (d : ℕ) (s : List ℕ) (n : ℕ) (q : Plain d s n) → length s ≡ length q.whole + suc d
plain_length d s n q = ap length q.spelled ∙ (length-append q.whole (46 ∷ q.part) ∙ omega (arith, q.decimals))

pub second_found : (s : List ℕ) (n : ℕ) → second_of s ≡ Some n → Second s n
unfolding second_of
second_found s n e =
    let u = unblank s in
    let b = unblank_spelled s in
    let p = bind_some (plain_of 7 u) (λ m. when (leb 9 (length u) && (leb (length u) 10 && ltb m 600000000)) m) n e in
    let w = when_some (leb 9 (length u) && (leb (length u) 10 && ltb p.0 600000000)) p.0 n p.2 in
    let q = both (leb 9 (length u)) _ w.0 in
    let r = both (leb (length u) 10) _ q.1 in
    let k = plain_found 7 u n (p.1 ∙ ap Some w.1) in
    let low : 9 ≤ length u = leb-true _ _ q.0 in
    let high : length u ≤ 10 = leb-true _ _ r.0 in
    let small : p.0 < 600000000 = ltb-true _ _ r.1 in
    let l = plain_length 7 u n k in
    record {
      lead = b.0;
      rest = u;
      spelled = b.1;
      plain = k;
      one_digit = omega (arith, l, low);
      two_digits = omega (arith, l, high);
      below = omega (arith, small, w.1);
    }

pub second_rest : (s : List ℕ) (n : ℕ) (q : Second s n) → unblank s ≡ q.rest
second_rest s n q =
    let h = plain_head 7 q.rest n q.plain in
    ap unblank q.spelled ∙ unblank_of q.lead q.rest (λ e. omega (arith, h, e))

pub second_back : (s : List ℕ) (n : ℕ) → Second s n → second_of s ≡ Some n
unfolding second_of
second_back s n q =
    let l = plain_length 7 q.rest n q.plain in
    let low : 9 ≤ length q.rest = omega (arith, l, q.one_digit) in
    let high : length q.rest ≤ 10 = omega (arith, l, q.two_digits) in
    rw (second_rest s n q, plain_back 7 q.rest n q.plain, le-leb 9 (length q.rest) low, le-leb (length q.rest) 10 high, lt-ltb n 600000000 q.below)

pub second_blank : (s : List ℕ) → Blank s → second_of s ≡ None
unfolding second_of plain_of
second_blank s e = rw (unblank_blank s e)
