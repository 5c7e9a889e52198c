-- What stands at the place of a code's number in the table says whether the code is taken. Assumes nothing.
use Prim.Native.Nat.{ℕ, zero, suc, ◌+◌, ◌/◌, ◌%◌, ◌≤◌, ◌<◌}
use mathlib.Core.Path.{◌≡◌, refl, sym, ap, ◌∙◌}
use mathlib.Core.Bool.{Bool, true, false, ◌&&◌, ◌||◌}
use mathlib.Core.List.{List, [], ◌∷◌, map}
use native.Mathlib.Nat.{div-div-eq-div-mul}
use native.Mathlib.Omega.{arith}
use lib.Dec.{eqb}
use lib.ListN.{length, get_or, length-map}
use lib.Seq.{get_or-take}
use borrow.Author.Tests.{eqb-true, eqb-false, eq-eqb}
use Rattle.lists.specs.Lists.{bytes, same, is_in}
use Rattle.lists.proofs.Bools.{never, both, all_of, Either, left, right, or_either, or_right}
use Rattle.lists.proofs.Bytes.{fails}
use Rattle.lists.proofs.Lists.{same_true, same_refl, eq_same, in_append}
use Rattle.lists.proofs.Parts.{get_d_over}
use Rattle.line.proofs.Columns.{plain_at}
use Rattle.rinex.specs.CodeTable.{code_table, tabled}
use Rattle.rinex.specs.Codes.{is_code, type_and_band, is_taken}
use Rattle.rinex.specs.Tables.{packed}
use Rattle.rinex.specs.CodeNumbers.{number_under, numbers_from, code_numbers}
use Rattle.rinex.specs.Fit.{unpacked}
use Rattle.rinex.proofs.CodeTable.{codes_tabled, tabled_code}
use Rattle.rinex.proofs.Forms.{taken_form, taken_below}
use Rattle.rinex.proofs.LentLists.{packed_unpacked}
use Rattle.code.specs.Known.{Around}
use Rattle.code.proofs.Halving.{entry, least}

-- A CODE OF THE RULE'S TABLE HAS ITS NUMBER IN THE LIST
in_numbers : (s : ℕ) (c : List ℕ) (cs : List (List ℕ)) → is_in same c cs ≡ true → is_in eqb (number_under s (packed c)) (map (λ (d : List ℕ). number_under s (packed d)) cs) ≡ true
in_numbers s c [] h = absurd (never h)
in_numbers s c (d ∷ cs) h = at (or_either (same c d) _ h) (in_numbers s c cs)
  where
    rest : Bool
    rest = is_in eqb (number_under s (packed c)) (map (λ (d : List ℕ). number_under s (packed d)) cs)

    at : Either (same c d ≡ true) (is_in same c cs ≡ true) → (is_in same c cs ≡ true → rest ≡ true) → (eqb (number_under s (packed c)) (number_under s (packed d)) || rest) ≡ true
    at (left e) ih = rw (eq-eqb (number_under s (packed c)) (number_under s (packed d)) (ap (λ (x : List ℕ). number_under s (packed x)) (same_true c d e)))
    at (right e) ih = or_right (eqb (number_under s (packed c)) (number_under s (packed d))) _ (ih e)

in_lists : (c : List ℕ) (css : List (List (List ℕ))) (t s : ℕ) → is_in same c (get_or css s []) ≡ true → is_in eqb (number_under (t + s) (packed c)) (numbers_from t css) ≡ true
unfolding numbers_from
in_lists c [] t s h = absurd (never h)
in_lists c (cs ∷ css) t zero h =
    let e : t + 0 ≡ t = omega arith in
    rw (e, in_append (number_under t (packed c)) (map (λ (d : List ℕ). number_under t (packed d)) cs) (numbers_from (t + 1) css), in_numbers t c cs h)
in_lists c (cs ∷ css) t (suc s) h =
    let e : t + suc s ≡ t + 1 + s = omega arith in
    rw (e, in_append (number_under (t + 1 + s) (packed c)) (map (λ (d : List ℕ). number_under t (packed d)) cs) (numbers_from (t + 1) css)) (or_right (is_in eqb (number_under (t + 1 + s) (packed c)) (map (λ (d : List ℕ). number_under t (packed d)) cs)) _ (in_lists c css (t + 1) s h))

in_known : (s : ℕ) (c : List ℕ) → is_in same c (tabled s) ≡ true → is_in eqb (number_under s (packed c)) code_numbers ≡ true
unfolding tabled code_numbers
in_known s c h = let e : 0 + s ≡ s = omega arith in rw e at (in_lists c code_table 0 s h)

-- a type and band of the rule's table are those of one of its codes, and the other way
from_bands : (x : List ℕ) (cs : List (List ℕ)) → is_in same x (map type_and_band cs) ≡ true → (d : List ℕ) × (is_in same d cs ≡ true) × (x ≡ type_and_band d)
from_bands x [] h = absurd (never h)
from_bands x (c ∷ cs) h = at (or_either (same x (type_and_band c)) _ h) (from_bands x cs)
  where
    at : Either (same x (type_and_band c) ≡ true) (is_in same x (map type_and_band cs) ≡ true) → (is_in same x (map type_and_band cs) ≡ true → (d : List ℕ) × (is_in same d cs ≡ true) × (x ≡ type_and_band d))
        → (d : List ℕ) × ((same d c || is_in same d cs) ≡ true) × (x ≡ type_and_band d)
    at (left e) ih = (c, rw (same_refl c), same_true x (type_and_band c) e)
    at (right e) ih = let i = ih e in (i.0, or_right (same i.0 c) _ i.1, i.2)

to_bands : (d : List ℕ) (cs : List (List ℕ)) → is_in same d cs ≡ true → is_in same (type_and_band d) (map type_and_band cs) ≡ true
to_bands d [] h = absurd (never h)
to_bands d (c ∷ cs) h = at (or_either (same d c) _ h) (to_bands d cs)
  where
    at : Either (same d c ≡ true) (is_in same d cs ≡ true) → (is_in same d cs ≡ true → is_in same (type_and_band d) (map type_and_band cs) ≡ true)
        → (same (type_and_band d) (type_and_band c) || is_in same (type_and_band d) (map type_and_band cs)) ≡ true
    at (left e) ih = rw (eq_same (type_and_band d) (type_and_band c) (ap type_and_band (same_true d c e)))
    at (right e) ih = or_right (same (type_and_band d) (type_and_band c)) _ (ih e)

-- WHICH CODES ARE TAKEN
-- no system from 7 on has codes
pub no_system : (s : ℕ) (c : List ℕ) → 7 ≤ s → false ≡ is_taken s c
unfolding is_taken tabled
no_system s c h =
    let n : length code_table ≡ 7 = sym (length-map code_table (λ (cs : List (List ℕ)). length cs)) ∙ ap length codes_tabled.sizes in
    let e : get_or code_table s [] ≡ [] = get_d_over code_table s [] (omega (arith, n, h)) in
    sym (rw e (fails (is_code c) _ (fails (eqb (get_or c 2 0) 32) false refl)))

pub too_large : (s k : ℕ) → 16777216 ≤ k → false ≡ is_taken s (unpacked k)
too_large s k h = at (is_taken s (unpacked k)) refl
  where
    at : (b : Bool) → is_taken s (unpacked k) ≡ b → false ≡ b
    at true e = absurd (omega (arith, h, taken_below s k e))
    at false e = refl

-- a blank in the place of a code's attribute
blank_code : (x y z : ℕ) → is_code (x ∷ y ∷ z ∷ []) ≡ true → is_code (x ∷ y ∷ 32 ∷ []) ≡ true
unfolding is_code
blank_code x y z h =
    let p = both (is_in eqb x (bytes "CLDS")) _ h in
    all_of (is_in eqb x (bytes "CLDS")) _ p.0 (all_of (is_in eqb y (bytes "123456789")) true (both (is_in eqb y (bytes "123456789")) _ p.1).0 refl)

by_table : (s : ℕ) (c : List ℕ) → is_in same c (tabled s) ≡ true → true ≡ is_taken s c
unfolding is_taken
by_table s c h = rw h

module _ (s k : ℕ) (l : k < 16777216) where
  by_band : (d : List ℕ) → is_in same d (tabled s) ≡ true → type_and_band (unpacked k) ≡ type_and_band d → is_code (unpacked k) ≡ true → k % 256 ≡ 32 → true ≡ is_taken s (unpacked k)
  unfolding is_taken
  by_band d h e c b =
      sym (or_right (is_in same (unpacked k) (tabled s)) _ (all_of (is_code (unpacked k)) _ c (all_of (eqb (k % 256) 32) _ (eq-eqb (k % 256) 32 b)
      (ap (λ (x : List ℕ). is_in same x (map type_and_band (tabled s))) e ∙ to_bands d (tabled s) h))))

  module _ (at : ℕ) (w : at < 330) where
    -- the number itself stands there
    pub hit : get_or code_numbers at 0 ≡ number_under s k → true ≡ is_taken s (unpacked k)
    hit e =
        let p : get_or code_numbers at 0 % 16777216 ≡ k = omega (arith, e) in
        let q : get_or code_numbers at 0 / 16777216 ≡ s = omega (arith, e) in
        by_table s (unpacked k) (rw (p, q) at (entry at w))

    -- the attribute is blank, and a code of its type and band stands there
    hit_band : k % 256 ≡ 32 → get_or code_numbers at 0 / 256 ≡ number_under s k / 256 → true ≡ is_taken s (unpacked k)
    hit_band b e =
        let f : ℕ = get_or code_numbers at 0 in
        let q : f / 16777216 ≡ s = omega (arith, e, div-div-eq-div-mul f 256 65536) in
        let m : f % 16777216 / 256 ≡ k / 256 = omega (arith, e, q) in
        let u : f % 16777216 / 65536 ≡ k / 65536 = omega (arith, m) in
        let v : f % 16777216 / 256 % 256 ≡ k / 256 % 256 = ap (λ (x : ℕ). x % 256) m in
        let i : is_in same (unpacked (f % 16777216)) (tabled s) ≡ true = rw q at (entry at w) in
        let c : is_code (k / 65536 ∷ k / 256 % 256 ∷ 32 ∷ []) ≡ true = rw (u, v) at (blank_code _ _ _ (tabled_code s (unpacked (f % 16777216)) i).0) in
        by_band (unpacked (f % 16777216)) i (λ j. sym u j ∷ sym v j ∷ []) (rw b c) b

  -- where a code is taken, an entry has its number; or its attribute is blank, and an entry that is not below its number has its type and band
  record Stands : Type 0 where
    pub entry : ℕ
    pub in_known : is_in eqb entry code_numbers ≡ true
    pub from : number_under s k ≤ entry
    pub same_band : entry / 256 ≡ number_under s k / 256
    pub blank_or_same : (entry ≡ number_under s k → ⊥) → k % 256 ≡ 32

  in_band : (d : List ℕ) → is_in same d (tabled s) ≡ true → type_and_band (unpacked k) ≡ type_and_band d → k % 256 ≡ 32 → Stands
  in_band d h e b =
      let c = tabled_code s d h in
      let f = taken_form s d (sym (by_table s d h)) in
      let x : k / 65536 ≡ get_or d 0 0 = ap (λ (y : List ℕ). get_or y 0 0) e ∙ get_or-take 2 d 0 0 (omega arith) in
      let y : k / 256 % 256 ≡ get_or d 1 0 = ap (λ (y : List ℕ). get_or y 1 0) e ∙ get_or-take 2 d 1 0 (omega arith) in
      let z : get_or d 2 0 ≤ 126 = plain_at d 2 f.bytes in
      let m : packed d / 256 ≡ k / 256 = omega (arith, x, y, z) in
      let n : k ≤ packed d = omega (arith, m, c.1, b) in
      record {
        entry = number_under s (packed d);
        in_known = in_known s d h;
        from = omega (arith, n);
        same_band = omega (arith, m);
        blank_or_same = λ g. b;
      }

  stands : is_taken s (unpacked k) ≡ true → Stands
  unfolding is_taken
  stands t = at (or_either (is_in same (unpacked k) (tabled s)) _ t)
    where
      at : Either (is_in same (unpacked k) (tabled s) ≡ true) ((is_code (unpacked k) && (eqb (k % 256) 32 && is_in same (type_and_band (unpacked k)) (map type_and_band (tabled s)))) ≡ true) → Stands
      at (left h) =
          let e : packed (unpacked k) ≡ k = packed_unpacked k in
          record {
            entry = number_under s k;
            in_known = rw e at (in_known s (unpacked k) h);
            from = omega arith;
            same_band = refl;
            blank_or_same = λ g. absurd (g refl);
          }
      at (right h) =
          let p = both (eqb (k % 256) 32) _ (both (is_code (unpacked k)) _ h).1 in
          let d = from_bands (type_and_band (unpacked k)) (tabled s) p.1 in
          in_band d.0 d.1 d.2 (eqb-true (k % 256) 32 p.0)

  -- the search ends where it has to be
  module _ (at : ℕ) (a : Around (number_under s k) at at) where
    pub none_left : 330 ≤ at → false ≡ is_taken s (unpacked k)
    none_left h = go (is_taken s (unpacked k)) refl
      where
        go : (b : Bool) → is_taken s (unpacked k) ≡ b → false ≡ b
        go true t = let e = stands t in absurd (omega (arith, h, (least (number_under s k) at e.entry a e.in_known e.from).0))
        go false t = refl

    module _ (n : get_or code_numbers at 0 ≡ number_under s k → ⊥) where
      miss : (k % 256 ≡ 32 → get_or code_numbers at 0 / 256 ≡ number_under s k / 256 → ⊥) → false ≡ is_taken s (unpacked k)
      miss b = go (is_taken s (unpacked k)) refl
        where
          go : (c : Bool) → is_taken s (unpacked k) ≡ c → false ≡ c
          go true t =
              let e = stands t in
              let f = least (number_under s k) at e.entry a e.in_known e.from in
              let g : get_or code_numbers at 0 / 256 ≡ number_under s k / 256 = omega (arith, f.1, f.2, e.same_band) in
              absurd (b (e.blank_or_same (λ x. n (omega (arith, f.1, f.2, x)))) g)
          go false t = refl

      pub no_blank : (k % 256 ≡ 32 → ⊥) → false ≡ is_taken s (unpacked k)
      no_blank b = miss (λ p q. b p)

      pub band : at < 330 → k % 256 ≡ 32 → eqb (get_or code_numbers at 0 / 256) (number_under s k / 256) ≡ is_taken s (unpacked k)
      band w b = go (eqb (get_or code_numbers at 0 / 256) (number_under s k / 256)) refl
        where
          go : (c : Bool) → eqb (get_or code_numbers at 0 / 256) (number_under s k / 256) ≡ c → c ≡ is_taken s (unpacked k)
          go true e = hit_band at w b (eqb-true (get_or code_numbers at 0 / 256) (number_under s k / 256) e)
          go false e = miss (λ p q. eqb-false (get_or code_numbers at 0 / 256) (number_under s k / 256) e q)
