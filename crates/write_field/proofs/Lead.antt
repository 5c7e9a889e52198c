-- A number written from its last digit on stands at the right, with no leading zero. Assumes nothing.
use Prim.Native.Nat.{ℕ, zero, suc, ◌+◌, ◌-◌, ◌/◌, ◌^◌, ◌≤◌, ◌<◌}
use mathlib.Core.Path.{◌≡◌, refl, sym, ap, ◌∙◌, subst}
use mathlib.Core.Bool.{Bool, true, false, cond}
use mathlib.Core.List.{List, [], ◌∷◌, ◌++◌, append_assoc}
use native.Mathlib.Nat.{pow-suc, sub-zero}
use native.Mathlib.Omega.{arith}
use borrow.Author.Tests.{leb-true, leb-false, lt-ltb, ltb-true, ltb-false, ne_eqb}
use lib.Dec.{eqb, leb, ltb}
use lib.ListN.{length, set, take, drop, length-set, drop_of_length-le, length-append, length-replicate, replicate-append-replicate}
use lib.Seq.{length-take-le}
use Rattle.lists.specs.Blank.{blanks}
use Rattle.lists.proofs.Stores.{drop_set, drop_lent, length_lent}
use Rattle.field.specs.Field.{sign}
use Rattle.write_field.specs.Normal.{digit, fixed, right, digits, whole, plain, whole_fits}
use Rattle.write_field.specs.Steps.{lead, HasRoom}
use Rattle.field.proofs.Digits.{power}
use Rattle.write_field.proofs.Written.{whole_room, few, fixed_length}

-- more behind what stands at the right
right_append : (w : ℕ) (s t : List ℕ) → right w s ++ t ≡ right (w + length t) (s ++ t)
unfolding right
right_append w s t =
    let e : w + length t - length (s ++ t) ≡ w - length s = omega (arith, length-append s t) in
    rw e (append_assoc (blanks (w - length s)) s t)

pub snoc_blanks : (k : ℕ) → blanks k ++ (32 ∷ []) ≡ blanks (suc k)
snoc_blanks k = let e : k + 1 ≡ suc k = omega arith in replicate-append-replicate {A = ℕ} k 1 32 ∙ ap blanks e

-- nothing left of the number: the sign, and blanks before it
lead_sign : (m : Bool) (k : ℕ) → length (sign m) ≤ k → lead m k 0 ≡ right k (sign m)
unfolding lead right
lead_sign true zero h = absurd (omega arith)
lead_sign true (suc k) h = let e : suc k - 1 ≡ k = omega arith in rw e
lead_sign false zero h = refl
lead_sign false (suc k) h = let e : suc k - 0 ≡ suc k = omega arith in rw e (sym (Bs (suc k)))
  where
    Bs : (n : ℕ) → blanks n ++ [] ≡ blanks n
    Bs zero = refl
    Bs (suc n) = ap (λ (r : List ℕ). 32 ∷ r) (Bs n)

pub lead_length : (m : Bool) (k q : ℕ) → length (lead m k q) ≡ k
unfolding lead
lead_length m zero q = refl
lead_length m (suc k) q = go m (eqb q 0) (lead m k (q / 10)) (lead_length m k (q / 10))
  where
    go : (m b : Bool) (t : List ℕ) → length t ≡ k → length (cond b (cond m (blanks k ++ (45 ∷ [])) (blanks (suc k))) (t ++ (digit q ∷ []))) ≡ suc k
    go true true t h = length-append (blanks k) (45 ∷ []) ∙ omega (arith, length-replicate {A = ℕ} k 32)
    go false true t h = length-replicate (suc k) 32
    go true false t h = length-append t (digit q ∷ []) ∙ omega arith
    go false false t h = length-append t (digit q ∷ []) ∙ omega arith

-- one digit alone
one : (m : Bool) (k q : ℕ) → q < 10 → length (sign m) ≤ k → lead m k (q / 10) ++ (digit q ∷ []) ≡ right (suc k) (sign m ++ (digit q ∷ []))
one m k q h l =
    let e : q / 10 ≡ 0 = omega arith in
    let w : k + 1 ≡ suc k = omega arith in
    rw (e, lead_sign m k l, right_append k (sign m) (digit q ∷ []), w)

-- digits before the last one
many : (m : Bool) (k q : ℕ) (ds : List ℕ) → 10 ≤ q → lead m k (q / 10 / 10) ++ (digit (q / 10) ∷ []) ≡ right (suc k) (sign m ++ ds)
    → lead m (suc k) (q / 10) ++ (digit q ∷ []) ≡ right (suc (suc k)) (sign m ++ (ds ++ (digit q ∷ [])))
unfolding lead
many m k q ds h ih =
    let n : q / 10 ≡ 0 → ⊥ = λ e. omega arith in
    let w : suc k + 1 ≡ suc (suc k) = omega arith in
    rw (ne_eqb (q / 10) 0 n, ih, right_append (suc k) (sign m ++ ds) (digit q ∷ []), append_assoc (sign m) ds (digit q ∷ []), w)

-- more than one digit wants more than one column
wide : (k s q : ℕ) → s ≤ suc k → q < 10 ^ (suc (suc k) - s) → 10 ≤ q → s ≤ k
wide k s q l r t = go (leb s k) refl
  where
    go : (b : Bool) → leb s k ≡ b → s ≤ k
    go true e = leb-true s k e
    go false e = let f : k < s = leb-false s k e in absurd (omega (arith, power (suc (suc k) - s) 1 (omega arith)))

-- what is written from the last digit on: no leading zero, at the right of k columns and one
pub lead_right : (m : Bool) (f k q : ℕ) → q < 10 ^ suc f → length (sign m) ≤ k → q < 10 ^ (suc k - length (sign m))
    → lead m k (q / 10) ++ (digit q ∷ []) ≡ right (suc k) (sign m ++ digits (suc f) q)
unfolding digits
lead_right m zero k q h l r =
    let e : q < 10 = omega arith in
    rw (lt-ltb q 10 e) (one m k q e l)
lead_right m (suc f) zero q h l r =
    let e : q < 10 = omega (arith, power (1 - length (sign m)) 1 (omega arith)) in
    rw (lt-ltb q 10 e) (one m zero q e l)
lead_right m (suc f) (suc k) q h l r = go (ltb q 10) refl (lead_right m f k (q / 10) (omega (arith, pow-suc 10 (suc f))))
  where
    go : (b : Bool) → ltb q 10 ≡ b
        → (length (sign m) ≤ k → q / 10 < 10 ^ (suc k - length (sign m)) → lead m k (q / 10 / 10) ++ (digit (q / 10) ∷ []) ≡ right (suc k) (sign m ++ digits (suc f) (q / 10)))
        → lead m (suc k) (q / 10) ++ (digit q ∷ []) ≡ right (suc (suc k)) (sign m ++ cond b (digit q ∷ []) (digits (suc f) (q / 10) ++ (digit q ∷ [])))
    go true e ih = one m (suc k) q (ltb-true q 10 e) l
    go false e ih =
        let t : 10 ≤ q = ltb-false q 10 e in
        let s : length (sign m) ≤ k = wide k (length (sign m)) q l r t in
        let p : suc (suc k) - length (sign m) ≡ suc (suc k - length (sign m)) = omega arith in
        many m k q (digits (suc f) (q / 10)) t (ih s (omega (arith, rw p at r, pow-suc 10 (suc k - length (sign m)))))

-- a digit in the last column, and the others before it
pub whole_put : (l ys : List ℕ) (x n : ℕ) → x ≡ digit n → whole_fits (length l) n ≡ true
    → ys ≡ lead false (length (take (length l - 1) (set l (length l - 1) x))) (n / 10)
    → ys ++ drop (length l - 1) (set l (length l - 1) x) ≡ whole (length l) n
unfolding whole
whole_put l ys x n d f e =
    let r = whole_room (length l) n f in
    let k : ℕ = length l - 1 in
    let w : suc k ≡ length l = omega (arith, r.column) in
    let p : length (take k (set l k x)) ≡ k = length-take-le k (set l k x) (omega (arith, length-set l k x)) in
    let q : drop k (set l k x) ≡ x ∷ [] =
    drop_set l k x (omega arith) ∙ ap (λ (t : List ℕ). x ∷ t) (drop_of_length-le l {i = k + 1} (omega arith)) in
    let h : n < 10 ^ suc k = rw w r.below in
    rw (e, q, p, d) (subst (λ (v : ℕ). lead false k (n / 10) ++ (digit n ∷ []) ≡ right v (digits v n)) w (lead_right false k k n h (omega arith) (rw (sub-zero (suc k)) h)))

-- digits in the last columns, the point, a digit, and the others before them
pub decimal_put : (m : Bool) (w d n q j : ℕ) → HasRoom m n d w → q ≡ n / 10 ^ d → j + d + 2 ≡ w
    → lead m j (q / 10) ++ (digit q ∷ (46 ∷ fixed d n)) ≡ right w (sign m ++ plain w d n)
unfolding plain
decimal_put m w d n q j r e l =
    let s : ℕ = length (sign m) in
    let f : ℕ = w - 1 in
    let wide : suc f ≡ w = omega arith in
    let room : s + d + 2 ≤ w = r.decimals in
    let b : w - (s + 1) - d ≡ suc j - s = omega arith in
    let h : q < 10 ^ (suc j - s) = rw (e, ← b) (few m n d w r) in
    let g : q < 10 ^ suc f = omega (arith, power (suc j - s) (suc f) (omega arith)) in
    let c : suc j + length (46 ∷ fixed d n) ≡ w = omega (arith, fixed_length d n) in
    let p : lead m j (q / 10) ++ (digit q ∷ []) ≡ right (suc j) (sign m ++ digits w q) =
    subst (λ (v : ℕ). lead m j (q / 10) ++ (digit q ∷ []) ≡ right (suc j) (sign m ++ digits v q)) wide (lead_right m f j q g (omega arith) h) in
    sym (append_assoc (lead m j (q / 10)) (digit q ∷ []) (46 ∷ fixed d n))
    ∙ (ap (λ (x : List ℕ). x ++ (46 ∷ fixed d n)) p
    ∙ (right_append (suc j) (sign m ++ digits w q) (46 ∷ fixed d n)
    ∙ (ap (λ (v : ℕ). right v ((sign m ++ digits w q) ++ (46 ∷ fixed d n))) c
    ∙ (ap (right w) (append_assoc (sign m) (digits w q) (46 ∷ fixed d n)) ∙ ap (λ (v : ℕ). right w (sign m ++ (digits w v ++ (46 ∷ fixed d n)))) e))))

-- the same, as the columns come to it: ys in those behind the point, zs in those before the last digit before it
pub decimal_lent : (m : Bool) (l ys zs : List ℕ) (d n q x p : ℕ) → HasRoom m n d (length l) → p + 1 + d ≡ length l → q ≡ n / 10 ^ d → x ≡ digit q
    → ys ≡ fixed d n
    → zs ≡ lead m (p - 1) (q / 10)
    → zs ++ drop (p - 1) (set (set (take (p + 1) l ++ (ys ++ drop (length l - (p + 1)) (drop (p + 1) l))) p 46) (p - 1) x) ≡ right (length l) (sign m ++ plain (length l) d n)
decimal_lent m l ys zs d n q x p r w e f y z =
    let room : length (sign m) + d + 2 ≤ length l = r.decimals in
    let after : List ℕ = take (p + 1) l ++ (ys ++ drop (length l - (p + 1)) (drop (p + 1) l)) in
    let k : length after ≡ length l = length_lent l ys (p + 1) (omega arith) (ap length y ∙ omega (arith, fixed_length d n)) in
    let j : p - 1 + 1 ≡ p = omega arith in
    let u : drop (p - 1) (set (set after p 46) (p - 1) x) ≡ x ∷ drop (p - 1 + 1) (set after p 46) = drop_set (set after p 46) (p - 1) x (omega (arith, length-set after p 46)) in
    let v : drop p (set after p 46) ≡ 46 ∷ drop (p + 1) after = drop_set after p 46 (omega arith) in
    rw (u, j, v, drop_lent l ys (p + 1) (omega arith), z, y, f) (decimal_put m (length l) d n q (p - 1) r e (omega arith))
