-- The promises of finding a line settle the answer: one at most meets each, and one does. Assumes nothing.
use Prim.Native.Nat.{ℕ, suc, ◌+◌, ◌-◌, ◌≤◌, ◌<◌}
use mathlib.Core.Path.{◌≡◌, refl, sym, ap, ◌∙◌}
use mathlib.Core.Bool.{Bool, true, false, true≢false}
use mathlib.Core.List.{List, [], ◌∷◌}
use native.Mathlib.Omega.{arith}
use lib.Dec.{eqb, leb}
use lib.ListN.{length, get_or, take, drop, length-drop}
use lib.Seq.{get_or-take, get_or-drop}
use borrow.Author.Tests.{leb-true, leb-false, eqb-true, eqb-false}
use Rattle.lists.proofs.Lists.{cons_same, cons_nil}
use Rattle.lists.proofs.Every.{every_at, every_cons}
use Rattle.line.specs.Text.{widest, is_plain, are_plain, Line, Raw, split}
use Rattle.find_line.specs.Promises.{between, PlainEnd, LineEnds, Fault, Finds}
use Rattle.find_line.specs.declared.Found.{Found}
use Rattle.find_line.specs.declared.Found.TheVariants.{Over, Faulty, Long, Ends}
use Rattle.find_line.proofs.Finding.{between_none, length_between, over_line, first_line, faulty_line}

-- Two answers are one
module _ (t : List ℕ) (a : ℕ) where
  first_one : (e f : ℕ) → LineEnds t a e → LineEnds t a f → e ≡ f
  first_one e f p q =
      let s : between a e t ≡ between a f t = ap (λ (r : Raw). r.bytes) (cons_same (sym p.lines ∙ q.lines)).0 in
      let u : length (between a e t) ≡ length (between a f t) = ap length s in
      omega (arith, length_between t a e p.from (omega (arith, p.within)), length_between t a f q.from (omega (arith, q.within)), p.from, q.from)

  over_first : (e : ℕ) → split (drop a t) ≡ [] → LineEnds t a e → ⊥
  over_first e o p = cons_nil _ _ (sym p.lines ∙ o)

  over_fault : split (drop a t) ≡ [] → Fault t a → ⊥
  over_fault o p = cons_nil _ _ (sym p.lines ∙ o)

  first_fault : (e : ℕ) → LineEnds t a e → are_plain (between a e t) ≡ true → Fault t a → ⊥
  first_fault e p h q =
      let s = (cons_same (sym q.lines ∙ p.lines)).0 in
      let b : q.line.bytes ≡ between a e t = ap (λ (r : Raw). r.bytes) s in
      let d : q.line.ended ≡ true = ap (λ (r : Raw). r.ended) s in
      true≢false (sym q.fault ∙ rw (b, d, h))

  long_ends : (e f : ℕ) → LineEnds t a e → widest < length (between a e t) → LineEnds t a f → Line (between a f t) → ⊥
  long_ends e f p w q l = let s : length (between a e t) ≡ length (between a f t) = ap (λ (n : ℕ). length (between a n t)) (first_one e f p q) in omega (arith, l.width)

  pub finds_one : (r s : Found) → Finds t a r → Finds t a s → r ≡ s
  finds_one Over Over p q = refl
  finds_one Over Faulty p q = absurd (over_fault p q)
  finds_one Over (Long f) p q = absurd (over_first f p q.0)
  finds_one Over (Ends f) p q = absurd (over_first f p q.0)
  finds_one Faulty Over p q = absurd (over_fault q p)
  finds_one Faulty Faulty p q = refl
  finds_one Faulty (Long f) p q = absurd (first_fault f q.0 q.1 p)
  finds_one Faulty (Ends f) p q = absurd (first_fault f q.0 q.1.plain p)
  finds_one (Long e) Over p q = absurd (over_first e q p.0)
  finds_one (Long e) Faulty p q = absurd (first_fault e p.0 p.1 q)
  finds_one (Long e) (Long f) p q = ap Long (first_one e f p.0 q.0)
  finds_one (Long e) (Ends f) p q = absurd (long_ends e f p.0 p.2 q.0 q.1)
  finds_one (Ends e) Over p q = absurd (over_first e q p.0)
  finds_one (Ends e) Faulty p q = absurd (first_fault e p.0 p.1.plain q)
  finds_one (Ends e) (Long f) p q = absurd (long_ends f e q.0 q.2 p.0 p.1)
  finds_one (Ends e) (Ends f) p q = ap Ends (first_one e f p.0 q.0)

  -- a byte that stops one is passed by no other
  sooner : (r s : ℕ) → PlainEnd t a r → PlainEnd t a s → a ≤ r → r < s → ⊥
  sooner r s p q h k =
      let n : r - a < s - a = omega arith in
      let m : a + (r - a) ≡ r = omega arith in
      let w : s ≤ length t = q.within in
      let i : r - a < length (between a s t) = omega (arith, length_between t a s (omega arith) w) in
      let u : get_or (between a s t) (r - a) 0 ≡ get_or t r 0 = get_or-take (s - a) (drop a t) (r - a) 0 n ∙ (get_or-drop a t (r - a) 0 ∙ rw m) in
      true≢false (sym (rw u at (every_at is_plain (between a s t) (r - a) 0 q.plain i)) ∙ p.stop (omega arith))

  pub plain_end_one : (r s : ℕ) → PlainEnd t a r → PlainEnd t a s → r ≡ s
  plain_end_one r s p q = at (leb (length t) a) (leb r s) (leb s r) refl refl refl
    where
      at : (b c d : Bool) → leb (length t) a ≡ b → leb r s ≡ c → leb s r ≡ d → r ≡ s
      at true c d e f g = let h : length t ≤ a = leb-true (length t) a e in p.over h ∙ sym (q.over h)
      at false true true e f g = omega (arith, leb-true r s f, leb-true s r g)
      at false true false e f g = absurd (sooner r s p q (p.from (omega (arith, leb-false (length t) a e))) (leb-false s r g))
      at false false d e f g = absurd (sooner s r q p (q.from (omega (arith, leb-false (length t) a e))) (leb-false r s f))

-- There is one
record Run (s : List ℕ) : Type 0 where
  n : ℕ
  within : n ≤ length s
  plain : are_plain (take n s) ≡ true
  stop : n < length s → is_plain (get_or s n 0) ≡ false

run : (s : List ℕ) → Run s
run [] = record { n = 0; within = omega arith; plain = refl; stop = λ h. absurd (omega arith) }
run (b ∷ s) = go (is_plain b) refl (run s)
  where
    go : (c : Bool) → is_plain b ≡ c → Run s → Run (b ∷ s)
    go true e r =
        let k : r.n ≤ length s = r.within in
        record { n = suc r.n; within = omega arith; plain = every_cons is_plain b (take r.n s) e r.plain; stop = λ h. r.stop (omega arith) }
    go false e r = record { n = 0; within = omega arith; plain = refl; stop = λ h. e }

plain_end_met : (t : List ℕ) (a : ℕ) → (r : ℕ) × PlainEnd t a r
plain_end_met t a = at (leb a (length t)) refl (run (drop a t))
  where
    at : (c : Bool) → leb a (length t) ≡ c → Run (drop a t) → (r : ℕ) × PlainEnd t a r
    at true e w =
        let h : a ≤ length t = leb-true a (length t) e in
        let l : length (drop a t) ≡ length t - a = length-drop a t in
        let k : w.n ≤ length (drop a t) = w.within in
        let m : a + w.n - a ≡ w.n = omega arith in (
          a + w.n,
          record {
            from = λ u. omega arith;
            over = λ u. omega arith;
            within = omega arith;
            plain = rw m w.plain;
            stop = λ u. sym (ap is_plain (get_or-drop a t w.n 0)) ∙ w.stop (omega arith);
          },
        )
    at false e w =
        let h : length t < a = leb-false a (length t) e in (
          length t,
          record {
            from = λ u. absurd (omega arith);
            over = λ u. refl;
            within = omega arith;
            plain = rw (between_none t a (length t) (omega arith));
            stop = λ u. absurd (omega arith);
          },
        )

-- where the line ends
ends : (t : List ℕ) (a e : ℕ) → PlainEnd t a e → a < length t → e < length t → get_or t e 0 ≡ 10 → (r : Found) × Finds t a r
ends t a e p h k x = at (leb (e - a) widest) refl
  where
    f : LineEnds t a e
    f = first_line t a e p (omega arith) k x

    l : length (between a e t) ≡ e - a
    l = length_between t a e f.from (omega arith)

    at : (c : Bool) → leb (e - a) widest ≡ c → (r : Found) × Finds t a r
    at true u = (Ends e, (f, record { plain = p.plain; width = omega (arith, l, leb-true (e - a) widest u) }))
    at false u = (Long e, (f, p.plain, omega (arith, l, leb-false (e - a) widest u)))

pub finds_met : (t : List ℕ) (a : ℕ) → (r : Found) × Finds t a r
finds_met t a = at (leb (length t) a) refl (plain_end_met t a)
  where
    on : (e : ℕ) → PlainEnd t a e → a < length t → (c d : Bool) → leb (length t) e ≡ c → eqb (get_or t e 0) 10 ≡ d → (r : Found) × Finds t a r
    on e p h true d u v = (Faulty, faulty_line t a e p h (λ k x. omega (arith, leb-true (length t) e u)))
    on e p h false true u v = ends t a e p h (leb-false (length t) e u) (eqb-true (get_or t e 0) 10 v)
    on e p h false false u v = (Faulty, faulty_line t a e p h (λ k. eqb-false (get_or t e 0) 10 v))

    at : (c : Bool) → leb (length t) a ≡ c → (e : ℕ) × PlainEnd t a e → (r : Found) × Finds t a r
    at true u w = (Over, over_line t a (leb-true (length t) a u))
    at false u w = on w.0 w.1 (leb-false (length t) a u) (leb (length t) w.0) (eqb (get_or t w.0 0) 10) refl refl
