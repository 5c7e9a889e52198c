-- Satellites told apart by a mark for each. Assumes nothing.
use Prim.Native.Nat.{ℕ, ◌+◌, ◌≤◌, ◌<◌}
use mathlib.Core.Path.{◌≡◌, refl, sym, ap, ◌∙◌, subst}
use mathlib.Core.Bool.{Bool, true, false, not, ◌&&◌, ◌||◌}
use mathlib.Core.List.{List, [], ◌∷◌, ◌++◌}
use native.Mathlib.Omega.{arith}
use borrow.Author.Tests.{eqb-true, eqb-false, lt-ltb, le-ltb}
use lib.Dec.{eqb, ltb}
use lib.ListN.{length, get_or, set, replicate, take, drop, drop_of_length-le, length-set, length-replicate, get_or-replicate}
use lib.Seq.{get_or-set_same, get_or-set_other}
use Rattle.lists.specs.Lists.{is_in, fresh, every}
use Rattle.lists.proofs.Bools.{both, or_false}
use Rattle.fits_values.specs.Apart.{apart}
use Rattle.lists.proofs.Chain.{stop, after}
use Rattle.lists.proofs.Parts.{next}
use Rattle.fits_values.proofs.Listed.{take_more}
use Rattle.lists.proofs.Lists.{in_more}

-- each satellite that stands there has its mark, and no other
pub record Marked (seen : List Bool) (there : List ℕ) : Type 0 where
  pub size : length seen ≡ 700
  pub marks : (x : ℕ) → x < 700 → get_or seen x false ≡ is_in eqb x there

pub none_marked : Marked (replicate 700 false) []
none_marked = record { size = length-replicate {A = Bool} 700 false; marks = λ x h. get_or-replicate {A = Bool} 700 x false false h }

or_true : (b : Bool) → (b || true) ≡ true
or_true true = refl
or_true false = refl

pub one_marked : (seen : List Bool) (there : List ℕ) (s : ℕ) → s < 700 → Marked seen there → Marked (set seen s true) (there ++ (s ∷ []))
one_marked seen there s h m = record { size = length-set seen s true ∙ m.size; marks = λ x k. at x k (eqb x s) refl }
  where
    at : (x : ℕ) → x < 700 → (b : Bool) → eqb x s ≡ b → get_or (set seen s true) x false ≡ is_in eqb x (there ++ (s ∷ []))
    at x k true e =
        let d : x ≡ s = eqb-true x s e in
        ap (λ (y : ℕ). get_or (set seen s true) y false) d ∙ get_or-set_same seen s true false (omega (arith, m.size))
        ∙ sym (in_more x s there ∙ (ap (λ (b : Bool). is_in eqb x there || b) e ∙ or_true (is_in eqb x there)))
    at x k false e =
        get_or-set_other seen s x true false (eqb-false x s e)
        ∙ (m.marks x k ∙ sym (in_more x s there ∙ (ap (λ (b : Bool). is_in eqb x there || b) e ∙ or_false (is_in eqb x there))))

-- a turn of the loop, at place i
module _ (t : List ℕ) (i : ℕ) (h : i < length t) where
  apart_next : (before : List ℕ) → apart before (drop i t) ≡ (ltb (get_or t i 0) 700 && (not (is_in eqb (get_or t i 0) before) && apart (before ++ (get_or t i 0 ∷ [])) (drop (i + 1) t)))
  unfolding apart
  apart_next before = ap (apart before) (next t i h)

  pub apart_high : 700 ≤ get_or t i 0 → apart (take i t) (drop i t) ≡ false
  apart_high e = apart_next (take i t) ∙ sym (stop _ (le-ltb (get_or t i 0) 700 e))

  module _ (seen : List Bool) (k : Marked seen (take i t)) (l : get_or t i 0 < 700) where
    pub apart_stop : get_or seen (get_or t i 0) false ≡ true → apart (take i t) (drop i t) ≡ false
    apart_stop e = apart_next (take i t) ∙ sym (after (lt-ltb (get_or t i 0) 700 l) (stop _ (ap not (sym (k.marks (get_or t i 0) l) ∙ e))))

    pub apart_more : get_or seen (get_or t i 0) false ≡ false → apart (take i t) (drop i t) ≡ apart (take (i + 1) t) (drop (i + 1) t)
    apart_more e =
        apart_next (take i t)
        ∙ (sym (after (lt-ltb (get_or t i 0) 700 l) (after (ap not (sym (k.marks (get_or t i 0) l) ∙ e)) refl))
        ∙ ap (λ (before : List ℕ). apart before (drop (i + 1) t)) (sym (take_more t i h)))

    pub marked_more : Marked (set seen (get_or t i 0) true) (take (i + 1) t)
    marked_more = subst (Marked (set seen (get_or t i 0) true)) (sym (take_more t i h)) (one_marked seen (take i t) (get_or t i 0) l k)

pub apart_over : (t : List ℕ) (i : ℕ) → length t ≤ i → (before : List ℕ) → apart before (drop i t) ≡ true
unfolding apart
apart_over t i h before = ap (apart before) (drop_of_length-le t h)

-- where all are below 700
pub apart_fresh : (l before : List ℕ) → every (λ s. ltb s 700) l ≡ true → apart before l ≡ fresh eqb before l
unfolding apart
apart_fresh [] before e = refl
apart_fresh (s ∷ l) before e =
    let p = both (ltb s 700) (every (λ s. ltb s 700) l) e in
    sym (after p.0 refl) ∙ ap (λ (b : Bool). not (is_in eqb s before) && b) (apart_fresh l (before ++ (s ∷ [])) p.1)
