-- The lists of codes, as the code walks them. Assumes nothing.
use Prim.Native.Nat.{ℕ, suc, ◌+◌, ◌-◌, ◌*◌, ◌≤◌, ◌<◌}
use mathlib.Core.Path.{◌≡◌, refl, sym, ap, ◌∙◌}
use mathlib.Core.Bool.{true, false, not, ◌&&◌}
use mathlib.Core.List.{List, [], ◌∷◌, ◌++◌}
use native.Mathlib.Omega.{arith}
use borrow.Author.Tests.{eq-eqb, ne_eqb, le-leb, lt-leb}
use lib.Dec.{eqb}
use lib.ListN.{length, get_or, take, drop, drop_of_length-le}
use lib.Seq.{take-suc}
use Rattle.lists.specs.Lists.{is_in, fresh}
use Rattle.lists.proofs.Parts.{next}
use Rattle.rinex.specs.Codes.{is_taken, allows}
use Rattle.rinex.specs.Fit.{part, unpacked, are_taken, list_fits, lists_fit}
use Rattle.lists.proofs.Chain.{stop, after, first_way, other_way}
use Rattle.rinex.proofs.LentLists.{lists_next}

-- a part that ends at a place begins with its first entry
module _ (t : List ℕ) (i to : ℕ) (h : i < to) (m : to ≤ length t) where
  pub part_next : part t i (to - i) ≡ get_or t i 0 ∷ part t (i + 1) (to - (i + 1))
  part_next =
      let e : to - i ≡ suc (to - (i + 1)) = omega arith in
      let u : i < length t = omega arith in
      rw (e, next t i u)

-- a turn of the loops, at place i
module _ (t : List ℕ) (i : ℕ) (h : i < length t) where
  pub take_more : take (i + 1) t ≡ take i t ++ (get_or t i 0 ∷ [])
  take_more = let n : i + 1 ≡ suc i = omega arith in rw (n, take-suc t i 0 h)

  module _ (s : ℕ) where
    taken_next : are_taken s (drop i t) ≡ (is_taken s (unpacked (get_or t i 0)) && are_taken s (drop (i + 1) t))
    unfolding are_taken
    taken_next = ap (are_taken s) (next t i h)

    pub taken_stop : is_taken s (unpacked (get_or t i 0)) ≡ false → are_taken s (drop i t) ≡ false
    taken_stop e = taken_next ∙ sym (stop _ e)

    pub taken_more : is_taken s (unpacked (get_or t i 0)) ≡ true → are_taken s (drop i t) ≡ are_taken s (drop (i + 1) t)
    taken_more e = taken_next ∙ sym (after e refl)

  pub fresh_stop : is_in eqb (get_or t i 0) (take i t) ≡ true → fresh eqb (take i t) (drop i t) ≡ false
  fresh_stop e = ap (fresh eqb (take i t)) (next t i h) ∙ rw e

  pub fresh_more : is_in eqb (get_or t i 0) (take i t) ≡ false → fresh eqb (take i t) (drop i t) ≡ fresh eqb (take (i + 1) t) (drop (i + 1) t)
  fresh_more e =
      ap (fresh eqb (take i t)) (next t i h)
      ∙ (sym (after (ap not e) refl) ∙ ap (λ (seen : List ℕ). fresh eqb seen (drop (i + 1) t)) (sym take_more))

module _ (t : List ℕ) (i : ℕ) (h : length t ≤ i) where
  pub taken_over : (s : ℕ) → are_taken s (drop i t) ≡ true
  unfolding are_taken
  taken_over s = ap (are_taken s) (drop_of_length-le t h)

-- one list
module _ (letter : ℕ) (codes : List ℕ) (s n : ℕ) where
  pub no_list : n ≡ 0 → true ≡ list_fits letter codes s n
  unfolding list_fits
  no_list e = first_way _ (eq-eqb n 0 e)

  module _ (z : n ≡ 0 → ⊥) where
    pub many_codes : 64 < n → false ≡ list_fits letter codes s n
    unfolding list_fits
    many_codes e = other_way (ne_eqb n 0 z) (stop _ (lt-leb n 64 e))

    module _ (a : n ≤ 64) where
      pub not_allowed : allows letter s ≡ false → false ≡ list_fits letter codes s n
      unfolding list_fits
      not_allowed e = other_way (ne_eqb n 0 z) (after (le-leb n 64 a) (stop _ e))

      module _ (b : allows letter s ≡ true) where
        pub no_room : length codes < 64 * s + n → false ≡ list_fits letter codes s n
        unfolding list_fits
        no_room e = other_way (ne_eqb n 0 z) (after (le-leb n 64 a) (after b (stop _ (lt-leb (64 * s + n) (length codes) e))))

        module _ (c : 64 * s + n ≤ length codes) where
          behind : part codes (64 * s) (64 * s + n - 64 * s) ≡ part codes (64 * s) n
          behind = let e : 64 * s + n - 64 * s ≡ n = omega arith in rw e

          pub not_taken : are_taken s (part codes (64 * s) (64 * s + n - 64 * s)) ≡ false → false ≡ list_fits letter codes s n
          unfolding list_fits
          not_taken e =
              other_way (ne_eqb n 0 z) (after (le-leb n 64 a) (after b (after (le-leb (64 * s + n) (length codes) c) (stop _ (ap (are_taken s) (sym behind) ∙ e)))))

          pub list_is : are_taken s (part codes (64 * s) (64 * s + n - 64 * s)) ≡ true → fresh eqb [] (part codes (64 * s) (64 * s + n - 64 * s)) ≡ list_fits letter codes s n
          unfolding list_fits
          list_is e =
              other_way (ne_eqb n 0 z) (after (le-leb n 64 a) (after b (after (le-leb (64 * s + n) (length codes) c)
              (after (ap (are_taken s) (sym behind) ∙ e) (ap (fresh eqb []) behind)))))

-- all lists
module _ (letter : ℕ) (codes lengths : List ℕ) (s : ℕ) where
  pub lists_stop : s < length lengths → list_fits letter codes s (get_or lengths s 0) ≡ false → lists_fit letter codes s (drop s lengths) ≡ false
  lists_stop h e = lists_next letter codes lengths s h ∙ sym (stop _ e)

  pub lists_more : s < length lengths → list_fits letter codes s (get_or lengths s 0) ≡ true
      → lists_fit letter codes s (drop s lengths) ≡ lists_fit letter codes (s + 1) (drop (s + 1) lengths)
  lists_more h e = lists_next letter codes lengths s h ∙ sym (after e refl)

  pub lists_over : length lengths ≤ s → lists_fit letter codes s (drop s lengths) ≡ true
  unfolding lists_fit
  lists_over h = ap (lists_fit letter codes s) (drop_of_length-le lengths h)
