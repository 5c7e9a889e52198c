-- The lines of a list, 13 codes each, and of the lists that are left. Assumes nothing.
use Prim.Native.Nat.{ℕ, zero, suc, min, ◌+◌, ◌-◌, ◌*◌, ◌≤◌, ◌<◌}
use mathlib.Core.Path.{◌≡◌, refl, sym, ap, ◌∙◌, subst}
use mathlib.Core.Bool.{true}
use mathlib.Core.List.{List, [], ◌∷◌, ◌++◌, map}
use native.Mathlib.Nat.{zero-min, min-zero, suc-min-suc, sub-zero, suc-sub-suc, add-zero}
use native.Mathlib.Omega.{arith}
use lib.ListN.{length, get_or, take, drop, length-map, length-take, length-drop, drop_of_length-le}
use lib.Seq.{length-take-le, take-nil, drop-drop}
use Rattle.lists.proofs.Bools.{both}
use Rattle.lists.proofs.Parts.{next}
use Rattle.lists.specs.Blank.{blanks}
use Rattle.write_field.specs.Normal.{whole}
use Rattle.line.specs.Text.{cut}
use Rattle.rinex.specs.Codes.{letter_of}
use Rattle.rinex.specs.Fit.{part, unpacked, list_fits, lists_fit}
use Rattle.rinex.specs.Held.{lists_at}
use Rattle.rinex.specs.Tests.{in_line}
use Rattle.rinex.specs.Normal.{line, list_line, next_line, next_lines_of, list_lines, all_lists}
use Rattle.spell_header.specs.Codes.{codes_text, CodesLie}
use Rattle.write_header.proofs.FitCodes.{codes_lie}
use Rattle.spell_header.specs.Wide.{wide}
use Rattle.rinex.proofs.LentLists.{list_fit, lists_next}
use Rattle.write_header.proofs.Ahead.{Ahead, begun, seen}

-- the first k of n, and those behind them
front : {A B : Type 0} (f : A → B) (k n : ℕ) (l : List A) → take k (map f (take n l)) ≡ map f (take (min k n) l)
front f zero n l = rw (zero-min n)
front f (suc k) zero l = rw (min-zero (suc k))
front f (suc k) (suc n) [] = rw (suc-min-suc k n)
front {B = B} f (suc k) (suc n) (x ∷ l) = rw (suc-min-suc k n) (ap (λ (r : List B). f x ∷ r) (front f k n l))

behind : {A B : Type 0} (f : A → B) (k n : ℕ) (l : List A) → drop k (map f (take n l)) ≡ map f (take (n - min k n) (drop (min k n) l))
behind f zero n l = rw (zero-min n, sub-zero n)
behind f (suc k) zero l = rw (min-zero (suc k))
behind {A = A} f (suc k) (suc n) [] = rw (suc-min-suc k n, take-nil {A = A})
behind f (suc k) (suc n) (x ∷ l) = rw (suc-min-suc k n, suc-sub-suc n (min k n)) (behind f k n l)

-- any bound that is not below their number gives the same lines
next_same : (k m : ℕ) (cs : List (List ℕ)) → length cs ≤ k → length cs ≤ m → next_lines_of k cs ≡ next_lines_of m cs
unfolding next_lines_of
next_same zero zero cs h j = refl
next_same zero (suc m) [] h j = refl
next_same zero (suc m) (c ∷ cs) h j = absurd (omega arith)
next_same (suc k) zero [] h j = refl
next_same (suc k) zero (c ∷ cs) h j = absurd (omega arith)
next_same (suc k) (suc m) [] h j = refl
next_same (suc k) (suc m) (c ∷ cs) h j =
    let d : length (drop 12 cs) ≡ length cs - 12 = length-drop 12 cs in
    ap (λ (r : List (List ℕ)). next_line (take 13 (c ∷ cs)) ∷ r) (next_same k m (drop 12 cs) (omega arith) (omega arith))

-- a line and those behind it
next_step : (n : ℕ) (cs : List (List ℕ)) → 0 < length cs → length cs ≤ n → next_lines_of n cs ≡ next_line (take 13 cs) ∷ next_lines_of n (drop 13 cs)
unfolding next_lines_of
next_step n [] h j = absurd (omega arith)
next_step zero (c ∷ cs) h j = absurd (omega arith)
next_step (suc n) (c ∷ cs) h j =
    let d : length (drop 12 cs) ≡ length cs - 12 = length-drop 12 cs in
    ap (λ (r : List (List ℕ)). next_line (take 13 (c ∷ cs)) ∷ r) (next_same n (suc n) (drop 12 cs) (omega arith) (omega arith))

list_step : (s : ℕ) (cs : List (List ℕ)) → 0 < length cs → list_lines s cs ≡ list_line s (length cs) (take 13 cs) ∷ next_lines_of (length cs) (drop 13 cs)
unfolding list_lines
list_step s [] h = absurd (omega arith)
list_step s (c ∷ cs) h = refl

-- m codes from place i on
abbrev pub codes_of : List ℕ → ℕ → ℕ → List (List ℕ)
codes_of codes i m = map unpacked (part codes i m)

module _ (codes : List ℕ) (i m : ℕ) where
  codes_long : i + m ≤ length codes → length (codes_of codes i m) ≡ m
  codes_long h = length-map (part codes i m) unpacked ∙ length-take-le m (drop i codes) (omega (arith, length-drop i codes))

  codes_behind : drop 13 (codes_of codes i m) ≡ codes_of codes (i + in_line m) (m - in_line m)
  codes_behind = behind unpacked 13 m (drop i codes) ∙ rw (drop-drop (in_line m) i codes)

-- the lines of a list, the first and the next, as they are spelled
abbrev pub first_of : ℕ → ℕ → List ℕ → List ℕ
first_of s n ks = wide (letter_of s ∷ (blanks 2 ++ (whole 3 n ++ codes_text ks))) "SYS / # / OBS TYPES"

abbrev pub next_of : List ℕ → List ℕ
next_of ks = wide (blanks 6 ++ codes_text ks) "SYS / # / OBS TYPES"

pub next_lines : (codes : List ℕ) (n i m k : ℕ) → 0 < m → m ≤ n → i + m ≤ length codes → k ≡ in_line m
    → next_lines_of n (codes_of codes i m) ≡ cut (next_of (part codes i k)) ∷ next_lines_of n (codes_of codes (i + k) (m - k))
unfolding next_line line
next_lines codes n i m k z b h e =
    let l : length (codes_of codes i m) ≡ m = codes_long codes i m h in
    next_step n (codes_of codes i m) (omega arith) (omega arith) ∙ rw (front unpacked 13 m (drop i codes), codes_behind codes i m, e)

first_lines : (codes : List ℕ) (s n k : ℕ) → 0 < n → 64 * s + n ≤ length codes → k ≡ in_line n
    → list_lines s (codes_of codes (64 * s) n) ≡ cut (first_of s n (part codes (64 * s) k)) ∷ next_lines_of n (codes_of codes (64 * s + k) (n - k))
unfolding list_line line
first_lines codes s n k z h e =
    let l : length (codes_of codes (64 * s) n) ≡ n = codes_long codes (64 * s) n h in
    list_step s (codes_of codes (64 * s) n) (omega arith) ∙ rw (l, front unpacked 13 n (drop (64 * s) codes), codes_behind codes (64 * s) n, e)

-- no lines
pub next_over : (codes : List ℕ) (n i m : ℕ) → m ≡ 0 → next_lines_of n (codes_of codes i m) ≡ []
unfolding next_lines_of
next_over codes zero i m e = refl
next_over codes (suc n) i m e = rw e

pub no_list : (codes : List ℕ) (s n : ℕ) → n ≡ 0 → list_lines s (codes_of codes (64 * s) n) ≡ []
unfolding list_lines
no_list codes s n e = rw e

-- what a list that fits gives, where it is not empty
pub record Listed (codes : List ℕ) (s n : ℕ) : Type 0 where
  pub filled : 0 < n
  pub few : n ≤ 64
  pub within : 64 * s + n ≤ length codes
  pub first_lie : (k : ℕ) → k ≤ n → CodesLie (part codes (64 * s) k)
  pub lie : (i k : ℕ) → i + k ≤ n → CodesLie (part codes (64 * s + i) k)

pub listed : (letter : ℕ) (codes : List ℕ) (s n : ℕ) → list_fits letter codes s n ≡ true → (n ≡ 0 → ⊥) → Listed codes s n
listed letter codes s n h z =
    let f = list_fit letter codes s n h z in
    let l : (i k : ℕ) → i + k ≤ n → CodesLie (part codes (64 * s + i) k) = λ i k m. codes_lie s codes (64 * s) n i k f.taken f.within m in
    record {
      filled = omega arith;
      few = f.few;
      within = f.within;
      first_lie = λ k m. subst (λ (x : ℕ). CodesLie (part codes x k)) (add-zero (64 * s)) (l 0 k (omega arith));
      lie = l;
    }

-- the lines that are ahead, where the next was spelled as l
module _ (codes l out out₀ : List ℕ) (s n k to at : ℕ) (f : Listed codes s n) where
  pub first_ahead : (x : ℕ) → x ≡ k → k ≡ in_line n → l ≡ first_of s n (part codes (64 * s) x)
      → Ahead out at (cut l ∷ next_lines_of n (codes_of codes (64 * s + k) (n - k))) out at (list_lines s (codes_of codes (64 * s) n))
  first_ahead x q e w = seen _ (first_lines codes s n k f.filled f.within e ∙ rw (w, q)) (begun out at _)

  pub next_ahead : (x d : ℕ) (ks : List (List ℕ)) → x ≡ k → d < n → k ≡ in_line (n - d) → l ≡ next_of (part codes (64 * s + d) x)
      → Ahead out to (next_lines_of n (codes_of codes (64 * s + d) (n - d))) out₀ at ks
      → Ahead out to (cut l ∷ next_lines_of n (codes_of codes (64 * s + (d + k)) (n - (d + k)))) out₀ at ks
  next_ahead x d ks q z e w a =
      let i : 64 * s + d + k ≡ 64 * s + (d + k) = omega arith in
      let m : n - d - k ≡ n - (d + k) = omega arith in
      let h : 64 * s + n ≤ length codes = f.within in
      seen _ (next_lines codes n (64 * s + d) (n - d) k (omega arith) (omega arith) (omega arith) e ∙ rw (w, q, i, m)) a

-- a line's codes are no more than it takes
pub part_few : (codes : List ℕ) (p k most : ℕ) → k ≤ most → length (part codes p k) ≤ most
part_few codes p k most h = omega (arith, length-take k (drop p codes))

-- the list of system s, and those of the systems from s on
abbrev pub list_of : ℕ → (lengths codes : List ℕ) → List (List ℕ)
list_of s lengths codes = list_lines s (codes_of codes (64 * s) (get_or lengths s 0))

abbrev pub lists_from : ℕ → (lengths codes : List ℕ) → List (List ℕ)
lists_from s lengths codes = all_lists s (lists_at s (drop s lengths) codes)

module _ (lengths codes : List ℕ) (s : ℕ) where
  pub lists_split : s < length lengths → lists_from s lengths codes ≡ list_of s lengths codes ++ lists_from (s + 1) lengths codes
  unfolding all_lists lists_at
  lists_split h = rw (next lengths s h)

  pub lists_done : length lengths ≤ s → lists_from s lengths codes ≡ []
  unfolding all_lists lists_at
  lists_done h = rw (drop_of_length-le lengths h)

  pub lists_fit_lem : (letter : ℕ) → s < length lengths → lists_fit letter codes s (drop s lengths) ≡ true
      → (list_fits letter codes s (get_or lengths s 0) ≡ true) × (lists_fit letter codes (s + 1) (drop (s + 1) lengths) ≡ true)
  lists_fit_lem letter h e = both _ _ (sym (lists_next letter codes lengths s h) ∙ e)
