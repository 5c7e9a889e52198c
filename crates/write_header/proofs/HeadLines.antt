-- The lines of the header as they are put, and what a head that fits gives. Assumes nothing.
use Prim.Native.Nat.{ℕ, zero, suc, ◌<◌}
use mathlib.Core.Path.{◌≡◌, sym, ap, ◌∙◌, subst}
use mathlib.Core.Bool.{true, ◌&&◌}
use mathlib.Core.List.{List, [], ◌∷◌, ◌++◌, append_assoc}
use Rattle.std.specs.Prelude.{Option, None, Some}
use native.Mathlib.Omega.{arith}
use borrow.Author.Rules.{rules}
use borrow.Author.Tests.{ltb-true}
use lib.Dec.{eqb, leb, ltb}
use lib.IntN.{pos}
use lib.ListN.{length, take}
use Rattle.lists.specs.Lists.{bytes, sum}
use Rattle.lists.proofs.Bools.{both}
use Rattle.write_field.specs.Normal.{decimal, decimal_fits}
use Rattle.moment.specs.Found.{date_at}
use Rattle.line.specs.Text.{Raw, cut}
use Rattle.rinex.specs.Codes.{is_file_letter}
use Rattle.rinex.specs.Tables.{FlatHead}
use Rattle.rinex.specs.Fit.{is_time, head_fits, lists_fit, all_lists_fit}
use Rattle.rinex.specs.Held.{optional, bytes_of, lists_at, head_at}
use Rattle.rinex.specs.Normal.{line, version_line_of, all_lists, first_body, first_line_of, interval_lines, head_lines}
use Rattle.columns.specs.Given.{FitsIf}
use Rattle.columns.proofs.States.{state_fits_lem}
use Rattle.spell_header.specs.Wide.{wide}
use Rattle.write_header.specs.Heading.{top_lines}
use Rattle.write_header.proofs.Ahead.{Ahead, begun, seen}

-- lines that were spelled as l
pub version_is : (letter : ℕ) (l : List ℕ) → l ≡ wide (bytes "     3.03           OBSERVATION DATA    " ++ (letter ∷ [])) "RINEX VERSION / TYPE" → version_line_of letter ≡ cut l
unfolding version_line_of line
version_is letter l e = ap cut (sym e)

pub first_is : (t y : ℕ) (l : List ℕ) → l ≡ wide (first_body (date_at t) y) "TIME OF FIRST OBS" → first_line_of t y ≡ cut l
unfolding first_line_of line
first_is t y l e = ap cut (sym e)

pub end_is : (l : List ℕ) → l ≡ wide [] "END OF HEADER" → line [] "END OF HEADER" ≡ cut l
unfolding line
end_is l e = ap cut (sym e)

-- the interval's line
pub no_interval : (i : Option ℕ) → i ≡ None → interval_lines i ≡ []
unfolding interval_lines
no_interval i e = rw e

interval_is : (i : Option ℕ) (n : ℕ) (l : List ℕ) → i ≡ Some n → l ≡ wide (decimal 10 3 (pos n)) "INTERVAL" → interval_lines i ≡ cut l ∷ []
unfolding interval_lines line
interval_is i n l h e = rw h (ap (λ (x : List ℕ). cut x ∷ []) (sym e))

pub interval_ahead : (i : Option ℕ) (n : ℕ) (l out : List ℕ) (at : ℕ) → i ≡ Some n → l ≡ wide (decimal 10 3 (pos n)) "INTERVAL" → Ahead out at (cut l ∷ []) out at (interval_lines i)
interval_ahead i n l out at h e = seen _ (interval_is i n l h e) (begun out at _)

-- the header: the lines before those that are carried, these, and the last
pub head_parts : (h : FlatHead) (codes : List ℕ) (ws : List Raw)
    → head_lines (head_at h codes ws) ≡ top_lines h codes ++ (bytes_of (take h.header_lines ws) ++ (line [] "END OF HEADER" ∷ []))
unfolding head_lines
head_parts h codes ws = ap (λ (x : List (List ℕ)). version_line_of h.letter ∷ x) (go (all_lists 0 (lists_at 0 h.lengths codes)) (interval_lines (optional h.interval_state h.interval)) (bytes_of (take h.header_lines ws)) (line [] "END OF HEADER" ∷ []) (first_line_of h.first h.time_system))
  where
    go : (a i c e : List (List ℕ)) (f : List ℕ) → (a ++ (f ∷ (i ++ c))) ++ e ≡ (a ++ (f ∷ i)) ++ (c ++ e)
    go a i c e f = append_assoc a (f ∷ (i ++ c)) e ∙ (ap (λ (x : List (List ℕ)). a ++ (f ∷ x)) (append_assoc i c e) ∙ sym (append_assoc a (f ∷ i) (c ++ e)))

-- WHAT FITS
-- a head that fits
pub record Given (h : FlatHead) : Type 0 where
  pub first : is_time h.first ≡ true
  pub system : h.time_system < 6
  pub interval : FitsIf h.interval_state (decimal_fits 10 3 (pos h.interval))

pub given : (h : FlatHead) → head_fits h ≡ true → Given h
unfolding head_fits
given h e =
    let p = both (is_time h.first) _ (both (is_file_letter h.letter) _ e).1 in
    let q = both (ltb h.time_system 6) _ p.1 in
    let f = state_fits_lem h.interval_state (eqb h.interval 0) (ltb 0 h.interval && decimal_fits 10 3 (pos h.interval)) q.1 in
    record { first = p.0; system = ltb-true h.time_system 6 q.0; interval = λ z. (both (ltb 0 h.interval) _ (f z)).1 }

-- its interval fits, if it is held
pub interval_fits : (h : FlatHead) → head_fits h ≡ true → (n : ℕ) → optional h.interval_state h.interval ≡ Some n → decimal_fits 10 3 (pos n) ≡ true
interval_fits h f n e = go h.interval_state (given h f).interval e
  where
    go : (s : ℕ) → FitsIf s (decimal_fits 10 3 (pos h.interval)) → optional s h.interval ≡ Some n → decimal_fits 10 3 (pos n) ≡ true
    go zero g q = absurd (search rules)
    go (suc s) g q = subst (λ (x : ℕ). decimal_fits 10 3 (pos x) ≡ true) (search rules) (g (λ z. omega arith))

-- lists that fit
pub all_fit : (letter : ℕ) (lengths codes : List ℕ) → all_lists_fit letter lengths codes ≡ true → lists_fit letter codes 0 lengths ≡ true
unfolding all_lists_fit
all_fit letter lengths codes e = (both (leb 1 (sum lengths)) _ (both (eqb (length lengths) 7) _ e).1).1
