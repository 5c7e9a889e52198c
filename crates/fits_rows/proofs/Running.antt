-- Carried lines, as the code walks them. Assumes nothing.
use Prim.Native.Nat.{ℕ, zero, suc, ◌+◌, ◌-◌, ◌≤◌, ◌<◌}
use mathlib.Core.Path.{◌≡◌, refl, sym, ap, ◌∙◌}
use mathlib.Core.Bool.{Bool, true, false, true≢false, not, ◌&&◌, ◌||◌}
use mathlib.Core.List.{List, [], ◌∷◌}
use native.Mathlib.Omega.{arith}
use lib.Dec.{leb, leb-zero, leb-suc-zero, leb-suc-suc}
use lib.ListN.{length, take, drop}
use lib.Seq.{take_all}
use Rattle.lists.specs.Lists.{same}
use Rattle.lists.specs.Blank.{is_blank}
use Rattle.lists.proofs.Bools.{never, both, or_assoc, or_false}
use Rattle.lists.proofs.Lists.{same_refl, same_length}
use Rattle.lists.proofs.Every.{every_at}
use Rattle.line.specs.Text.{widest, is_plain, are_plain, past, cut, Raw, split, raw}
use Rattle.find_line.specs.Promises.{between, PlainEnd, LineEnds, Fault}
use Rattle.label.specs.declared.Label.TheVariants.{MarkerName, Unknown}
use Rattle.label.specs.Labels.{is, label_of, carried_in_header, barred_from_events}
use Rattle.rinex.specs.Fit.{is_held, header_lines_fit, event_lines_fit, some_marker}
use Rattle.rinex.proofs.LentLines.{too_long}
use Rattle.fits_rows.specs.Carried.{label_fits, line_fits, lines_fit, Ran}
use Rattle.lists.proofs.Chain.{after}
use Rattle.line.proofs.Columns.{cut_size}

-- a line as it is held
module _ (l : List ℕ) where
  pub not_plain : (r : ℕ) → PlainEnd l 0 r → (r ≡ length l → ⊥) → are_plain l ≡ false
  not_plain r p ne = go (are_plain l) refl
    where
      below : r < length l
      below = omega (arith, p.within, ne)

      go : (b : Bool) → are_plain l ≡ b → b ≡ false
      go true e = absurd (true≢false (sym (every_at is_plain l r 0 e below) ∙ p.stop below))
      go false e = refl

  pub are_plain_lem : (r : ℕ) → PlainEnd l 0 r → r ≡ length l → are_plain l ≡ true
  are_plain_lem r p e = sym (ap are_plain (take_all (r - 0) l (omega arith))) ∙ p.plain

  pub not_cut : (r : ℕ) → r ≤ length l → take r l ≡ cut l → (r ≡ length l → ⊥) → same (cut l) l ≡ false
  not_cut r h c ne = same_length (cut l) l (λ e. ne (sym (cut_size l r h c) ∙ e))

  pub is_cut : (r : ℕ) → take r l ≡ cut l → r ≡ length l → same (cut l) l ≡ true
  is_cut r c e = ap (λ (k : List ℕ). same k l) (sym c ∙ take_all r l (omega arith)) ∙ same_refl l

faulty_held : (p q r : Bool) → (not p || not q) ≡ true → (q && (p && r)) ≡ false
faulty_held true true r h = absurd (never h)
faulty_held true false r h = refl
faulty_held false true r h = refl
faulty_held false false r h = refl

-- the line that begins at a place
module _ (e : Bool) (t : List ℕ) (at : ℕ) where
  pub no_line : split (drop at t) ≡ [] → lines_fit e 1 (split (drop at t)) ≡ false
  unfolding lines_fit
  no_line h = ap (lines_fit e 1) h

  pub faulty_line : Fault t at → lines_fit e 1 (split (drop at t)) ≡ false
  unfolding lines_fit line_fits
  faulty_line f =
      let l = f.line.bytes in
      let h : is_held f.line ≡ false = faulty_held (are_plain l) f.line.ended (same (cut l) l && is_blank (past 80 l)) f.fault in
      ap (lines_fit e 1) f.lines ∙ ap (λ (b : Bool). (b && label_fits e (label_of l)) && true) h

  module _ (end : ℕ) (f : LineEnds t at end) where
    pub not_held : is_held (raw (between at end t)) ≡ false → lines_fit e 1 (split (drop at t)) ≡ false
    unfolding lines_fit line_fits
    not_held h = ap (lines_fit e 1) f.lines ∙ ap (λ (b : Bool). (b && label_fits e (label_of (between at end t))) && true) h

    pub long_line : widest < length (between at end t) → lines_fit e 1 (split (drop at t)) ≡ false
    long_line h = not_held (too_long (between at end t) h)

    module _ (h : is_held (raw (between at end t)) ≡ true) where
      pub barred_line : label_fits e (label_of (between at end t)) ≡ false → lines_fit e 1 (split (drop at t)) ≡ false
      unfolding lines_fit line_fits
      barred_line k =
          ap (lines_fit e 1) f.lines
          ∙ (ap (λ (b : Bool). (b && label_fits e (label_of (between at end t))) && true) h ∙ ap (λ (b : Bool). b && true) k)

      pub line_ran : label_fits e (label_of (between at end t)) ≡ true → (m : Bool) → m ≡ is MarkerName (label_of (between at end t))
          → Ran e t 1 (split (drop at t)) (end + 1) m
      unfolding lines_fit line_fits some_marker
      line_ran k m n =
          record {
            fit = ap (lines_fit e 1) f.lines
                ∙ (ap (λ (b : Bool). (b && label_fits e (label_of (between at end t))) && true) h ∙ ap (λ (b : Bool). b && true) k);
            rest = ap (drop 1) f.lines;
            marker = n ∙ (sym (or_false (is MarkerName (label_of (between at end t)))) ∙ sym (ap (λ (ws : List Raw). some_marker (take 1 ws)) f.lines));
          }

-- a turn of the loop, with the lines from the one of number i on left of n
module _ (e : Bool) (t : List ℕ) (i n : ℕ) (h : i < n) where
  abbrev left_is : Type 0
  left_is = n - i ≡ suc (n - (i + 1))

  pub stops : (ws : List Raw) → lines_fit e 1 ws ≡ false → lines_fit e (n - i) ws ≡ false
  unfolding lines_fit
  stops [] g = let d : left_is = omega arith in ap (λ (j : ℕ). lines_fit e j []) d
  stops (w ∷ ws) g =
      let d : left_is = omega arith in
      ap (λ (j : ℕ). lines_fit e j (w ∷ ws)) d ∙ first_fails (line_fits e w) (lines_fit e (n - (i + 1)) ws) g
    where
      first_fails : (a b : Bool) → (a && true) ≡ false → (a && b) ≡ false
      first_fails true b x = absurd (true≢false x)
      first_fails false b x = refl

  module _ (p : ℕ) (m : Bool) where
    pub more_fit : (ws : List Raw) → Ran e t 1 ws p m → lines_fit e (n - i) ws ≡ lines_fit e (n - (i + 1)) (split (drop p t))
    unfolding lines_fit
    more_fit [] r = absurd (never r.fit)
    more_fit (w ∷ ws) r =
        let d : left_is = omega arith in
        ap (λ (j : ℕ). lines_fit e j (w ∷ ws)) d ∙ (sym (after (both (line_fits e w) true r.fit).0 refl) ∙ ap (lines_fit e (n - (i + 1))) r.rest)

    pub more_rest : (ws : List Raw) → Ran e t 1 ws p m → drop (n - i) ws ≡ drop (n - (i + 1)) (split (drop p t))
    unfolding lines_fit
    more_rest [] r = absurd (never r.fit)
    more_rest (w ∷ ws) r = let d : left_is = omega arith in ap (λ (j : ℕ). drop j (w ∷ ws)) d ∙ ap (drop (n - (i + 1))) r.rest

    pub more_marker : (ws : List Raw) → Ran e t 1 ws p m → (k : Bool) → (k || some_marker (take (n - i) ws)) ≡ ((k || m) || some_marker (take (n - (i + 1)) (split (drop p t))))
    unfolding lines_fit some_marker
    more_marker [] r k = absurd (never r.fit)
    more_marker (w ∷ ws) r k =
        let d : left_is = omega arith in
        let x : m ≡ is MarkerName (label_of w.bytes) = r.marker ∙ or_false (is MarkerName (label_of w.bytes)) in
        ap (λ (j : ℕ). k || some_marker (take j (w ∷ ws))) d
        ∙ (ap (λ (b : Bool). k || (b || some_marker (take (n - (i + 1)) ws))) (sym x)
        ∙ (sym (or_assoc k m (some_marker (take (n - (i + 1)) ws))) ∙ ap (λ (vs : List Raw). (k || m) || some_marker (take (n - (i + 1)) vs)) r.rest))

-- no line is left of n
pub all_ran : (e : Bool) (t : List ℕ) (n : ℕ) (ws : List Raw) (k p : ℕ) (m : Bool) → k ≤ 0
    → lines_fit e k (split (drop p t)) ≡ lines_fit e n ws → drop k (split (drop p t)) ≡ drop n ws → (m || some_marker (take k (split (drop p t)))) ≡ some_marker (take n ws)
    → Ran e t n ws p m
unfolding lines_fit some_marker
all_ran e t n ws k p m h f r g =
    let d : k ≡ 0 = omega arith in
    record {
      fit = sym f ∙ ap (λ (j : ℕ). lines_fit e j (split (drop p t))) d;
      rest = sym r ∙ ap (λ (j : ℕ). drop j (split (drop p t))) d;
      marker = sym (or_false m) ∙ (sym (ap (λ (j : ℕ). m || some_marker (take j (split (drop p t)))) d) ∙ g);
    }

-- the lines of the header and of an event
header_swap : (a b c d : Bool) → ((a && b) && (c && d)) ≡ (c && (a && (b && d)))
header_swap true true c d = refl
header_swap true false true d = refl
header_swap true false false d = refl
header_swap false b true d = refl
header_swap false b false d = refl

event_swap : (a b x c d : Bool) → ((a && (b && x)) && (c && d)) ≡ (c && (a && (b && (x && d))))
event_swap true true x c d = header_swap true x c d
event_swap true false x true d = refl
event_swap true false x false d = refl
event_swap false b x true d = refl
event_swap false b x false d = refl

pub header_lines : (n : ℕ) (ws : List Raw) → lines_fit false n ws ≡ (leb n (length ws) && header_lines_fit (take n ws))
unfolding lines_fit line_fits header_lines_fit
header_lines zero ws = sym (ap (λ (b : Bool). b && true) (leb-zero (length ws)))
header_lines (suc n) [] = sym (ap (λ (b : Bool). b && true) (leb-suc-zero n))
header_lines (suc n) (w ∷ ws) =
    ap (λ (b : Bool). line_fits false w && b) (header_lines n ws)
    ∙ (header_swap (is_held w) (carried_in_header (label_of w.bytes)) (leb n (length ws)) (header_lines_fit (take n ws))
    ∙ ap (λ (b : Bool). b && header_lines_fit (take (suc n) (w ∷ ws))) (sym (leb-suc-suc n (length ws))))

pub event_lines : (n : ℕ) (ws : List Raw) → lines_fit true n ws ≡ (leb n (length ws) && event_lines_fit (take n ws))
unfolding lines_fit line_fits event_lines_fit
event_lines zero ws = sym (ap (λ (b : Bool). b && true) (leb-zero (length ws)))
event_lines (suc n) [] = sym (ap (λ (b : Bool). b && true) (leb-suc-zero n))
event_lines (suc n) (w ∷ ws) =
    let k = label_of w.bytes in
    ap (λ (b : Bool). line_fits true w && b) (event_lines n ws)
    ∙ (event_swap (is_held w) (not (is Unknown k)) (not (barred_from_events k)) (leb n (length ws)) (event_lines_fit (take n ws))
    ∙ ap (λ (b : Bool). b && event_lines_fit (take (suc n) (w ∷ ws))) (sym (leb-suc-suc n (length ws))))
