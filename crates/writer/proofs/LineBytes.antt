-- How many bytes held lines have, told by the place behind them. Assumes nothing.
use Prim.Native.Nat.{ℕ, zero, suc, ◌+◌, min}
use mathlib.Core.Path.{◌≡◌, refl, ap, ◌∙◌}
use mathlib.Core.Bool.{Bool, true, false, cond}
use mathlib.Core.List.{List, [], ◌∷◌}
use native.Mathlib.Omega.{arith}
use lib.Dec.{eqb}
use lib.ListN.{length, drop, length-append, length-drop}
use Rattle.lists.proofs.Bools.{never, both}
use Rattle.line.specs.Text.{Raw, onto, split}
use Rattle.rinex.specs.Fit.{is_held}
use Rattle.write_lines.specs.Lines.{are_held, lines_text}

-- the bytes of lines, with the LF of those that have one
abbrev of_raw : Raw → ℕ
of_raw w = length w.bytes + cond w.ended 1 0

abbrev of_lines : List Raw → ℕ
of_lines [] = 0
of_lines (w ∷ ws) = of_raw w + of_lines ws

onto_size : (b : ℕ) (ws : List Raw) → of_lines (onto b ws) ≡ suc (of_lines ws)
unfolding onto
onto_size b [] = refl
onto_size b (w ∷ ws) = omega arith

split_size : (t : List ℕ) → of_lines (split t) ≡ length t
unfolding split
split_size [] = refl
split_size (b ∷ t) = at (eqb b 10) (split_size t)
  where
    at : (c : Bool) → of_lines (split t) ≡ length t → of_lines (cond c (record { bytes = []; ended = true } ∷ split t) (onto b (split t))) ≡ suc (length t)
    at true h = omega (arith, h)
    at false h = onto_size b (split t) ∙ ap suc h

-- the first n are held
held_size : (n : ℕ) (ws : List Raw) → are_held n ws ≡ true → length (lines_text n ws) + of_lines (drop n ws) ≡ of_lines ws
unfolding are_held
held_size zero ws h = omega arith
held_size (suc n) [] h = absurd (never h)
held_size (suc n) (w ∷ ws) h =
    let p = both (is_held w) (are_held n ws) h in
    let e : w.ended ≡ true = (both w.ended _ p.0).0 in
    let c : ◌≡◌ {A = ℕ} (cond w.ended 1 0) 1 = ap (λ (b : Bool). cond b 1 0) e in
    omega (arith, c, held_size n ws p.1, length-append w.bytes (10 ∷ lines_text n ws))

pub held_bytes : (t : List ℕ) (n p : ℕ) → are_held n (split t) ≡ true → split (drop p t) ≡ drop n (split t) → length (lines_text n (split t)) ≡ min p (length t)
held_bytes t n p h e = omega (arith, held_size n (split t) h, split_size t, ap of_lines e, split_size (drop p t), length-drop p t)
