-- The codes of fit tables, as the spelling functions ask for them. Assumes nothing.
use Prim.Native.Nat.{ℕ, ◌+◌, ◌≤◌, ◌<◌}
use mathlib.Core.Path.{◌≡◌, sym, ap, ◌∙◌, subst}
use mathlib.Core.Bool.{true}
use mathlib.Core.List.{List}
use native.Mathlib.Omega.{arith}
use lib.ListN.{length, get_or, drop, length-drop}
use lib.Seq.{get_or-take, get_or-drop, length-take-le}
use Rattle.lists.proofs.Every.{every_at}
use Rattle.rinex.specs.Codes.{is_taken}
use Rattle.rinex.specs.Fit.{part, unpacked, are_taken}
use Rattle.rinex.proofs.Forms.{taken_below}
use Rattle.spell_header.specs.Codes.{CodesLie}

-- a code of those from place p on
part_at : (codes : List ℕ) (p n i : ℕ) → i < n → get_or (part codes p n) i 0 ≡ get_or codes (p + i) 0
part_at codes p n i h = get_or-take n (drop p codes) i 0 h ∙ get_or-drop p codes i 0

-- k of the n codes from place p on, from the i-th on
pub codes_lie : (s : ℕ) (codes : List ℕ) (p n i k : ℕ) → are_taken s (part codes p n) ≡ true → p + n ≤ length codes → i + k ≤ n → CodesLie (part codes (p + i) k)
unfolding are_taken
codes_lie s codes p n i k h l m = λ j r.
    let few : length (part codes (p + i) k) ≡ k = length-take-le k (drop (p + i) codes) (omega (arith, length-drop (p + i) codes)) in
    let long : length (part codes p n) ≡ n = length-take-le n (drop p codes) (omega (arith, length-drop p codes)) in
    let q : p + (i + j) ≡ p + i + j = omega arith in
    let e : get_or (part codes p n) (i + j) 0 ≡ get_or codes (p + (i + j)) 0 = part_at codes p n (i + j) (omega arith) in
    let g : get_or (part codes (p + i) k) j 0 ≡ get_or codes (p + i + j) 0 = part_at codes (p + i) k j (omega arith) in
    let f : is_taken s (unpacked (get_or (part codes p n) (i + j) 0)) ≡ true = every_at (λ x. is_taken s (unpacked x)) (part codes p n) (i + j) 0 h (omega arith) in
    subst (λ (x : ℕ). x < 16777216) (e ∙ (ap (λ (x : ℕ). get_or codes x 0) q ∙ sym g)) (taken_below s (get_or (part codes p n) (i + j) 0) f)
