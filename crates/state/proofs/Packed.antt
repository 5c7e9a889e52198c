-- Codes packed in a table: what is stored there is read back, and what is stored elsewhere stays. Assumes nothing.
use Prim.Native.Nat.{ℕ, ◌+◌, ◌-◌, ◌≤◌, ◌<◌}
use mathlib.Core.Path.{◌≡◌, refl, sym, ap, ◌∙◌}
use mathlib.Core.Bool.{Bool, true, false}
use mathlib.Core.List.{List, [], ◌++◌, map}
use native.Mathlib.Omega.{arith}
use lib.Dec.{ltb}
use lib.ListN.{length, get_or, take, drop, length-append, length-map, length-drop, get_or-map, get_or-append}
use lib.Seq.{sets, length-take-le, get_or-take, get_or-drop, get_or-append-add, ext_get_or}
use borrow.Author.Tests.{ltb-true, ltb-false}
use Rattle.lists.specs.Lists.{All}
use Rattle.rinex.specs.Tables.{packed}
use Rattle.rinex.specs.Fit.{unpacked}
use Rattle.rinex.proofs.Forms.{IsCode}
use Rattle.lists.proofs.Apart.{sets_below, sets_behind, sets_in}
use Rattle.rinex.proofs.LentLists.{unpacked_again}

-- the codes lie packed in the table from place p on
abbrev pub Held : List ℕ → ℕ → List (List ℕ) → Type 0
Held table p cs = (i : ℕ) → i < length cs → get_or table (p + i) 0 ≡ packed (get_or cs i [])

module _ (table : List ℕ) (p : ℕ) (cs : List (List ℕ)) (h : Held table p cs) where
  pub held_part : p + length cs ≤ length table → take (length cs) (drop p table) ≡ map packed cs
  held_part k =
      let n : length cs ≤ length (drop p table) = simp length-drop (omega arith) in
      let m : length (take (length cs) (drop p table)) ≡ length cs = length-take-le (length cs) (drop p table) n in
      ext_get_or 0 (take (length cs) (drop p table)) (map packed cs) (m ∙ sym (length-map cs packed))
      (λ i q. let z : i < length cs = omega arith in
      get_or-take (length cs) (drop p table) i 0 z ∙ (get_or-drop p table i 0 ∙ (h i z ∙ sym (get_or-map packed cs i []))))

  pub held_codes : p + length cs ≤ length table → All IsCode cs → map unpacked (take (length cs) (drop p table)) ≡ cs
  held_codes k a = ap (map unpacked) (held_part k) ∙ unpacked_again cs a

  pub held_before : (q : ℕ) (vs : List ℕ) → p + length cs ≤ q → Held (sets table q vs) p cs
  held_before q vs k i z = sets_below vs table q (p + i) 0 (omega arith) ∙ h i z

  pub held_behind : (q : ℕ) (vs : List ℕ) → q + length vs ≤ p → Held (sets table q vs) p cs
  held_behind q vs k i z = sets_behind vs table q (p + i) 0 (omega arith) ∙ h i z

  -- more codes, stored behind these
  pub held_more : (q : ℕ) (ds : List (List ℕ)) → q ≡ p + length cs → q + length ds ≤ length table → Held (sets table q (map packed ds)) p (cs ++ ds)
  held_more q ds e k i z = at (ltb i (length cs)) refl
    where
      at : (b : Bool) → ltb i (length cs) ≡ b → get_or (sets table q (map packed ds)) (p + i) 0 ≡ packed (get_or (cs ++ ds) i [])
      at true x =
          let y : i < length cs = ltb-true i (length cs) x in
          held_before q (map packed ds) (omega arith) i y ∙ ap packed (sym (get_or-append cs ds [] i y))
      at false x =
          let y : length cs ≤ i = ltb-false i (length cs) x in
          let m : ℕ = i - length cs in
          let u : i ≡ length cs + m = omega arith in
          let v : p + i ≡ q + m = omega arith in
          let n : length (map packed ds) ≡ length ds = length-map ds packed in
          let w : m < length (map packed ds) = omega (arith, length-append cs ds) in
          ap (λ (j : ℕ). get_or (sets table q (map packed ds)) j 0) v ∙ (sets_in (map packed ds) table q m 0 w (omega arith)
          ∙ (get_or-map packed ds m [] ∙ ap packed (sym (get_or-append-add cs ds m []) ∙ ap (λ (j : ℕ). get_or (cs ++ ds) j []) (sym u))))
