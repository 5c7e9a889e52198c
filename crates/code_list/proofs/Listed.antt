-- A list's line and its continuation, judged test by test, and the count that the line has. Assumes nothing.
use Prim.Native.Nat.{ℕ, zero, suc, ◌+◌, ◌*◌, ◌^◌, ◌≤◌, ◌<◌}
use mathlib.Core.Path.{◌≡◌, refl, sym, ap, ◌∙◌}
use mathlib.Core.Bool.{Bool, true, false, not, ◌||◌}
use mathlib.Core.List.{List, [], ◌∷◌, map}
use Rattle.std.specs.Prelude.{Option, None, Some}
use Rattle.std.specs.List.{list_any}
use native.Mathlib.Omega.{arith}
use lib.Dec.{eqb, leb, ltb}
use lib.ListN.{length, take, drop}
use lib.Seq.{sets}
use borrow.Author.Tests.{ne_eqb, le-ltb, lt-ltb, le-leb, lt-leb, leb-true, leb-false}
use Rattle.lists.specs.Lists.{All, sum, same, fresh}
use Rattle.lists.specs.Blank.{is_blank}
use Rattle.lists.specs.Maybe.{given}
use Rattle.field.specs.Found.{whole_of}
use Rattle.field.proofs.Found.{whole_found}
use Rattle.field.proofs.Short.{whole_below}
use Rattle.line.specs.Text.{cols}
use Rattle.line.proofs.Columns.{length_cols}
use Rattle.rinex.specs.Codes.{allows}
use Rattle.rinex.specs.Tables.{packed}
use Rattle.rinex.specs.Fit.{unpacked}
use Rattle.rinex.specs.Tests.{system_at, codes_at, codes_fit, in_line, list_count, list_fits, next_fits}
use Rattle.rinex.proofs.Forms.{IsCode, codes_formed}
use Rattle.rinex.proofs.HeaderRecords.{codes_to}
use Rattle.rinex.proofs.LentLists.{fresh_unpacked, unpacked_again}
use Rattle.code_list.specs.Lines.{CodesStored}
use Rattle.lists.proofs.Bytes.{fails}

-- the count of a list's line
pub count_below : (l : List ℕ) → list_count l < 1000
unfolding list_count
count_below l = at (whole_of (cols 4 6 l)) refl
  where
    at : (o : Option ℕ) → whole_of (cols 4 6 l) ≡ o → given 0 o < 1000
    at None e = omega arith
    at (Some n) e =
        let w : n < 10 ^ length (cols 4 6 l) = whole_below (cols 4 6 l) n (whole_found (cols 4 6 l) n e) in
        rw (length_cols 4 6 l) at w

-- a number that is not 0 stands among those whose sum is not 0
pub some_counted : (ns : List ℕ) → list_any (λ (n : ℕ). not (eqb n 0)) ns ≡ leb 1 (sum ns)
some_counted [] = refl
some_counted (zero ∷ ns) =
    let e : 0 + sum ns ≡ sum ns = omega arith in
    rw e (some_counted ns)
some_counted (suc n ∷ ns) =
    ap (λ (b : Bool). not b || list_any (λ (m : ℕ). not (eqb m 0)) ns) (ne_eqb (suc n) 0 (λ e. omega (arith, e))) ∙ sym (le-leb 1 (suc n + sum ns) (omega arith))

-- codes are the same where their numbers are
fresh_packed : (cs ds : List (List ℕ)) → All IsCode cs → All IsCode ds → fresh eqb (map packed cs) (map packed ds) ≡ fresh same cs ds
fresh_packed cs ds p q =
    let e : map unpacked (map packed cs) ≡ cs = unpacked_again cs p in
    let f : map unpacked (map packed ds) ≡ ds = unpacked_again ds q in
    sym (fresh_unpacked (map packed ds) (map packed cs)) ∙ (λ i. fresh same (e i) (f i))

module _ (y : ℕ) (cs : List (List ℕ)) (n : ℕ) (l : List ℕ) where
  pub next_unfit : codes_fit y (in_line n) 7 l ≡ false → false ≡ next_fits y cs n l
  unfolding next_fits
  next_unfit h = rw h

  pub next_is : codes_fit y (in_line n) 7 l ≡ true → All IsCode cs → fresh eqb (map packed cs) (map packed (codes_at (in_line n) 7 l)) ≡ next_fits y cs n l
  unfolding next_fits
  next_is h p = rw h (fresh_packed cs (codes_at (in_line n) 7 l) p (codes_formed y 7 l (codes_at (in_line n) 7 l) (codes_to y (in_line n) 7 l h)))

module _ (letter : ℕ) (l : List ℕ) where
  pub no_system : 7 ≤ system_at l → false ≡ list_fits letter l
  unfolding list_fits
  no_system h = rw (le-ltb (system_at l) 7 h)

  pub not_allowed : allows letter (system_at l) ≡ false → false ≡ list_fits letter l
  unfolding list_fits
  not_allowed h = sym (fails (ltb (system_at l) 7) _ (rw h))

  pub no_gap : is_blank (cols 2 3 l) ≡ false → false ≡ list_fits letter l
  unfolding list_fits
  no_gap h = sym (fails (ltb (system_at l) 7) _ (fails (allows letter (system_at l)) _ (rw h)))

  no_codes : list_count l < 1 → false ≡ list_fits letter l
  unfolding list_fits
  no_codes h = sym (fails (ltb (system_at l) 7) _ (fails (allows letter (system_at l)) _ (fails (is_blank (cols 2 3 l)) _ (rw (lt-leb 1 (list_count l) h)))))

  many_codes : 64 < list_count l → false ≡ list_fits letter l
  unfolding list_fits
  many_codes h =
      sym (fails (ltb (system_at l) 7) _ (fails (allows letter (system_at l)) _ (fails (is_blank (cols 2 3 l)) _ (fails (leb 1 (list_count l)) _ (rw (lt-leb (list_count l) 64 h))))))

  -- the count is none from 1 to 64
  pub not_counted : (1 ≤ list_count l → list_count l ≤ 64 → ⊥) → false ≡ list_fits letter l
  not_counted h = at (leb 1 (list_count l)) refl (leb (list_count l) 64) refl
    where
      at : (b : Bool) → leb 1 (list_count l) ≡ b → (c : Bool) → leb (list_count l) 64 ≡ c → false ≡ list_fits letter l
      at false e c f = no_codes (omega (arith, leb-false 1 (list_count l) e))
      at true e false f = many_codes (omega (arith, leb-false (list_count l) 64 f))
      at true e true f = absurd (h (leb-true 1 (list_count l) e) (leb-true (list_count l) 64 f))

  pub list_is : system_at l < 7 → allows letter (system_at l) ≡ true → is_blank (cols 2 3 l) ≡ true → 1 ≤ list_count l → list_count l ≤ 64 → next_fits (system_at l) [] (list_count l) l ≡ list_fits letter l
  unfolding list_fits next_fits
  list_is a b c d e = rw (lt-ltb (system_at l) 7 a, b, c, le-leb 1 (list_count l) d, le-leb (list_count l) 64 e)

-- the line, where the tests before its codes pass
module _ (y n : ℕ) (l : List ℕ) (ey : y ≡ system_at l) (en : n ≡ list_count l) where
  pub list_next : next_fits y [] n l ≡ next_fits (system_at l) [] (list_count l) l
  list_next = λ i. next_fits (ey i) [] (en i) l

  pub list_put : (old new : List ℕ) → new ≡ sets old (64 * y + 0) (map packed (codes_at (in_line n) 7 l)) → new ≡ sets old (64 * system_at l) (map packed (codes_at (in_line (list_count l)) 7 l))
  list_put old new h =
      let e : 64 * y + 0 ≡ 64 * system_at l = omega arith in
      h ∙ (λ i. sets old (e i) (map packed (codes_at (in_line (en i)) 7 l)))

-- a continuation, where k of its n codes stand in the line and b before it
module _ (y n k b : ℕ) (l : List ℕ) (cs : List (List ℕ)) (ek : k ≡ in_line n) (eb : length cs ≡ b) where
  pub next_told : (table : List ℕ) → CodesStored table (64 * y) cs → codes_fit y (in_line n) 7 l ≡ true → (r : Bool)
      → r ≡ fresh eqb (take b (drop (64 * y) table)) (map packed (codes_at k 7 l)) → r ≡ next_fits y cs n l
  next_told table s f r h =
      let e : take b (drop (64 * y) table) ≡ map packed cs = ap (λ (j : ℕ). take j (drop (64 * y) table)) (sym eb) ∙ s.entries in
      h ∙ ((λ i. fresh eqb (e i) (map packed (codes_at (ek i) 7 l))) ∙ next_is y cs n l f s.codes)

  pub next_put : (old new : List ℕ) → new ≡ sets old (64 * y + b) (map packed (codes_at k 7 l)) → new ≡ sets old (64 * y + length cs) (map packed (codes_at (in_line n) 7 l))
  next_put old new h = let e : b ≡ length cs = sym eb in h ∙ (λ i. sets old (64 * y + e i) (map packed (codes_at (ek i) 7 l)))
