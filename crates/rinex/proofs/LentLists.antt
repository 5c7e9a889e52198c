-- Lists of codes in lent tables: what the tests of `specs/Fit` find is what the form of a header asks, both ways. Assumes nothing.
use Prim.Native.Nat.{ℕ, zero, suc, ◌+◌, ◌*◌, ◌/◌, ◌%◌, ◌≤◌, ◌<◌}
use mathlib.Core.Path.{◌≡◌, refl, sym, ap, ◌∙◌, subst}
use mathlib.Core.Bool.{Bool, true, false, not, ◌&&◌, ◌||◌, false≢true}
use mathlib.Core.List.{List, [], ◌∷◌, ◌++◌, map}
use native.Mathlib.Nat.{div-div-eq-div-mul}
use native.Mathlib.Omega.{arith}
use lib.Dec.{eqb, leb}
use lib.ListN.{length, get_or, take, drop, length-append, length-map, length-drop, get_or-map}
use lib.Seq.{sets, length-sets, length-take-le}
use borrow.Author.Tests.{eqb-true, eq-eqb, eqb-false, le-leb, leb-true}
use Rattle.lists.specs.Lists.{All, joined, same, is_in, fresh, sum}
use Rattle.lists.proofs.Bools.{both, all_of, Either, left, right, or_either, or_right}
use Rattle.lists.proofs.Lists.{same_true, same_refl, map_append}
use Rattle.line.proofs.Columns.{plain_at}
use Rattle.rinex.specs.Codes.{allows, is_taken}
use Rattle.rinex.specs.Tables.{packed, laid_codes, CodesFit}
use Rattle.rinex.specs.Fit.{part, unpacked, are_taken, list_fits, lists_fit, all_lists_fit}
use Rattle.rinex.proofs.Forms.{IsCode, IsTaken, code_form, taken_codes, ListForm, AreLists}
use Rattle.rinex.proofs.OneTables.{Fit, codes_held}
use Rattle.rinex.proofs.Lent.{Lies, lies_part, part_lies, lies_sets}
use Rattle.lists.proofs.Parts.{next}

pub packed_unpacked : (k : ℕ) → packed (unpacked k) ≡ k
packed_unpacked k = omega (arith, div-div-eq-div-mul k 256 256)

pub unpacked_packed : (c : List ℕ) → length c ≡ 3 → ((i : ℕ) → get_or c i 0 ≤ 126) → unpacked (packed c) ≡ c
unpacked_packed [] l h = absurd (omega arith)
unpacked_packed (x ∷ []) l h = absurd (omega arith)
unpacked_packed (x ∷ y ∷ []) l h = absurd (omega arith)
unpacked_packed (x ∷ y ∷ z ∷ []) l h =
    let a : x ≤ 126 = h 0 in
    let b : y ≤ 126 = h 1 in
    let c : z ≤ 126 = h 2 in
    let p : ((x * 256 + y) * 256 + z) / 65536 ≡ x = omega arith in
    let q : ((x * 256 + y) * 256 + z) / 256 % 256 ≡ y = omega arith in
    let r : ((x * 256 + y) * 256 + z) % 256 ≡ z = omega arith in
    λ i. p i ∷ q i ∷ r i ∷ []
unpacked_packed (x ∷ y ∷ z ∷ w ∷ c) l h = absurd (omega arith)

-- the codes are the same where the numbers are
same_unpacked : (k m : ℕ) → same (unpacked k) (unpacked m) ≡ eqb k m
same_unpacked k m = at (same (unpacked k) (unpacked m)) refl (eqb k m) refl
  where
    at : (a : Bool) → same (unpacked k) (unpacked m) ≡ a → (b : Bool) → eqb k m ≡ b → a ≡ b
    at true e true f = refl
    at false e false f = refl
    at true e false f = absurd (eqb-false k m f (sym (packed_unpacked k) ∙ (ap packed (same_true (unpacked k) (unpacked m) e) ∙ packed_unpacked m)))
    at false e true f =
        let p : k ≡ m = eqb-true k m f in
        absurd (false≢true (sym e ∙ subst (λ (x : ℕ). same (unpacked k) (unpacked x) ≡ true) p (same_refl (unpacked k))))

in_unpacked : (k : ℕ) (seen : List ℕ) → is_in same (unpacked k) (map unpacked seen) ≡ is_in eqb k seen
in_unpacked k [] = refl
in_unpacked k (m ∷ seen) = let p = same_unpacked k m in let q = in_unpacked k seen in λ i. p i || q i

pub fresh_unpacked : (ks seen : List ℕ) → fresh same (map unpacked seen) (map unpacked ks) ≡ fresh eqb seen ks
fresh_unpacked [] seen = refl
fresh_unpacked (k ∷ ks) seen =
    let p = in_unpacked k seen in
    let q : fresh same (map unpacked seen ++ (unpacked k ∷ [])) (map unpacked ks) ≡ fresh eqb (seen ++ (k ∷ [])) ks =
    ap (λ (x : List (List ℕ)). fresh same x (map unpacked ks)) (sym (map_append unpacked seen (k ∷ []))) ∙ fresh_unpacked ks (seen ++ (k ∷ [])) in
    λ i. not (p i) && q i

taken_found : (s : ℕ) (ks : List ℕ) → are_taken s ks ≡ true → All (IsTaken s) (map unpacked ks)
unfolding are_taken
taken_found s [] h = tt
taken_found s (k ∷ ks) h = let p = both (is_taken s (unpacked k)) _ h in (p.0, taken_found s ks p.1)

taken_back : (s : ℕ) (ks : List ℕ) → All (IsTaken s) (map unpacked ks) → are_taken s ks ≡ true
unfolding are_taken
taken_back s [] h = refl
taken_back s (k ∷ ks) h = all_of (is_taken s (unpacked k)) _ h.0 (taken_back s ks h.1)

pub packed_again : (ks : List ℕ) → map packed (map unpacked ks) ≡ ks
packed_again [] = refl
packed_again (k ∷ ks) = let p = packed_unpacked k in let q = packed_again ks in λ i. p i ∷ q i

pub unpacked_again : (cs : List (List ℕ)) → All IsCode cs → map unpacked (map packed cs) ≡ cs
unpacked_again [] h = refl
unpacked_again (c ∷ cs) h =
    let f = code_form c h.0 in
    let p = unpacked_packed c f.long (λ i. plain_at c i f.bytes) in
    let q = unpacked_again cs h.1 in
    λ i. p i ∷ q i

lies_by : (b xs : List ℕ) (p : ℕ) → ((i : ℕ) → i < length xs → get_or b (p + i) 0 ≡ get_or xs i 0) → Lies 0 b p xs
lies_by b [] p h = tt
lies_by b (x ∷ xs) p h =
    let e : p + 0 ≡ p = omega arith in
    let k : get_or b p 0 ≡ x = subst (λ (y : ℕ). get_or b y 0 ≡ x) e (h 0 (omega arith)) in
    (k, lies_by b xs (p + 1) (λ i m. let z : p + suc i ≡ p + 1 + i = omega arith in subst (λ (y : ℕ). get_or b y 0 ≡ get_or xs i 0) z (h (suc i) (omega arith))))

-- the list of system s lies in the codes
pub record ListLies (letter : ℕ) (codes : List ℕ) (s : ℕ) (cs : List (List ℕ)) : Type 0 where
  pub form : ListForm letter s cs
  pub lies : Lies 0 codes (64 * s) (map packed cs)
  pub room : 1 ≤ length cs → 64 * s + length cs ≤ length codes

list_found : (letter : ℕ) (codes : List ℕ) (s n : ℕ) → list_fits letter codes s n ≡ true → (cs : List (List ℕ)) × (length cs ≡ n) × ListLies letter codes s cs
unfolding list_fits
list_found letter codes s n h = at (or_either (eqb n 0) _ h)
  where
    at : Either (eqb n 0 ≡ true) ((leb n 64 && (allows letter s && (leb (64 * s + n) (length codes) && (are_taken s (part codes (64 * s) n) && fresh eqb [] (part codes (64 * s) n))))) ≡ true)
        → (cs : List (List ℕ)) × (length cs ≡ n) × ListLies letter codes s cs
    at (left e) = ([], sym (eqb-true n 0 e), record { form = record { few = omega arith; codes = tt; different = refl; allowed = λ p. absurd (omega arith) }; lies = tt; room = λ p. absurd (omega arith) })
    at (right e) =
        let p = both (leb n 64) _ e in
        let q = both (allows letter s) _ p.1 in
        let r = both (leb (64 * s + n) (length codes)) _ q.1 in
        let t = both (are_taken s (part codes (64 * s) n)) _ r.1 in
        let ks : List ℕ = part codes (64 * s) n in
        let k : 64 * s + n ≤ length codes = leb-true (64 * s + n) (length codes) r.0 in
        let l : length ks ≡ n = length-take-le n (drop (64 * s) codes) (simp length-drop (omega arith)) in
        let m : length (map unpacked ks) ≡ n = length-map ks unpacked ∙ l in
        let few : n ≤ 64 = leb-true n 64 p.0 in
        let lies : Lies 0 codes (64 * s) ks = part_lies 0 codes ks (64 * s) (omega arith) (ap (λ (x : ℕ). take x (drop (64 * s) codes)) l) in (
          map unpacked ks,
          m,
          record {
            form = record { few = omega arith; codes = taken_found s ks t.0; different = fresh_unpacked ks [] ∙ t.1; allowed = λ x. q.0 };
            lies = subst (λ (x : List ℕ). Lies 0 codes (64 * s) x) (sym (packed_again ks)) lies;
            room = λ x. omega arith;
          },
        )

list_back : (letter : ℕ) (codes : List ℕ) (s : ℕ) (cs : List (List ℕ)) → ListLies letter codes s cs → list_fits letter codes s (length cs) ≡ true
unfolding list_fits
list_back letter codes s [] l = refl
list_back letter codes s (c ∷ cs) l =
    let n : ℕ = length (c ∷ cs) in
    let ks : List ℕ = map packed (c ∷ cs) in
    let m : length ks ≡ n = length-map (c ∷ cs) packed in
    let k : 64 * s + n ≤ length codes = l.room (omega arith) in
    let e : part codes (64 * s) n ≡ ks = ap (λ (x : ℕ). take x (drop (64 * s) codes)) (sym m) ∙ lies_part 0 codes ks (64 * s) (omega arith) l.lies in
    let u : map unpacked ks ≡ c ∷ cs = unpacked_again (c ∷ cs) (taken_codes s (c ∷ cs) l.form.codes) in
    let t : are_taken s ks ≡ true = taken_back s ks (subst (λ (x : List (List ℕ)). All (IsTaken s) x) (sym u) l.form.codes) in
    let f : fresh eqb [] ks ≡ true = sym (fresh_unpacked ks []) ∙ (ap (fresh same []) u ∙ l.form.different) in
    or_right (eqb n 0) _ (all_of (leb n 64) _ (le-leb n 64 l.form.few) (all_of (allows letter s) _ (l.form.allowed (omega arith)) (all_of (leb (64 * s + n) (length codes)) _ (le-leb (64 * s + n) (length codes) k)
    (all_of (are_taken s (part codes (64 * s) n)) _ (subst (λ (x : List ℕ). are_taken s x ≡ true) (sym e) t) (subst (λ (x : List ℕ). fresh eqb [] x ≡ true) (sym e) f)))))

-- all lists, from system a on
abbrev pub ListsLie : ℕ → List ℕ → ℕ → List (List (List ℕ)) → Type 0
ListsLie letter codes a [] = Unit
ListsLie letter codes a (cs ∷ css) = ListLies letter codes a cs × ListsLie letter codes (a + 1) css

module _ (letter : ℕ) (codes : List ℕ) where
  lists_found : (ns : List ℕ) (a : ℕ) → lists_fit letter codes a ns ≡ true → (lists : List (List (List ℕ))) × (map (λ (cs : List (List ℕ)). length cs) lists ≡ ns) × ListsLie letter codes a lists
  unfolding lists_fit
  lists_found [] a h = ([], refl, tt)
  lists_found (n ∷ ns) a h =
      let p = both (list_fits letter codes a n) _ h in
      let l = list_found letter codes a n p.0 in
      let r = lists_found ns (a + 1) p.1 in
      (l.0 ∷ r.0, let x = l.1 in let y = r.1 in λ i. x i ∷ y i, (l.2, r.2))

  lists_back : (lists : List (List (List ℕ))) (a : ℕ) → ListsLie letter codes a lists → lists_fit letter codes a (map (λ (cs : List (List ℕ)). length cs) lists) ≡ true
  unfolding lists_fit
  lists_back [] a h = refl
  lists_back (cs ∷ css) a h = all_of (list_fits letter codes a (length cs)) _ (list_back letter codes a cs h.0) (lists_back css (a + 1) h.1)

  lists_at : (lists : List (List (List ℕ))) (a : ℕ) → ListsLie letter codes a lists → (i : ℕ) → i < length lists → ListLies letter codes (a + i) (get_or lists i [])
  lists_at [] a h i k = absurd (omega arith)
  lists_at (cs ∷ css) a h zero k = let e : a + 0 ≡ a = omega arith in rw e h.0
  lists_at (cs ∷ css) a h (suc i) k = let e : a + suc i ≡ a + 1 + i = omega arith in rw e (lists_at css (a + 1) h.1 i (omega arith))

  at_lists : (lists : List (List (List ℕ))) (a : ℕ) → ((i : ℕ) → i < length lists → ListLies letter codes (a + i) (get_or lists i [])) → ListsLie letter codes a lists
  at_lists [] a h = tt
  at_lists (cs ∷ css) a h =
      let e : a + 0 ≡ a = omega arith in
      (rw e at (h 0 (omega arith)), at_lists css (a + 1) (λ i k. let z : a + suc i ≡ a + 1 + i = omega arith in rw z at (h (suc i) (omega arith))))

  pub codes_laid : (lists : List (List (List ℕ))) (a p : ℕ) → p ≡ 64 * a → ListsLie letter codes a lists → laid_codes p lists codes ≡ codes
  unfolding laid_codes
  codes_laid [] a p e h = refl
  codes_laid (cs ∷ css) a p e h =
      let s : sets codes p (map packed cs) ≡ codes = at cs h.0 in
      rw s (codes_laid css (a + 1) (p + 64) (omega arith) h.1)
    where
      at : (cs : List (List ℕ)) → ListLies letter codes a cs → sets codes p (map packed cs) ≡ codes
      at [] l = refl
      at (c ∷ cs) l =
          let r : 64 * a + length (c ∷ cs) ≤ length codes = l.room (omega arith) in
          let m : length (map packed (c ∷ cs)) ≡ length (c ∷ cs) = length-map (c ∷ cs) packed in
          lies_sets 0 codes (map packed (c ∷ cs)) p (omega arith) (rw e l.lies)

sum_joined : (lists : List (List (List ℕ))) → sum (map (λ (cs : List (List ℕ)). length cs) lists) ≡ length (joined lists)
sum_joined [] = refl
sum_joined (cs ∷ css) = simp length-append (omega (arith, sum_joined css))

pub length_laid : (lists : List (List (List ℕ))) (p : ℕ) (b : List ℕ) → length (laid_codes p lists b) ≡ length b
unfolding laid_codes
length_laid [] p b = refl
length_laid (cs ∷ css) p b = length_laid css (p + 64) (sets b p (map packed cs)) ∙ length-sets b p (map packed cs)

-- one list a system, and some list, as the buffer of codes has them
pub record AllListsLie (letter : ℕ) (codes : List ℕ) (lists : List (List (List ℕ))) : Type 0 where
  pub seven : length lists ≡ 7
  pub some_list : 1 ≤ length (joined lists)
  pub forms : AreLists letter lists
  pub room : CodesFit (length codes) lists
  pub laid : laid_codes 0 lists codes ≡ codes

module _ (letter : ℕ) (codes : List ℕ) where
  pub all_lists_found : (ns : List ℕ) → all_lists_fit letter ns codes ≡ true → (lists : List (List (List ℕ))) × (map (λ (cs : List (List ℕ)). length cs) lists ≡ ns) × AllListsLie letter codes lists
  unfolding all_lists_fit
  all_lists_found ns h =
      let p = both (eqb (length ns) 7) _ h in
      let q = both (leb 1 (sum ns)) _ p.1 in
      let l = lists_found letter codes ns 0 q.1 in
      let lists : List (List (List ℕ)) = l.0 in
      let seven : length lists ≡ 7 = sym (length-map lists (λ (cs : List (List ℕ)). length cs)) ∙ (ap length l.1 ∙ eqb-true (length ns) 7 p.0) in
      let at : (s : ℕ) → s < 7 → ListLies letter codes s (get_or lists s []) =
      λ s m. let z : 0 + s ≡ s = omega arith in rw z at (lists_at letter codes lists 0 l.2 s (omega arith)) in (
        lists,
        l.1,
        record {
          seven = seven;
          some_list = omega (arith, sum_joined lists, ap sum l.1, leb-true 1 (sum ns) q.0);
          forms = λ s m. (at s m).form;
          room = λ s m k. (at s m).room k;
          laid = codes_laid letter codes lists 0 0 refl l.2;
        },
      )

  -- lists that are laid out lie there
  pub laid_lie : (lists : List (List (List ℕ))) → length lists ≡ 7 → AreLists letter lists → CodesFit (length codes) lists
      → ListsLie letter (laid_codes 0 lists codes) 0 lists
  laid_lie lists seven forms room =
      let b : List ℕ = laid_codes 0 lists codes in
      let long : length b ≡ length codes = length_laid lists 0 codes in
      let fit : Fit (length codes) 0 lists = λ s u v. let w : s < 7 = omega arith in let y : 64 * s + length (get_or lists s []) ≤ length codes = room s w v in (omega arith, (forms s w).few) in
      at_lists letter b lists 0 (λ i k.
      let z : 0 + i ≡ i = omega arith in
      let m : i < 7 = omega arith in
      let cs : List (List ℕ) = get_or lists i [] in
      rw z (record {
        form = forms i m;
        lies = lies_by b (map packed cs) (64 * i) (λ j u.
            let v : j < length cs = omega (arith, length-map cs packed) in
            let e : 0 + 64 * i + j ≡ 64 * i + j = omega arith in
            subst (λ (x : ℕ). get_or b x 0 ≡ packed (get_or cs j [])) e (codes_held lists 0 codes fit i j k v) ∙ sym (get_or-map packed cs j []));
        room = λ u. let y : 64 * i + length cs ≤ length codes = room i m u in omega arith;
      }))

  pub all_lists_back : (lists : List (List (List ℕ))) → AllListsLie letter codes lists → all_lists_fit letter (map (λ (cs : List (List ℕ)). length cs) lists) codes ≡ true
  unfolding all_lists_fit
  all_lists_back lists h =
      let ns : List ℕ = map (λ (cs : List (List ℕ)). length cs) lists in
      let l : length ns ≡ 7 = length-map lists (λ (cs : List (List ℕ)). length cs) ∙ h.seven in
      let s : 1 ≤ sum ns = omega (arith, sum_joined lists, h.some_list) in
      let lie : ListsLie letter codes 0 lists = subst (λ (b : List ℕ). ListsLie letter b 0 lists) h.laid (laid_lie lists h.seven h.forms h.room) in
      all_of (eqb (length ns) 7) _ (eq-eqb (length ns) 7 l) (all_of (leb 1 (sum ns)) _ (le-leb 1 (sum ns) s) (lists_back letter codes lists 0 lie))

-- what a list that fits has, where it is not empty
pub record FitList (codes : List ℕ) (s n : ℕ) : Type 0 where
  pub few : n ≤ 64
  pub within : 64 * s + n ≤ length codes
  pub taken : are_taken s (part codes (64 * s) n) ≡ true

module _ (letter : ℕ) (codes : List ℕ) (s n : ℕ) (f : list_fits letter codes s n ≡ true) where
  pub list_fit : (n ≡ 0 → ⊥) → FitList codes s n
  unfolding list_fits
  list_fit z = at (or_either (eqb n 0) _ f)
    where
      tests : Bool
      tests = leb (64 * s + n) (length codes) && (are_taken s (part codes (64 * s) n) && fresh eqb [] (part codes (64 * s) n))

      at : Either (eqb n 0 ≡ true) ((leb n 64 && (allows letter s && tests)) ≡ true) → FitList codes s n
      at (left e) = absurd (z (eqb-true n 0 e))
      at (right e) =
          let p = both (leb n 64) (allows letter s && tests) e in
          let q = both (leb (64 * s + n) (length codes)) _ (both (allows letter s) tests p.1).1 in
          record {
            few = leb-true n 64 p.0;
            within = leb-true (64 * s + n) (length codes) q.0;
            taken = (both (are_taken s (part codes (64 * s) n)) _ q.1).0;
          }

  -- it is short, empty or not
  pub list_few : n ≤ 64
  list_few = at (eqb n 0) refl
    where
      at : (t : Bool) → eqb n 0 ≡ t → n ≤ 64
      at true e = omega (arith, eqb-true n 0 e)
      at false e = (list_fit (eqb-false n 0 e)).few

-- all lists, from system s on
module _ (letter : ℕ) (codes lengths : List ℕ) (s : ℕ) where
  pub lists_next : s < length lengths → lists_fit letter codes s (drop s lengths) ≡ (list_fits letter codes s (get_or lengths s 0) && lists_fit letter codes (s + 1) (drop (s + 1) lengths))
  unfolding lists_fit
  lists_next h = ap (lists_fit letter codes s) (next lengths s h)
