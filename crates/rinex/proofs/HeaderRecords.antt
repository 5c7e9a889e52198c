-- What the tests of a header line say is what the rule says of it, both ways. Assumes nothing.
use Prim.Native.Nat.{ℕ, zero, suc, ◌+◌, ◌≤◌, ◌<◌}
use mathlib.Core.Path.{◌≡◌, refl, ap, sym}
use mathlib.Core.Bool.{true}
use mathlib.Core.List.{List, [], ◌∷◌}
use Rattle.std.specs.Prelude.{Option, None, Some}
use native.Mathlib.Omega.{arith}
use lib.ListN.{length}
use lib.IntN.{ℤ, pos, negsuc}
use borrow.Author.Tests.{eqb-true, eq-eqb, leb-true, ltb-true, le-leb, lt-ltb}
use Rattle.lists.specs.Lists.{same, place, is_in, fresh}
use Rattle.lists.specs.Blank.{Blank}
use Rattle.lists.specs.Maybe.{is_given, given}
use Rattle.lists.proofs.Bools.{never, both, all_of}
use Rattle.lists.proofs.Maybe.{given_some}
use Rattle.lists.proofs.Lists.{same_true, eq_same}
use Rattle.lists.proofs.Places.{place_at, in_place}
use Rattle.field.specs.Found.{decimal_of}
use Rattle.field.proofs.Found.{whole_found, whole_back, decimal_found, decimal_back}
use Rattle.moment.specs.Found.{time_in}
use Rattle.moment.proofs.Times.{time_found, time_back}
use Rattle.line.specs.Text.{col, cols, past}
use Rattle.label.specs.declared.Label.{Label}
use Rattle.label.specs.declared.Label.TheVariants.{Version, ObsTypes, FirstObs, Interval, EndOfHeader, ScaleFactor, MarkerName, Other, Unknown}
use Rattle.label.specs.Labels.{is, label_of}
use Rattle.rinex.specs.Codes.{is_file_letter, allows, time_systems, is_taken}
use Rattle.rinex.specs.Header.{VersionLine, Codes, ListLine, NextLine, FirstLine, IntervalLine}
use Rattle.rinex.specs.Tests.{system_at, version_fits, codes_at, codes_fit, in_line, list_count, list_fits, next_fits, first_fits, is_above, interval_fits}
use Rattle.rinex.proofs.Laws.{time_in_lem}
use Rattle.rinex.proofs.Rows.{letter_found, letter_back}

-- labels
pub version_is : (k : Label) → is Version k ≡ true → k ≡ Version
version_is Version h = refl
version_is ObsTypes h = absurd (never h)
version_is FirstObs h = absurd (never h)
version_is Interval h = absurd (never h)
version_is EndOfHeader h = absurd (never h)
version_is ScaleFactor h = absurd (never h)
version_is MarkerName h = absurd (never h)
version_is Other h = absurd (never h)
version_is Unknown h = absurd (never h)

pub obs_is : (k : Label) → is ObsTypes k ≡ true → k ≡ ObsTypes
obs_is Version h = absurd (never h)
obs_is ObsTypes h = refl
obs_is FirstObs h = absurd (never h)
obs_is Interval h = absurd (never h)
obs_is EndOfHeader h = absurd (never h)
obs_is ScaleFactor h = absurd (never h)
obs_is MarkerName h = absurd (never h)
obs_is Other h = absurd (never h)
obs_is Unknown h = absurd (never h)

-- RINEX VERSION / TYPE
pub version_to : (l : List ℕ) → version_fits l ≡ true → VersionLine l (col 41 l)
unfolding version_fits
version_to l h =
    let a = both _ _ h in
    let b = both _ _ a.1 in
    let c = both _ _ b.1 in
    let d = both _ _ c.1 in
    let e = both _ _ d.1 in
    record {
      version = same_true _ _ a.0;
      gap = b.0;
      observation = eqb-true _ _ c.0;
      letter_at = refl;
      letter_is = d.0;
      label = version_is _ e.0;
      rest = e.1;
    }

pub version_back : (l : List ℕ) (b : ℕ) → VersionLine l b → (version_fits l ≡ true) × (col 41 l ≡ b)
unfolding version_fits
version_back l b v =
    let e : col 41 l ≡ b = v.letter_at in
    let f : is_file_letter (col 41 l) ≡ true = rw e v.letter_is in
    let g : is Version (label_of l) ≡ true = rw v.label in (
      all_of _ _ (eq_same _ _ v.version) (all_of _ _ v.gap (all_of _ _ (eq-eqb _ _ v.observation)
          (all_of _ _ f (all_of _ _ g v.rest)))),
      e,
    )

-- codes
pub codes_long : (n a : ℕ) (l : List ℕ) → length (codes_at n a l) ≡ n
unfolding codes_at
codes_long zero a l = refl
codes_long (suc n) a l = ap suc (codes_long n (a + 4) l)

pub codes_to : (y n a : ℕ) (l : List ℕ) → codes_fit y n a l ≡ true → Codes y a l (codes_at n a l)
unfolding codes_fit codes_at
codes_to y zero a l h = h
codes_to y (suc n) a l h =
    let p = both _ _ h in
    let q = both _ _ p.1 in
    (eqb-true _ _ p.0, refl, q.0, codes_to y n (a + 4) l q.1)

pub codes_back : (y a : ℕ) (l : List ℕ) (cs : List (List ℕ)) → Codes y a l cs → (codes_fit y (length cs) a l ≡ true) × (codes_at (length cs) a l ≡ cs)
unfolding codes_fit codes_at
codes_back y a l [] h = (h, refl)
codes_back y a l (c ∷ cs) h =
    let i = codes_back y (a + 4) l cs h.3 in
    let e : cols (a + 1) (a + 3) l ≡ c = h.1 in
    let d : codes_at (length cs) (a + 4) l ≡ cs = i.1 in
    let f : is_taken y (cols (a + 1) (a + 3) l) ≡ true = rw e h.2 in
    (all_of _ _ (eq-eqb _ _ h.0) (all_of _ _ f i.0), cc)

-- SYS / # / OBS TYPES
-- a count from 1 on was given
count_given : (o : Option ℕ) → 1 ≤ given 0 o → o ≡ Some (given 0 o)
count_given None h = absurd (omega arith)
count_given (Some n) h = refl

above_some : (o : Option ℤ) → is_above o ≡ true → (n : ℕ) × (o ≡ Some (pos n)) × (0 < n)
above_some None h = absurd (never h)
above_some (Some (pos n)) h = (n, refl, ltb-true _ _ h)
above_some (Some (negsuc n)) h = absurd (never h)

pub record ListFacts (letter : ℕ) (l : List ℕ) : Type 0 where
  pub line : ListLine l (system_at l) (list_count l) (codes_at (in_line (list_count l)) 7 l)
  pub allowed : allows letter (system_at l) ≡ true
  pub some_code : 1 ≤ list_count l
  pub few_codes : list_count l ≤ 64
  pub different : fresh same [] (codes_at (in_line (list_count l)) 7 l) ≡ true

pub list_to : (letter : ℕ) (l : List ℕ) → list_fits letter l ≡ true → label_of l ≡ ObsTypes → Blank (past 80 l) → ListFacts letter l
unfolding list_fits list_count
list_to letter l h k r =
    let a = both _ _ h in
    let b = both _ _ a.1 in
    let c = both _ _ b.1 in
    let d = both _ _ c.1 in
    let e = both _ _ d.1 in
    let f = both _ _ e.1 in
    let s : system_at l < 7 = ltb-true _ _ a.0 in
    let n : 1 ≤ list_count l = leb-true _ _ d.0 in
    record {
      line =
          record {
            letter = letter_found l s;
            system_is = s;
            gap = c.0;
            count_at = whole_found (cols 4 6 l) (list_count l) (count_given _ n);
            codes_at = codes_to _ _ 7 l f.0;
            label = k;
            rest = r;
          };
      allowed = b.0;
      some_code = n;
      few_codes = leb-true _ _ e.0;
      different = f.1;
    }

pub list_back : (letter : ℕ) (l : List ℕ) (s n : ℕ) (cs : List (List ℕ)) → ListLine l s n cs → allows letter s ≡ true → 1 ≤ n → n ≤ 64 → length cs ≡ in_line n → fresh same [] cs ≡ true
    → (list_fits letter l ≡ true) × (system_at l ≡ s) × (list_count l ≡ n) × (codes_at (in_line n) 7 l ≡ cs)
unfolding list_fits list_count
list_back letter l s n cs v w m o q f =
    let a : system_at l ≡ s = letter_back l s v.system_is v.letter in
    let b : list_count l ≡ n = ap (λ (x : Option ℕ). given 0 x) (whole_back _ n v.count_at) in
    let c = codes_back _ 7 l cs v.codes_at in
    let d : codes_fit s (in_line n) 7 l ≡ true = rw q at c.0 in
    let e : codes_at (in_line n) 7 l ≡ cs = rw q at c.1 in
    let g : fresh same [] (codes_at (in_line n) 7 l) ≡ true = rw e f in (
      rw (a, b)
          (all_of _ _ (lt-ltb s 7 v.system_is) (all_of _ _ w (all_of _ _ v.gap (all_of _ _ (le-leb 1 n m) (all_of _ _ (le-leb n 64 o)
          (all_of _ _ d g)))))),
      a,
      b,
      e,
    )

-- TIME OF FIRST OBS
pub first_to : (l : List ℕ) → first_fits l ≡ true → label_of l ≡ FirstObs → Blank (past 80 l) → (t : ℕ) × FirstLine l t (place same (cols 49 51 l) time_systems)
unfolding first_fits
first_to l h k r =
    let a = both _ _ h in
    let b = both _ _ a.1 in
    let c = both _ _ b.1 in
    let t = given_some _ a.0 in
    let p = in_place same same_true [] (cols 49 51 l) time_systems c.0 in (
      t.0,
      record {
        time_at = time_found _ _ _ _ _ _ t.0 t.1;
        gap = b.0;
        time_system_at = sym (place_at same same_true [] (cols 49 51 l) time_systems p);
        time_system_is = p;
        gap_2 = c.1;
        label = k;
        rest = r;
      },
    )

pub first_back : (l : List ℕ) (t y : ℕ) → FirstLine l t y → first_fits l ≡ true
unfolding first_fits
first_back l t y v =
    let g : is_given (time_in (cols 1 6 l) (cols 7 12 l) (cols 13 18 l) (cols 19 24 l) (cols 25 30 l) (cols 31 43 l)) ≡ true = rw (time_back _ _ _ _ _ _ t v.time_at) in
    let i : is_in same (cols 49 51 l) time_systems ≡ true = rw v.time_system_at (time_in_lem y v.time_system_is) in
    all_of _ _ g (all_of _ _ v.gap (all_of _ _ i v.gap_2))

-- INTERVAL
pub interval_to : (l : List ℕ) → interval_fits l ≡ true → label_of l ≡ Interval → Blank (past 80 l) → (n : ℕ) × IntervalLine l n
unfolding interval_fits
interval_to l h k r =
    let a = both _ _ h in
    let b = above_some _ a.0 in
    (b.0, record { interval = decimal_found 3 (cols 1 10 l) (pos b.0) b.1; above = b.2; gap = a.1; label = k; rest = r })

pub interval_back : (l : List ℕ) (n : ℕ) → IntervalLine l n → interval_fits l ≡ true
unfolding interval_fits
interval_back l n v =
    let g : is_above (decimal_of 3 (cols 1 10 l)) ≡ true = rw (decimal_back 3 (cols 1 10 l) (pos n) v.interval) (lt-ltb 0 n v.above) in
    all_of _ _ g v.gap

-- a continuation
pub next_to : (y : ℕ) (before : List (List ℕ)) (n : ℕ) (l : List ℕ) → next_fits y before n l ≡ true → label_of l ≡ ObsTypes → Blank (cols 1 6 l) → Blank (past 80 l)
    → NextLine l y (codes_at (in_line n) 7 l) × (fresh same before (codes_at (in_line n) 7 l) ≡ true)
unfolding next_fits
next_to y before n l h k g r =
    let a = both _ _ h in
    (record { gap = g; codes_at = codes_to _ _ 7 l a.0; label = k; rest = r }, a.1)

pub next_back : (y : ℕ) (before : List (List ℕ)) (n : ℕ) (l : List ℕ) (cs : List (List ℕ)) → NextLine l y cs → length cs ≡ in_line n → fresh same before cs ≡ true
    → (next_fits y before n l ≡ true) × (codes_at (in_line n) 7 l ≡ cs)
unfolding next_fits
next_back y before n l cs v q f =
    let c = codes_back _ 7 l cs v.codes_at in
    let d : codes_fit y (in_line n) 7 l ≡ true = rw q at c.0 in
    let e : codes_at (in_line n) 7 l ≡ cs = rw q at c.1 in
    let g : fresh same before (codes_at (in_line n) 7 l) ≡ true = rw e f in
    (all_of _ _ d g, e)
