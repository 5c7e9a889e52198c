-- What some records leave in the state, by what the rule gathers of them. No line is in it. Assumes nothing.
use Prim.Native.Nat.{ℕ, suc, ◌+◌, ◌*◌, ◌≤◌, ◌<◌}
use mathlib.Core.Path.{◌≡◌, refl, sym, ◌∙◌}
use mathlib.Core.Bool.{Bool, true, false, cond}
use mathlib.Core.List.{List, [], ◌∷◌, ◌++◌, append-nil}
use native.Mathlib.Omega.{arith}
use lib.Dec.{eqb}
use lib.ListN.{length, get_or, set, length-append, length-set}
use lib.Seq.{get_or-set_same, get_or-set_other}
use borrow.Author.Tests.{eq-eqb, eqb-true, eqb-false}
use Rattle.lists.specs.Lists.{All, Each}
use Rattle.line.specs.Text.{text}
use Rattle.rinex.specs.Tables.{Room, CodesFit}
use Rattle.rinex.specs.Header.{Entry, a_list, a_first, an_interval, a_carried, Entered, lists_for, firsts, intervals, carrieds, declared}
use Rattle.rinex.specs.Refusals.{in_header, State, list_of, listed, headed, kept}
use Rattle.rinex.proofs.Entries.{enter, Ready}

-- the state after some records, and what they ask in turn
abbrev pub gather : State → List Entry → State
gather s [] = s
gather s (e ∷ es) = gather (enter s e) es

abbrev pub Run : Room → State → List Entry → Type 0
Run r s [] = Unit
Run r s (e ∷ es) = Ready r s e × Run r (enter s e) es

-- what the rule says of a list, whatever its lines
abbrev pub Proper : Entry → Type 0
Proper (a_list y codes) = (y < 7) × (1 ≤ length codes)
Proper (a_first t z) = Unit
Proper (an_interval n) = Unit
Proper (a_carried c) = Unit

proper_one : (letter : ℕ) (group : List (List ℕ)) (e : Entry) → Entered letter group e → Proper e
proper_one letter group (a_list y codes) v = (v.first_line.system_is, v.some_code)
proper_one letter group (a_first t z) v = tt
proper_one letter group (an_interval n) v = tt
proper_one letter group (a_carried c) v = tt

pub proper : (letter : ℕ) (groups : List (List (List ℕ))) (es : List Entry) → Each (Entered letter) groups es → All Proper es
proper letter [] [] v = tt
proper letter [] (e ∷ es) v = absurd v
proper letter (g ∷ gs) [] v = absurd v
proper letter (g ∷ gs) (e ∷ es) v = (proper_one letter g e v.0, proper letter gs es v.1)

-- what no record changes
pub record Same (s t : State) : Type 0 where
  pub place : s.place ≡ in_header → t.place ≡ in_header
  pub letter : t.head.letter ≡ s.head.letter
  pub long : length t.head.lists ≡ length s.head.lists
  pub last : t.last ≡ s.last
  pub seen : t.seen ≡ s.seen
  pub epochs : t.used.epochs ≡ s.used.epochs
  pub rows : t.used.rows ≡ s.used.rows
  pub slots : t.used.slots ≡ s.used.slots

pub enter_same : (s : State) (e : Entry) → Same s (enter s e)
unfolding enter listed headed kept
enter_same s (a_list y codes) =
    record { place = λ h. refl; letter = refl; long = length-set s.head.lists y _; last = refl; seen = refl; epochs = refl; rows = refl; slots = refl }
enter_same s (a_first t z) = record { place = λ h. refl; letter = refl; long = refl; last = refl; seen = refl; epochs = refl; rows = refl; slots = refl }
enter_same s (an_interval n) = record { place = λ h. refl; letter = refl; long = refl; last = refl; seen = refl; epochs = refl; rows = refl; slots = refl }
enter_same s (a_carried c) = record { place = λ h. refl; letter = refl; long = refl; last = refl; seen = refl; epochs = refl; rows = refl; slots = refl }

pub gather_same : (es : List Entry) (s : State) → Same s (gather s es)
gather_same [] s = record { place = λ h. h; letter = refl; long = refl; last = refl; seen = refl; epochs = refl; rows = refl; slots = refl }
gather_same (e ∷ es) s =
    let a = enter_same s e in
    let b = gather_same es (enter s e) in
    record {
      place = λ h. b.place (a.place h);
      letter = b.letter ∙ a.letter;
      long = b.long ∙ a.long;
      last = b.last ∙ a.last;
      seen = b.seen ∙ a.seen;
      epochs = b.epochs ∙ a.epochs;
      rows = b.rows ∙ a.rows;
      slots = b.slots ∙ a.slots;
    }

-- 1 where it has come
abbrev pub bit : Bool → ℕ
bit true = 1
bit false = 0

-- what has come and what is to come, of one record more: the same
declared_some : (codes : List (List ℕ)) → 1 ≤ length codes → declared codes ≡ codes ∷ []
declared_some [] h = absurd (omega arith)
declared_some (c ∷ cs) h = refl

module _ (r : Room) (s : State) (es : List Entry) where
  enter_lists : (e : Entry) → length s.head.lists ≡ 7 → Proper e → Ready r s e → (y : ℕ)
      → declared (list_of s y) ++ lists_for y (e ∷ es) ≡ declared (list_of (enter s e) y) ++ lists_for y es
  unfolding enter listed headed kept
  enter_lists (a_list t codes) long p q y = at (eqb y t) refl
    where
      at : (b : Bool) → eqb y t ≡ b
          → declared (list_of s y) ++ cond b (codes ∷ lists_for y es) (lists_for y es) ≡ declared (get_or (set s.head.lists t (list_of s t ++ codes)) y []) ++ lists_for y es
      at true e =
          let d : y ≡ t = eqb-true _ _ e in
          let low : t < length s.head.lists = omega (arith, p.0) in
          let g : get_or (set s.head.lists t codes) t [] ≡ codes = get_or-set_same s.head.lists t codes [] low in
          rw (d, q.0, g, declared_some codes p.1)
      at false e =
          let d : y ≡ t → ⊥ = eqb-false _ _ e in
          rw (get_or-set_other s.head.lists t y (list_of s t ++ codes) [] d)
  enter_lists (a_first t z) long p q y = refl
  enter_lists (an_interval n) long p q y = refl
  enter_lists (a_carried c) long p q y = refl

  enter_first : (e : Entry) → Ready r s e → bit s.head.has_first + length (firsts (e ∷ es)) ≡ bit (enter s e).head.has_first + length (firsts es)
  unfolding enter listed headed kept
  enter_first (a_list t codes) q = refl
  enter_first (a_first t z) q = rw q (omega arith)
  enter_first (an_interval n) q = refl
  enter_first (a_carried c) q = refl

  enter_interval : (e : Entry) → Ready r s e → bit s.head.has_interval + length (intervals (e ∷ es)) ≡ bit (enter s e).head.has_interval + length (intervals es)
  unfolding enter listed headed kept
  enter_interval (a_list t codes) q = refl
  enter_interval (a_first t z) q = refl
  enter_interval (an_interval n) q = rw q (omega arith)
  enter_interval (a_carried c) q = refl

  enter_carried : (e : Entry) → s.used.carried + length (text (carrieds (e ∷ es))) ≡ (enter s e).used.carried + length (text (carrieds es))
  unfolding enter listed headed kept
  enter_carried (a_list t codes) = refl
  enter_carried (a_first t z) = refl
  enter_carried (an_interval n) = refl
  enter_carried (a_carried c) = omega (arith, length-append c (10 ∷ text (carrieds es)))

module _ (r : Room) (s : State) where
  enter_roomy : (e : Entry) → length s.head.lists ≡ 7 → Proper e → Ready r s e → CodesFit r.codes s.head.lists → CodesFit r.codes (enter s e).head.lists
  unfolding enter listed headed kept
  enter_roomy (a_list t codes) long p q m y h = at (eqb y t) refl
    where
      at : (b : Bool) → eqb y t ≡ b
          → 1 ≤ length (get_or (set s.head.lists t (list_of s t ++ codes)) y []) → 64 * y + length (get_or (set s.head.lists t (list_of s t ++ codes)) y []) ≤ r.codes
      at true e k =
          let d : y ≡ t = eqb-true _ _ e in
          let low : t < length s.head.lists = omega (arith, p.0) in
          let g : get_or (set s.head.lists t codes) t [] ≡ codes = get_or-set_same s.head.lists t codes [] low in
          rw (d, q.0, g) q.1
      at false e k =
          let d : y ≡ t → ⊥ = eqb-false _ _ e in
          let g = get_or-set_other s.head.lists t y (list_of s t ++ codes) [] d in
          rw g (m y h (rw g at k))
  enter_roomy (a_first t z) long p q m y h = m y h
  enter_roomy (an_interval n) long p q m y h = m y h
  enter_roomy (a_carried c) long p q m y h = m y h

  enter_fits : (e : Entry) → Ready r s e → s.used.carried ≤ r.carried → (enter s e).used.carried ≤ r.carried
  unfolding enter listed headed kept
  enter_fits (a_list t codes) q m = m
  enter_fits (a_first t z) q m = m
  enter_fits (an_interval n) q m = m
  enter_fits (a_carried c) q m = q

-- all of them
pub record Gathered (r : Room) (s : State) (es : List Entry) : Type 0 where
  pub lists : (y : ℕ) → declared (list_of s y) ++ lists_for y es ≡ declared (list_of (gather s es) y)
  pub first : bit s.head.has_first + length (firsts es) ≡ bit (gather s es).head.has_first
  pub interval : bit s.head.has_interval + length (intervals es) ≡ bit (gather s es).head.has_interval
  pub carried : s.used.carried + length (text (carrieds es)) ≡ (gather s es).used.carried
  pub roomy : CodesFit r.codes (gather s es).head.lists
  pub fits : (gather s es).used.carried ≤ r.carried

pub gathered : (r : Room) (es : List Entry) (s : State) → length s.head.lists ≡ 7 → All Proper es → Run r s es → CodesFit r.codes s.head.lists → s.used.carried ≤ r.carried → Gathered r s es
gathered r [] s long p q m n =
    record {
      lists = λ y. append-nil (declared (list_of s y));
      first = omega arith;
      interval = omega arith;
      carried = omega arith;
      roomy = m;
      fits = n;
    }
gathered r (e ∷ es) s long p q m n =
    let i = gathered r es (enter s e) ((enter_same s e).long ∙ long) p.1 q.1 (enter_roomy r s e long p.0 q.0 m) (enter_fits r s e q.0 n) in
    record {
      lists = λ y. enter_lists r s es e long p.0 q.0 y ∙ i.lists y;
      first = enter_first r s es e q.0 ∙ i.first;
      interval = enter_interval r s es e q.0 ∙ i.interval;
      carried = enter_carried r s es e ∙ i.carried;
      roomy = i.roomy;
      fits = i.fits;
    }

-- and back: what is gathered was ready to be taken in
once : (a b codes : List (List ℕ)) (x : List (List (List ℕ))) → declared a ++ (codes ∷ x) ≡ declared b → (a ≡ []) × (b ≡ codes)
once [] [] codes x h = absurd (let z : ◌≡◌ {A = ℕ} 0 1 = cc in omega arith)
once [] (c ∷ b) codes x h = (refl, cc)
once (d ∷ a) [] codes x h = absurd (let z : ◌≡◌ {A = ℕ} 0 1 = cc in omega arith)
once (d ∷ a) (c ∷ b) codes x h = absurd (let z : ◌≡◌ {A = ℕ} 0 1 = cc in omega arith)

not_yet : (b : Bool) (n : ℕ) → bit b + suc n ≤ 1 → b ≡ false
not_yet true n h = absurd (omega arith)
not_yet false n h = refl

module _ (r : Room) (lists : List (List (List ℕ))) (roomy : CodesFit r.codes lists) where
  -- what is to come, with what has come, is no more than the rule allows
  pub record Left (s : State) (es : List Entry) : Type 0 where
    pub long : length s.head.lists ≡ 7
    pub each : (y : ℕ) → y < 7 → declared (list_of s y) ++ lists_for y es ≡ declared (get_or lists y [])
    pub first : bit s.head.has_first + length (firsts es) ≤ 1
    pub interval : bit s.head.has_interval + length (intervals es) ≤ 1
    pub carried : s.used.carried + length (text (carrieds es)) ≤ r.carried

  ready_one : (s : State) (e : Entry) (es : List Entry) → Proper e → Left s (e ∷ es) → Ready r s e
  ready_one s (a_list t codes) es p l =
      let d : declared (list_of s t) ++ (codes ∷ lists_for t es) ≡ declared (get_or lists t []) = rw (eq-eqb t t refl) at (l.each t p.0) in
      let o = once (list_of s t) (get_or lists t []) codes (lists_for t es) d in
      (o.0, rw o.1 at (roomy t p.0 (rw o.1 p.1)))
  ready_one s (a_first t z) es p l = not_yet s.head.has_first (length (firsts es)) l.first
  ready_one s (an_interval n) es p l = not_yet s.head.has_interval (length (intervals es)) l.interval
  ready_one s (a_carried c) es p l = omega (arith, l.carried, length-append c (10 ∷ text (carrieds es)))

  pub run_back : (es : List Entry) (s : State) → All Proper es → Left s es → Run r s es
  run_back [] s p l = tt
  run_back (e ∷ es) s p l =
      let q = ready_one s e es p.0 l in (
        q,
        run_back es (enter s e) p.1
            (record {
              long = (enter_same s e).long ∙ l.long;
              each = λ y h. sym (enter_lists r s es e l.long p.0 q y) ∙ l.each y h;
              first = rw (enter_first r s es e q) at l.first;
              interval = rw (enter_interval r s es e q) at l.interval;
              carried = rw (enter_carried r s es e) at l.carried;
            }),
      )
