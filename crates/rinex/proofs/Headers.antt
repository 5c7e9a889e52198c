-- The lines that the judge takes from `start` to the first epoch are the rule's header, and back. Assumes nothing.
use Prim.Native.Nat.{ℕ, ◌≤◌, ◌<◌}
use mathlib.Core.Path.{◌≡◌, refl, ap, sym, subst, ◌∙◌}
use mathlib.Core.Bool.{Bool, true, false}
use mathlib.Core.List.{List, [], ◌∷◌, ◌++◌, append_assoc}
use Rattle.std.specs.Prelude.{Option, None, Some}
use native.Mathlib.Omega.{arith}
use lib.Dec.{leb}
use lib.ListN.{length, get_or, get_or-replicate}
use lib.Seq.{ext_get_or}
use borrow.Author.Tests.{leb-true, le-leb}
use Rattle.lists.specs.Lists
use Rattle.lists.specs.Lists.{Each, joined}
use Rattle.lists.specs.Maybe.{is_given}
use Rattle.lists.proofs.Bools.{both, all_of}
use Rattle.line.specs.Text.{col, text}
use Rattle.rinex.specs.File.{Head}
use Rattle.rinex.specs.Tables.{Room, CodesFit}
use Rattle.rinex.specs.Header.{VersionLine, Entry, Entered, lists_for, firsts, intervals, carrieds, declared, HeaderLines}
use Rattle.rinex.specs.Refusals.{version_due, in_header, epoch_due, State, start, list_of, headed, next}
use Rattle.rinex.proofs.Laws.{below_seven}
use Rattle.rinex.proofs.HeaderRecords.{version_to, version_back}
use Rattle.rinex.proofs.Reach.{Reach}
use Rattle.rinex.proofs.Places.{version_ok, ok_version}
use Rattle.rinex.proofs.HeaderSteps.{closed}
use Rattle.rinex.proofs.Gather.{gather, proper, Same, gather_same, bit, gathered, Left, run_back}
use Rattle.rinex.proofs.HeaderRun.{Entries, entries_to, entries_back}

-- there is room for the header
pub record HeadFits (r : Room) (h : Head) : Type 0 where
  pub codes : CodesFit r.codes h.lists
  pub carried : length (text h.carried) ≤ r.carried

-- the state where the first epoch is due
pub record After (h : Head) (s : State) : Type 0 where
  pub place : s.place ≡ epoch_due
  pub letter : s.head.letter ≡ h.letter
  pub lists : s.head.lists ≡ h.lists
  pub has_first : s.head.has_first ≡ true
  pub has_interval : s.head.has_interval ≡ is_given h.interval
  pub last : s.last ≡ None
  pub seen : s.seen ≡ []
  pub epochs : s.used.epochs ≡ 0
  pub rows : s.used.rows ≡ 0
  pub slots : s.used.slots ≡ 0
  pub carried : s.used.carried ≡ length (text h.carried)

one_of : {A : Type 0} (l : List A) → length l ≡ 1 → (x : A) × (l ≡ x ∷ [])
one_of [] h = absurd (omega arith)
one_of (x ∷ []) h = (x, refl)
one_of (x ∷ y ∷ l) h = absurd (omega arith)

one_or_none : {A : Type 0} (l : List A) → length l ≤ 1 → (o : Option A) × (l ≡ Lists.as_list o)
one_or_none [] h = (None, refl)
one_or_none (x ∷ []) h = (Some x, refl)
one_or_none (x ∷ y ∷ l) h = absurd (omega arith)

pub listed_few : (o : Option ℕ) → length (Lists.as_list o) ≤ 1
listed_few None = omega arith
listed_few (Some x) = omega arith

bit_one : (b : Bool) → bit b ≤ 1
bit_one true = omega arith
bit_one false = omega arith

-- an interval has come where one is listed
bit_given : (b : Bool) (o : Option ℕ) → bit b ≡ length (Lists.as_list o) → b ≡ is_given o
bit_given true None h = absurd (omega arith)
bit_given true (Some x) h = refl
bit_given false None h = refl
bit_given false (Some x) h = absurd (omega arith)

bit_true : (b : Bool) → b ≡ true → bit b ≡ 1
bit_true b h = rw h

pub declared_same : (a b : List (List ℕ)) → declared a ≡ declared b → a ≡ b
declared_same [] [] h = refl
declared_same [] (y ∷ b) h = absurd (let z : ◌≡◌ {A = ℕ} 0 1 = cc in omega arith)
declared_same (x ∷ a) [] h = absurd (let z : ◌≡◌ {A = ℕ} 0 1 = cc in omega arith)
declared_same (x ∷ a) (y ∷ b) h = cc

-- the state after the version line
unfoldable pub opened : ℕ → State
opened letter = headed start in_header (record { letter = letter; lists = start.head.lists; has_first = false; has_interval = false })

pub record Opened (s : State) (letter : ℕ) : Type 0 where
  pub here : s.place ≡ in_header
  pub letter_is : s.head.letter ≡ letter
  pub long : length s.head.lists ≡ 7
  pub empty : (y : ℕ) → y < 7 → list_of s y ≡ []
  pub no_first : s.head.has_first ≡ false
  pub no_interval : s.head.has_interval ≡ false
  pub last : s.last ≡ None
  pub seen : s.seen ≡ []
  pub epochs : s.used.epochs ≡ 0
  pub rows : s.used.rows ≡ 0
  pub slots : s.used.slots ≡ 0
  pub carried : s.used.carried ≡ 0

pub opened_is : (letter : ℕ) → Opened (opened letter) letter
unfolding opened headed start
opened_is letter =
    record {
      here = refl;
      letter_is = refl;
      long = refl;
      empty = λ y h. get_or-replicate 7 y [] [] h;
      no_first = refl;
      no_interval = refl;
      last = refl;
      seen = refl;
      epochs = refl;
      rows = refl;
      slots = refl;
      carried = refl;
    }

version_off : (r : Room) (s' : State) (l : List ℕ) (ls : List (List ℕ)) → Reach r start (l ∷ ls) s' → VersionLine l (col 41 l) × Reach r (opened (col 41 l)) ls s'
unfolding opened start next
version_off r s' l ls h = (version_to l (version_ok r start l h.0), h.1)

version_on : (r : Room) (s' : State) (l : List ℕ) (letter : ℕ) (ls : List (List ℕ)) → VersionLine l letter → Reach r (opened letter) ls s' → Reach r start (l ∷ ls) s'
unfolding opened start next
version_on r s' l letter ls v h =
    let b = version_back l letter v in
    (ok_version r start l b.0, subst (λ (x : ℕ). Reach r (opened x) ls s') (sym b.1) h)

not_start : (s' : State) → start ≡ s' → s'.place ≡ epoch_due → ⊥
unfolding start
not_start s' e d =
    let a : version_due ≡ epoch_due = ap (λ (x : State). x.place) e ∙ d in
    let z : ◌≡◌ {A = ℕ} 0 1 = cc in
    omega arith

-- what closing leaves
closed_after : (s g : State) (letter : ℕ) (h : Head) → Opened s letter → Same s g → h.letter ≡ letter → g.head.lists ≡ h.lists → g.head.has_first ≡ true → g.head.has_interval ≡ is_given h.interval → g.used.carried ≡ length (text h.carried) → After h (closed g)
unfolding headed
closed_after s g letter h o m a b f i c =
    record {
      place = refl;
      letter = m.letter ∙ (o.letter_is ∙ sym a);
      lists = b;
      has_first = f;
      has_interval = i;
      last = m.last ∙ o.last;
      seen = m.seen ∙ o.seen;
      epochs = m.epochs ∙ o.epochs;
      rows = m.rows ∙ o.rows;
      slots = m.slots ∙ o.slots;
      carried = c;
    }

-- what the judge takes for a header is one
pub record Headed (r : Room) (ls : List (List ℕ)) (s' : State) : Type 0 where
  pub head : Head
  pub header : List (List ℕ)
  pub rest : List (List ℕ)
  pub state : State
  pub lines : ls ≡ header ++ rest
  pub spelled : HeaderLines header head
  pub fits : HeadFits r head
  pub after : After head state
  pub reach : Reach r state rest s'

module _ (r : Room) (s' : State) (done : s'.place ≡ epoch_due) where
  sound_at : (l : List ℕ) (ls : List (List ℕ)) (s : State) (letter : ℕ) → VersionLine l letter → Opened s letter → Entries r s ls s' → Headed r (l ∷ ls) s'
  sound_at l ls s letter v o i =
      let es : List Entry = i.entries in
      let p = proper s.head.letter i.groups es i.entered in
      let roomy : CodesFit r.codes s.head.lists = λ y m k. absurd (omega (arith, ap length (o.empty y m))) in
      let g = gathered r es s o.long p i.run roomy (omega (arith, o.carried)) in
      let t : State = gather s es in
      let m = gather_same es s in
      let full = both (leb 1 (length (joined t.head.lists))) t.head.has_first i.full in
      let long : length t.head.lists ≡ 7 = m.long ∙ o.long in
      let each : (y : ℕ) → y < 7 → lists_for y es ≡ declared (get_or t.head.lists y []) =
      λ y k. ap (λ (x : List (List ℕ)). declared x ++ lists_for y es) (sym (o.empty y k)) ∙ g.lists y in
      let f1 : length (firsts es) ≡ 1 = omega (arith, g.first, bit_true t.head.has_first full.1, ap bit o.no_first) in
      let f = one_of (firsts es) f1 in
      let n = one_or_none (intervals es) (omega (arith, g.interval, bit_one t.head.has_interval)) in
      let e : t.used.carried ≡ length (text (carrieds es)) = omega (arith, g.carried, o.carried) in
      let h : Head =
      record {
        letter = letter;
        lists = t.head.lists;
        first = f.0.time;
        time_system = f.0.time_system;
        interval = n.0;
        carried = carrieds es;
      } in
      record {
        head = h;
        header = l ∷ (joined i.groups ++ (i.end ∷ []));
        rest = i.rest;
        state = closed t;
        lines = ap (λ (x : List (List ℕ)). l ∷ x) (i.lines ∙ sym (append_assoc (joined i.groups) (i.end ∷ []) i.rest));
        spelled =
            record {
              version = l;
              groups = i.groups;
              end = i.end;
              lines = refl;
              version_line = v;
              entries = es;
              entered = subst (λ (x : ℕ). Each (Entered x) i.groups es) o.letter_is i.entered;
              end_line = i.end_line;
              systems = long;
              lists = (each 0 (omega arith), (each 1 (omega arith), (each 2 (omega arith), (each 3 (omega arith), (each 4 (omega arith), (each 5 (omega arith), (each 6 (omega arith), tt)))))));
              some_list = leb-true 1 (length (joined t.head.lists)) full.0;
              first = f.1;
              interval = n.1;
              carried = refl;
            };
        fits =
            record {
              codes = g.roomy;
              carried = omega (arith, e, g.fits);
            };
        after = closed_after s t letter h o m refl refl full.1 (bit_given t.head.has_interval n.0 (omega (arith, g.interval, ap bit o.no_interval, ap length n.1))) e;
        reach = i.reach;
      }

  pub header_sound : (ls : List (List ℕ)) → Reach r start ls s' → Headed r ls s'
  header_sound [] h = absurd (not_start s' h done)
  header_sound (l ∷ ls) h =
      let b = version_off r s' l ls h in
      let o = opened_is (col 41 l) in
      sound_at l ls (opened (col 41 l)) (col 41 l) b.0 o (entries_to r s' done (length ls) (opened (col 41 l)) ls (omega arith) o.long o.here b.1)

-- what is a header, the judge takes
pub header_complete : (r : Room) (ls : List (List ℕ)) (h : Head) → HeaderLines ls h → HeadFits r h
    → (s : State) × After h s × ((rest : List (List ℕ)) (s' : State) → Reach r s rest s' → Reach r start (ls ++ rest) s')
header_complete r ls h v w =
    let letter : ℕ = h.letter in
    let s : State = opened letter in
    let o = opened_is letter in
    let es : List Entry = v.entries in
    let n : length h.lists ≡ 7 = v.systems in
    let q : (y : ℕ) → y < 7 → lists_for y es ≡ declared (get_or h.lists y []) = below_seven (λ y. lists_for y es ≡ declared (get_or h.lists y [])) v.lists in
    let p = proper letter v.groups es v.entered in
    let left : Left r h.lists w.codes s es =
    record {
      long = o.long;
      each = λ y m. ap (λ (x : List (List ℕ)). declared x ++ lists_for y es) (o.empty y m) ∙ q y m;
      first = omega (arith, ap bit o.no_first, ap length v.first);
      interval = omega (arith, ap bit o.no_interval, ap length v.interval, listed_few h.interval);
      carried = omega (arith, o.carried, w.carried, ap (λ (x : List (List ℕ)). length (text x)) v.carried);
    } in
    let run = run_back r h.lists w.codes es s p left in
    let none_yet : CodesFit r.codes s.head.lists = λ y m k. absurd (omega (arith, ap length (o.empty y m))) in
    let g = gathered r es s o.long p run none_yet (omega (arith, o.carried)) in
    let t : State = gather s es in
    let m = gather_same es s in
    let long : length t.head.lists ≡ 7 = m.long ∙ o.long in
    let lists : t.head.lists ≡ h.lists =
    ext_get_or [] t.head.lists h.lists (long ∙ sym n)
    (λ y k.
    let b : y < 7 = omega arith in
    declared_same _ _ (sym (g.lists y) ∙ left.each y b)) in
    let some_list : leb 1 (length (joined t.head.lists)) ≡ true = rw lists (le-leb 1 _ v.some_list) in
    let has : t.head.has_first ≡ true = bit_is t.head.has_first (omega (arith, g.first, ap bit o.no_first, ap length v.first)) in
    let carried : t.used.carried ≡ length (text h.carried) = omega (arith, g.carried, o.carried, ap (λ (x : List (List ℕ)). length (text x)) v.carried) in (
      closed t,
      closed_after s t letter h o m refl lists has (bit_given t.head.has_interval h.interval (omega (arith, g.interval, ap bit o.no_interval, ap length v.interval))) carried,
      λ rest s' k.
          subst (λ (x : List (List ℕ)). Reach r start x s')
          (sym (ap (λ (x : List (List ℕ)). x ++ rest) v.lines ∙ ap (λ (x : List (List ℕ)). v.version ∷ x) (append_assoc (joined v.groups) (v.end ∷ []) rest)))
          (version_on r s' v.version letter (joined v.groups ++ (v.end ∷ rest)) v.version_line
          (entries_back r s s' v.groups es v.end rest o.long o.here
          (subst (λ (x : ℕ). Each (Entered x) v.groups es) (sym o.letter_is) v.entered) run v.end_line (all_of _ _ some_list has) k)),
    )
  where
    bit_is : (b : Bool) → bit b ≡ 1 → b ≡ true
    bit_is true e = refl
    bit_is false e = absurd (omega arith)
