-- The end of the header of lines that spell one: what the state and the table of codes hold there. Assumes nothing.
use Prim.Native.Nat.{ℕ, ◌<◌}
use mathlib.Core.Path.{◌≡◌, refl, ap, sym, subst, ◌∙◌}
use mathlib.Core.List.{List, [], ◌∷◌, ◌++◌, map}
use native.Mathlib.Omega.{arith}
use lib.ListN.{length, get_or, length-replicate}
use lib.Seq.{ext_get_or}
use Rattle.lists.specs.Lists.{Each, joined}
use Rattle.line.specs.Text.{text, raw}
use Rattle.label.specs.declared.Label.TheVariants.{EndOfHeader}
use Rattle.rinex.specs.File.{Head}
use Rattle.rinex.specs.Tables.{Room, CodesFit}
use Rattle.rinex.specs.Header.{VersionLine, Entry, Entered, lists_for, declared, HeaderLines}
use Rattle.rinex.specs.Refusals as rule
use Rattle.rinex.proofs.Laws.{below_seven}
use Rattle.rinex.proofs.Gather.{gather, Run, proper, gather_same, bit, gathered, Left, run_back}
use Rattle.rinex.proofs.Headers.{HeadFits, listed_few, declared_same, opened, opened_is}
use Rattle.state.specs.declared.State.{State}
use Rattle.state.specs.declared.Stage.TheVariants as stages
use Rattle.state.specs.Judge.{counted, after_record, next_at, table_at, begin, no_codes}
use Rattle.judge.specs.Ending.{after_header}
use Rattle.state.proofs.Kept.{lengths_of}
use Rattle.fill.proofs.Walks.{Walks, walk_one, walk_on, walk_end}
use Rattle.fill.proofs.FilledHeader.{Held, At, one_record, entries_walked}

-- THE RULE'S STATE after the records of a header
record Gives (r : Room) (h : Head) (es : List Entry) : Type 0 where
  run : Run r (opened h.letter) es
  letter : (gather (opened h.letter) es).head.letter ≡ h.letter
  lists : (gather (opened h.letter) es).head.lists ≡ h.lists
  carried : (gather (opened h.letter) es).used.carried ≡ length (text h.carried)

gives : (r : Room) (ls : List (List ℕ)) (h : Head) (v : HeaderLines ls h) → HeadFits r h → Gives r h v.entries
gives r ls h v w =
    let s : rule.State = opened h.letter in
    let o = opened_is h.letter in
    let es : List Entry = v.entries in
    let q : (y : ℕ) → y < 7 → lists_for y es ≡ declared (get_or h.lists y []) = below_seven (λ y. lists_for y es ≡ declared (get_or h.lists y [])) v.lists in
    let p = proper h.letter v.groups es v.entered in
    let to-come : Left r h.lists w.codes s es =
    record {
      long = o.long;
      each = λ y m. ap (λ (x : List (List ℕ)). declared x ++ lists_for y es) (o.empty y m) ∙ q y m;
      first = omega (arith, ap bit o.no_first, ap (λ (x : List Rattle.rinex.specs.Header.First). length x) v.first);
      interval = omega (arith, ap bit o.no_interval, ap (λ (x : List ℕ). length x) v.interval, listed_few h.interval);
      carried = omega (arith, o.carried, w.carried, ap (λ (x : List (List ℕ)). length (text x)) v.carried);
    } in
    let run = run_back r h.lists w.codes es s p to-come in
    let none_yet : CodesFit r.codes s.head.lists = λ y m k. absurd (omega (arith, ap (λ (x : List (List ℕ)). length x) (o.empty y m))) in
    let g = gathered r es s o.long p run none_yet (omega (arith, o.carried)) in
    let m = gather_same es s in
    let long : length (gather s es).head.lists ≡ 7 = m.long ∙ o.long in
    record {
      run = run;
      letter = m.letter ∙ o.letter_is;
      lists =
          ext_get_or [] (gather s es).head.lists h.lists (long ∙ sym v.systems)
          (λ y k.
          let b : y < 7 = omega arith in
          declared_same _ _ (sym (g.lists y) ∙ to-come.each y b));
      carried = omega (arith, g.carried, o.carried, ap (λ (x : List (List ℕ)). length (text x)) v.carried);
    }

-- THE VERSION LINE
version_at : (l : List ℕ) (letter : ℕ) → VersionLine l letter → At (opened letter) (next_at stages.Version begin l) no_codes
unfolding next_at begin opened rule.headed rule.start
version_at l letter v =
    record {
      stage = refl;
      letter = v.letter_at;
      long = refl;
      lengths = refl;
      used = refl;
      places = length-replicate {A = ℕ} 448 0;
      held = λ y k. rw ((opened_is letter).empty y k) (record { few = omega arith; entries = refl });
    }

version_walks : (l : List ℕ) → Walks begin no_codes (l ∷ []) (next_at stages.Version begin l) no_codes
unfolding table_at begin
version_walks l = walk_one begin no_codes l stages.Version refl refl

-- THE END
pub record Behind (ls ms : List (List ℕ)) (h : Head) : Type 0 where
  pub state : State
  pub table : List ℕ
  pub ended : after_header begin no_codes (map raw (ls ++ ms)) ≡ record { lines = length ls; state = state; table = table; rest = map raw ms }
  pub stage : state.stage ≡ stages.Epoch
  pub letter : state.letter ≡ h.letter
  pub lengths : state.lengths ≡ lengths_of h.lists
  pub used : state.used ≡ counted 0 0 0 (length (text h.carried))
  pub held : (y : ℕ) → y < 7 → Held table y (get_or h.lists y [])

pub header_ends : (r : Room) (ls ms : List (List ℕ)) (h : Head) → HeaderLines ls h → HeadFits r h → Behind ls ms h
unfolding after_record
header_ends r ls ms h v w =
    let g = gives r ls h v w in
    let a = version_at v.version h.letter v.version_line in
    let c : State = next_at stages.Version begin v.version in
    let entered : Each (Entered (opened h.letter).head.letter) v.groups v.entries =
    subst (λ (x : ℕ). Each (Entered x) v.groups v.entries) (sym (opened_is h.letter).letter_is) v.entered in
    let i = entries_walked r v.groups v.entries (opened h.letter) c no_codes a entered g.run in
    let e : State = after_record i.state v.end EndOfHeader in
    let z : Walks i.state i.table (v.end ∷ []) e i.table = one_record (gather (opened h.letter) v.entries) i.state i.table i.at v.end EndOfHeader v.end_line.label refl in
    let all : Walks begin no_codes (v.version ∷ (joined v.groups ++ (v.end ∷ []))) e i.table =
    walk_on begin c e no_codes no_codes i.table (v.version ∷ []) (joined v.groups ++ (v.end ∷ [])) (version_walks v.version)
    (walk_on c i.state e no_codes i.table i.table (joined v.groups) (v.end ∷ []) i.walks z) in
    record {
      state = e;
      table = i.table;
      ended = walk_end begin e no_codes i.table ls ms (subst (λ (x : List (List ℕ)). Walks begin no_codes x e i.table) (sym v.lines) all) refl;
      stage = refl;
      letter = i.at.letter ∙ g.letter;
      lengths = i.at.lengths ∙ ap lengths_of g.lists;
      used = i.at.used ∙ ap (counted 0 0 0) g.carried;
      held = λ y k. subst (λ (x : List (List (List ℕ))). Held i.table y (get_or x y [])) g.lists (i.at.held y k);
    }
