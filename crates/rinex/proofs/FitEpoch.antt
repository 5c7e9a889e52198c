-- AN EPOCH THAT PASSES THE TEST ALONE IS ONE THAT SOME TEXT HAS UNDER THE GIVEN LISTS. Assumes nothing.
use Prim.Native.Nat.{ℕ, ◌≤◌, ◌<◌}
use mathlib.Core.Path.{◌≡◌, refl, sym, ap, ◌∙◌, subst}
use mathlib.Core.Bool.{true}
use mathlib.Core.List.{List, [], ◌∷◌, map}
use Rattle.std.specs.Prelude.{None, Some}
use native.Mathlib.Omega.{arith}
use lib.IntN.{pos}
use lib.ListN.{length, get_or, drop, length-map, length-take, get_or-map}
use Rattle.lists.specs.Lists.{byte, All}
use Rattle.lists.specs.Maybe.{is_given}
use Rattle.lists.proofs.Bools.{both, all_of}
use Rattle.lists.proofs.Maybe.{given_some}
use Rattle.line.specs.Text.{text, Line, split}
use Rattle.rinex.specs.File.{Slot, Epoch, observed, event, Head, satellite, times}
use Rattle.rinex.specs.Data.{ascend}
use Rattle.rinex.specs.Tables.{state_of, signed_of, mark_of, rows_of, lines_of, FlatEpoch, flat_epoch, all_slots, Buffers, room}
use Rattle.rinex.specs.Normal.{head_lines, epoch_lines}
use Rattle.rinex.specs.Promises.{Begins, HeaderLists, EpochSpelled}
use Rattle.rinex.specs.Fit.{all_lists_fit, Untaken, epoch_fits, lent, lone_epoch_fits}
use Rattle.rinex.proofs.Forms.{EpochForm, epoch_form, ListForm, head_lists}
use Rattle.rinex.proofs.OneEpoch.{split_begins}
use Rattle.rinex.proofs.Lent.{Lies, lies_part, part_lies, SlotsLie, of_slots, slots_lie}
use Rattle.rinex.proofs.LentLines.{time_found, begins_text}
use Rattle.rinex.proofs.LentLists.{AllListsLie, all_lists_found, all_lists_back}
use Rattle.rinex.proofs.LentEpochs.{epoch_taken, goes_on}
use Rattle.rinex.proofs.NormalHeader.{header_normal}
use Rattle.rinex.proofs.NormalEpochs.{epoch_normal}
use Rattle.rinex.specs.Theorems

-- a buffer begins with what lies at its first place
module _ {A B : Type 0} (d : A) (b : List A) (g : B → A) (xs : List B) where
  begins : length xs ≤ length b → Lies d b 0 (map g xs) → Begins (map g xs) b
  begins h l = lies_part d b (map g xs) 0 (simp length-map (omega arith)) l

  begun_room : Begins (map g xs) b → length xs ≤ length b
  begun_room h = omega (arith, ap length h, length-take (length (map g xs)) b, length-map xs g)

  pub begun : Begins (map g xs) b → Lies d b 0 (map g xs)
  begun h = part_lies d b (map g xs) 0 (omega (arith, begun_room h, length-map xs g)) h

-- lists that lie in the buffer of codes are those of some header, of letter M
header_there : (codes : List ℕ) (lists : List (List (List ℕ))) → AllListsLie (byte "M") codes lists → HeaderLists lists
header_there codes lists l =
    let head : Head = record { letter = byte "M"; lists = lists; first = 0; time_system = 0; interval = None; carried = [] } in
    let n = header_normal head (record {
      letter = refl;
      systems = l.seven;
      lists = l.forms;
      some_list = l.some_list;
      first = time_found 0 refl;
      time_system = omega arith;
      interval = tt;
      carried = tt;
      kept = tt;
    }) in
    record { lines = head_lines head; head = head; header = n.0; plain = n.1; same = refl }

-- M allows each list
any_letter : (letter s : ℕ) (cs : List (List ℕ)) → ListForm letter s cs → ListForm (byte "M") s cs
any_letter letter s cs f = record { few = f.few; codes = f.codes; different = f.different; allowed = λ p. refl }

-- an epoch alone is in order, and its lines are lines
pub alone_in_order : (e : Epoch) → ascend None (times (e ∷ [])) ≡ true
alone_in_order (observed o) = refl
alone_in_order (event v) = refl

pub lines_form : (lists : List (List (List ℕ))) (e : Epoch) → EpochForm lists e → All Line (lines_of e)
lines_form lists (observed o) f = tt
lines_form lists (event v) f = f.lines

module _ (lengths : List ℕ) (p : FlatEpoch) (b : Buffers) where
  from : Untaken
  from = record { row = 0; slot = 0; lines = split b.carried; last = None }

  walks : (q : FlatEpoch) (c : Untaken) → p ≡ q → epoch_fits lengths (lent b) b q from ≡ Some c → is_given (epoch_fits lengths (lent b) b p from) ≡ true
  walks q c e h = ap is_given (ap (λ (x : FlatEpoch). epoch_fits lengths (lent b) b x from) e ∙ h)

  sound : lone_epoch_fits lengths p b ≡ true → (e : Epoch) × EpochSpelled lengths p b e
  unfolding lone_epoch_fits lent room from
  sound h =
      let a = both (all_lists_fit (byte "M") lengths b.codes) _ h in
      let l = all_lists_found (byte "M") b.codes lengths a.0 in
      let g = given_some (epoch_fits lengths (lent b) b p from) a.1 in
      let lists : List (List (List ℕ)) = l.0 in
      let same-lengths : (y : ℕ) → get_or lengths y 0 ≡ length (get_or lists y []) =
      λ y. ap (λ (x : List ℕ). get_or x y 0) (sym l.1) ∙ get_or-map (λ (cs : List (List ℕ)). length cs) lists y [] in
      let t = epoch_taken b lists lengths same-lengths (lent b) (omega arith) p from g.0 g.1 in
      let e : Epoch = t.epoch in
      let rows : length (rows_of e) ≤ length b.satellites = omega (arith, t.row, t.row_room (omega arith)) in
      let slots : length (all_slots (rows_of e)) ≤ (room b).slots = omega (arith, t.slot, t.slot_room (omega arith)) in
      let ss : List Slot = all_slots (rows_of e) in
      let n = epoch_normal lists (λ y m. (l.2.forms y m).few) e t.form in (
        e,
        record {
          lists = lists;
          header = header_there b.codes lists l.2;
          lengths_are = sym l.1;
          codes_fit = l.2.room;
          codes = l.2.laid;
          epoch = t.entry;
          satellites = begins 0 b.satellites satellite (rows_of e) rows t.names;
          numbers = begins (pos 0) b.numbers (λ (s : Slot). signed_of s.value) ss (omega arith) (of_slots b (pos 0) b.numbers (λ (s : Slot). signed_of s.value) (λ i s k. k.number) ss 0 t.slots);
          states = begins 0 b.states (λ (s : Slot). state_of s.value) ss (omega arith) (of_slots b 0 b.states (λ (s : Slot). state_of s.value) (λ i s k. k.state) ss 0 t.slots);
          losses = begins 0 b.losses (λ (s : Slot). mark_of s.loss) ss (omega arith) (of_slots b 0 b.losses (λ (s : Slot). mark_of s.loss) (λ i s k. k.loss) ss 0 t.slots);
          strengths = begins 0 b.strengths (λ (s : Slot). mark_of s.strength) ss (omega arith) (of_slots b 0 b.strengths (λ (s : Slot). mark_of s.strength) (λ i s k. k.strength) ss 0 t.slots);
          carried = begins_text b.carried (lines_of e) g.0.lines t.lines;
          lines = epoch_lines e;
          spells = n.0;
          plain = n.1;
        },
      )

  complete : (e : Epoch) → EpochSpelled lengths p b e → lone_epoch_fits lengths p b ≡ true
  unfolding lone_epoch_fits lent room from
  complete e s =
      let h = s.header in
      let lists : List (List (List ℕ)) = s.lists in
      let form : EpochForm lists e = epoch_form lists s.lines e s.spells s.plain in
      let forms : (y : ℕ) → y < 7 → ListForm (byte "M") y (get_or lists y []) =
      rw h.same (λ y m. any_letter h.head.letter y (get_or h.head.lists y []) (head_lists h.lines h.head h.header y m)) in
      let lie : AllListsLie (byte "M") b.codes lists = record {
        seven = ap length h.same ∙ h.header.systems;
        some_list = rw h.same h.header.some_list;
        forms = forms;
        room = s.codes_fit;
        laid = s.codes;
      } in
      let same-lengths : (y : ℕ) → get_or lengths y 0 ≡ length (get_or lists y []) =
      λ y. ap (λ (x : List ℕ). get_or x y 0) s.lengths_are ∙ get_or-map (λ (cs : List (List ℕ)). length cs) lists y [] in
      let ss : List Slot = all_slots (rows_of e) in
      let slots_room : length ss ≤ (room b).slots = omega (
        arith,
        begun_room (pos 0) b.numbers (λ (s : Slot). signed_of s.value) ss s.numbers,
        begun_room 0 b.states (λ (s : Slot). state_of s.value) ss s.states,
        begun_room 0 b.losses (λ (s : Slot). mark_of s.loss) ss s.losses,
        begun_room 0 b.strengths (λ (s : Slot). mark_of s.strength) ss s.strengths,
      ) in
      let slots : SlotsLie b 0 ss =
      slots_lie b ss 0 (begun (pos 0) b.numbers (λ (s : Slot). signed_of s.value) ss s.numbers) (begun 0 b.states (λ (s : Slot). state_of s.value) ss s.states)
      (begun 0 b.losses (λ (s : Slot). mark_of s.loss) ss s.losses) (begun 0 b.strengths (λ (s : Slot). mark_of s.strength) ss s.strengths) in
      let g = goes_on b lists lengths same-lengths (lent b) (omega arith) e [] from (split (drop (length (text (lines_of e))) b.carried)) form
      (begun 0 b.satellites satellite (rows_of e) s.satellites) slots (split_begins b.carried (lines_of e) (lines_form lists e form) s.carried) (alone_in_order e) (omega (arith, begun_room 0 b.satellites satellite (rows_of e) s.satellites)) (omega arith) in
      all_of _ _ (subst (λ (x : List ℕ). all_lists_fit (byte "M") x b.codes ≡ true) (sym s.lengths_are) (all_lists_back (byte "M") b.codes lists lie))
      (walks (flat_epoch e) g.to s.epoch g.goes)

pub fit_epoch : Theorems.FitEpoch
fit_epoch = record { sound = sound; complete = complete }
