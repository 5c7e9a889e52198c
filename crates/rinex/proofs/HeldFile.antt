-- THE FILE READ OFF FROM TABLES is the one that they hold, and an epoch that is lent alone. Assumes nothing.
use Prim.Native.Nat.{ℕ, zero, suc, ◌+◌, ◌*◌, ◌/◌, ◌%◌, ◌≤◌, ◌<◌}
use mathlib.Core.Path.{◌≡◌, refl, sym, ap, ◌∙◌, subst}
use mathlib.Core.Bool.{false}
use mathlib.Core.List.{List, [], ◌∷◌, ◌++◌, map}
use Rattle.std.specs.Prelude.{Option, None, Some}
use native.Mathlib.Omega.{arith}
use lib.Dec.{leb}
use lib.IntN.{ℤ, pos}
use lib.ListN.{length, get_or, take, drop, length-map, get_or-map}
use lib.Seq.{take_at, drop_at}
use borrow.Author.Tests.{ne_eqb, le-leb, lt-leb}
use Rattle.lists.specs.Lists.{All}
use Rattle.lists.proofs.Lists.{map_append}
use Rattle.line.specs.Text.{text, Raw, split, raw}
use Rattle.rinex.specs.File.{Slot, Row, Epoch, observed, event, File, satellite}
use Rattle.rinex.specs.Tables.{state_of, number_of, signed_of, mark_of, packed, rows_of, lines_of, FlatEpoch, flat_epoch, all_rows, all_slots, all_lines, FlatHead, flat_head, Counts, counts, Buffers, laid, room, Fits}
use Rattle.rinex.specs.Fit.{part, unpacked, codes_of_row, entry_at}
use Rattle.rinex.specs.Held.{optional, mark_in, slot_at, slots_at, row_at, rows_at, bytes_of, epoch_at, epochs_at, lists_at, file_at}
use Rattle.rinex.specs.Promises.{Spelled, EpochSpelled}
use Rattle.rinex.proofs.Counting.{slots_append}
use Rattle.rinex.proofs.Forms.{taken_codes, MarkForm, SlotForm, RowForm, EpochForm, epoch_form, all_rows_form, FileForm, file_form}
use Rattle.rinex.proofs.Lent.{Lies, lies_on, lies_part, SlotLies, SlotsLie, slots_on, slots_lie}
use Rattle.rinex.proofs.LentLists.{ListLies, ListsLie, unpacked_again, laid_lie}
use Rattle.rinex.proofs.LentEpochs.{EntriesLie}
use Rattle.rinex.proofs.FitTables.{lists_lie, lent_entries, lent_names, lent_slots, lent_lines}
use Rattle.rinex.proofs.OneEpoch.{split_begins}
use Rattle.rinex.proofs.FitEpoch.{begun, lines_form}

-- what may be missing
optional_signed : (o : Option ℤ) → optional (state_of o) (signed_of o) ≡ o
optional_signed None = refl
optional_signed (Some z) = refl

optional_number : (o : Option ℕ) → optional (state_of o) (number_of o) ≡ o
optional_number None = refl
optional_number (Some n) = refl

mark_is : (top : ℕ) (o : Option ℕ) → top < 255 → MarkForm top o → mark_in (mark_of o) ≡ o
mark_is top None h f = refl
mark_is top (Some m) h f = rw (ne_eqb m 255 (λ e. omega (arith, e, f, h)))

bytes_raw : (ls : List (List ℕ)) → bytes_of (map raw ls) ≡ ls
bytes_raw [] = refl
bytes_raw (l ∷ ls) = ap (λ (x : List (List ℕ)). l ∷ x) (bytes_raw ls)

module _ (b : Buffers) where
  -- slots
  slot_is : (i : ℕ) (s : Slot) → SlotLies b i s → SlotForm s → slot_at b i ≡ s
  slot_is i s l f =
      let v : optional (get_or b.states i 0) (get_or b.numbers i (pos 0)) ≡ s.value = rw (l.state, l.number) (optional_signed s.value) in
      let x : mark_in (get_or b.losses i 0) ≡ s.loss = rw l.loss (mark_is 7 s.loss (omega arith) f.loss) in
      let y : mark_in (get_or b.strengths i 0) ≡ s.strength = rw l.strength (mark_is 9 s.strength (omega arith) f.strength) in
      λ k. record { value = v k; loss = x k; strength = y k }

  pub slots_length : (k i : ℕ) → length (slots_at b k i) ≡ k
  unfolding slots_at
  slots_length zero i = refl
  slots_length (suc k) i = ap suc (slots_length k (i + 1))

  slots_are : (ss : List Slot) (i : ℕ) → SlotsLie b i ss → All SlotForm ss → slots_at b (length ss) i ≡ ss
  unfolding slots_at
  slots_are [] i l f = refl
  slots_are (s ∷ ss) i l f =
      let p : slot_at b i ≡ s = slot_is i s l.0 f.0 in
      let q : slots_at b (length ss) (i + 1) ≡ ss = slots_are ss (i + 1) l.1 f.1 in
      λ k. p k ∷ q k

  module _ (lists : List (List (List ℕ))) (lengths : List ℕ) (same-lengths : (y : ℕ) → get_or lengths y 0 ≡ length (get_or lists y [])) where
    -- rows
    many_are : (r : Row) (j : ℕ) → get_or b.satellites j 0 ≡ satellite r → RowForm lists r → codes_of_row lengths b j ≡ length r.slots
    many_are r j e f =
        let s : get_or b.satellites j 0 / 100 ≡ r.system = omega (arith, e, f.number) in
        ap (λ (y : ℕ). get_or lengths y 0) s ∙ (same-lengths r.system ∙ sym f.many)

    row_is : (r : Row) (j i : ℕ) → get_or b.satellites j 0 ≡ satellite r → SlotsLie b i r.slots → RowForm lists r → row_at lengths b j i ≡ r
    row_is r j i e l f =
        let s : get_or b.satellites j 0 / 100 ≡ r.system = omega (arith, e, f.number) in
        let m : get_or b.satellites j 0 % 100 ≡ r.number = omega (arith, e, f.number) in
        let x : slots_at b (codes_of_row lengths b j) i ≡ r.slots = ap (λ (y : ℕ). slots_at b y i) (many_are r j e f) ∙ slots_are r.slots i l f.slots in
        λ k. record { system = s k; number = m k; slots = x k }

    pub rows_are : (rs : List Row) (j i : ℕ) → Lies 0 b.satellites j (map satellite rs) → SlotsLie b i (all_slots rs) → All (RowForm lists) rs → rows_at lengths b (length rs) j i ≡ rs
    unfolding rows_at all_slots
    rows_are [] j i a l f = refl
    rows_are (r ∷ rs) j i a l f =
        let t = slots_on b r.slots (all_slots rs) i l in
        let p : row_at lengths b j i ≡ r = row_is r j i a.0 t.0 f.0 in
        let q : rows_at lengths b (length rs) (j + 1) (i + codes_of_row lengths b j) ≡ rs =
        ap (λ (y : ℕ). rows_at lengths b (length rs) (j + 1) (i + y)) (many_are r j a.0 f.0) ∙ rows_are rs (j + 1) (i + length r.slots) a.1 t.1 f.1 in
        λ k. p k ∷ q k

    -- epochs
    epoch_is : (x : Epoch) (j i : ℕ) (ws vs : List Raw) → EpochForm lists x → Lies 0 b.satellites j (map satellite (rows_of x)) → SlotsLie b i (all_slots (rows_of x))
        → ws ≡ map raw (lines_of x) ++ vs → epoch_at lengths b (flat_epoch x) j i ws ≡ x
    unfolding epoch_at flat_epoch
    epoch_is (observed o) j i ws vs f a l e =
        let c : optional (state_of o.clock) (signed_of o.clock) ≡ o.clock = optional_signed o.clock in
        let r : rows_at lengths b (length o.rows) j i ≡ o.rows = rows_are o.rows j i a l f.rows in
        rw (le-leb o.flag 1 f.flag) (λ k. observed (record { time = o.time; flag = o.flag; clock = c k; rows = r k }))
    epoch_is (event v) j i ws vs f a l e =
        let high : leb v.flag 1 ≡ false = lt-leb v.flag 1 (omega (arith, f.flag_from)) in
        let t : optional (state_of v.time) (number_of v.time) ≡ v.time = optional_number v.time in
        let y : bytes_of (take (length v.lines) ws) ≡ v.lines =
        ap (λ (z : List Raw). bytes_of (take (length v.lines) z)) e ∙ (ap bytes_of (take_at (map raw v.lines) vs (length v.lines) (length-map v.lines raw)) ∙ bytes_raw v.lines) in
        rw high (λ k. event (record { time = t k; flag = v.flag; lines = y k }))

    epochs_are : (xs : List Epoch) (e j i : ℕ) (ws : List Raw) → EntriesLie b e xs → All (EpochForm lists) xs → Lies 0 b.satellites j (map satellite (all_rows xs)) → SlotsLie b i (all_slots (all_rows xs))
        → ws ≡ map raw (all_lines xs) → epochs_at lengths b (length xs) e j i ws ≡ xs
    unfolding epochs_at all_rows all_lines
    epochs_are [] e j i ws en f a l h = refl
    epochs_are (x ∷ xs) e j i ws en f a l h =
        let rs : List Row = rows_of x in
        let qs : List Row = all_rows xs in
        let s : all_slots (rs ++ qs) ≡ all_slots rs ++ all_slots qs = slots_append rs qs in
        let nm = lies_on 0 b.satellites (map satellite rs) (map satellite qs) j (subst (λ (y : List ℕ). Lies 0 b.satellites j y) (map_append satellite rs qs) a) in
        let sm = slots_on b (all_slots rs) (all_slots qs) i (subst (λ (y : List Slot). SlotsLie b i y) s l) in
        let m : j + length (map satellite rs) ≡ j + length rs = ap (λ (y : ℕ). j + y) (length-map rs satellite) in
        let g : ws ≡ map raw (lines_of x) ++ map raw (all_lines xs) = h ∙ map_append raw (lines_of x) (all_lines xs) in
        let d : drop (length (lines_of x)) ws ≡ map raw (all_lines xs) = ap (drop (length (lines_of x))) g ∙ drop_at (map raw (lines_of x)) (map raw (all_lines xs)) (length (lines_of x)) (length-map (lines_of x) raw) in
        let p : epoch_at lengths b (entry_at b e) j i ws ≡ x = ap (λ (y : FlatEpoch). epoch_at lengths b y j i ws) en.0 ∙ epoch_is x j i ws (map raw (all_lines xs)) f.0 nm.0 sm.0 g in
        let r : epochs_at lengths b (length xs) (e + 1) (j + length rs) (i + length (all_slots rs)) (drop (length (lines_of x)) ws) ≡ xs =
        epochs_are xs (e + 1) (j + length rs) (i + length (all_slots rs)) (drop (length (lines_of x)) ws) en.1 f.1 (subst (λ (y : ℕ). Lies 0 b.satellites y (map satellite qs)) m nm.1) sm.1 d in
        ap (λ (y : Epoch). y ∷ epochs_at lengths b (length xs) (e + 1) (j + length (rows_of y)) (i + length (all_slots (rows_of y))) (drop (length (lines_of y)) ws)) p ∙ ap (λ (y : List Epoch). x ∷ y) r

-- lists
list_is : (letter : ℕ) (codes : List ℕ) (s : ℕ) (cs : List (List ℕ)) → ListLies letter codes s cs → map unpacked (part codes (64 * s) (length cs)) ≡ cs
list_is letter codes s [] l = refl
list_is letter codes s (c ∷ cs) l =
    let m : length (map packed (c ∷ cs)) ≡ length (c ∷ cs) = length-map (c ∷ cs) packed in
    let r : 64 * s + length (c ∷ cs) ≤ length codes = l.room (omega arith) in
    let p : part codes (64 * s) (length (c ∷ cs)) ≡ map packed (c ∷ cs) =
    ap (λ (y : ℕ). take y (drop (64 * s) codes)) (sym m) ∙ lies_part 0 codes (map packed (c ∷ cs)) (64 * s) (omega arith) l.lies in
    ap (map unpacked) p ∙ unpacked_again (c ∷ cs) (taken_codes s (c ∷ cs) l.form.codes)

lists_are : (letter : ℕ) (codes : List ℕ) (lists : List (List (List ℕ))) (s : ℕ) → ListsLie letter codes s lists → lists_at s (map (λ (cs : List (List ℕ)). length cs) lists) codes ≡ lists
unfolding lists_at
lists_are letter codes [] s l = refl
lists_are letter codes (cs ∷ css) s l =
    let p : map unpacked (part codes (64 * s) (length cs)) ≡ cs = list_is letter codes s cs l.0 in
    let q : lists_at (s + 1) (map (λ (xs : List (List ℕ)). length xs) css) codes ≡ css = lists_are letter codes css (s + 1) l.1 in
    λ k. p k ∷ q k

-- the file
module _ (b : Buffers) (f : File) (form : FileForm f) (fits : Fits (room b) f) (entries : laid f b ≡ b) where
  all_lists_lem : lists_at 0 (map (λ (cs : List (List ℕ)). length cs) f.head.lists) b.codes ≡ f.head.lists
  all_lists_lem =
      let h = lists_lie b f form fits entries in
      lists_are f.head.letter b.codes f.head.lists 0
      (subst (λ (x : List ℕ). ListsLie f.head.letter x 0 f.head.lists) h.laid (laid_lie f.head.letter b.codes f.head.lists h.seven h.forms h.room))

  -- the rows of all epochs are those of the table
  pub file_rows : rows_at (map (λ (cs : List (List ℕ)). length cs) f.head.lists) b (length (all_rows f.epochs)) 0 0 ≡ all_rows f.epochs
  file_rows =
      let lists : List (List (List ℕ)) = f.head.lists in
      rows_are b lists (map (λ (cs : List (List ℕ)). length cs) lists) (λ y. get_or-map (λ (cs : List (List ℕ)). length cs) lists y [])
      (all_rows f.epochs) 0 0 (lent_names b f form fits entries) (lent_slots b f form fits entries) (all_rows_form lists f.epochs form.epochs)

  file_is : file_at (flat_head f.head) (counts f) b ≡ f
  unfolding file_at flat_head counts
  file_is =
      let cs : List (List ℕ) = f.head.carried in
      let ls : List Raw = split (take (counts f).carried b.carried) in
      let g = lent_lines b f form fits entries in
      let m : length (map raw cs) ≡ length cs = length-map cs raw in
      let t : bytes_of (take (length cs) ls) ≡ cs = ap (λ (x : List Raw). bytes_of (take (length cs) x)) g ∙ (ap bytes_of (take_at (map raw cs) (map raw (all_lines f.epochs)) (length cs) m) ∙ bytes_raw cs) in
      let d : drop (length cs) ls ≡ map raw (all_lines f.epochs) = ap (drop (length cs)) g ∙ drop_at (map raw cs) (map raw (all_lines f.epochs)) (length cs) m in
      let i : optional (state_of f.head.interval) (number_of f.head.interval) ≡ f.head.interval = optional_number f.head.interval in
      let l = all_lists_lem in
      let e = epochs_are b f.head.lists (map (λ (xs : List (List ℕ)). length xs) f.head.lists) (λ y. get_or-map (λ (xs : List (List ℕ)). length xs) f.head.lists y [])
      f.epochs 0 0 0 (drop (length cs) ls) (lent_entries b f form fits entries) form.epochs (lent_names b f form fits entries) (lent_slots b f form fits entries) d in
      λ k. record { head = record { letter = f.head.letter; lists = l k; first = f.head.first; time_system = f.head.time_system; interval = i k; carried = t k }; epochs = e k }

pub held_file : (h : FlatHead) (n : Counts) (b : Buffers) (f : File) → Spelled h n b f → file_at h n b ≡ f
held_file h n b f p =
    ap (λ (x : FlatHead). file_at x n b) p.hold.head ∙ (ap (λ (x : Counts). file_at (flat_head f.head) x b) p.hold.lengths
    ∙ file_is b f (file_form p.a_text f p.spells) p.hold.fits p.hold.entries)

pub held_rows : (h : FlatHead) (n : Counts) (b : Buffers) (f : File) → Spelled h n b f → rows_at h.lengths b n.rows 0 0 ≡ all_rows f.epochs
unfolding flat_head counts
held_rows h n b f p =
    ap (λ (x : FlatHead). rows_at x.lengths b n.rows 0 0) p.hold.head ∙ (ap (λ (x : Counts). rows_at (flat_head f.head).lengths b x.rows 0 0) p.hold.lengths
    ∙ file_rows b f (file_form p.a_text f p.spells) p.hold.fits p.hold.entries)

-- an epoch that is lent alone
pub epoch_slots : (lengths : List ℕ) (p : FlatEpoch) (b : Buffers) (e : Epoch) → EpochSpelled lengths p b e → SlotsLie b 0 (all_slots (rows_of e))
epoch_slots lengths p b e s =
    let ss : List Slot = all_slots (rows_of e) in
    slots_lie b ss 0 (begun (pos 0) b.numbers (λ (s : Slot). signed_of s.value) ss s.numbers) (begun 0 b.states (λ (s : Slot). state_of s.value) ss s.states)
    (begun 0 b.losses (λ (s : Slot). mark_of s.loss) ss s.losses) (begun 0 b.strengths (λ (s : Slot). mark_of s.strength) ss s.strengths)

pub held_epoch : (lengths : List ℕ) (p : FlatEpoch) (b : Buffers) (e : Epoch) → EpochSpelled lengths p b e → epoch_at lengths b p 0 0 (split b.carried) ≡ e
held_epoch lengths p b e s =
    let lists : List (List (List ℕ)) = s.lists in
    let form : EpochForm lists e = epoch_form lists s.lines e s.spells s.plain in
    let same-lengths : (y : ℕ) → get_or lengths y 0 ≡ length (get_or lists y []) =
    λ y. ap (λ (x : List ℕ). get_or x y 0) s.lengths_are ∙ get_or-map (λ (cs : List (List ℕ)). length cs) lists y [] in
    ap (λ (x : FlatEpoch). epoch_at lengths b x 0 0 (split b.carried)) s.epoch
    ∙ epoch_is b lists lengths same-lengths e 0 0 (split b.carried) (split (drop (length (text (lines_of e))) b.carried)) form (begun 0 b.satellites satellite (rows_of e) s.satellites) (epoch_slots lengths p b e s)
    (split_begins b.carried (lines_of e) (lines_form lists e form) s.carried)
