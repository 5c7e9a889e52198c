-- TABLES THAT PASS THE TEST ARE THOSE THAT SOME TEXT SPELLS. Assumes nothing.
use Prim.Native.Nat.{ℕ, ◌+◌, ◌≤◌}
use mathlib.Core.Path.{◌≡◌, refl, sym, ap, ◌∙◌, subst}
use mathlib.Core.Bool.{true, ◌&&◌}
use mathlib.Core.List.{List, [], ◌∷◌, ◌++◌, map, append-nil}
use Rattle.std.specs.Prelude.{Option, None, Some}
use native.Mathlib.Omega.{arith}
use lib.Dec.{eqb, leb, ltb}
use lib.IntN.{pos}
use lib.ListN.{length, get_or, take, drop, length-append, length-map, take-append-drop, get_or-map}
use lib.Seq.{sets, take_at, drop_at, length-take-le}
use borrow.Author.Tests.{eqb-true, eq-eqb, le-leb, leb-true, lt-ltb, ltb-true}
use Rattle.lists.specs.Lists.{All}
use Rattle.lists.proofs.Bools.{never, both, all_of, Either, left, right}
use Rattle.lists.proofs.Lists.{map_append, on_all}
use Rattle.write_field.specs.Normal.{decimal_fits}
use Rattle.line.specs.Text.{text, Line, Raw, split, raw}
use Rattle.line.proofs.Texts.{split_text, text_of}
use Rattle.rinex.specs.Codes.{is_file_letter}
use Rattle.rinex.specs.File.{Slot, Epoch, Head, File, satellite}
use Rattle.rinex.specs.Tables.{state_of, number_of, signed_of, mark_of, time_of, flag_of, count_of, clock_of, FlatEpoch, flat_epoch, all_rows, all_slots, all_lines, carried_bytes, FlatHead, flat_head, Counts, counts, Buffers, laid_codes, laid, room, Fits}
use Rattle.rinex.specs.Normal.{normal}
use Rattle.rinex.specs.Promises.{Spelled}
use Rattle.rinex.specs.Fit.{is_time, state_fits, head_fits, all_lists_fit, header_lines_fit, Untaken, entry_at, epochs_fit, all_taken, room_fits, tables_fit}
use Rattle.rinex.proofs.Forms.{IntervalForm, FileForm, file_form, all_lines_form}
use Rattle.rinex.proofs.Lent.{Lies, lies_part, part_sets, lies_sets, sets_lies, state_found, SlotsLie, of_slots, slots_lie}
use Rattle.rinex.proofs.LentLines.{time_found, time_back, header_lines_found, header_lines_back}
use Rattle.rinex.proofs.LentLists.{AllListsLie, all_lists_found, all_lists_back}
use Rattle.rinex.proofs.LentEpochs.{EntriesLie, entry_is, epochs_taken, walked}
use Rattle.rinex.proofs.NormalText.{form_spells}
use Rattle.rinex.specs.Theorems

-- a column that is laid out
module _ {A B : Type 0} (d : A) (b : List A) (g : B → A) (xs : List B) where
  column_lies : length xs ≤ length b → sets b 0 (map g xs) ≡ b → Lies d b 0 (map g xs)
  column_lies h e = sets_lies d b (map g xs) (simp length-map h) e

  column_sets : length xs ≤ length b → Lies d b 0 (map g xs) → sets b 0 (map g xs) ≡ b
  column_sets h l = lies_sets d b (map g xs) 0 (simp length-map (omega arith)) l

-- the interval
interval_found : (state m : ℕ) → state_fits state (eqb m 0) (ltb 0 m && decimal_fits 10 3 (pos m)) ≡ true → (o : Option ℕ) × (state ≡ state_of o) × (m ≡ number_of o) × IntervalForm o
interval_found state m h = at (state_found state (eqb m 0) (ltb 0 m && decimal_fits 10 3 (pos m)) h)
  where
    at : Either ((state ≡ 0) × (eqb m 0 ≡ true)) ((state ≡ 1) × ((ltb 0 m && decimal_fits 10 3 (pos m)) ≡ true)) → (o : Option ℕ) × (state ≡ state_of o) × (m ≡ number_of o) × IntervalForm o
    at (left e) = (None, e.0, eqb-true m 0 e.1, tt)
    at (right e) = let p = both (ltb 0 m) _ e.1 in (Some m, e.0, refl, (ltb-true 0 m p.0, p.1))

interval_back : (o : Option ℕ) → IntervalForm o → state_fits (state_of o) (eqb (number_of o) 0) (ltb 0 (number_of o) && decimal_fits 10 3 (pos (number_of o))) ≡ true
interval_back None h = refl
interval_back (Some m) h = all_of (ltb 0 m) _ (lt-ltb 0 m h.0) h.1

module _ (b : Buffers) where
  -- one column of the epoch table
  module _ {A : Type 0} (d : A) (l : List A) where
    of_entries : (g : Epoch → A) → ((e : ℕ) (x : Epoch) → entry_at b e ≡ flat_epoch x → get_or l e d ≡ g x) → (xs : List Epoch) (e : ℕ) → EntriesLie b e xs → Lies d l e (map g xs)
    of_entries g h [] e k = tt
    of_entries g h (x ∷ xs) e k = (h e x k.0, of_entries g h xs (e + 1) k.1)

  entries_lie : (xs : List Epoch) (e : ℕ) → Lies 0 b.times e (map (λ (x : Epoch). number_of (time_of x)) xs) → Lies 0 b.time_states e (map (λ (x : Epoch). state_of (time_of x)) xs)
      → Lies 0 b.flags e (map flag_of xs) → Lies 0 b.counts e (map count_of xs) → Lies (pos 0) b.clocks e (map (λ (x : Epoch). signed_of (clock_of x)) xs)
      → Lies 0 b.clock_states e (map (λ (x : Epoch). state_of (clock_of x)) xs) → EntriesLie b e xs
  entries_lie [] e t u f c k l = tt
  entries_lie (x ∷ xs) e t u f c k l = (
    entry_is (entry_at b e) x u.0 t.0 f.0 c.0 l.0 k.0,
    entries_lie xs (e + 1) t.1 u.1 f.1 c.1 k.1 l.1,
  )

-- complete
module _ (b : Buffers) (f : File) (form : FileForm f) (fits : Fits (room b) f) (entries : laid f b ≡ b) where
  abbrev pub es : List Epoch
  es = f.epochs

  pub lists_lie : AllListsLie f.head.letter b.codes f.head.lists
  unfolding laid room
  lists_lie =
      record { seven = form.head.systems; some_list = form.head.some_list; forms = form.head.lists; room = fits.codes; laid = ap (λ (x : Buffers). x.codes) entries }

  pub lent_entries : EntriesLie b 0 es
  unfolding laid room counts
  lent_entries =
      let m = fits.epochs in
      entries_lie b f.epochs 0
      (column_lies 0 b.times (λ (x : Epoch). number_of (time_of x)) f.epochs (omega (arith, m)) (ap (λ (x : Buffers). x.times) entries))
      (column_lies 0 b.time_states (λ (x : Epoch). state_of (time_of x)) f.epochs (omega (arith, m)) (ap (λ (x : Buffers). x.time_states) entries))
      (column_lies 0 b.flags flag_of f.epochs (omega (arith, m)) (ap (λ (x : Buffers). x.flags) entries))
      (column_lies 0 b.counts count_of f.epochs (omega (arith, m)) (ap (λ (x : Buffers). x.counts) entries))
      (column_lies (pos 0) b.clocks (λ (x : Epoch). signed_of (clock_of x)) f.epochs (omega (arith, m)) (ap (λ (x : Buffers). x.clocks) entries))
      (column_lies 0 b.clock_states (λ (x : Epoch). state_of (clock_of x)) f.epochs (omega (arith, m)) (ap (λ (x : Buffers). x.clock_states) entries))

  pub lent_names : Lies 0 b.satellites 0 (map satellite (all_rows es))
  unfolding laid room counts
  lent_names = column_lies 0 b.satellites satellite (all_rows f.epochs) fits.rows (ap (λ (x : Buffers). x.satellites) entries)

  pub lent_slots : SlotsLie b 0 (all_slots (all_rows es))
  unfolding laid room counts
  lent_slots =
      let k = fits.slots in
      slots_lie b (all_slots (all_rows f.epochs)) 0
      (column_lies (pos 0) b.numbers (λ (s : Slot). signed_of s.value) (all_slots (all_rows f.epochs)) (omega (arith, k)) (ap (λ (x : Buffers). x.numbers) entries))
      (column_lies 0 b.states (λ (s : Slot). state_of s.value) (all_slots (all_rows f.epochs)) (omega (arith, k)) (ap (λ (x : Buffers). x.states) entries))
      (column_lies 0 b.losses (λ (s : Slot). mark_of s.loss) (all_slots (all_rows f.epochs)) (omega (arith, k)) (ap (λ (x : Buffers). x.losses) entries))
      (column_lies 0 b.strengths (λ (s : Slot). mark_of s.strength) (all_slots (all_rows f.epochs)) (omega (arith, k)) (ap (λ (x : Buffers). x.strengths) entries))

  pub lent_lines : split (take (counts f).carried b.carried) ≡ map raw f.head.carried ++ map raw (all_lines es)
  unfolding laid room counts carried_bytes
  lent_lines =
      let cs : List (List ℕ) = f.head.carried in
      let ls : List (List ℕ) = cs ++ all_lines f.epochs in
      let a : All Line ls = on_all Line cs (all_lines f.epochs) form.head.carried (all_lines_form f.head.lists f.epochs form.epochs) in
      let l = sets_lies 0 b.carried (text ls) fits.carried (ap (λ (x : Buffers). x.carried) entries) in
      let k : 0 + length (text ls) ≤ length b.carried = omega (arith, fits.carried) in
      ap split (lies_part 0 b.carried (text ls) 0 k l) ∙ (split_text ls a ∙ map_append raw cs (all_lines f.epochs))

  head_passes : head_fits (flat_head f.head) ≡ true
  unfolding head_fits flat_head
  head_passes =
      all_of (is_file_letter f.head.letter) _ form.head.letter (all_of (is_time f.head.first) _ (time_back f.head.first form.head.first)
      (all_of (ltb f.head.time_system 6) _ (lt-ltb f.head.time_system 6 form.head.time_system) (interval_back f.head.interval form.head.interval)))

  lists_pass : all_lists_fit f.head.letter (flat_head f.head).lengths b.codes ≡ true
  unfolding flat_head
  lists_pass = all_lists_back f.head.letter b.codes f.head.lists lists_lie

  room_passes : room_fits (counts f) (room b) ≡ true
  unfolding room_fits
  room_passes = all_of _ _ (le-leb _ _ fits.epochs) (all_of _ _ (le-leb _ _ fits.rows) (all_of _ _ (le-leb _ _ fits.slots) (le-leb _ _ fits.carried)))

  passes : tables_fit (flat_head f.head) (counts f) b ≡ true
  unfolding tables_fit flat_head counts room
  passes =
      let cs : List (List ℕ) = f.head.carried in
      let ls : List Raw = split (take (counts f).carried b.carried) in
      let m : length (map raw cs) ≡ length cs = length-map cs raw in
      let t : take (length cs) ls ≡ map raw cs = ap (take (length cs)) lent_lines ∙ take_at (map raw cs) (map raw (all_lines f.epochs)) (length cs) m in
      let d : drop (length cs) ls ≡ map raw (all_lines f.epochs) = ap (drop (length cs)) lent_lines ∙ drop_at (map raw cs) (map raw (all_lines f.epochs)) (length cs) m in
      let k : length cs ≤ length ls = omega (arith, ap length lent_lines, length-append (map raw cs) (map raw (all_lines f.epochs))) in
      let lengths : List ℕ = map (λ (cs : List (List ℕ)). length cs) f.head.lists in
      let w = walked b f.head.lists lengths (λ y. get_or-map (λ (cs : List (List ℕ)). length cs) f.head.lists y []) (counts f) fits.rows
      f.epochs 0 (record { row = 0; slot = 0; lines = drop (length cs) ls; last = None }) lent_entries form.epochs lent_names lent_slots d form.order (omega arith) (omega arith) in
      all_of _ _ head_passes (all_of _ _ lists_pass (all_of _ _ room_passes (all_of _ _ (le-leb (length cs) (length ls) k)
      (all_of _ _ (subst (λ (x : List Raw). header_lines_fit x ≡ true) (sym t) (header_lines_back cs form.head.carried form.head.kept))
      (ap (all_taken (counts f)) w.walks ∙ all_of _ _ (eq-eqb w.to.row (counts f).rows (omega (arith, w.row))) (all_of _ _ (eq-eqb w.to.slot (counts f).slots (omega (arith, w.slot))) (eq-eqb (length w.to.lines) 0 (ap length w.lines))))))))

complete : (h : FlatHead) (n : Counts) (b : Buffers) (f : File) → Spelled h n b f → tables_fit h n b ≡ true
complete h n b f p =
    subst (λ (x : FlatHead). tables_fit x n b ≡ true) (sym p.hold.head) (subst (λ (x : Counts). tables_fit (flat_head f.head) x b ≡ true) (sym p.hold.lengths)
    (passes b f (file_form p.a_text f p.spells) p.hold.fits p.hold.entries))

-- sound
taken_all : (n : Counts) (o : Option Untaken) → all_taken n o ≡ true → (c : Untaken) × (o ≡ Some c) × (c.row ≡ n.rows) × (c.slot ≡ n.slots) × (c.lines ≡ [])
taken_all n None h = absurd (never h)
taken_all n (Some c) h =
    let p = both (eqb c.row n.rows) _ h in
    let q = both (eqb c.slot n.slots) _ p.1 in
    (c, refl, eqb-true _ _ p.0, eqb-true _ _ q.0, empty c.lines (eqb-true (length c.lines) 0 q.1))
  where
    empty : (ls : List Raw) → length ls ≡ 0 → ls ≡ []
    empty [] e = refl
    empty (l ∷ ls) e = absurd (omega arith)

-- a file that lies in the tables is held
record InTables (b : Buffers) (f : File) : Type 0 where
  pub fits : Fits (room b) f
  pub codes : laid_codes 0 f.head.lists b.codes ≡ b.codes
  pub entries : EntriesLie b 0 f.epochs
  pub names : Lies 0 b.satellites 0 (map satellite (all_rows f.epochs))
  pub slots : SlotsLie b 0 (all_slots (all_rows f.epochs))
  pub carried : sets b.carried 0 (carried_bytes f) ≡ b.carried

laid_same : (b : Buffers) (f : File) → InTables b f → laid f b ≡ b
unfolding laid room counts flat_epoch
laid_same b f t =
    let m = t.fits.epochs in
    let k = t.fits.slots in
    let en = t.entries in
    let ss : List Slot = all_slots (all_rows f.epochs) in
    let p1 = t.codes in
    let p2 = column_sets 0 b.times (λ (x : Epoch). number_of (time_of x)) f.epochs (omega (arith, m)) (of_entries b 0 b.times (λ (x : Epoch). number_of (time_of x)) (λ e x k. ap (λ (y : FlatEpoch). y.time) k) f.epochs 0 en) in
    let p3 = column_sets 0 b.time_states (λ (x : Epoch). state_of (time_of x)) f.epochs (omega (arith, m)) (of_entries b 0 b.time_states (λ (x : Epoch). state_of (time_of x)) (λ e x k. ap (λ (y : FlatEpoch). y.time_state) k) f.epochs 0 en) in
    let p4 = column_sets 0 b.flags flag_of f.epochs (omega (arith, m)) (of_entries b 0 b.flags flag_of (λ e x k. ap (λ (y : FlatEpoch). y.flag) k) f.epochs 0 en) in
    let p5 = column_sets 0 b.counts count_of f.epochs (omega (arith, m)) (of_entries b 0 b.counts count_of (λ e x k. ap (λ (y : FlatEpoch). y.count) k) f.epochs 0 en) in
    let p6 = column_sets (pos 0) b.clocks (λ (x : Epoch). signed_of (clock_of x)) f.epochs (omega (arith, m)) (of_entries b (pos 0) b.clocks (λ (x : Epoch). signed_of (clock_of x)) (λ e x k. ap (λ (y : FlatEpoch). y.clock) k) f.epochs 0 en) in
    let p7 = column_sets 0 b.clock_states (λ (x : Epoch). state_of (clock_of x)) f.epochs (omega (arith, m)) (of_entries b 0 b.clock_states (λ (x : Epoch). state_of (clock_of x)) (λ e x k. ap (λ (y : FlatEpoch). y.clock_state) k) f.epochs 0 en) in
    let p8 = column_sets 0 b.satellites satellite (all_rows f.epochs) t.fits.rows t.names in
    let p9 = column_sets (pos 0) b.numbers (λ (s : Slot). signed_of s.value) ss (omega (arith, k)) (of_slots b (pos 0) b.numbers (λ (s : Slot). signed_of s.value) (λ e x k. k.number) ss 0 t.slots) in
    let pa = column_sets 0 b.states (λ (s : Slot). state_of s.value) ss (omega (arith, k)) (of_slots b 0 b.states (λ (s : Slot). state_of s.value) (λ e x k. k.state) ss 0 t.slots) in
    let pb = column_sets 0 b.losses (λ (s : Slot). mark_of s.loss) ss (omega (arith, k)) (of_slots b 0 b.losses (λ (s : Slot). mark_of s.loss) (λ e x k. k.loss) ss 0 t.slots) in
    let pc = column_sets 0 b.strengths (λ (s : Slot). mark_of s.strength) ss (omega (arith, k)) (of_slots b 0 b.strengths (λ (s : Slot). mark_of s.strength) (λ e x k. k.strength) ss 0 t.slots) in
    let pd = t.carried in
    λ i. record {
      codes = p1 i;
      times = p2 i;
      time_states = p3 i;
      flags = p4 i;
      counts = p5 i;
      clocks = p6 i;
      clock_states = p7 i;
      satellites = p8 i;
      numbers = p9 i;
      states = pa i;
      losses = pb i;
      strengths = pc i;
      carried = pd i;
    }

bytes_laid : (b xs : List ℕ) (n : ℕ) → n ≤ length b → take n b ≡ xs → n ≡ length xs → sets b 0 xs ≡ b
bytes_laid b xs n h e l =
    part_sets b xs 0 (omega arith) (subst (λ (x : ℕ). take x b ≡ xs) l e)

sound : (h : FlatHead) (n : Counts) (b : Buffers) → tables_fit h n b ≡ true → (f : File) × Spelled h n b f
unfolding tables_fit head_fits room_fits room flat_head counts carried_bytes
sound h n b t =
    let ls : List Raw = split (take n.carried b.carried) in
    let a1 = both (head_fits h) _ t in
    let a2 = both (all_lists_fit h.letter h.lengths b.codes) _ a1.1 in
    let a3 = both (room_fits n (room b)) _ a2.1 in
    let a4 = both (leb h.header_lines (length ls)) _ a3.1 in
    let a5 = both (header_lines_fit (take h.header_lines ls)) _ a4.1 in
    let h1 = both (is_file_letter h.letter) _ a1.0 in
    let h2 = both (is_time h.first) _ h1.1 in
    let h3 = both (ltb h.time_system 6) _ h2.1 in
    let iv = interval_found h.interval_state h.interval h3.1 in
    let li = all_lists_found h.letter b.codes h.lengths a2.0 in
    let r1 = both (leb n.epochs (room b).epochs) _ a3.0 in
    let r2 = both (leb n.rows (length b.satellites)) _ r1.1 in
    let r3 = both (leb n.slots (room b).slots) _ r2.1 in
    let hl = header_lines_found (take h.header_lines ls) a5.0 in
    let c0 : Untaken = record { row = 0; slot = 0; lines = drop h.header_lines ls; last = None } in
    let w = taken_all n (epochs_fit h.lengths n b n.epochs 0 c0) a5.1 in
    let lists : List (List (List ℕ)) = li.0 in
    let long : map (λ (cs : List (List ℕ)). length cs) lists ≡ h.lengths = li.1 in
    let same-lengths : (y : ℕ) → get_or h.lengths y 0 ≡ length (get_or lists y []) =
    λ y. ap (λ (x : List ℕ). get_or x y 0) (sym long) ∙ get_or-map (λ (cs : List (List ℕ)). length cs) lists y [] in
    let rows_room : n.rows ≤ length b.satellites = leb-true _ _ r2.0 in
    let e = epochs_taken b lists h.lengths same-lengths n rows_room n.epochs 0 c0 w.0 w.1 in
    let head : Head = record { letter = h.letter; lists = lists; first = h.first; time_system = h.time_system; interval = iv.0; carried = hl.lines } in
    let f : File = record { head = head; epochs = e.epochs } in
    let form : FileForm f = record {
      head = record {
        letter = h1.0;
        systems = li.2.seven;
        lists = li.2.forms;
        some_list = li.2.some_list;
        first = time_found h.first h2.0;
        time_system = ltb-true h.time_system 6 h3.0;
        interval = iv.3;
        carried = hl.line;
        kept = hl.kept;
      };
      epochs = e.forms;
      order = e.order;
    } in
    let header-many : h.header_lines ≡ length hl.lines =
    sym (length-take-le h.header_lines ls (leb-true h.header_lines (length ls) a4.0)) ∙ (ap length hl.raws ∙ length-map hl.lines raw) in
    let all_lines_are : ls ≡ map raw (hl.lines ++ all_lines e.epochs) =
    sym (take-append-drop h.header_lines ls) ∙ (ap (λ (x : List Raw). x ++ drop h.header_lines ls) hl.raws
    ∙ (ap (λ (x : List Raw). map raw hl.lines ++ x) (e.lines ∙ (ap (λ (x : List Raw). map raw (all_lines e.epochs) ++ x) w.4 ∙ append-nil (map raw (all_lines e.epochs))))
    ∙ sym (map_append raw hl.lines (all_lines e.epochs)))) in
    let bytes : take n.carried b.carried ≡ text (hl.lines ++ all_lines e.epochs) = text_of (take n.carried b.carried) (hl.lines ++ all_lines e.epochs) all_lines_are in
    let carried-room : n.carried ≤ length b.carried = leb-true _ _ r3.1 in
    let bytes-many : n.carried ≡ length (text (hl.lines ++ all_lines e.epochs)) = sym (length-take-le n.carried b.carried carried-room) ∙ ap length bytes in
    let q1 : n.epochs ≡ length e.epochs = sym e.long in
    let q2 : n.rows ≡ length (all_rows e.epochs) = omega (arith, w.2, e.row) in
    let q3 : n.slots ≡ length (all_slots (all_rows e.epochs)) = omega (arith, w.3, e.slot) in
    let same-counts : n ≡ counts f = λ i. record { epochs = q1 i; rows = q2 i; slots = q3 i; carried = bytes-many i } in
    let u1 = iv.1 in
    let longs = sym long in
    let u2 = iv.2 in
    let same_head : h ≡ flat_head head =
    λ i. record { letter = h.letter; lengths = longs i; first = h.first; time_system = h.time_system; interval_state = u1 i; interval = u2 i; header_lines = header-many i } in
    let fits : Fits (room b) f = record {
      codes = li.2.room;
      epochs = subst (λ (x : ℕ). x ≤ (room b).epochs) q1 (leb-true _ _ r1.0);
      rows = subst (λ (x : ℕ). x ≤ length b.satellites) q2 rows_room;
      slots = subst (λ (x : ℕ). x ≤ (room b).slots) q3 (leb-true _ _ r3.0);
      carried = subst (λ (x : ℕ). x ≤ length b.carried) bytes-many carried-room;
    } in
    let carried-there : sets b.carried 0 (text (hl.lines ++ all_lines e.epochs)) ≡ b.carried =
    bytes_laid b.carried (text (hl.lines ++ all_lines e.epochs)) n.carried carried-room bytes bytes-many in
    let there : InTables b f = record { fits = fits; codes = li.2.laid; entries = e.entries; names = e.names; slots = e.slots; carried = carried-there } in
    (f, record { hold = record { head = same_head; lengths = same-counts; fits = fits; entries = laid_same b f there }; a_text = normal f; spells = form_spells f form })

pub fit_tables : Theorems.FitTables
fit_tables = record { sound = sound; complete = complete }
