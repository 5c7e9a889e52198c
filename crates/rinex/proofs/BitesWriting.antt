-- THE PROMISES OF WRITING AND OF SLOT QUESTIONS BITE: at the tables of the paper's example, or at tables that no text spells, wrong programs
-- are not allowed. Assumes nothing.
use Prim.Native.Nat.{ℕ, ◌≤◌}
use mathlib.Core.Path.{◌≡◌, refl, ap, sym, ◌∙◌}
use mathlib.Core.Bool.{true, false}
use mathlib.Core.List.{List, [], ◌∷◌}
use native.Mathlib.Omega.{arith}
use lib.Dec.{leb→le}
use lib.ListN.{get_or, set, replicate}
use lib.Seq.{sets}
use lib.IntN.{pos, negsuc}
use lib.Ieee.{Float}
use Rattle.lists.specs.Lists.{bytes}
use Rattle.lists.proofs.Bools.{never}
use Rattle.lists.proofs.Lists.{all_on}
use Rattle.line.specs.Text.{Line}
use Rattle.rinex.specs.File.{File}
use Rattle.rinex.specs.Tables.{packed, all_rows, all_slots, all_lines, carried_bytes, FlatHead, flat_head, Counts, counts, Buffers, laid_codes, laid, room, flat_epoch}
use Rattle.rinex.specs.Normal.{normal, normal_epoch, epoch_lines}
use Rattle.rinex.specs.Answers.{Answer, metres, cycles, blank, not_declared, no_row, unspelled, thousandth, measured, answer_at, answer}
use Rattle.rinex.specs.Promises.{Spelled, WriteReply, written, no_text, no_place, Write, EpochSpelled, WriteEpoch, Answers, Slotted}
use Rattle.rinex.proofs.Forms.{file_form}
use Rattle.rinex.proofs.NormalEpochs.{epoch_normal}
use Rattle.rinex.proofs.FitTables.{fit_tables}
use Rattle.rinex.proofs.Settled.{settled}
use Rattle.rinex.proofs.Examples.{judged_in, counted, file, fitting}
use Rattle.rinex.proofs.Examples as examples
use Rattle.rinex.proofs.ExampleSpelled.{example_spelled}
use Rattle.rinex.proofs.ExamplePair.{later, over, later_spelled}
use Rattle.rinex.proofs.Bites.{lent, has_room, example, other}

-- the example's tables; those of the later epoch have the same head and counts
abbrev pub head : FlatHead
head = flat_head file.head

abbrev pub sizes : Counts
sizes = counted 1 2 3 0

abbrev pub tables : Buffers
tables = laid file lent

abbrev other_tables : Buffers
other_tables = laid (over (later ∷ [])) lent

pub held : Spelled head sizes tables file
unfolding lent laid laid_codes all_rows all_slots all_lines carried_bytes counts room judged_in
held =
    record {
      hold = record { head = refl; lengths = refl; fits = (has_room (room tables) example file sizes example_spelled refl).0; entries = refl };
      a_text = example;
      spells = example_spelled;
    }

other_held : Spelled head sizes other_tables (over (later ∷ []))
unfolding lent laid laid_codes all_rows all_slots all_lines carried_bytes counts room judged_in
other_held =
    record {
      hold = record { head = refl; lengths = refl; fits = (has_room (room other_tables) other (over (later ∷ [])) sizes later_spelled refl).0; entries = refl };
      a_text = other;
      spells = later_spelled;
    }

-- no text spells these: beside the blank value of the row R12 stands a number other than 0
unfoldable pub marred : Buffers
marred =
    record {
      codes = tables.codes;
      times = tables.times;
      time_states = tables.time_states;
      flags = tables.flags;
      counts = tables.counts;
      clocks = tables.clocks;
      clock_states = tables.clock_states;
      satellites = tables.satellites;
      numbers = set tables.numbers 2 (pos 5);
      states = tables.states;
      losses = tables.losses;
      strengths = tables.strengths;
      carried = tables.carried;
    }

pub unspelled_marred : (f : File) → Spelled head sizes marred f → ⊥
unfolding fitting lent marred
unspelled_marred f s = let e : false ≡ true = fit_tables.complete head sizes marred f s in never e

-- THE RIGHT ANSWERS
-- the lent bytes; the text is to stand from place 3 on
abbrev pub out : List ℕ
out = replicate 490 7

abbrev small : List ℕ
small = replicate 470 7

-- one reply to a write is allowed, and one thing to leave
pub record Only (b : Buffers) (o a : List ℕ) (r : WriteReply) : Type 0 where
  pub reply : (c : List ℕ) (s : WriteReply) → Write head sizes b o c 3 s → r ≡ s
  pub text : (c : List ℕ) (s : WriteReply) → Write head sizes b o c 3 s → a ≡ c

only : (b : Buffers) (o a : List ℕ) (r : WriteReply) → Write head sizes b o a 3 r → Only b o a r
only b o a r p =
    record {
      reply = λ c s q. (settled.write head sizes b o a c 3 r s p q).0;
      text = λ c s q. (settled.write head sizes b o a c 3 r s p q).1;
    }

at_tables : Only tables out (sets out 3 (normal file)) (written 468)
unfolding examples.written
at_tables =
    only tables out _ (written 468)
    (file, held, record { fits = record { buffer = leb→le 471 490 tt; size = leb→le 468 1073741824 tt }; length_is = refl; bytes = refl })

at_other : Only other_tables out (sets out 3 (normal (over (later ∷ [])))) (written 483)
unfolding examples.written
at_other =
    only other_tables out _ (written 483)
    (over (later ∷ []), other_held, record { fits = record { buffer = leb→le 486 490 tt; size = leb→le 483 1073741824 tt }; length_is = refl; bytes = refl })

at_small : Only tables small small no_place
unfolding examples.written
at_small = only tables small small no_place (file, held, (λ f. let z : 471 ≤ 470 = f.buffer in omega arith), refl)

at_marred : Only marred out out no_text
at_marred = only marred out out no_text (unspelled_marred, refl)

-- WRONG WRITERS
-- a writer that refuses everything
refuses_everything : (a : List ℕ) → Write head sizes tables out a 3 no_text → ⊥
refuses_everything a p =
    let e : written 468 ≡ no_text = at_tables.reply a no_text p in
    let z : ◌≡◌ {A = ℕ} 0 1 = cc in
    omega arith

finds_no_place : (a : List ℕ) → Write head sizes tables out a 3 no_place → ⊥
finds_no_place a p =
    let e : written 468 ≡ no_place = at_tables.reply a no_place p in
    let z : ◌≡◌ {A = ℕ} 0 1 = cc in
    omega arith

-- the same text each time: whatever it replies, it fails at one of two tables of the same head and counts
same_text : (a : List ℕ) (r s : WriteReply) → Write head sizes tables out a 3 r → Write head sizes other_tables out a 3 s → ⊥
unfolding examples.written
same_text a r s p q =
    let e : sets out 3 (normal file) ≡ sets out 3 (normal (over (later ∷ []))) = at_tables.text a r p ∙ sym (at_other.text a s q) in
    let z : ◌≡◌ {A = ℕ} 52 53 = ap (λ (l : List ℕ). get_or l 401 0) e in
    omega arith

-- it says written and leaves the bytes
nothing_written : (n : ℕ) → Write head sizes tables out out 3 (written n) → ⊥
unfolding examples.written
nothing_written n p =
    let z : ◌≡◌ {A = ℕ} 32 7 = ap (λ (l : List ℕ). get_or l 3 0) (at_tables.text out (written n) p) in
    omega arith

-- a made_up count of bytes
made_up : (n : ℕ) (a : List ℕ) → (468 ≡ n → ⊥) → Write head sizes tables out a 3 (written n) → ⊥
made_up n a h p =
    let e : written 468 ≡ written n = at_tables.reply a (written n) p in
    h cc

-- a byte before the place, or behind the text
byte_before : (r : WriteReply) → Write head sizes tables out (set (sets out 3 (normal file)) 2 32) 3 r → ⊥
unfolding examples.written
byte_before r p =
    let z : ◌≡◌ {A = ℕ} 7 32 = ap (λ (l : List ℕ). get_or l 2 0) (at_tables.text _ r p) in
    omega arith

byte_behind : (r : WriteReply) → Write head sizes tables out (set (sets out 3 (normal file)) 471 10) 3 r → ⊥
unfolding examples.written
byte_behind r p =
    let z : ◌≡◌ {A = ℕ} 7 10 = ap (λ (l : List ℕ). get_or l 471 0) (at_tables.text _ r p) in
    omega arith

-- one byte is changed after a refusal with 20, or with 21
changed_after_20 : (r : WriteReply) → Write head sizes marred out (set out 3 32) 3 r → ⊥
changed_after_20 r p =
    let z : ◌≡◌ {A = ℕ} 7 32 = ap (λ (l : List ℕ). get_or l 3 0) (at_marred.text _ r p) in
    omega arith

changed_after_21 : (r : WriteReply) → Write head sizes tables small (set small 3 32) 3 r → ⊥
changed_after_21 r p =
    let z : ◌≡◌ {A = ℕ} 7 32 = ap (λ (l : List ℕ). get_or l 3 0) (at_small.text _ r p) in
    omega arith

-- tables that no text spells are written, or are refused with 21 although 20 is lower
marred_written : (n : ℕ) (a : List ℕ) → Write head sizes marred out a 3 (written n) → ⊥
marred_written n a p =
    let e : no_text ≡ written n = at_marred.reply a (written n) p in
    let z : ◌≡◌ {A = ℕ} 0 1 = cc in
    omega arith

marred_no_place : (a : List ℕ) → Write head sizes marred small a 3 no_place → ⊥
marred_no_place a p = unspelled_marred p.0 p.1

-- ONE EPOCH
-- the example's, alone, under its lists
pub epoch_held : EpochSpelled head.lengths (flat_epoch examples.only) tables examples.only
unfolding lent laid laid_codes all_rows all_slots flat_head room
epoch_held =
    let f = file_form _ file example_spelled in
    let r = epoch_normal file.head.lists (λ y m. (f.head.lists y m).few) examples.only f.epochs.0 in
    record {
      lists = file.head.lists;
      header =
          record {
            lines = example_spelled.header_lines;
            head = file.head;
            header = example_spelled.header;
            plain = (all_on Line example_spelled.header_lines example_spelled.data_lines example_spelled.lines).0;
            same = refl;
          };
      lengths_are = refl;
      codes_fit = held.hold.fits.codes;
      codes = refl;
      epoch = refl;
      satellites = refl;
      numbers = refl;
      states = refl;
      losses = refl;
      strengths = refl;
      carried = refl;
      lines = epoch_lines examples.only;
      spells = r.0;
      plain = r.1;
    }

-- a writer of one epoch that refuses everything
abbrev pub Alone : List ℕ → WriteReply → Type 0
Alone a r = WriteEpoch head.lengths (flat_epoch examples.only) tables out a 3 r

pub alone : Alone (sets out 3 (normal_epoch examples.only)) (written 75)
unfolding normal_epoch examples.written
alone = (examples.only, epoch_held, record { fits = record { buffer = leb→le 78 490 tt; size = leb→le 75 1073741824 tt }; length_is = refl; bytes = refl })

epoch_refused : (a : List ℕ) → Alone a no_text → ⊥
epoch_refused a p =
    let e : written 75 ≡ no_text = (settled.write_epoch head.lengths (flat_epoch examples.only) tables out _ a 3 (written 75) no_text alone p).0 in
    let z : ◌≡◌ {A = ℕ} 0 1 = cc in
    omega arith

epoch_no_place : (a : List ℕ) → Alone a no_place → ⊥
epoch_no_place a p =
    let e : written 75 ≡ no_place = (settled.write_epoch head.lengths (flat_epoch examples.only) tables out _ a 3 (written 75) no_place alone p).0 in
    let z : ◌≡◌ {A = ℕ} 0 1 = cc in
    omega arith

-- SLOT QUESTIONS
abbrev pub c1c : ℕ
c1c = packed (bytes "C1C")

abbrev l1c : ℕ
l1c = packed (bytes "L1C")

abbrev Asked : ℕ → ℕ → Answer → Type 0
Asked row code a = Slotted head sizes tables row code a

-- the example's file has it
abbrev answers : (row code : ℕ) (a : Answer) → a ≡ answer file row code → Answers head sizes tables row code a
answers row code a e = record { file = file; spelled = held; answers = e }

-- row 1, R12, has a blank value: zero, and any other number of metres, is refused
blank_as_number : (x : Float) → Asked 1 c1c (metres x) → ⊥
unfolding answer answer_at all_rows
blank_as_number x p =
    let e : blank ≡ metres x = settled.slot head sizes tables 1 c1c blank (metres x) (answers 1 c1c blank refl) p in
    let z : ◌≡◌ {A = ℕ} 0 1 = cc in
    omega arith

-- it has no L1C: that is not blank
undeclared_as_blank : Asked 1 l1c blank → ⊥
unfolding answer answer_at all_rows
undeclared_as_blank p =
    let e : not_declared ≡ blank = settled.slot head sizes tables 1 l1c not_declared blank (answers 1 l1c not_declared refl) p in
    let z : ◌≡◌ {A = ℕ} 0 1 = cc in
    omega arith

-- there is no row 2
missing_as_blank : Asked 2 c1c blank → ⊥
unfolding answer answer_at all_rows
missing_as_blank p =
    let e : no_row ≡ blank = settled.slot head sizes tables 2 c1c no_row blank (answers 2 c1c no_row refl) p in
    let z : ◌≡◌ {A = ℕ} 0 1 = cc in
    omega arith

-- row 0, G05: a phase is not in metres, another number is refused, and so is 20
phase_in_metres : (x : Float) → Asked 0 l1c (metres x) → ⊥
unfolding answer answer_at all_rows measured
phase_in_metres x p =
    let e : cycles (thousandth (negsuc 499)) ≡ metres x = settled.slot head sizes tables 0 l1c (cycles (thousandth (negsuc 499))) (metres x) (answers 0 l1c (cycles (thousandth (negsuc 499))) refl) p in
    let z : ◌≡◌ {A = ℕ} 0 1 = cc in
    omega arith

another_number : (x : Float) → (thousandth (pos 20000000125) ≡ x → ⊥) → Asked 0 c1c (metres x) → ⊥
unfolding answer answer_at all_rows measured
another_number x h p =
    let e : metres (thousandth (pos 20000000125)) ≡ metres x = settled.slot head sizes tables 0 c1c (metres (thousandth (pos 20000000125))) (metres x) (answers 0 c1c (metres (thousandth (pos 20000000125))) refl) p in
    h cc

always_20 : Asked 0 c1c unspelled → ⊥
always_20 p = p file held

-- 20 comes before all else: no row, of tables that no text spells
marred_answered : Slotted head sizes marred 2 c1c no_row → ⊥
marred_answered p = unspelled_marred p.file p.spelled
