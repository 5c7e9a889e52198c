-- THE PROMISE OF READING BITES: at the paper's example, or at a damaged form of it, no reply and no tables of the wrong programs that the paper names
-- are allowed. Assumes nothing.
use Prim.Native.Nat.{ℕ, ◌≤◌}
use Prim.Native.String.{String}
use mathlib.Core.Path.{◌≡◌, refl, ap, sym, subst, ◌∙◌}
use mathlib.Core.Bool.{true}
use mathlib.Core.List.{List, [], ◌∷◌, ◌++◌, map}
use native.Mathlib.Omega.{arith}
use lib.ListN.{length, get_or, set, replicate}
use lib.IntN.{pos, nat_abs}
use Rattle.lists.specs.Lists.{bytes}
use Rattle.line.specs.Text.{longest, text, split}
use Rattle.rinex.specs.File.{File}
use Rattle.rinex.specs.Spells.{Spells}
use Rattle.rinex.specs.Tables.{all_rows, all_slots, FlatHead, flat_head, Counts, counts, Buffers, laid_codes, laid, Room, room, Fits}
use Rattle.rinex.specs.Refusals.{start, accepted, refused, verdict}
use Rattle.rinex.specs.Promises.{ReadReply, taken, turned_away, Read}
use Rattle.rinex.specs.Theorems.{after, holds, tests}
use Rattle.rinex.proofs.Agree.{agree, one_of_text}
use Rattle.rinex.proofs.Settled.{settled}
use Rattle.rinex.proofs.Replies.{read_refused}
use Rattle.rinex.specs.Summary.{its_room}
use Rattle.rinex.proofs.Examples.{judged_in, header, epoch, counted, file}
use Rattle.rinex.proofs.ExampleSpelled.{example_spelled}
use Rattle.rinex.proofs.ExamplePair.{later_epoch, later, later_of, over, pair, pair_spelled, later_spelled}

-- lent buffers in which every entry is 7
unfoldable pub lent : Buffers
lent =
    record {
      codes = replicate 448 7;
      times = replicate 3 7;
      time_states = replicate 3 7;
      flags = replicate 3 7;
      counts = replicate 3 7;
      clocks = replicate 3 (pos 7);
      clock_states = replicate 3 7;
      satellites = replicate 5 7;
      numbers = replicate 7 (pos 7);
      states = replicate 7 7;
      losses = replicate 7 7;
      strengths = replicate 7 7;
      carried = replicate 9 7;
    }

-- THE RIGHT ANSWERS
-- where a text is accepted there is room for the file that it spells
pub has_room : (r : Room) (t : List ℕ) (f : File) (n : Counts) → Spells t f → verdict r t ≡ accepted n → Fits r f × (n ≡ counts f) × (length t ≤ longest)
has_room r t f n s e =
    let x = agree.sound r t n e in
    let q : x.file ≡ f = one_of_text t x.file f x.spells s in
    (subst (λ (g : File). Fits r g) q x.fits, x.lengths ∙ ap counts q, x.size)

answered : (b : Buffers) (t : List ℕ) (f : File) (n : Counts) → Spells t f → verdict (room b) t ≡ accepted n → Read t b (laid f b) (taken (flat_head f.head) n)
answered b t f n s e =
    let x = has_room (room b) t f n s e in
    record { file = f; size = x.2; spells = s; fits = x.0; head = refl; lengths = x.1; entries = refl }

-- at this text, in the lent buffers, one reply is allowed and one thing to leave
pub record Only (t : List ℕ) (a : Buffers) (r : ReadReply) : Type 0 where
  pub reply : (c : Buffers) (s : ReadReply) → Read t lent c s → r ≡ s
  pub tables : (c : Buffers) (s : ReadReply) → Read t lent c s → a ≡ c

only : (t : List ℕ) (a : Buffers) (r : ReadReply) → Read t lent a r → Only t a r
only t a r p = record { reply = λ c s q. (settled.read t lent a c r s p q).0; tables = λ c s q. (settled.read t lent a c r s p q).1 }

pub only_taken : (t : List ℕ) (f : File) (n : Counts) → Spells t f → verdict (room lent) t ≡ accepted n → Only t (laid f lent) (taken (flat_head f.head) n)
only_taken t f n s e = only t (laid f lent) (taken (flat_head f.head) n) (answered lent t f n s e)

only_refused : (t : List ℕ) (n k : ℕ) → verdict (room lent) t ≡ refused n k → Only t lent (turned_away n k)
only_refused t n k e = only t lent (turned_away n k) (read_refused t lent n k e)

abbrev of : List String → List ℕ
of ls = text (map bytes ls)

abbrev pub example : List ℕ
example = of (header ++ epoch)

abbrev both : List ℕ
both = of (header ++ epoch ++ later_epoch)

abbrev pub other : List ℕ
other = of (header ++ later_epoch)

at_example : Only example (laid file lent) (taken (flat_head file.head) (counted 1 2 3 0))
unfolding judged_in room lent
at_example = only_taken example file (counted 1 2 3 0) example_spelled refl

at_both : Only both (laid pair lent) (taken (flat_head file.head) (counted 2 4 6 0))
unfolding judged_in room lent
at_both = only_taken both pair (counted 2 4 6 0) pair_spelled refl

at_other : Only other (laid (over (later ∷ [])) lent) (taken (flat_head file.head) (counted 1 2 3 0))
unfolding judged_in room lent
at_other = only_taken other (over (later ∷ [])) (counted 1 2 3 0) later_spelled refl

-- the last row is missing
abbrev cut : List ℕ
cut = of (header ++ ("> 2024 12 31 23 59 30.0000000  0  2" ∷ "G05  20000000.125 7        -0.5001" ∷ []))

at_cut : Only cut lent (turned_away 14 8)
unfolding judged_in room lent
at_cut = only_refused cut 14 8 refl

-- line 7 is a row of a system that the header does not declare, and so is line 8
abbrev undeclared : List ℕ
undeclared = of (header ++ ("> 2024 12 31 23 59 30.0000000  0  2" ∷ "E12" ∷ "E13" ∷ []))

at_undeclared : Only undeclared lent (turned_away 11 7)
unfolding judged_in room lent
at_undeclared = only_refused undeclared 11 7 refl

-- line 8 has a satellite again, and a slot of it is unfit
abbrev twice : List String
twice = header ++ ("> 2024 12 31 23 59 30.0000000  0  2" ∷ "R12" ∷ "R12           0.0" ∷ [])

at_twice : Only (of twice) lent (turned_away 12 8)
unfolding judged_in room lent
at_twice = only_refused (of twice) 12 8 refl

-- WRONG PROGRAMS
-- "a reader that refuses everything"
refuses_everything : (number line : ℕ) (a : Buffers) → Read example lent a (turned_away number line) → ⊥
refuses_everything n k a p =
    let e : taken (flat_head file.head) (counted 1 2 3 0) ≡ turned_away n k = at_example.reply a _ p in
    let z : ◌≡◌ {A = ℕ} 0 1 = cc in
    omega arith

-- "one that hands back the same tables each time": whatever it replies, it fails at one of two texts of the same counts
same_tables : (a : Buffers) (r s : ReadReply) → Read example lent a r → Read other lent a s → ⊥
unfolding lent laid laid_codes all_rows all_slots
same_tables a r s p q =
    let x : laid file lent ≡ a = at_example.tables a r p in
    let y : laid (over (later ∷ [])) lent ≡ a = at_other.tables a s q in
    let z : ◌≡◌ {A = ℕ} 14201567700000000 14201568000000000 = ap (λ (b : Buffers). get_or b.times 0 0) (x ∙ sym y) in
    omega arith

-- "one that leaves the tables untouched and says accepted"
untouched : (h : FlatHead) (n : Counts) → Read example lent lent (taken h n) → ⊥
unfolding lent laid
untouched h n p =
    let x : laid file lent ≡ lent = at_example.tables lent (taken h n) p in
    let z : ◌≡◌ {A = ℕ} 14201567700000000 7 = ap (λ (b : Buffers). get_or b.times 0 0) x in
    omega arith

-- "one that reads the first epoch and fakes the others": here the first epoch's rows again, at the second's time
faked : (r : ReadReply) → Read both lent (laid (over (file.epochs ++ (later_of (all_rows file.epochs) ∷ []))) lent) r → ⊥
unfolding lent laid all_rows all_slots
faked r p =
    let x : laid pair lent ≡ laid (over (file.epochs ++ (later_of (all_rows file.epochs) ∷ []))) lent = at_both.tables _ r p in
    let z : ◌≡◌ {A = ℕ} 21000000500 20000000125 = ap (λ (b : Buffers). nat_abs (get_or b.numbers 3 (pos 0))) x in
    omega arith

-- and whatever else stands in place of the spelled tables
not_spelled : (a : Buffers) (r : ReadReply) → (laid pair lent ≡ a → ⊥) → Read both lent a r → ⊥
not_spelled a r h p = h (at_both.tables a r p)

-- "made_up counts"
made_up : (h : FlatHead) (n : Counts) (a : Buffers) → (counted 1 2 3 0 ≡ n → ⊥) → Read example lent a (taken h n) → ⊥
made_up h n a w p =
    let e : taken (flat_head file.head) (counted 1 2 3 0) ≡ taken h n = at_example.reply a _ p in
    w cc

-- a made_up head: letter, lengths of lists, first time, time system, interval or lines
made_up_head : (h : FlatHead) (n : Counts) (a : Buffers) → (flat_head file.head ≡ h → ⊥) → Read example lent a (taken h n) → ⊥
made_up_head h n a w p =
    let e : taken (flat_head file.head) (counted 1 2 3 0) ≡ taken h n = at_example.reply a _ p in
    w cc

one_slot_more : (h : FlatHead) (a : Buffers) → Read example lent a (taken h (counted 1 2 4 0)) → ⊥
one_slot_more h a p = made_up h (counted 1 2 4 0) a (λ e. let z : ◌≡◌ {A = ℕ} 3 4 = ap (λ (n : Counts). n.slots) e in omega arith) p

-- an entry past the counts is written
abbrev pub satellited : Buffers → List ℕ → Buffers
satellited b l =
    record {
      codes = b.codes;
      times = b.times;
      time_states = b.time_states;
      flags = b.flags;
      counts = b.counts;
      clocks = b.clocks;
      clock_states = b.clock_states;
      satellites = l;
      numbers = b.numbers;
      states = b.states;
      losses = b.losses;
      strengths = b.strengths;
      carried = b.carried;
    }

past_the_counts : (r : ReadReply) → Read example lent (satellited (laid file lent) (set (laid file lent).satellites 2 0)) r → ⊥
unfolding lent laid all_rows all_slots
past_the_counts r p =
    let x : laid file lent ≡ satellited (laid file lent) (set (laid file lent).satellites 2 0) = at_example.tables _ r p in
    let z : ◌≡◌ {A = ℕ} 7 0 = ap (λ (b : Buffers). get_or b.satellites 2 0) x in
    omega arith

-- one entry is changed after a refusal: the row before the fault has been stored
one_entry_changed : (r : ReadReply) → Read cut lent (satellited lent (set lent.satellites 0 5)) r → ⊥
unfolding lent
one_entry_changed r p =
    let x : lent ≡ satellited lent (set lent.satellites 0 5) = at_cut.tables _ r p in
    let z : ◌≡◌ {A = ℕ} 7 5 = ap (λ (b : Buffers). get_or b.satellites 0 0) x in
    omega arith

any_entry_changed : (a : Buffers) (r : ReadReply) → (lent ≡ a → ⊥) → Read cut lent a r → ⊥
any_entry_changed a r h p = h (at_cut.tables a r p)

-- a text that is cut short is taken; rows of an undeclared system are skipped and the text is taken
cut_taken : (h : FlatHead) (n : Counts) (a : Buffers) → Read cut lent a (taken h n) → ⊥
cut_taken h n a p =
    let e : turned_away 14 8 ≡ taken h n = at_cut.reply a _ p in
    let z : ◌≡◌ {A = ℕ} 0 1 = cc in
    omega arith

skipped : (h : FlatHead) (n : Counts) (a : Buffers) → Read undeclared lent a (taken h n) → ⊥
skipped h n a p =
    let e : turned_away 11 7 ≡ taken h n = at_undeclared.reply a _ p in
    let z : ◌≡◌ {A = ℕ} 0 1 = cc in
    omega arith

-- a wrong line: any but 7, so the later faulty line too
wrong_line : (number line : ℕ) (a : Buffers) → (7 ≡ line → ⊥) → Read undeclared lent a (turned_away number line) → ⊥
wrong_line n k a h p =
    let e : turned_away 11 7 ≡ turned_away n k = at_undeclared.reply a _ p in
    h cc

later_line : (a : Buffers) → Read undeclared lent a (turned_away 11 8) → ⊥
later_line a p = wrong_line 11 8 a (λ e. omega (arith, e)) p

-- a higher number than the lowest: of line 8 both tests hold
both_hold : map (holds its_room (after start (split (of (header ++ ("> 2024 12 31 23 59 30.0000000  0  2" ∷ "R12" ∷ []))))) (record { bytes = bytes "R12           0.0"; ended = true })) (12 ∷ 13 ∷ []) ≡ true ∷ true ∷ []
unfolding judged_in tests
both_hold = refl

higher_number : (a : Buffers) → Read (of twice) lent a (turned_away 13 8) → ⊥
higher_number a p =
    let e : turned_away 12 8 ≡ turned_away 13 8 = at_twice.reply a _ p in
    let z : ◌≡◌ {A = ℕ} 12 13 = cc in
    omega arith
