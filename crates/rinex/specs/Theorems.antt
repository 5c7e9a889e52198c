-- What holds of the definitions alone, each claim as a type; `proofs/Lib` says where it is proved.
use Rattle.std.specs.Prelude.{ℕ, ◌+◌, ◌*◌, ◌/◌, ◌≤◌, ◌<◌, ◌≡◌, Bool, true, false, List, [], ◌∷◌, ◌++◌, map, length, get_or, take, drop, ℤ, pos, Float}
use Rattle.std.specs.Prelude.{Option, None, Some}
use Rattle.lists.specs.Lists.{All}
use Rattle.lists.specs.Blank.{Blank}
use Rattle.field.specs.Field.{Decimal}
use Rattle.line.specs.Text.{longest, Line, col, cols, Raw, split}
use Rattle.rinex.specs.CodeTable.{code_table, tabled}
use Rattle.rinex.specs.CodeNumbers.{code_numbers}
use Rattle.rinex.specs.Codes.{is_code, is_taken}
use Rattle.rinex.specs.File.{Slot, Epoch, File}
use Rattle.rinex.specs.Data.{EpochLine, Value, SlotAt, EpochLines}
use Rattle.rinex.specs.Spells.{Spells}
use Rattle.rinex.specs.Tables.{rows_of, FlatEpoch, all_slots, FlatHead, Counts, counts, Buffers, laid, Room, room, Fits}
use Rattle.rinex.specs.Refusals.{epoch_here, State, start, refusal1, refusal2, refusal3, refusal4, refusal5, refusal6, refusal7, refusal8, refusal9, refusal10, refusal11, refusal12, refusal13, refusal15, refusal16, next, Verdict, accepted, refused, verdict}
use Rattle.rinex.specs.Normal.{normal}
use Rattle.rinex.specs.Fit.{unpacked, tables_fit, lone_epoch_fits}
use Rattle.rinex.specs.Answers.{Answer, not_declared, kind, float}
use Rattle.rinex.specs.Promises.{ReadReply, taken, turned_away, Read, Spelled, WriteReply, written, no_text, RoomFor, Write, HeaderLists, EpochSpelled, WriteEpoch, Slotted, ColumnReply, filled, Column, Columned}
use Rattle.rinex.specs.MoreRoom.{NoLess, NowhereShorter, SameInUse}

-- an accepted text, with these counts
pub record Taken (r : Room) (t : List ℕ) (n : Counts) : Type 0 where
  pub file : File
  pub size : length t ≤ longest
  pub spells : Spells t file
  pub fits : Fits r file
  pub lengths : n ≡ counts file

-- agree: "accepted exactly when some tables that it spells fit the lent room"
pub record Agree : Type 0 where
  pub sound : (r : Room) (t : List ℕ) (n : Counts) → verdict r t ≡ accepted n → Taken r t n
  pub complete : (r : Room) (t : List ℕ) (f : File) → length t ≤ longest → Spells t f → Fits r f → verdict r t ≡ accepted (counts f)

-- one file: "no text spells two different sets of tables"
abbrev pub OneOfText : Type 0
OneOfText = (t : List ℕ) (f g : File) → Spells t f → Spells t g → f ≡ g

abbrev pub OneOfTables : Type 0
OneOfTables = (h : FlatHead) (n : Counts) (b : Buffers) (f g : File) → Spelled h n b f → Spelled h n b g → f ≡ g

pub record OneFile : Type 0 where
  pub of_a_text : OneOfText
  pub of_tables : OneOfTables

-- why: "The earliest faulty line is reported and, in it, the lowest number."
-- the tests of a line by their numbers, from 0; 0 and 14 are none
unfoldable pub tests : Room → State → Raw → List Bool
tests r s w =
    let l = w.bytes in
    let p = s.place in
    false ∷ refusal1 w ∷ refusal2 l ∷ refusal3 p l ∷ refusal4 p l ∷ refusal5 s p l ∷ refusal6 s p l ∷ refusal7 p l ∷ refusal8 p l
    ∷ refusal9 s p l ∷ refusal10 p l ∷ refusal11 s p l ∷ refusal12 s p l ∷ refusal13 s p l ∷ false ∷ refusal15 p l ∷ refusal16 r s p l ∷ []

-- test n holds of the line
abbrev pub holds : Room → State → Raw → ℕ → Bool
holds r s w n = get_or (tests r s w) n false

-- what some lines settle
abbrev pub after : State → List Raw → State
after s [] = s
after s (w ∷ ws) = after (next s s.place w.bytes) ws

-- no test holds of any of them
abbrev pub Faultless : Room → State → List Raw → Type 0
Faultless r s [] = Unit
Faultless r s (w ∷ ws) = ((n : ℕ) → holds r s w n ≡ false) × Faultless r (next s s.place w.bytes) ws

-- line k is the first of which a test holds, and n is the lowest that does
pub record AtLine (r : Room) (ws : List Raw) (n k : ℕ) : Type 0 where
  pub before : List Raw
  pub line : Raw
  pub behind : List Raw
  pub lines : ws ≡ before ++ line ∷ behind
  pub place : k ≡ length before + 1
  pub earliest : Faultless r start before
  pub here : holds r (after start before) line n ≡ true
  pub lowest : (m : ℕ) → m < n → holds r (after start before) line m ≡ false

-- no test holds of any line, and the header or an epoch's lines are not complete
pub record AtEnd (r : Room) (ws : List Raw) (k : ℕ) : Type 0 where
  pub some_line : 1 ≤ length ws
  pub place : k ≡ length ws + 1
  pub faultless : Faultless r start ws
  pub unfinished : epoch_here (after start ws).place ≡ false

-- why a text is refused with number n and line k
pub data Reason (r : Room) (t : List ℕ) (n k : ℕ) : Type 0 where
  a_line : length t ≤ longest → AtLine r (split t) n k → Reason r t n k
  empty : t ≡ [] → n ≡ 3 → k ≡ 1 → Reason r t n k
  cut_short : length t ≤ longest → AtEnd r (split t) k → n ≡ 14 → Reason r t n k
  too_long : longest < length t → n ≡ 17 → k ≡ 0 → Reason r t n k

pub record Why : Type 0 where
  pub told : (r : Room) (t : List ℕ) (n k : ℕ) → verdict r t ≡ refused n k → Reason r t n k
  pub rightly : (r : Room) (t : List ℕ) (n k : ℕ) → Reason r t n k → verdict r t ≡ refused n k

-- normal: "Tables that some text spells are written as their one normal text"
pub record NormalSpells : Type 0 where
  pub spells : (t : List ℕ) (f : File) → Spells t f → Spells (normal f) f
  -- no two files have one normal text
  pub one : (t u : List ℕ) (f g : File) → Spells t f → Spells u g → normal f ≡ normal g → f ≡ g
  -- what a normal text spells has that normal text
  pub fixed : (t : List ℕ) (f g : File) → Spells t f → Spells (normal f) g → normal g ≡ normal f

-- fit tables: "tables that no text spells get 20", and which they are is computed
pub record FitTables : Type 0 where
  pub sound : (h : FlatHead) (n : Counts) (b : Buffers) → tables_fit h n b ≡ true → (f : File) × Spelled h n b f
  pub complete : (h : FlatHead) (n : Counts) (b : Buffers) (f : File) → Spelled h n b f → tables_fit h n b ≡ true

-- fit epoch: "20 if no text has that epoch under the given lists"
pub record FitEpoch : Type 0 where
  pub sound : (lengths : List ℕ) (p : FlatEpoch) (b : Buffers) → lone_epoch_fits lengths p b ≡ true → (e : Epoch) × EpochSpelled lengths p b e
  pub complete : (lengths : List ℕ) (p : FlatEpoch) (b : Buffers) (e : Epoch) → EpochSpelled lengths p b e → lone_epoch_fits lengths p b ≡ true

-- epoch in text: an epoch that may be written alone stands in some text under its lists, and each epoch of a text may be
pub record EpochInText : Type 0 where
  pub has : (lengths : List ℕ) (p : FlatEpoch) (b : Buffers) (e : Epoch) (s : EpochSpelled lengths p b e)
      → (t : List ℕ) × (f : File) × Spells t f × (f.head.lists ≡ s.lists) × (f.epochs ≡ e ∷ [])
  pub had : (t : List ℕ) (f : File) (xs ys : List Epoch) (e : Epoch) → Spells t f → f.epochs ≡ xs ++ (e ∷ ys)
      → HeaderLists f.head.lists × (ls : List (List ℕ)) × EpochLines f.head.lists ls e × All Line ls

-- met: whatever is lent, some reply keeps the promise
pub record Met : Type 0 where
  pub read : (t : List ℕ) (b : Buffers) → (a : Buffers) × (r : ReadReply) × Read t b a r
  pub write : (h : FlatHead) (n : Counts) (b : Buffers) (out : List ℕ) (at : ℕ) → (a : List ℕ) × (r : WriteReply) × Write h n b out a at r
  pub write_epoch : (lengths : List ℕ) (p : FlatEpoch) (b : Buffers) (out : List ℕ) (at : ℕ) → (a : List ℕ) × (r : WriteReply) × WriteEpoch lengths p b out a at r
  pub slot : (h : FlatHead) (n : Counts) (b : Buffers) (row code : ℕ) → (a : Answer) × Slotted h n b row code a
  pub column : (h : FlatHead) (n : Counts) (b : Buffers) (s code : ℕ) (c : Column) → (a : Column) × (r : ColumnReply) × Columned h n b s code c a r

-- settled: "that two replies allowed by it coincide", and what is left with them
pub record Settled : Type 0 where
  pub read : (t : List ℕ) (b a₁ a₂ : Buffers) (r₁ r₂ : ReadReply) → Read t b a₁ r₁ → Read t b a₂ r₂ → (r₁ ≡ r₂) × (a₁ ≡ a₂)
  pub write : (h : FlatHead) (n : Counts) (b : Buffers) (out a₁ a₂ : List ℕ) (at : ℕ) (r₁ r₂ : WriteReply)
      → Write h n b out a₁ at r₁ → Write h n b out a₂ at r₂ → (r₁ ≡ r₂) × (a₁ ≡ a₂)
  pub write_epoch : (lengths : List ℕ) (p : FlatEpoch) (b : Buffers) (out a₁ a₂ : List ℕ) (at : ℕ) (r₁ r₂ : WriteReply)
      → WriteEpoch lengths p b out a₁ at r₁ → WriteEpoch lengths p b out a₂ at r₂ → (r₁ ≡ r₂) × (a₁ ≡ a₂)
  pub slot : (h : FlatHead) (n : Counts) (b : Buffers) (row code : ℕ) (a₁ a₂ : Answer)
      → Slotted h n b row code a₁ → Slotted h n b row code a₂ → a₁ ≡ a₂
  pub column : (h : FlatHead) (n : Counts) (b : Buffers) (s code : ℕ) (c a₁ a₂ : Column) (r₁ r₂ : ColumnReply)
      → Columned h n b s code c a₁ r₁ → Columned h n b s code c a₂ r₂ → (r₁ ≡ r₂) × (a₁ ≡ a₂)

-- column of slots: for a row of the system asked for, it has what `slot` answers; for any other, 'not declared'. A row's satellite is 100 · s + number.
pub record ColumnOfSlots : Type 0 where
  pub asked : (h : FlatHead) (n : Counts) (b : Buffers) (s code i k : ℕ) (c a : Column) (x : Answer) (d : Float) → Columned h n b s code c a (filled k) → Slotted h n b i code x
      → i < k → get_or b.satellites i 0 / 100 ≡ s → (get_or a.kinds i 0 ≡ kind x) × (get_or a.floats i d ≡ float x)
  pub other : (h : FlatHead) (n : Counts) (b : Buffers) (s code i k : ℕ) (c a : Column) (d : Float) → Columned h n b s code c a (filled k)
      → i < k → (get_or b.satellites i 0 / 100 ≡ s → ⊥) → (get_or a.kinds i 0 ≡ kind not_declared) × (get_or a.floats i d ≡ float not_declared)

-- round trip: "Tables that some text spells are written as their one normal text, if it fits the lent buffer and the size limit,
-- and reading it with enough table room gives the same tables."
pub record RoundTrip : Type 0 where
  pub forth : (h : FlatHead) (n : Counts) (b : Buffers) (f : File) (out after : List ℕ) (at : ℕ) (r : WriteReply)
      → Spelled h n b f → RoomFor (normal f) out at → Write h n b out after at r → (r ≡ written (length (normal f))) × (take (length (normal f)) (drop at after) ≡ normal f)
  -- what is written, read where there is room for it: the same head and counts, and tables that hold the same file
  pub back : (h : FlatHead) (n : Counts) (b : Buffers) (f : File) (out after : List ℕ) (at k : ℕ) (lent a : Buffers) (r : ReadReply)
      → Spelled h n b f → Fits (room lent) f → Write h n b out after at (written k) → Read (take k (drop at after)) lent a r → (r ≡ taken h n) × (a ≡ laid f lent) × Spelled h n a f
  -- tables that are handed back hold the file that the text spells
  pub held : (t : List ℕ) (b a : Buffers) (h : FlatHead) (n : Counts) → Read t b a (taken h n) → (f : File) × Spells t f × Spelled h n a f
  -- an accepted text, written and read again: the same tables
  pub again : (t : List ℕ) (b a₁ a₂ : Buffers) (h : FlatHead) (n : Counts) (out after : List ℕ) (at k : ℕ) (r : ReadReply)
      → Read t b a₁ (taken h n) → Write h n a₁ out after at (written k) → Read (take k (drop at after)) b a₂ r → (r ≡ taken h n) × (a₂ ≡ a₁)
  -- a normal text, read and written: the same text
  pub fixed : (t : List ℕ) (f : File) (b a : Buffers) (h : FlatHead) (n : Counts) (out after : List ℕ) (at k : ℕ)
      → Spells t f → Read (normal f) b a (taken h n) → Write h n a out after at (written k) → take k (drop at after) ≡ normal f

-- zero missing, of 2026-02: "a value field whose number is 0, however spelled, is held as blank", any other number as it is; "20 covers a table with a given value of 0"
-- slot i is given, and 0
pub record GivenZero (b : Buffers) (i : ℕ) : Type 0 where
  pub state : get_or b.states i 0 ≡ 1
  pub number : get_or b.numbers i (pos 0) ≡ pos 0

pub record ZeroMissing : Type 0 where
  pub zero : (s : List ℕ) (v : Option ℤ) → Decimal 3 s (pos 0) → Value s v → v ≡ None
  pub other : (s : List ℕ) (z : ℤ) (v : Option ℤ) → Decimal 3 s z → (z ≡ pos 0 → ⊥) → Value s v → v ≡ Some z
  -- whatever the number, the field is fit
  pub fit : (s : List ℕ) (z : ℤ) → Decimal 3 s z → (v : Option ℤ) × Value s v
  -- "Marks stay as they are": a slot with a printed zero is the one with blanks in its place
  pub marks : (a : ℕ) (l m : List ℕ) (s : Slot) → Decimal 3 (cols a (a + 13) l) (pos 0) → Blank (cols a (a + 13) m)
      → col (a + 14) l ≡ col (a + 14) m → col (a + 15) l ≡ col (a + 15) m → SlotAt a l s → SlotAt a m s
  -- a clock of 0 is given
  pub clock : (l : List ℕ) (time : Option ℕ) (flag count : ℕ) (c : Option ℤ) → Decimal 12 (cols 42 56 l) (pos 0) → EpochLine l time flag count c → c ≡ Some (pos 0)
  -- no text spells such tables, and none has such an epoch
  pub tables : (h : FlatHead) (n : Counts) (b : Buffers) (f : File) (i : ℕ) → Spelled h n b f → i < n.slots → GivenZero b i → ⊥
  pub epoch : (lengths : List ℕ) (p : FlatEpoch) (b : Buffers) (e : Epoch) (i : ℕ) → EpochSpelled lengths p b e → i < length (all_slots (rows_of e)) → GivenZero b i → ⊥
  -- and none is read as such
  pub read : (t : List ℕ) (b a : Buffers) (h : FlatHead) (n : Counts) (i : ℕ) → Read t b a (taken h n) → i < n.slots → GivenZero a i → ⊥

-- codes tabled, of 2026-04: "Show once over the whole table that it is ordered, has no repeats and has only codes of the right form."
pub record CodesTabled : Type 0 where
  -- by system, then by the three bytes
  pub ordered : (i j : ℕ) → i < j → j < length code_numbers → get_or code_numbers i 0 < get_or code_numbers j 0
  pub different : (i j : ℕ) → i < length code_numbers → j < length code_numbers → get_or code_numbers i 0 ≡ get_or code_numbers j 0 → i ≡ j
  -- and with an attribute that is not blank
  pub formed : (s i : ℕ) → i < length (tabled s) → (is_code (get_or (tabled s) i []) ≡ true) × (get_or (get_or (tabled s) i []) 2 0 ≡ 32 → ⊥)
  -- "some three hundred across the seven systems": 330
  pub sizes : map (λ (cs : List (List ℕ)). length cs) code_table ≡ 86 ∷ 28 ∷ 76 ∷ 56 ∷ 36 ∷ 32 ∷ 16 ∷ []

-- only tabled, of 2026-04: "6 covers an unlisted code, for the reader; 20 for the writer."
-- place i of the list of system s has a code that is not taken
pub record Unlisted (lengths : List ℕ) (b : Buffers) (s i : ℕ) : Type 0 where
  pub in_list : i < get_or lengths s 0
  pub not_taken : is_taken s (unpacked (get_or b.codes (64 * s + i) 0)) ≡ false

pub record OnlyTabled : Type 0 where
  -- no text spells such tables, none has an epoch under such a list, and none is read as such
  pub tables : (h : FlatHead) (n : Counts) (b : Buffers) (f : File) (s i : ℕ) → Spelled h n b f → Unlisted h.lengths b s i → ⊥
  pub epoch : (lengths : List ℕ) (p : FlatEpoch) (b : Buffers) (e : Epoch) (s i : ℕ) → EpochSpelled lengths p b e → Unlisted lengths b s i → ⊥
  pub read : (t : List ℕ) (b a : Buffers) (h : FlatHead) (n : Counts) (s i : ℕ) → Read t b a (taken h n) → Unlisted h.lengths a s i → ⊥
  -- so the writer has no reply but 20
  pub write : (h : FlatHead) (n : Counts) (b : Buffers) (out after : List ℕ) (at : ℕ) (r : WriteReply) (s i : ℕ) → Unlisted h.lengths b s i → Write h n b out after at r → r ≡ no_text
  pub write_epoch : (lengths : List ℕ) (p : FlatEpoch) (b : Buffers) (out after : List ℕ) (at : ℕ) (r : WriteReply) (s i : ℕ) → Unlisted lengths b s i → WriteEpoch lengths p b out after at r
      → r ≡ no_text
  -- and a slot that is asked for by a code that is not taken under the row's system is not declared
  pub slot : (h : FlatHead) (n : Counts) (b : Buffers) (f : File) (row code : ℕ) (a : Answer) → Spelled h n b f → row < n.rows
      → is_taken (get_or b.satellites row 0 / 100) (unpacked code) ≡ false → Slotted h n b row code a → a ≡ not_declared

-- more room, of 2026-11: "Show for every text and two sets of lent buffers, the second nowhere shorter, that an answer other than 16 is the same in both,
-- with the same entries in use. Where the first gives 16, the second never refuses at an earlier line."
-- of a reader that gives this answer in a room
pub record MoreRoom (answer : Room → List ℕ → Verdict) : Type 0 where
  pub same : (r q : Room) (t : List ℕ) → NoLess r q → ((k : ℕ) → answer r t ≡ refused 16 k → ⊥) → answer q t ≡ answer r t
  pub no_earlier : (r q : Room) (t : List ℕ) (k m j : ℕ) → NoLess r q → answer r t ≡ refused 16 k → answer q t ≡ refused m j → k ≤ j

-- of a reader by what it may leave and tell: `Leaves t before after x`, and `meant x` is the reply that x stands for
pub record MoreLent {A : Type 0} (meant : A → ReadReply) (Leaves : List ℕ → (before after : Buffers) → A → Type 0) : Type 0 where
  pub same : (t : List ℕ) (b a c d : Buffers) (r s : A) → NowhereShorter b c → Leaves t b a r → Leaves t c d s
      → ((k : ℕ) → meant r ≡ turned_away 16 k → ⊥) → (s ≡ r) × SameInUse (meant r) a d
  pub no_earlier : (t : List ℕ) (b a c d : Buffers) (r s : A) (k m j : ℕ) → NowhereShorter b c → Leaves t b a r → Leaves t c d s
      → meant r ≡ turned_away 16 k → meant s ≡ turned_away m j → k ≤ j

-- the claim: both hold of the rule, of its verdict and of any two replies that keep the promise of reading
pub record MoreRoomOfTheRule : Type 0 where
  pub of_the_verdict : MoreRoom verdict
  pub of_reading : MoreLent (λ (r : ReadReply). r) Read
