-- THE PROMISES: what each operation answers and leaves, by cases on its reply.
use Rattle.std.specs.Prelude.{ℕ, ◌+◌, ◌≤◌, ◌≡◌, List, map, length, take, Float}
use Rattle.std.proofs.lemmas.List.Edits.{sets}
use Rattle.lists.specs.Lists.{All}
use Rattle.line.specs.Text.{longest, text, Line}
use Rattle.rinex.specs.File.{Slot, Epoch, Head, File, satellite}
use Rattle.rinex.specs.Header.{HeaderLines}
use Rattle.rinex.specs.Data.{EpochLines}
use Rattle.rinex.specs.Spells.{Spells}
use Rattle.rinex.specs.Tables.{state_of, signed_of, mark_of, rows_of, lines_of, FlatEpoch, flat_epoch, all_slots, FlatHead, flat_head, Counts, counts, Buffers, laid_codes, laid, room, CodesFit, Fits, Hold}
use Rattle.rinex.specs.Refusals.{refused, verdict}
use Rattle.rinex.specs.Normal.{normal, normal_epoch}
use Rattle.rinex.specs.Answers.{Answer, metres, cycles, hertz, strength, blank, not_declared, no_row, unspelled, kind, float, answer, answers}

-- READ: the head and the counts, or a refusal by number and line
pub data ReadReply : Type 0 where
  taken : FlatHead → Counts → ReadReply
  turned_away : (number line : ℕ) → ReadReply

-- "the tables handed back are the ones spelled"; every entry past them is unchanged
pub record Accepts (t : List ℕ) (before after : Buffers) (h : FlatHead) (n : Counts) : Type 0 where
  pub file : File
  pub size : length t ≤ longest
  pub spells : Spells t file
  pub fits : Fits (room before) file
  pub head : h ≡ flat_head file.head
  pub lengths : n ≡ counts file
  pub entries : after ≡ laid file before

-- "A refusal returns number and line and changes nothing lent."
pub record Refuses (t : List ℕ) (before after : Buffers) (number line : ℕ) : Type 0 where
  pub which : verdict (room before) t ≡ refused number line
  pub rightly : (f : File) → length t ≤ longest → Spells t f → Fits (room before) f → ⊥
  pub entries : after ≡ before

abbrev pub Read : List ℕ → Buffers → Buffers → ReadReply → Type 0
Read t before after (taken h n) = Accepts t before after h n
Read t before after (turned_away number line) = Refuses t before after number line

-- tables that some text spells, as the file that they hold
pub record Spelled (h : FlatHead) (n : Counts) (b : Buffers) (f : File) : Type 0 where
  pub hold : Hold h n b f
  pub a_text : List ℕ
  pub spells : Spells a_text f

-- WRITE: the count of bytes written, or a refusal
pub data WriteReply : Type 0 where
  written : ℕ → WriteReply
  no_text : WriteReply
  no_place : WriteReply

-- the paper's number of a reply, 0 where it is none; "both return line 0"
abbrev pub number : WriteReply → ℕ
number (written n) = 0
number no_text = 20
number no_place = 21

-- s fits the buffer from the place on, and the size limit
pub record RoomFor (s out : List ℕ) (at : ℕ) : Type 0 where
  pub buffer : at + length s ≤ length out
  pub size : length s ≤ longest

-- s stands in the buffer from the place on, "and all other bytes stay"
pub record Stands (s out after : List ℕ) (at n : ℕ) : Type 0 where
  pub fits : RoomFor s out at
  pub length_is : n ≡ length s
  pub bytes : after ≡ sets out at s

-- what a reply says of a text to be written, where P are the things it may be the text of
abbrev pub Writes : {A : Type 0} → (A → Type 0) → (A → List ℕ) → List ℕ → List ℕ → ℕ → WriteReply → Type 0
Writes {A} P normal out after at (written n) = (x : A) × P x × Stands (normal x) out after at n
Writes {A} P normal out after at no_text = ((x : A) → P x → ⊥) × (after ≡ out)
Writes {A} P normal out after at no_place = (x : A) × P x × (RoomFor (normal x) out at → ⊥) × (after ≡ out)

-- the whole file
abbrev pub Write : FlatHead → Counts → Buffers → List ℕ → List ℕ → ℕ → WriteReply → Type 0
Write h n b out after at reply = Writes (Spelled h n b) normal out after at reply

-- the buffer begins with these entries
abbrev pub Begins : {A : Type 0} → List A → List A → Type 0
Begins xs b = take (length xs) b ≡ xs

-- lists that some header has
pub record HeaderLists (lists : List (List (List ℕ))) : Type 0 where
  pub lines : List (List ℕ)
  pub head : Head
  pub header : HeaderLines lines head
  pub plain : All Line lines
  pub same : lists ≡ head.lists

-- an epoch that some text has under the given lists, as the lent buffers hold it from their beginnings on
pub record EpochSpelled (lengths : List ℕ) (p : FlatEpoch) (b : Buffers) (e : Epoch) : Type 0 where
  pub lists : List (List (List ℕ))
  pub header : HeaderLists lists
  pub lengths_are : lengths ≡ map (λ (cs : List (List ℕ)). length cs) lists
  pub codes_fit : CodesFit (length b.codes) lists
  pub codes : laid_codes 0 lists b.codes ≡ b.codes
  pub epoch : p ≡ flat_epoch e
  pub satellites : Begins (map satellite (rows_of e)) b.satellites
  pub numbers : Begins (map (λ (s : Slot). signed_of s.value) (all_slots (rows_of e))) b.numbers
  pub states : Begins (map (λ (s : Slot). state_of s.value) (all_slots (rows_of e))) b.states
  pub losses : Begins (map (λ (s : Slot). mark_of s.loss) (all_slots (rows_of e))) b.losses
  pub strengths : Begins (map (λ (s : Slot). mark_of s.strength) (all_slots (rows_of e))) b.strengths
  pub carried : Begins (text (lines_of e)) b.carried
  pub lines : List (List ℕ)
  pub spells : EpochLines lists lines e
  pub plain : All Line lines

-- WRITE_EPOCH: "One epoch may also be written alone from a given place in a larger lent buffer."
abbrev pub WriteEpoch : List ℕ → FlatEpoch → Buffers → List ℕ → List ℕ → ℕ → WriteReply → Type 0
WriteEpoch lengths p b out after at reply = Writes (EpochSpelled lengths p b) normal_epoch out after at reply

-- what is handed on is of the tables' file
pub record Answers (h : FlatHead) (n : Counts) (b : Buffers) (row code : ℕ) (a : Answer) : Type 0 where
  pub file : File
  pub spelled : Spelled h n b file
  pub answers : a ≡ answer file row code

-- SLOT: "tables that no text spells get 20, before all else"
abbrev pub Slotted : FlatHead → Counts → Buffers → (row code : ℕ) → Answer → Type 0
Slotted h n b row code (metres x) = Answers h n b row code (metres x)
Slotted h n b row code (cycles x) = Answers h n b row code (cycles x)
Slotted h n b row code (hertz x) = Answers h n b row code (hertz x)
Slotted h n b row code (strength x) = Answers h n b row code (strength x)
Slotted h n b row code blank = Answers h n b row code blank
Slotted h n b row code not_declared = Answers h n b row code not_declared
Slotted h n b row code no_row = Answers h n b row code no_row
Slotted h n b row code unspelled = (f : File) → Spelled h n b f → ⊥

-- COLUMN: what `slot` answers for a code of one system, for all rows at once; the tables are judged once
-- the number of rows, or a refusal
pub data ColumnReply : Type 0 where
  filled : ℕ → ColumnReply
  no_tables : ColumnReply
  no_room : ColumnReply

-- the number of a reply, 0 where it is no refusal: 20 for tables that no text spells, before all else; lack of room is 16, as in reading
abbrev pub column_number : ColumnReply → ℕ
column_number (filled n) = 0
column_number no_tables = 20
column_number no_room = 16

-- what is lent for the answers: their numbers and their floats
pub record Column : Type 0 where
  pub kinds : List ℕ
  pub floats : List Float

-- both have an entry for each answer
pub record ColumnRoom (xs : List Answer) (c : Column) : Type 0 where
  pub kinds : length xs ≤ length c.kinds
  pub floats : length xs ≤ length c.floats

-- the answers from the first entry on; every other entry stays
unfoldable pub laid_column : List Answer → Column → Column
laid_column xs c = record { kinds = sets c.kinds 0 (map kind xs); floats = sets c.floats 0 (map float xs) }

-- the answers stand in both
pub record Filled (xs : List Answer) (before after : Column) (n : ℕ) : Type 0 where
  pub room : ColumnRoom xs before
  pub rows : n ≡ length xs
  pub entries : after ≡ laid_column xs before

-- "A refusal .. changes nothing lent."
abbrev pub Columned : FlatHead → Counts → Buffers → (s code : ℕ) → (before after : Column) → ColumnReply → Type 0
Columned h n b s code before after (filled k) = (f : File) × Spelled h n b f × Filled (answers f s code) before after k
Columned h n b s code before after no_tables = ((f : File) → Spelled h n b f → ⊥) × (after ≡ before)
Columned h n b s code before after no_room = (f : File) × Spelled h n b f × (ColumnRoom (answers f s code) before → ⊥) × (after ≡ before)

-- WHAT IS TOLD of a reply, in a struct of the code, keeps a promise
pub record Keeps {R S : Type 0} (told : R → S) (promise : R → Type 0) (s : S) : Type 0 where
  pub reply : R
  pub told_so : s ≡ told reply
  pub kept : promise reply
