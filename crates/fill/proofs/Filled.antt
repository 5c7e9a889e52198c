-- THE SECOND PASS FILLS THE TABLES: what it leaves of a text that spells a file is the file laid out. Assumes nothing.
use Prim.Native.Nat.{ℕ, suc, ◌+◌, ◌*◌, ◌<◌}
use mathlib.Core.Path.{◌≡◌, refl, ap, sym, subst, ◌∙◌}
use mathlib.Core.List.{List, [], ◌∷◌, ◌++◌, map}
use native.Mathlib.Omega.{arith}
use lib.ListN.{length, get_or, take, drop}
use lib.Seq.{sets}
use Rattle.line.specs.Text.{text, split, Raw, raw}
use Rattle.line.proofs.Texts.{split_text}
use Rattle.rinex.specs.File.{File}
use Rattle.rinex.specs.Data.{DataLines}
use Rattle.rinex.specs.Spells.{Spells}
use Rattle.rinex.specs.Tables.{Buffers, Room, Fits, packed, all_lines, carried_bytes, laid_codes, laid, room}
use Rattle.rinex.proofs.Counting.{carried_first}
use Rattle.state.specs.declared.State.{State}
use Rattle.state.specs.declared.Stage.TheVariants as stages
use Rattle.rinex.specs.declared.Counts.{Counts}
use Rattle.state.specs.Judge.{counted, begin, no_codes}
use Rattle.fill.specs.Fill.{head_from, carried_from, nothing_read, filled_from}
use Rattle.fill_codes.specs.Codes.{codes_from}
use Rattle.judge.specs.Ending.{header_end, Ended, after_header}
use Rattle.fill.proofs.Puts.{same, put, texts_more}
use Rattle.state.proofs.Kept.{lengths_of}
use Rattle.fill.proofs.FilledData.{epochs_filled}
use Rattle.fill.proofs.HeaderEnd.{Behind, header_ends}
use Rattle.fill.proofs.FilledHead.{HeadIs, head_is, carried_bytes_lem}

-- the end of the header of a text

-- the buffers with the header's codes and carried bytes in them
abbrev pub with_header : File → Buffers → Buffers
with_header f b =
    record {
      codes = laid_codes 0 f.head.lists b.codes;
      times = b.times;
      time_states = b.time_states;
      flags = b.flags;
      counts = b.counts;
      clocks = b.clocks;
      clock_states = b.clock_states;
      satellites = b.satellites;
      numbers = b.numbers;
      states = b.states;
      losses = b.losses;
      strengths = b.strengths;
      carried = sets b.carried 0 (text f.head.carried);
    }

-- what each part of the second pass leaves of the text t, where it spells f and b are the lent buffers
pub record Filled (t : List ℕ) (f : File) (b : Buffers) : Type 0 where
  -- the end of the header
  pub stage : (header_end t).state.stage ≡ stages.Epoch
  pub letter : (header_end t).state.letter ≡ f.head.letter
  pub lengths : (header_end t).state.lengths ≡ lengths_of f.head.lists
  pub used : (header_end t).state.used ≡ counted 0 0 0 (length (text f.head.carried))
  pub lines : (s : Spells t f) → (header_end t).lines ≡ length s.header_lines
  pub rest : (s : Spells t f) → (header_end t).rest ≡ map raw s.data_lines
  -- the codes
  pub codes : (c : List ℕ) → codes_from 0 (header_end t).state.lengths (header_end t).table c ≡ laid_codes 0 f.head.lists c
  -- what is returned of the header by value, and its carried bytes
  pub head : HeadIs f.head (head_from (header_end t).lines nothing_read (split t))
  pub carried : carried_from (header_end t).lines nothing_read b.carried (split t) ≡ sets b.carried 0 (text f.head.carried)
  -- all tables, once the epochs are put in
  pub tables : filled_from (header_end t).state (with_header f b) (header_end t).rest ≡ laid f b

-- codes that stand in the table are laid out from it
codes_laid : (lists : List (List (List ℕ))) (p : ℕ) (t c : List ℕ) → ((y : ℕ) → y < length lists → take (length (get_or lists y [])) (drop (p + 64 * y) t) ≡ map packed (get_or lists y []))
    → codes_from p (lengths_of lists) t c ≡ laid_codes p lists c
unfolding codes_from laid_codes
codes_laid [] p t c h = refl
codes_laid (cs ∷ lists) p t c h =
    let z : p + 64 * 0 ≡ p = omega arith in
    let e : take (length cs) (drop p t) ≡ map packed cs = rw z at (h 0 (omega arith)) in
    ap (λ (x : List ℕ). codes_from (p + 64) (lengths_of lists) t (sets c p x)) e
    ∙ codes_laid lists (p + 64) t (sets c p (map packed cs))
    (λ y k.
    let q : p + 64 * suc y ≡ p + 64 + 64 * y = omega arith in
    rw q at (h (suc y) (omega arith)))

-- epochs put behind the header's are the file laid out
put_laid : (f : File) (b : Buffers) → put (counted 0 0 0 (length (text f.head.carried))) f.epochs (with_header f b) ≡ laid f b
unfolding put laid carried_bytes
put_laid f b =
    same _ _
    (record {
      codes = refl;
      times = refl;
      time_states = refl;
      flags = refl;
      counts = refl;
      clocks = refl;
      clock_states = refl;
      satellites = refl;
      numbers = refl;
      states = refl;
      losses = refl;
      strengths = refl;
      carried = texts_more b.carried 0 _ f.head.carried (all_lines f.epochs) (omega arith);
    })

-- the lines of a text that spells a file, and the end of its header among them
lines_are : (t : List ℕ) (f : File) (s : Spells t f) → split t ≡ map raw (s.header_lines ++ s.data_lines)
lines_are t f s = ap split s.whole ∙ split_text (s.header_lines ++ s.data_lines) s.lines

behind : (r : Room) (t : List ℕ) (f : File) (s : Spells t f) → Fits r f → Behind s.header_lines s.data_lines f.head
behind r t f s w = header_ends r s.header_lines s.data_lines f.head s.header (record { codes = w.codes; carried = carried_first f w.carried })

ended : (r : Room) (t : List ℕ) (f : File) (s : Spells t f) (w : Fits r f)
    → header_end t ≡ record { lines = length s.header_lines; state = (behind r t f s w).state; table = (behind r t f s w).table; rest = map raw s.data_lines }
ended r t f s w = ap (after_header begin no_codes) (lines_are t f s) ∙ (behind r t f s w).ended

data_filled : (ls : List (List ℕ)) (f : File) (c : State) (b : Buffers) → DataLines f.head.lists ls f.epochs
    → c.stage ≡ stages.Epoch → c.lengths ≡ lengths_of f.head.lists → c.used ≡ counted 0 0 0 (length (text f.head.carried)) → filled_from c (with_header f b) (map raw ls) ≡ laid f b
data_filled ls f c b h s n u =
    ap (λ (x : List (List ℕ)). filled_from c (with_header f b) (map raw x)) h.lines
    ∙ (epochs_filled f.head.lists h.groups f.epochs c (with_header f b) h.epochs s n
    ∙ (ap (λ (x : Counts). put x f.epochs (with_header f b)) u ∙ put_laid f b))

pub filled : (t : List ℕ) (f : File) (b : Buffers) → Spells t f → Fits (room b) f → Filled t f b
filled t f b s w =
    let i = behind (room b) t f s w in
    let e = ended (room b) t f s w in
    let q = lines_are t f s in
    let n : (header_end t).lines ≡ length s.header_lines = ap (λ (x : Ended). x.lines) e in
    record {
      stage = ap (λ (x : Ended). x.state.stage) e ∙ i.stage;
      letter = ap (λ (x : Ended). x.state.letter) e ∙ i.letter;
      lengths = ap (λ (x : Ended). x.state.lengths) e ∙ i.lengths;
      used = ap (λ (x : Ended). x.state.used) e ∙ i.used;
      lines = λ z. ap (λ (x : Ended). x.lines) (ended (room b) t f z w);
      rest = λ z. ap (λ (x : Ended). x.rest) (ended (room b) t f z w);
      codes = λ c.
          ap (λ (x : Ended). codes_from 0 x.state.lengths x.table c) e
          ∙ (ap (λ (x : List ℕ). codes_from 0 x i.table c) i.lengths
          ∙ codes_laid f.head.lists 0 i.table c
          (λ y k.
          let z : 0 + 64 * y ≡ 64 * y = omega arith in
          rw z (i.held y (omega (arith, k, s.header.systems))).entries));
      head =
          subst (λ (x : ℕ). HeadIs f.head (head_from x nothing_read (split t))) (sym n)
          (subst (λ (x : List Raw). HeadIs f.head (head_from (length s.header_lines) nothing_read x)) (sym q) (head_is s.header_lines s.data_lines f.head s.header));
      carried =
          ap (λ (x : ℕ). carried_from x nothing_read b.carried (split t)) n
          ∙ (ap (λ (x : List Raw). carried_from (length s.header_lines) nothing_read b.carried x) q
          ∙ carried_bytes_lem s.header_lines s.data_lines f.head b.carried s.header);
      tables =
          ap (λ (x : Ended). filled_from x.state (with_header f b) x.rest) e
          ∙ data_filled s.data_lines f i.state b s.epochs i.stage i.lengths i.used;
    }
