-- What fit tables give to those that put them, and the text that these put. Assumes nothing.
use Prim.Native.Nat.{ℕ, zero, suc, ◌+◌, ◌≤◌}
use mathlib.Core.Path.{◌≡◌, refl, sym, ap, ◌∙◌, subst}
use mathlib.Core.Bool.{true}
use mathlib.Core.List.{List, [], ◌∷◌, ◌++◌, map}
use Rattle.std.specs.Prelude.{Option, None, Some}
use native.Mathlib.Omega.{arith}
use borrow.Author.Tests.{eqb-true, leb-true}
use lib.Dec.{eqb, leb}
use lib.ListN.{length, get_or, take, drop, length-append}
use lib.Seq.{sets}
use Rattle.lists.specs.Lists.{joined, sum}
use Rattle.lists.specs.Maybe.{is_given}
use Rattle.lists.proofs.Bools.{both}
use Rattle.lists.proofs.Stores.{sets_append}
use Rattle.line.specs.Text.{text, Raw, split}
use Rattle.line.proofs.Texts.{text_append}
use Rattle.rinex.specs.Tables.{FlatHead, Counts, Buffers, room}
use Rattle.rinex.specs.Fit.{head_fits, list_fits, lists_fit, all_lists_fit, header_lines_fit, Untaken, epochs_fit, all_taken, room_fits, tables_fit, all_untaken}
use Rattle.rinex.specs.Held.{file_at}
use Rattle.rinex.specs.Normal.{head_lines, epoch_lines, normal}
use Rattle.rinex.proofs.LentLists.{list_few}
use Rattle.lent.specs.declared.Tables.{Tables}
use Rattle.lent.specs.Parts.{tables_in}
use Rattle.fits.proofs.Alone.{data_alone}
use Rattle.fits.proofs.Whole.{Holds, room_holds}
use Rattle.fits.proofs.Whole as fit
use Rattle.write_data.specs.EpochTexts.{epochs_text, EpochsReady}
use Rattle.write_data.proofs.HeldLines.{header_held}
use Rattle.write_data.proofs.HeldAlone.{epochs_same}
use Rattle.write_header.specs.Heading.{head_text, HeadReady}

-- the lists are short
lists_few : (letter : ℕ) (codes : List ℕ) (s : ℕ) (ns : List ℕ) → lists_fit letter codes s ns ≡ true → (y : ℕ) → get_or ns y 0 ≤ 64
unfolding lists_fit
lists_few letter codes s [] h y = omega arith
lists_few letter codes s (n ∷ ns) h zero = list_few letter codes s n (both (list_fits letter codes s n) _ h).0
lists_few letter codes s (n ∷ ns) h (suc y) = lists_few letter codes (s + 1) ns (both (list_fits letter codes s n) _ h).1 y

pub all_few : (letter : ℕ) (ns codes : List ℕ) → all_lists_fit letter ns codes ≡ true → (length ns ≡ 7) × ((y : ℕ) → get_or ns y 0 ≤ 64)
unfolding all_lists_fit
all_few letter ns codes h =
    let p = both (eqb (length ns) 7) _ h in
    (eqb-true (length ns) 7 p.0, lists_few letter codes 0 ns (both (leb 1 (sum ns)) _ p.1).1)

-- what is taken was given
taken_given : (n : Counts) (o : Option Untaken) → all_taken n o ≡ true → is_given o ≡ true
taken_given n None h = h
taken_given n (Some c) h = refl

module _ (h : FlatHead) (n : Counts) (tables : Tables) (f : tables_fit h n (tables_in tables) ≡ true) where
  abbrev b : Buffers
  b = tables_in tables

  abbrev pub carried_lines : List Raw
  carried_lines = split (take n.carried b.carried)

  -- where the epochs begin
  abbrev pub start : Untaken
  start = all_untaken (drop h.header_lines carried_lines)

  pub record Parts : Type 0 where
    pub head : head_fits h ≡ true
    pub lists : all_lists_fit h.letter h.lengths b.codes ≡ true
    pub holds : Holds n tables
    pub long : h.header_lines ≤ length carried_lines
    pub header : header_lines_fit (take h.header_lines carried_lines) ≡ true
    pub epochs : is_given (epochs_fit h.lengths n b n.epochs 0 start) ≡ true

  pub parts : Parts
  unfolding tables_fit
  parts =
      let p = both (head_fits h) _ f in
      let q = both (all_lists_fit h.letter h.lengths b.codes) _ p.1 in
      let r = both (room_fits n (room b)) _ q.1 in
      let s = both (leb h.header_lines (length carried_lines)) _ r.1 in
      let t = both (header_lines_fit (take h.header_lines carried_lines)) _ s.1 in
      record {
        head = p.0;
        lists = q.0;
        holds = room_holds n tables r.0;
        long = leb-true h.header_lines (length carried_lines) s.0;
        header = t.0;
        epochs = taken_given n (epochs_fit h.lengths n b n.epochs 0 start) t.1;
      }

  pub few : (length h.lengths ≡ 7) × ((y : ℕ) → get_or h.lengths y 0 ≤ 64)
  few = all_few h.letter h.lengths b.codes parts.lists

  -- the header, and the epochs
  pub head_ready : HeadReady h b.codes carried_lines
  head_ready = record { head = parts.head; lists = parts.lists; lines = header_held h.header_lines carried_lines parts.long parts.header }

  epochs_ready : EpochsReady h.lengths (data_alone b) n.epochs 0 start
  epochs_ready =
      record {
        used = n;
        lent = record { few = few.1; rows_hold = parts.holds.rows; slots_hold = parts.holds.slots };
        row = omega arith;
        slot = omega arith;
        fit = ap is_given (fit.epochs_same h.lengths n b n.epochs 0 start) ∙ parts.epochs;
      }

  -- their texts are the whole
  normal_is : normal (file_at h n b) ≡ head_text h b.codes carried_lines ++ epochs_text h.lengths (data_alone b) n.epochs 0 start
  unfolding normal file_at
  normal_is =
      text_append (head_lines (file_at h n b).head) (joined (map epoch_lines (file_at h n b).epochs))
      ∙ ap (λ (xs : List _). head_text h b.codes carried_lines ++ text (joined (map epoch_lines xs))) (sym (epochs_same h.lengths b n.epochs 0 0 0 start.lines))

  -- as the code has the lines that are left
  module _ (ws : List Raw) (q : ws ≡ drop h.header_lines carried_lines) where
    start_is : all_untaken ws ≡ start
    start_is = ap all_untaken q

    abbrev top : List ℕ
    top = head_text h b.codes carried_lines

    abbrev rest : Untaken → List ℕ
    rest c = epochs_text h.lengths (data_alone b) n.epochs 0 c

    whole_is : normal (file_at h n b) ≡ top ++ rest (all_untaken ws)
    whole_is = normal_is ∙ ap (λ (c : Untaken). top ++ rest c) (sym start_is)

    pub start_ready : EpochsReady h.lengths (data_alone b) n.epochs 0 (all_untaken ws)
    start_ready = subst (EpochsReady h.lengths (data_alone b) n.epochs 0) (sym start_is) epochs_ready

    pub size_parts : length (normal (file_at h n b)) ≡ length top + length (rest (all_untaken ws))
    size_parts = ap length whole_is ∙ length-append top (rest (all_untaken ws))

    pub put_parts : (o x y : List ℕ) (at to : ℕ) → x ≡ sets o at top → to ≡ at + length top → y ≡ sets x to (rest (all_untaken ws)) → y ≡ sets o at (normal (file_at h n b))
    put_parts o x y at to e f g = g ∙ ((λ k. sets (e k) (f k) (rest (all_untaken ws))) ∙ (sets_append o at top (rest (all_untaken ws)) ∙ ap (sets o at) (sym whole_is)))
