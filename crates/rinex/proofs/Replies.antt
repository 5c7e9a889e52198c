-- WHATEVER IS LENT, SOME REPLY KEEPS THE PROMISE: none asks for what cannot be. Assumes nothing.
use Prim.Native.Nat.{ℕ, zero, suc, ◌+◌, ◌≤◌}
use mathlib.Core.Path.{◌≡◌, refl, ap, sym, ◌∙◌}
use mathlib.Core.Bool.{Bool, true, false, cond, ◌&&◌}
use mathlib.Core.List.{List, [], ◌∷◌, map}
use Rattle.std.specs.Prelude.{Option, None, Some}
use native.Mathlib.Omega.{arith}
use lib.Dec.{eqb, leb}
use lib.IntN.{ℤ}
use lib.Ieee.{Float}
use lib.ListN.{length, get_or}
use lib.Seq.{sets}
use borrow.Author.Tests.{le-leb, leb-true}
use Rattle.lists.specs.Lists.{place}
use Rattle.lists.proofs.Bools.{never, both, all_of}
use Rattle.line.specs.Text.{longest}
use Rattle.rinex.specs.File.{Row, File}
use Rattle.rinex.specs.Tables.{packed, all_rows, FlatHead, flat_head, Counts, counts, Buffers, laid, room}
use Rattle.rinex.specs.Refusals.{Verdict, accepted, refused, verdict}
use Rattle.rinex.specs.Normal.{normal, normal_epoch}
use Rattle.rinex.specs.Answers.{Answer, metres, cycles, hertz, strength, blank, not_declared, no_row, unspelled, thousandth, kind, measured, valued, answer_at, row_answer, answer, answers}
use Rattle.rinex.specs.Promises.{ReadReply, taken, turned_away, Read, Spelled, WriteReply, written, no_text, no_place, RoomFor, Writes, EpochSpelled, Answers, Slotted, ColumnReply, filled, no_tables, no_room, Column, laid_column, Columned}
use Rattle.rinex.specs.Fit.{tables_fit, lone_epoch_fits}
use Rattle.rinex.specs.Theorems.{Taken}
use Rattle.rinex.proofs.Agree.{agree}
use Rattle.rinex.proofs.FitTables.{fit_tables}
use Rattle.rinex.proofs.FitEpoch.{fit_epoch}
use Rattle.rinex.specs.Theorems

-- reading
read_taken : (t : List ℕ) (b : Buffers) (n : Counts) (x : Taken (room b) t n) → Read t b (laid x.file b) (taken (flat_head x.file.head) n)
read_taken t b n x = record { file = x.file; size = x.size; spells = x.spells; fits = x.fits; head = refl; lengths = x.lengths; entries = refl }

pub read_refused : (t : List ℕ) (b : Buffers) (n k : ℕ) → verdict (room b) t ≡ refused n k → Read t b b (turned_away n k)
read_refused t b n k h =
    record {
      which = h;
      rightly = λ f m s w. let e : refused n k ≡ accepted (counts f) = sym h ∙ agree.complete (room b) t f m s w in let z : ◌≡◌ {A = ℕ} 0 1 = cc in omega arith;
      entries = refl;
    }

read : (t : List ℕ) (b : Buffers) → (a : Buffers) × (r : ReadReply) × Read t b a r
read t b = at (verdict (room b) t) refl
  where
    at : (v : Verdict) → verdict (room b) t ≡ v → (a : Buffers) × (r : ReadReply) × Read t b a r
    at (accepted n) e = let x = agree.sound (room b) t n e in (laid x.file b, taken (flat_head x.file.head) n, read_taken t b n x)
    at (refused n k) e = (b, turned_away n k, read_refused t b n k e)

-- writing, where a test tells whether there is something to write
module _ {A : Type 0} (P : A → Type 0) (text : A → List ℕ) (out : List ℕ) (at : ℕ) where
  abbrev Reply : Type 0
  Reply = (a : List ℕ) × (r : WriteReply) × Writes P text out a at r

  placed : (x : A) → P x → Reply
  placed x p = go (leb (at + length (text x)) (length out) && leb (length (text x)) longest) refl
    where
      go : (b : Bool) → (leb (at + length (text x)) (length out) && leb (length (text x)) longest) ≡ b → Reply
      go true e =
          let q = both (leb (at + length (text x)) (length out)) _ e in
          let fits : RoomFor (text x) out at = record { buffer = leb-true _ _ q.0; size = leb-true _ _ q.1 } in
          (sets out at (text x), written (length (text x)), (x, p, record { fits = fits; length_is = refl; bytes = refl }))
      go false e = (out, no_place, (x, p, λ f. never (sym e ∙ all_of _ _ (le-leb _ _ f.buffer) (le-leb _ _ f.size)), refl))

  writes : (test : Bool) → (test ≡ true → (x : A) × P x) → ((x : A) → P x → test ≡ true) → Reply
  writes true sound complete = let x = sound refl in placed x.0 x.1
  writes false sound complete = (out, no_text, (λ x p. never (complete x p), refl))

-- what is handed on is one of the seven
module _ (b : ℕ) where
  measured_kind : (x : Float) → kind (measured b x) ≤ 4
  unfolding measured
  measured_kind x = at (eqb b 67) (eqb b 76) (eqb b 68)
    where
      at : (p q r : Bool) → kind (cond p (metres x) (cond q (cycles x) (cond r (hertz x) (strength x)))) ≤ 4
      at true q r = omega arith
      at false true r = omega arith
      at false false true = omega arith
      at false false false = omega arith

  valued_kind : (o : Option ℤ) → kind (valued b o) ≤ 5
  valued_kind None = omega arith
  valued_kind (Some z) = omega (arith, measured_kind (thousandth z))

answer_kind : (codes : List (List ℕ)) (r : Row) (i : ℕ) → kind (answer_at codes r i) ≤ 6
unfolding answer_at
answer_kind codes r i = at (leb (length codes) i) (get_or (get_or codes i []) 0 0) (get_or r.slots i (record { value = None; loss = None; strength = None })).value
  where
    at : (t : Bool) (b : ℕ) (o : Option ℤ) → kind (cond t not_declared (valued b o)) ≤ 6
    at true b o = omega arith
    at false b o = omega (arith, valued_kind b o)

row_kind : (lists : List (List (List ℕ))) (rs : List Row) (n code : ℕ) → kind (row_answer lists rs n code) ≤ 7
row_kind lists [] n code = omega arith
row_kind lists (r ∷ rs) zero code = omega (arith, answer_kind (get_or lists r.system []) r (place eqb code (map packed (get_or lists r.system []))))
row_kind lists (r ∷ rs) (suc n) code = row_kind lists rs n code

one_of_seven : (f : File) (row code : ℕ) → kind (answer f row code) ≤ 7
unfolding answer
one_of_seven f row code = row_kind f.head.lists (all_rows f.epochs) row code

module _ (h : FlatHead) (n : Counts) (b : Buffers) where
  pub slotted : (row code : ℕ) (a : Answer) → Answers h n b row code a → Slotted h n b row code a
  slotted row code (metres x) s = s
  slotted row code (cycles x) s = s
  slotted row code (hertz x) s = s
  slotted row code (strength x) s = s
  slotted row code blank s = s
  slotted row code not_declared s = s
  slotted row code no_row s = s
  slotted row code unspelled s = absurd (omega (arith, ap kind s.answers, one_of_seven s.file row code))

  slot : (row code : ℕ) → (a : Answer) × Slotted h n b row code a
  slot row code = at (tables_fit h n b) refl
    where
      at : (t : Bool) → tables_fit h n b ≡ t → (a : Answer) × Slotted h n b row code a
      at true e = let f = fit_tables.sound h n b e in (answer f.0 row code, slotted row code (answer f.0 row code) (record { file = f.0; spelled = f.1; answers = refl }))
      at false e = (unspelled, λ f p. never (sym e ∙ fit_tables.complete h n b f p))

  module _ (s code : ℕ) (c : Column) where
    room_or : (f : File) → Spelled h n b f → (a : Column) × (r : ColumnReply) × Columned h n b s code c a r
    room_or f p = go (leb (length xs) (length c.kinds) && leb (length xs) (length c.floats)) refl
      where
        xs : List Answer
        xs = answers f s code

        go : (t : Bool) → (leb (length xs) (length c.kinds) && leb (length xs) (length c.floats)) ≡ t → (a : Column) × (r : ColumnReply) × Columned h n b s code c a r
        go true e =
            let q = both (leb (length xs) (length c.kinds)) _ e in
            (laid_column xs c, filled (length xs), (f, p, record { room = record { kinds = leb-true _ _ q.0; floats = leb-true _ _ q.1 }; rows = refl; entries = refl }))
        go false e = (c, no_room, (f, p, λ m. never (sym e ∙ all_of _ _ (le-leb _ _ m.kinds) (le-leb _ _ m.floats)), refl))

    column : (a : Column) × (r : ColumnReply) × Columned h n b s code c a r
    column = at (tables_fit h n b) refl
      where
        at : (t : Bool) → tables_fit h n b ≡ t → (a : Column) × (r : ColumnReply) × Columned h n b s code c a r
        at true e = let f = fit_tables.sound h n b e in room_or f.0 f.1
        at false e = (c, no_tables, (λ f p. never (sym e ∙ fit_tables.complete h n b f p), refl))

pub met : Theorems.Met
met =
    record {
      read = read;
      write = λ h n b out at. writes (Spelled h n b) normal out at (tables_fit h n b) (fit_tables.sound h n b) (fit_tables.complete h n b);
      write_epoch = λ lengths p b out at. writes (EpochSpelled lengths p b) normal_epoch out at (lone_epoch_fits lengths p b) (fit_epoch.sound lengths p b) (fit_epoch.complete lengths p b);
      slot = slot;
      column = column;
    }
