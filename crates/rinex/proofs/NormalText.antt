-- The normal text of a file that some text spells, spells it. Assumes nothing.
use Prim.Native.Nat.{ℕ}
use mathlib.Core.Path.{◌≡◌, refl, sym, ap, subst}
use mathlib.Core.List.{List, map}
use Rattle.lists.specs.Lists.{All, joined}
use Rattle.lists.proofs.Lists.{on_all}
use Rattle.line.specs.Text.{Line, text}
use Rattle.rinex.specs.File.{File, Epoch}
use Rattle.rinex.specs.Data.{EpochLines}
use Rattle.rinex.specs.Spells.{Spells}
use Rattle.rinex.specs.Normal.{head_lines, epoch_lines, normal, normal_epoch}
use Rattle.rinex.specs.Theorems.{NormalSpells}
use Rattle.rinex.specs.Tables.{FlatEpoch, Buffers}
use Rattle.rinex.specs.Promises.{HeaderLists, EpochSpelled}
use Rattle.rinex.proofs.Forms.{epoch_form, head_lists, FileForm, file_form}
use Rattle.rinex.proofs.NormalHeader.{header_normal}
use Rattle.rinex.proofs.NormalEpochs.{Few, epoch_normal, epochs_normal}
use Rattle.rinex.proofs.Agree.{one_of_text}

-- a file that has the form
pub form_spells : (f : File) → FileForm f → Spells (normal f) f
unfolding normal
form_spells f s =
    let a = header_normal f.head s.head in
    let b = epochs_normal f.head.lists (λ y m. (s.head.lists y m).few) f.epochs s.epochs in
    record {
      header_lines = head_lines f.head;
      data_lines = joined (map epoch_lines f.epochs);
      whole = refl;
      lines = on_all Line (head_lines f.head) (joined (map epoch_lines f.epochs)) a.1 b.1;
      header = a.0;
      epochs = record { groups = map epoch_lines f.epochs; lines = refl; epochs = b.0; order = s.order };
    }

pub normal_spelled : (t : List ℕ) (f : File) → Spells t f → Spells (normal f) f
normal_spelled t f s = form_spells f (file_form t f s)

-- one epoch under the lists of some header
epoch_spelled : (lists : List (List (List ℕ))) → HeaderLists lists → (ls : List (List ℕ)) (e : Epoch) → EpochLines lists ls e → All Line ls
    → EpochLines lists (epoch_lines e) e × All Line (epoch_lines e) × (normal_epoch e ≡ text (epoch_lines e))
unfolding normal_epoch
epoch_spelled lists h ls e s a =
    let few : Few lists = rw h.same (λ y m. (head_lists h.lines h.head h.header y m).few) in
    let r = epoch_normal lists few e (epoch_form lists ls e s a) in
    (r.0, r.1, refl)

-- an epoch that may be written alone: its normal text is a text of it, under the same lists
pub epoch_writable : (lengths : List ℕ) (p : FlatEpoch) (b : Buffers) (e : Epoch) (h : EpochSpelled lengths p b e)
    → EpochLines h.lists (epoch_lines e) e × All Line (epoch_lines e) × (normal_epoch e ≡ text (epoch_lines e))
epoch_writable lengths p b e h = epoch_spelled h.lists h.header h.lines e h.spells h.plain

-- a fixed point: what the normal text spells has that normal text
normal_fixed : (t : List ℕ) (f g : File) → Spells t f → Spells (normal f) g → normal g ≡ normal f
normal_fixed t f g p q = ap normal (one_of_text (normal f) g f q (normal_spelled t f p))

-- two texts of one file have one normal text, and two files with one normal text are one
normal_one : (t u : List ℕ) (f g : File) → Spells t f → Spells u g → normal f ≡ normal g → f ≡ g
normal_one t u f g p q e = one_of_text (normal f) f g (normal_spelled t f p) (subst (λ (x : List ℕ). Spells x g) (sym e) (normal_spelled u g q))

pub normal_spells : NormalSpells
normal_spells = record { spells = normal_spelled; one = normal_one; fixed = normal_fixed }
