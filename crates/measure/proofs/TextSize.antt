-- THE NORMAL TEXT OF TABLES is as long as `specs/Size` says. Assumes nothing.
use Prim.Native.Nat.{ℕ, zero, suc, ◌+◌}
use mathlib.Core.Path.{◌≡◌, refl, sym, ap, ◌∙◌, subst}
use mathlib.Core.Bool.{cond}
use mathlib.Core.List.{List, [], ◌∷◌, ◌++◌, map}
use Rattle.std.specs.Prelude.{None, Some}
use native.Mathlib.Omega.{arith}
use lib.Dec.{eqb}
use lib.ListN.{length, get_or}
use Rattle.lists.specs.Lists.{All, joined}
use Rattle.lists.proofs.Lists.{map_append}
use Rattle.rinex.specs.File.{Row, Epoch, observed, event, Head, File}
use Rattle.rinex.specs.Tables.{state_of, clock_of, rows_of, lines_of, FlatEpoch, flat_epoch, all_rows, all_lines, carried_bytes, FlatHead, flat_head, Counts, counts, Buffers, laid, room, Fits}
use Rattle.rinex.specs.Fit.{codes_of_row, entry_at}
use Rattle.rinex.specs.Held.{rows_at}
use Rattle.rinex.specs.Normal.{line, all_lists, first_line_of, interval_lines, head_lines, row_line, epoch_lines, normal}
use Rattle.rinex.specs.Promises.{Spelled}
use Rattle.rinex.proofs.Forms.{RowForm, EpochForm, all_rows_form, FileForm, file_form}
use Rattle.rinex.proofs.LentEpochs.{EntriesLie}
use Rattle.rinex.proofs.FitTables.{lent_entries}
use Rattle.rinex.proofs.HeldFile.{file_rows}
use Rattle.measure.specs.Size.{rows_size, epochs_size, head_size, text_size}
use Rattle.measure.proofs.RowSizes.{row_length}
use Rattle.measure.proofs.LineSizes.{size, length_text, size_on, version_length, first_length, end_length, interval_size, lists_size, epoch_length}

-- rows, as they stand in the tables
pub rows_size_lem : (lengths : List ℕ) (lists : List (List (List ℕ))) (b : Buffers) (k j i : ℕ) → All (RowForm lists) (rows_at lengths b k j i)
    → size (map row_line (rows_at lengths b k j i)) ≡ rows_size lengths b.satellites b.states b.losses b.strengths k j i
unfolding rows_at rows_size
rows_size_lem lengths lists b zero j i f = refl
rows_size_lem lengths lists b (suc k) j i f =
    omega (arith, row_length lengths b j i f.0.slots, rows_size_lem lengths lists b k (j + 1) (i + codes_of_row lengths b j) f.1)

-- the records of epochs
abbrev records_size : List Epoch → ℕ
records_size [] = 0
records_size (x ∷ xs) = cond (eqb (state_of (clock_of x)) 0) 36 57 + records_size xs

pub epoch_size : (lists : List (List (List ℕ))) (x : Epoch) → EpochForm lists x → size (epoch_lines x) ≡ cond (eqb (state_of (clock_of x)) 0) 36 57 + (size (map row_line (rows_of x)) + size (lines_of x))
unfolding epoch_lines
epoch_size lists (observed o) f = omega (arith, epoch_length (Some o.time) o.flag (length o.rows) f.time f.few o.clock f.clock)
epoch_size lists (event v) f = omega (arith, epoch_length v.time v.flag (length v.lines) f.time f.few None tt)

epochs_size_lem : (lists : List (List (List ℕ))) (xs : List Epoch) → All (EpochForm lists) xs
    → size (joined (map epoch_lines xs)) ≡ records_size xs + (size (map row_line (all_rows xs)) + size (all_lines xs))
unfolding all_rows all_lines
epochs_size_lem lists [] f = refl
epochs_size_lem lists (x ∷ xs) f =
    let r : size (map row_line (rows_of x ++ all_rows xs)) ≡ size (map row_line (rows_of x)) + size (map row_line (all_rows xs)) =
    ap size (map_append row_line (rows_of x) (all_rows xs)) ∙ size_on (map row_line (rows_of x)) (map row_line (all_rows xs)) in
    size_on (epoch_lines x) (joined (map epoch_lines xs)) ∙ omega (arith, epoch_size lists x f.0, epochs_size_lem lists xs f.1, r, size_on (lines_of x) (all_lines xs))

clock_state : (b : Buffers) (x : Epoch) (e : ℕ) → entry_at b e ≡ flat_epoch x → get_or b.clock_states e 0 ≡ state_of (clock_of x)
unfolding flat_epoch
clock_state b x e p = ap (λ (y : FlatEpoch). y.clock_state) p

records_size_lem : (b : Buffers) (xs : List Epoch) (e : ℕ) → EntriesLie b e xs → records_size xs ≡ epochs_size b.clock_states (length xs) e
unfolding epochs_size
records_size_lem b [] e l = refl
records_size_lem b (x ∷ xs) e l =
    let c : get_or b.clock_states e 0 ≡ state_of (clock_of x) = clock_state b x e l.0 in
    rw c (ap (λ (n : ℕ). cond (eqb (state_of (clock_of x)) 0) 36 57 + n) (records_size_lem b xs (e + 1) l.1))

-- the header
head_size_lem : (h : Head) → size (head_lines h) ≡ head_size (map (λ (cs : List (List ℕ)). length cs) h.lists) (state_of h.interval) + size h.carried
unfolding head_lines
head_size_lem h =
    let inner : List (List ℕ) = first_line_of h.first h.time_system ∷ (interval_lines h.interval ++ h.carried) in
    let e : size (line [] "END OF HEADER" ∷ []) ≡ 74 = omega (arith, end_length) in
    omega (
      arith,
      version_length h.letter,
      first_length h.first h.time_system,
      e,
      interval_size h.interval,
      lists_size 0 h.lists,
      size_on (interval_lines h.interval) h.carried,
      size_on (all_lists 0 h.lists) inner,
      size_on (all_lists 0 h.lists ++ inner) (line [] "END OF HEADER" ∷ []),
    )

module _ (b : Buffers) (f : File) (form : FileForm f) (fits : Fits (room b) f) (entries : laid f b ≡ b) where
  all_rows_lem : size (map row_line (all_rows f.epochs)) ≡ rows_size (map (λ (cs : List (List ℕ)). length cs) f.head.lists) b.satellites b.states b.losses b.strengths (length (all_rows f.epochs)) 0 0
  all_rows_lem =
      let lists : List (List (List ℕ)) = f.head.lists in
      let lengths : List ℕ = map (λ (cs : List (List ℕ)). length cs) lists in
      let rs : List Row = all_rows f.epochs in
      let forms : All (RowForm lists) rs = all_rows_form lists f.epochs form.epochs in
      let p : rows_at lengths b (length rs) 0 0 ≡ rs = file_rows b f form fits entries in
      ap (λ (x : List Row). size (map row_line x)) (sym p) ∙ rows_size_lem lengths lists b (length rs) 0 0 (subst (All (RowForm lists)) (sym p) forms)

  size_is : length (normal f) ≡ text_size (flat_head f.head) (counts f) b
  unfolding normal flat_head counts carried_bytes
  size_is =
      let es : List Epoch = f.epochs in
      length_text (head_lines f.head ++ joined (map epoch_lines es))
      ∙ (size_on (head_lines f.head) (joined (map epoch_lines es))
      ∙ omega (
        arith,
        head_size_lem f.head,
        epochs_size_lem f.head.lists es form.epochs,
        records_size_lem b es 0 (lent_entries b f form fits entries),
        all_rows_lem,
        length_text (f.head.carried ++ all_lines es),
        size_on f.head.carried (all_lines es),
      ))

pub text_size_lem : (h : FlatHead) (n : Counts) (b : Buffers) (f : File) → Spelled h n b f → length (normal f) ≡ text_size h n b
text_size_lem h n b f p =
    size_is b f (file_form p.a_text f p.spells) p.hold.fits p.hold.entries
    ∙ (ap (λ (x : Counts). text_size (flat_head f.head) x b) (sym p.hold.lengths) ∙ ap (λ (x : FlatHead). text_size x n b) (sym p.hold.head))
