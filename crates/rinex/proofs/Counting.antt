-- Counts as the lines add to them: what is added, whether it fits, and that it comes to the counts of the file. Assumes nothing.
use Prim.Native.Nat.{ℕ, ◌+◌, ◌≤◌}
use mathlib.Core.Path.{◌≡◌, refl, sym, ap, ◌∙◌}
use mathlib.Core.List.{List, [], ◌∷◌, ◌++◌, append_assoc}
use native.Mathlib.Omega.{arith}
use lib.ListN.{length, length-append}
use Rattle.line.specs.Text.{text}
use Rattle.line.proofs.Texts.{text_append}
use Rattle.rinex.specs.File.{Slot, Row, Epoch, observed, event, File}
use Rattle.rinex.specs.Tables.{Counts, Room, all_rows, all_slots, all_lines, carried_bytes, counts}

abbrev pub bump : Counts → Counts
bump u = record { epochs = u.epochs + 1; rows = u.rows; slots = u.slots; carried = u.carried }

abbrev pub add_row : Counts → ℕ → Counts
add_row u n = record { epochs = u.epochs; rows = u.rows + 1; slots = u.slots + n; carried = u.carried }

abbrev pub add_line : Counts → ℕ → Counts
add_line u n = record { epochs = u.epochs; rows = u.rows; slots = u.slots; carried = u.carried + (n + 1) }

abbrev pub add_rows : Counts → List Row → Counts
add_rows u [] = u
add_rows u (q ∷ qs) = add_rows (add_row u (length q.slots)) qs

abbrev pub add_lines : Counts → List (List ℕ) → Counts
add_lines u [] = u
add_lines u (c ∷ cs) = add_lines (add_line u (length c)) cs

abbrev pub add_epoch : Counts → Epoch → Counts
add_epoch u (observed o) = add_rows (bump u) o.rows
add_epoch u (event v) = add_lines (bump u) v.lines

abbrev pub add_all : Counts → List Epoch → Counts
add_all u [] = u
add_all u (e ∷ es) = add_all (add_epoch u e) es

-- the counts fit the room
pub record Within (r : Room) (u : Counts) : Type 0 where
  pub epochs : u.epochs ≤ r.epochs
  pub rows : u.rows ≤ r.rows
  pub slots : u.slots ≤ r.slots
  pub carried : u.carried ≤ r.carried

-- counts only grow
pub rows_within : (r : Room) (qs : List Row) (u : Counts) → Within r (add_rows u qs) → Within r u
rows_within r [] u w = w
rows_within r (q ∷ qs) u w =
    let v = rows_within r qs (add_row u (length q.slots)) w in
    record { epochs = v.epochs; rows = omega (arith, v.rows); slots = omega (arith, v.slots); carried = v.carried }

pub lines_within : (r : Room) (cs : List (List ℕ)) (u : Counts) → Within r (add_lines u cs) → Within r u
lines_within r [] u w = w
lines_within r (c ∷ cs) u w =
    let v = lines_within r cs (add_line u (length c)) w in
    record { epochs = v.epochs; rows = v.rows; slots = v.slots; carried = omega (arith, v.carried) }

pub all_within : (r : Room) (es : List Epoch) (u : Counts) → Within r (add_all u es) → Within r u
all_within r [] u w = w
all_within r (observed o ∷ es) u w =
    let v = rows_within r o.rows (bump u) (all_within r es (add_epoch u (observed o)) w) in
    record { epochs = omega (arith, v.epochs); rows = v.rows; slots = v.slots; carried = v.carried }
all_within r (event o ∷ es) u w =
    let v = lines_within r o.lines (bump u) (all_within r es (add_epoch u (event o)) w) in
    record { epochs = omega (arith, v.epochs); rows = v.rows; slots = v.slots; carried = v.carried }

-- n is u and what the epochs add, in the words of `specs/Tables`
pub record Sums (u : Counts) (es : List Epoch) (n : Counts) : Type 0 where
  pub epochs : n.epochs ≡ u.epochs + length es
  pub rows : n.rows ≡ u.rows + length (all_rows es)
  pub slots : n.slots ≡ u.slots + length (all_slots (all_rows es))
  pub carried : n.carried ≡ u.carried + length (text (all_lines es))

-- what is added, counted
text_long : (a b : List (List ℕ)) → length (text (a ++ b)) ≡ length (text a) + length (text b)
text_long a b = ap length (text_append a b) ∙ length-append (text a) (text b)

record RowSums (u : Counts) (qs : List Row) (n : Counts) : Type 0 where
  pub epochs : n.epochs ≡ u.epochs
  pub rows : n.rows ≡ u.rows + length qs
  pub slots : n.slots ≡ u.slots + length (all_slots qs)
  pub carried : n.carried ≡ u.carried

row_sums : (qs : List Row) (u : Counts) → RowSums u qs (add_rows u qs)
unfolding all_slots
row_sums [] u = record { epochs = refl; rows = omega arith; slots = omega arith; carried = refl }
row_sums (q ∷ qs) u =
    let i = row_sums qs (add_row u (length q.slots)) in
    record { epochs = i.epochs; rows = omega (arith, i.rows); slots = simp length-append (omega (arith, i.slots)); carried = i.carried }

record LineSums (u : Counts) (cs : List (List ℕ)) (n : Counts) : Type 0 where
  pub epochs : n.epochs ≡ u.epochs
  pub rows : n.rows ≡ u.rows
  pub slots : n.slots ≡ u.slots
  pub carried : n.carried ≡ u.carried + length (text cs)

line_sums : (cs : List (List ℕ)) (u : Counts) → LineSums u cs (add_lines u cs)
line_sums [] u = record { epochs = refl; rows = refl; slots = refl; carried = omega arith }
line_sums (c ∷ cs) u =
    let i = line_sums cs (add_line u (length c)) in
    record { epochs = i.epochs; rows = i.rows; slots = i.slots; carried = simp length-append (omega (arith, i.carried)) }

pub slots_append : (a b : List Row) → all_slots (a ++ b) ≡ all_slots a ++ all_slots b
unfolding all_slots
slots_append [] b = refl
slots_append (q ∷ a) b = rw (slots_append a b) (sym (append_assoc q.slots (all_slots a) (all_slots b)))

slots_long : (a b : List Row) → length (all_slots (a ++ b)) ≡ length (all_slots a) + length (all_slots b)
slots_long a b = ap (λ (x : List Slot). length x) (slots_append a b) ∙ length-append (all_slots a) (all_slots b)

sums_none : (u : Counts) → Sums u [] u
unfolding all_rows all_slots all_lines
sums_none u = record { epochs = omega arith; rows = omega arith; slots = omega arith; carried = omega arith }

pub sums : (es : List Epoch) (u : Counts) → Sums u es (add_all u es)
unfolding all_rows all_lines
sums [] u = sums_none u
sums (observed o ∷ es) u =
    let i = sums es (add_rows (bump u) o.rows) in
    let j = row_sums o.rows (bump u) in
    record {
      epochs = omega (arith, i.epochs, j.epochs);
      rows = simp length-append (omega (arith, i.rows, j.rows));
      slots = rw (slots_long o.rows (all_rows es)) (omega (arith, i.slots, j.slots));
      carried = omega (arith, i.carried, j.carried);
    }
sums (event v ∷ es) u =
    let i = sums es (add_lines (bump u) v.lines) in
    let j = line_sums v.lines (bump u) in
    record {
      epochs = omega (arith, i.epochs, j.epochs);
      rows = omega (arith, i.rows, j.rows);
      slots = omega (arith, i.slots, j.slots);
      carried = rw (text_long v.lines (all_lines es)) (omega (arith, i.carried, j.carried));
    }

pub counts_same : (m n : Counts) → m.epochs ≡ n.epochs → m.rows ≡ n.rows → m.slots ≡ n.slots → m.carried ≡ n.carried → m ≡ n
counts_same m n a b c d =
    ap (λ (x : ℕ). make x m.rows m.slots m.carried) a ∙ (ap (λ (x : ℕ). make n.epochs x m.slots m.carried) b
    ∙ (ap (λ (x : ℕ). make n.epochs n.rows x m.carried) c ∙ ap (make n.epochs n.rows n.slots) d))
  where
    make : ℕ → ℕ → ℕ → ℕ → Counts
    make e r s c = record { epochs = e; rows = r; slots = s; carried = c }

-- the counts of a file are those of its header's lines and what its epochs add
abbrev pub head_counts : List (List ℕ) → Counts
head_counts cs = record { epochs = 0; rows = 0; slots = 0; carried = length (text cs) }

pub counted : (f : File) → add_all (head_counts f.head.carried) f.epochs ≡ counts f
unfolding counts carried_bytes
counted f =
    let i = sums f.epochs (head_counts f.head.carried) in
    counts_same _ _ (omega (arith, i.epochs)) (omega (arith, i.rows)) (omega (arith, i.slots))
    (rw (text_long f.head.carried (all_lines f.epochs)) i.carried)

pub carried_first : (f : File) {c : ℕ} → (counts f).carried ≤ c → length (text f.head.carried) ≤ c
unfolding counts carried_bytes
carried_first f h = omega (arith, h, text_long f.head.carried (all_lines f.epochs))
