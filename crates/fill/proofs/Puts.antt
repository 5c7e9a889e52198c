-- Entries put into the tables from where those before them end: some epochs after one are those with it in front. Assumes nothing.
use Prim.Native.Nat.{ℕ, ◌+◌}
use mathlib.Core.Path.{◌≡◌, refl, ap, sym, ◌∙◌}
use mathlib.Core.List.{List, [], ◌∷◌, ◌++◌, map}
use Rattle.std.specs.Prelude.{Option}
use native.Mathlib.Omega.{arith}
use native.Mathlib.Numerals.{add-one}
use lib.ListN.{length, set, length-append, length-map}
use lib.Seq.{sets}
use lib.IntN.{ℤ}
use Rattle.lists.proofs.Lists.{map_append}
use Rattle.lists.proofs.Stores.{sets_append}
use Rattle.line.specs.Text.{text}
use Rattle.line.proofs.Texts.{text_append}
use Rattle.rinex.specs.File.{Slot, Row, Epoch, satellite}
use Rattle.rinex.specs.Tables.{Buffers, state_of, number_of, signed_of, mark_of, time_of, flag_of, count_of, clock_of, rows_of, lines_of, all_rows, all_slots, all_lines}
use Rattle.rinex.specs.declared.Counts.{Counts}
use Rattle.rinex.specs.Lent.{buffers}
use Rattle.rinex.proofs.Counting.{slots_append}
use Rattle.state.specs.Judge.{counted}

-- buffers are the same where each of them is
pub record Same (a b : Buffers) : Type 0 where
  pub codes : a.codes ≡ b.codes
  pub times : a.times ≡ b.times
  pub time_states : a.time_states ≡ b.time_states
  pub flags : a.flags ≡ b.flags
  pub counts : a.counts ≡ b.counts
  pub clocks : a.clocks ≡ b.clocks
  pub clock_states : a.clock_states ≡ b.clock_states
  pub satellites : a.satellites ≡ b.satellites
  pub numbers : a.numbers ≡ b.numbers
  pub states : a.states ≡ b.states
  pub losses : a.losses ≡ b.losses
  pub strengths : a.strengths ≡ b.strengths
  pub carried : a.carried ≡ b.carried

-- shut, so that `cc` goes by its arguments
made : (codes times time_states flags counts : List ℕ) (clocks : List ℤ) (clock_states satellites : List ℕ) (numbers : List ℤ) (states losses strengths carried : List ℕ) → Buffers
made c t ts f n k ks s x xs l m r = buffers c t ts f n k ks s x xs l m r

made_is : (b : Buffers) → b ≡ made b.codes b.times b.time_states b.flags b.counts b.clocks b.clock_states b.satellites b.numbers b.states b.losses b.strengths b.carried
unfolding made
made_is b = refl

pub same : (a b : Buffers) → Same a b → a ≡ b
same a b h =
    cc (
      made_is a,
      made_is b,
      h.codes,
      h.times,
      h.time_states,
      h.flags,
      h.counts,
      h.clocks,
      h.clock_states,
      h.satellites,
      h.numbers,
      h.states,
      h.losses,
      h.strengths,
      h.carried,
    )

pub counts_same : (a b : Counts) → a.epochs ≡ b.epochs → a.rows ≡ b.rows → a.slots ≡ b.slots → a.carried ≡ b.carried → a ≡ b
counts_same a b e r s c =
    ap (λ (x : ℕ). counted x a.rows a.slots a.carried) e ∙ (ap (λ (x : ℕ). counted b.epochs x a.slots a.carried) r
    ∙ (ap (λ (x : ℕ). counted b.epochs b.rows x a.carried) s ∙ ap (counted b.epochs b.rows b.slots) c))

-- one entry and then some; some entries and then some
one_more : {A B : Type 0} (f : B → A) (l : List A) (i : ℕ) (x : B) (xs : List B) → sets (set l i (f x)) (i + 1) (map f xs) ≡ sets l i (map f (x ∷ xs))
one_more f l i x xs = ap (λ (k : ℕ). sets (set l i (f x)) k (map f xs)) (add-one i)

some_more : {A B : Type 0} (f : B → A) (l : List A) (i j : ℕ) (xs ys : List B) → j ≡ i + length xs → sets (sets l i (map f xs)) j (map f ys) ≡ sets l i (map f (xs ++ ys))
some_more {A = A} f l i j xs ys h =
    let e : j ≡ i + length (map f xs) = h ∙ ap (λ (n : ℕ). i + n) (sym (length-map xs f)) in
    ap (λ (k : ℕ). sets (sets l i (map f xs)) k (map f ys)) e ∙ (sets_append l i (map f xs) (map f ys) ∙ ap (λ (x : List A). sets l i x) (sym (map_append f xs ys)))

-- what an epoch record, some rows and some lines of events put, where u is used
unfoldable pub put_entry : Counts → Option ℕ → ℕ → ℕ → Option ℤ → Buffers → Buffers
put_entry u time flag count clock b =
    record {
      codes = b.codes;
      times = set b.times u.epochs (number_of time);
      time_states = set b.time_states u.epochs (state_of time);
      flags = set b.flags u.epochs flag;
      counts = set b.counts u.epochs count;
      clocks = set b.clocks u.epochs (signed_of clock);
      clock_states = set b.clock_states u.epochs (state_of clock);
      satellites = b.satellites;
      numbers = b.numbers;
      states = b.states;
      losses = b.losses;
      strengths = b.strengths;
      carried = b.carried;
    }

unfoldable pub put_rows : Counts → List Row → Buffers → Buffers
put_rows u qs b =
    let ss = all_slots qs in
    record {
      codes = b.codes;
      times = b.times;
      time_states = b.time_states;
      flags = b.flags;
      counts = b.counts;
      clocks = b.clocks;
      clock_states = b.clock_states;
      satellites = sets b.satellites u.rows (map satellite qs);
      numbers = sets b.numbers u.slots (map (λ (s : Slot). signed_of s.value) ss);
      states = sets b.states u.slots (map (λ (s : Slot). state_of s.value) ss);
      losses = sets b.losses u.slots (map (λ (s : Slot). mark_of s.loss) ss);
      strengths = sets b.strengths u.slots (map (λ (s : Slot). mark_of s.strength) ss);
      carried = b.carried;
    }

unfoldable pub put_lines : Counts → List (List ℕ) → Buffers → Buffers
put_lines u cs b =
    record {
      codes = b.codes;
      times = b.times;
      time_states = b.time_states;
      flags = b.flags;
      counts = b.counts;
      clocks = b.clocks;
      clock_states = b.clock_states;
      satellites = b.satellites;
      numbers = b.numbers;
      states = b.states;
      losses = b.losses;
      strengths = b.strengths;
      carried = sets b.carried u.carried (text cs);
    }

-- what an epoch puts: its entry, rows and lines; and what is used then
abbrev pub put_epoch : Counts → Epoch → Buffers → Buffers
put_epoch u e b = put_lines u (lines_of e) (put_rows u (rows_of e) (put_entry u (time_of e) (flag_of e) (count_of e) (clock_of e) b))

abbrev pub with_rows : Counts → List Row → Counts
with_rows u qs = counted u.epochs (u.rows + length qs) (u.slots + length (all_slots qs)) u.carried

abbrev pub with_lines : Counts → List (List ℕ) → Counts
with_lines u cs = counted u.epochs u.rows u.slots (u.carried + length (text cs))

abbrev pub with_epoch : Counts → Epoch → Counts
with_epoch u e = counted (u.epochs + 1) (u.rows + length (rows_of e)) (u.slots + length (all_slots (rows_of e))) (u.carried + length (text (lines_of e)))

-- what some epochs put
unfoldable pub put : Counts → List Epoch → Buffers → Buffers
put u es b =
    let rs = all_rows es in
    let ss = all_slots rs in
    record {
      codes = b.codes;
      times = sets b.times u.epochs (map (λ (e : Epoch). number_of (time_of e)) es);
      time_states = sets b.time_states u.epochs (map (λ (e : Epoch). state_of (time_of e)) es);
      flags = sets b.flags u.epochs (map flag_of es);
      counts = sets b.counts u.epochs (map count_of es);
      clocks = sets b.clocks u.epochs (map (λ (e : Epoch). signed_of (clock_of e)) es);
      clock_states = sets b.clock_states u.epochs (map (λ (e : Epoch). state_of (clock_of e)) es);
      satellites = sets b.satellites u.rows (map satellite rs);
      numbers = sets b.numbers u.slots (map (λ (s : Slot). signed_of s.value) ss);
      states = sets b.states u.slots (map (λ (s : Slot). state_of s.value) ss);
      losses = sets b.losses u.slots (map (λ (s : Slot). mark_of s.loss) ss);
      strengths = sets b.strengths u.slots (map (λ (s : Slot). mark_of s.strength) ss);
      carried = sets b.carried u.carried (text (all_lines es));
    }

pub put_none : (u : Counts) (b : Buffers) → put u [] b ≡ b
unfolding put all_rows all_slots all_lines
put_none u b = refl

-- one row, and then some
slots_more : {A : Type 0} (f : Slot → A) (l : List A) (i j : ℕ) (a b : List Row) → j ≡ i + length (all_slots a) → sets (sets l i (map f (all_slots a))) j (map f (all_slots b)) ≡ sets l i (map f (all_slots (a ++ b)))
slots_more {A = A} f l i j a b h = some_more f l i j (all_slots a) (all_slots b) h ∙ ap (λ (x : List Slot). sets l i (map f x)) (sym (slots_append a b))

pub put_rows_lem : (u : Counts) (a qs : List Row) (b : Buffers) → put_rows (with_rows u a) qs (put_rows u a b) ≡ put_rows u (a ++ qs) b
unfolding put_rows
put_rows_lem u a qs b =
    same _ _
    (record {
      codes = refl;
      times = refl;
      time_states = refl;
      flags = refl;
      counts = refl;
      clocks = refl;
      clock_states = refl;
      satellites = some_more satellite b.satellites u.rows _ a qs refl;
      numbers = slots_more (λ (s : Slot). signed_of s.value) b.numbers u.slots _ a qs refl;
      states = slots_more (λ (s : Slot). state_of s.value) b.states u.slots _ a qs refl;
      losses = slots_more (λ (s : Slot). mark_of s.loss) b.losses u.slots _ a qs refl;
      strengths = slots_more (λ (s : Slot). mark_of s.strength) b.strengths u.slots _ a qs refl;
      carried = refl;
    })

pub with_rows_lem : (u : Counts) (a qs : List Row) → with_rows (with_rows u a) qs ≡ with_rows u (a ++ qs)
with_rows_lem u a qs =
    counts_same _ _ refl (omega (arith, length-append a qs)) (omega (arith, ap (λ (x : List Slot). length x) (slots_append a qs), length-append (all_slots a) (all_slots qs))) refl

-- some lines, and then some
pub texts_more : (l : List ℕ) (i j : ℕ) (a b : List (List ℕ)) → j ≡ i + length (text a) → sets (sets l i (text a)) j (text b) ≡ sets l i (text (a ++ b))
texts_more l i j a b h =
    ap (λ (k : ℕ). sets (sets l i (text a)) k (text b)) h ∙ (sets_append l i (text a) (text b) ∙ ap (λ (x : List ℕ). sets l i x) (sym (text_append a b)))

pub put_lines_lem : (u : Counts) (a cs : List (List ℕ)) (b : Buffers) → put_lines (with_lines u a) cs (put_lines u a b) ≡ put_lines u (a ++ cs) b
unfolding put_lines
put_lines_lem u a cs b =
    same _ _
    (record {
      codes = refl;
      times = refl;
      time_states = refl;
      flags = refl;
      counts = refl;
      clocks = refl;
      clock_states = refl;
      satellites = refl;
      numbers = refl;
      states = refl;
      losses = refl;
      strengths = refl;
      carried = texts_more b.carried u.carried _ a cs refl;
    })

pub with_lines_lem : (u : Counts) (a cs : List (List ℕ)) → with_lines (with_lines u a) cs ≡ with_lines u (a ++ cs)
with_lines_lem u a cs =
    counts_same _ _ refl refl refl (omega (arith, ap (λ (x : List ℕ). length x) (text_append a cs), length-append (text a) (text cs)))

-- one epoch, and then some
pub put_more : (u : Counts) (e : Epoch) (es : List Epoch) (b : Buffers) → put (with_epoch u e) es (put_epoch u e b) ≡ put u (e ∷ es) b
unfolding put put_entry put_rows put_lines all_rows all_lines
put_more u e es b =
    same _ _
    (record {
      codes = refl;
      times = one_more (λ (e : Epoch). number_of (time_of e)) b.times u.epochs e es;
      time_states = one_more (λ (e : Epoch). state_of (time_of e)) b.time_states u.epochs e es;
      flags = one_more flag_of b.flags u.epochs e es;
      counts = one_more count_of b.counts u.epochs e es;
      clocks = one_more (λ (e : Epoch). signed_of (clock_of e)) b.clocks u.epochs e es;
      clock_states = one_more (λ (e : Epoch). state_of (clock_of e)) b.clock_states u.epochs e es;
      satellites = some_more satellite b.satellites u.rows _ (rows_of e) (all_rows es) refl;
      numbers = slots_more (λ (s : Slot). signed_of s.value) b.numbers u.slots _ (rows_of e) (all_rows es) refl;
      states = slots_more (λ (s : Slot). state_of s.value) b.states u.slots _ (rows_of e) (all_rows es) refl;
      losses = slots_more (λ (s : Slot). mark_of s.loss) b.losses u.slots _ (rows_of e) (all_rows es) refl;
      strengths = slots_more (λ (s : Slot). mark_of s.strength) b.strengths u.slots _ (rows_of e) (all_rows es) refl;
      carried = texts_more b.carried u.carried _ (lines_of e) (all_lines es) refl;
    })
