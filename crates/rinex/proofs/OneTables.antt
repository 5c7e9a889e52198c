-- TABLES THAT SOME TEXT SPELLS HOLD ONE FILE: what is laid out can be read back. Assumes nothing.
use Prim.Native.Nat.{ℕ, zero, suc, ◌+◌, ◌*◌, ◌≤◌, ◌<◌}
use mathlib.Core.Path.{◌≡◌, refl, ap, sym, subst, ◌∙◌}
use mathlib.Core.List.{List, [], ◌∷◌, ◌++◌, map}
use Rattle.std.specs.Prelude.{Option, None, Some}
use native.Mathlib.Omega.{arith}
use lib.ListN.{length, get_or, take, drop, length-map, get_or-map}
use lib.Seq.{sets, sets-eq, length-sets, take-append_seam, ext_get_or}
use lib.IntN.{ℤ}
use Rattle.lists.specs.Lists.{All}
use Rattle.lists.proofs.Lists.{cons_same, cons_nil, append_one, all_on, on_all, all_at}
use Rattle.line.specs.Text.{text, Line}
use Rattle.line.proofs.Texts.{lines_one}
use Rattle.line.proofs.Columns.{plain_at}
use Rattle.rinex.specs.File.{Slot, Row, Epoch, observed, event, Head, File, satellite}
use Rattle.rinex.specs.Tables.{state_of, number_of, signed_of, mark_of, packed, time_of, flag_of, count_of, clock_of, rows_of, lines_of, all_rows, all_slots, all_lines, carried_bytes, FlatHead, flat_head, Counts, counts, Buffers, laid_codes, laid, room, CodesFit}
use Rattle.rinex.specs.Promises.{Spelled}
use Rattle.rinex.proofs.Rows.{slot_same, row_same}
use Rattle.rinex.proofs.OneData.{observed_same, event_same}
use Rattle.rinex.proofs.OneHeader.{head_same}
use Rattle.rinex.proofs.Agree.{one_of_text}
use Rattle.rinex.proofs.Forms.{IsTaken, taken_form, AreLists, MarkForm, SlotForm, RowForm, EpochForm, epochs_form, all_rows_form, all_slots_form, all_lines_form, head_lists, head_carried}
use Rattle.rinex.specs.Theorems
use Rattle.lists.proofs.Apart.{sets_below, sets_in}

-- a table that holds some entries holds no others
module _ {A : Type 0} where
  pub held : (b xs : List A) → length xs ≤ length b → sets b 0 xs ≡ b → take (length xs) b ≡ xs
  held b xs h e =
      let k : 0 + length xs ≤ length b = omega arith in
      ap (take (length xs)) (sym e ∙ sets-eq xs b 0 k) ∙ take-append_seam xs (drop (0 + length xs) b)

  held_one : (b xs ys : List A) → length xs ≡ length ys → length xs ≤ length b → sets b 0 xs ≡ b → sets b 0 ys ≡ b → xs ≡ ys
  held_one b xs ys l h d e =
      let k : length ys ≤ length b = omega arith in
      sym (held b xs h d) ∙ (ap (λ (n : ℕ). take n b) l ∙ held b ys k e)

-- what may be missing
pub number_same : (o p : Option ℕ) → state_of o ≡ state_of p → number_of o ≡ number_of p → o ≡ p
number_same None None a b = refl
number_same None (Some y) a b = absurd (omega arith)
number_same (Some x) None a b = absurd (omega arith)
number_same (Some x) (Some y) a b = ap Some b

pub signed_same : (o p : Option ℤ) → state_of o ≡ state_of p → signed_of o ≡ signed_of p → o ≡ p
signed_same None None a b = refl
signed_same None (Some y) a b = absurd (omega arith)
signed_same (Some x) None a b = absurd (omega arith)
signed_same (Some x) (Some y) a b = ap Some b

mark_same : (top : ℕ) → top ≤ 9 → (o p : Option ℕ) → MarkForm top o → MarkForm top p → mark_of o ≡ mark_of p → o ≡ p
mark_same top h None None a b e = refl
mark_same top h None (Some y) a b e = absurd (omega arith)
mark_same top h (Some x) None a b e = absurd (omega arith)
mark_same top h (Some x) (Some y) a b e = ap Some e

-- slots
pub slots_same : (ss ts : List Slot) → All SlotForm ss → All SlotForm ts
    → map (λ (s : Slot). signed_of s.value) ss ≡ map (λ (s : Slot). signed_of s.value) ts → map (λ (s : Slot). state_of s.value) ss ≡ map (λ (s : Slot). state_of s.value) ts
    → map (λ (s : Slot). mark_of s.loss) ss ≡ map (λ (s : Slot). mark_of s.loss) ts → map (λ (s : Slot). mark_of s.strength) ss ≡ map (λ (s : Slot). mark_of s.strength) ts → ss ≡ ts
slots_same [] [] a b c d e f = refl
slots_same [] (t ∷ ts) a b c d e f = absurd (cons_nil _ _ (sym c))
slots_same (s ∷ ss) [] a b c d e f = absurd (cons_nil _ _ c)
slots_same (s ∷ ss) (t ∷ ts) a b c d e f =
    let p = cons_same c in
    let q = cons_same d in
    let i = cons_same e in
    let j = cons_same f in
    let x : s ≡ t =
    slot_same s t (signed_same s.value t.value q.0 p.0) (mark_same 7 (omega arith) s.loss t.loss a.0.loss b.0.loss i.0)
    (mark_same 9 (omega arith) s.strength t.strength a.0.strength b.0.strength j.0) in
    let y : ss ≡ ts = slots_same ss ts a.1 b.1 p.1 q.1 i.1 j.1 in
    cc

-- rows
pub name_same : (a b c d : ℕ) → b < 100 → d < 100 → 100 * a + b ≡ 100 * c + d → (a ≡ c) × (b ≡ d)
name_same a b c d h k e = (omega arith, omega arith)

pub rows_same : (lists : List (List (List ℕ))) (rs qs : List Row) → All (RowForm lists) rs → All (RowForm lists) qs → map satellite rs ≡ map satellite qs → all_slots rs ≡ all_slots qs → rs ≡ qs
unfolding all_slots
rows_same lists [] [] a b c d = refl
rows_same lists [] (q ∷ qs) a b c d = absurd (cons_nil _ _ (sym c))
rows_same lists (r ∷ rs) [] a b c d = absurd (cons_nil _ _ c)
rows_same lists (r ∷ rs) (q ∷ qs) a b c d =
    let p = cons_same c in
    let n = name_same r.system r.number q.system q.number a.0.number b.0.number p.0 in
    let m : length r.slots ≡ length q.slots = a.0.many ∙ (ap (λ (y : ℕ). length (get_or lists y [])) n.0 ∙ sym b.0.many) in
    let s = append_one r.slots q.slots (all_slots rs) (all_slots qs) m d in
    let x : r ≡ q = row_same r q n.0 n.1 s.0 in
    let y : rs ≡ qs = rows_same lists rs qs a.1 b.1 p.1 s.1 in
    cc

-- epochs: what the epoch table says of both is the same
pub record SameEntries (es fs : List Epoch) : Type 0 where
  pub times : map (λ (e : Epoch). number_of (time_of e)) es ≡ map (λ (e : Epoch). number_of (time_of e)) fs
  pub time_states : map (λ (e : Epoch). state_of (time_of e)) es ≡ map (λ (e : Epoch). state_of (time_of e)) fs
  pub flags : map flag_of es ≡ map flag_of fs
  pub counts : map count_of es ≡ map count_of fs
  pub clocks : map (λ (e : Epoch). signed_of (clock_of e)) es ≡ map (λ (e : Epoch). signed_of (clock_of e)) fs
  pub clock_states : map (λ (e : Epoch). state_of (clock_of e)) es ≡ map (λ (e : Epoch). state_of (clock_of e)) fs

pub record SameEntry (e f : Epoch) : Type 0 where
  pub time : time_of e ≡ time_of f
  pub flag : flag_of e ≡ flag_of f
  pub count : count_of e ≡ count_of f
  pub clock : clock_of e ≡ clock_of f

first_entry : (e f : Epoch) (es fs : List Epoch) → SameEntries (e ∷ es) (f ∷ fs) → SameEntry e f × SameEntries es fs
first_entry e f es fs s = (
  record {
    time = number_same (time_of e) (time_of f) (cons_same s.time_states).0 (cons_same s.times).0;
    flag = (cons_same s.flags).0;
    count = (cons_same s.counts).0;
    clock = signed_same (clock_of e) (clock_of f) (cons_same s.clock_states).0 (cons_same s.clocks).0;
  },
  record {
    times = (cons_same s.times).1;
    time_states = (cons_same s.time_states).1;
    flags = (cons_same s.flags).1;
    counts = (cons_same s.counts).1;
    clocks = (cons_same s.clocks).1;
    clock_states = (cons_same s.clock_states).1;
  },
)

module _ (lists : List (List (List ℕ))) where
  pub epoch_same : (e f : Epoch) (rs qs : List Row) (ks ls : List (List ℕ)) → EpochForm lists e → EpochForm lists f → SameEntry e f → rows_of e ++ rs ≡ rows_of f ++ qs → lines_of e ++ ks ≡ lines_of f ++ ls
      → (e ≡ f) × (rs ≡ qs) × (ks ≡ ls)
  epoch_same (observed o) (observed p) rs qs ks ls a b s c d =
      let r = append_one o.rows p.rows rs qs s.count c in
      let t : o.time ≡ p.time = let e : Some o.time ≡ Some p.time = s.time in cc in
      (ap observed (observed_same o p t s.flag s.clock r.0), r.1, d)
  epoch_same (observed o) (event v) rs qs ks ls a b s c d = absurd (omega (arith, s.flag, a.flag, b.flag_from))
  epoch_same (event v) (observed o) rs qs ks ls a b s c d = absurd (omega (arith, s.flag, a.flag_from, b.flag))
  epoch_same (event v) (event w) rs qs ks ls a b s c d =
      let r = append_one v.lines w.lines ks ls s.count d in
      (ap event (event_same v w s.time s.flag r.0), c, r.1)

  epochs_same : (es fs : List Epoch) → All (EpochForm lists) es → All (EpochForm lists) fs → SameEntries es fs → all_rows es ≡ all_rows fs → all_lines es ≡ all_lines fs → es ≡ fs
  unfolding all_rows all_lines
  epochs_same [] [] a b s c d = refl
  epochs_same [] (f ∷ fs) a b s c d = absurd (cons_nil _ _ (sym s.flags))
  epochs_same (e ∷ es) [] a b s c d = absurd (cons_nil _ _ s.flags)
  epochs_same (e ∷ es) (f ∷ fs) a b s c d =
      let p = first_entry e f es fs s in
      let q = epoch_same e f (all_rows es) (all_rows fs) (all_lines es) (all_lines fs) a.0 b.0 p.0 c d in
      let x : e ≡ f = q.0 in
      let y : es ≡ fs = epochs_same es fs a.1 b.1 p.1 q.1 q.2 in
      cc

-- codes
three_same : (a b c x y z : ℕ) → a < 256 → b < 256 → c < 256 → x < 256 → y < 256 → z < 256 → (a * 256 + b) * 256 + c ≡ (x * 256 + y) * 256 + z → (a ≡ x) × (b ≡ y) × (c ≡ z)
three_same a b c x y z p q r s t u e = (omega arith, omega arith, omega arith)

packed_one : (s : ℕ) (c d : List ℕ) → IsTaken s c → IsTaken s d → packed c ≡ packed d → c ≡ d
packed_one s c d h k e =
    let p = taken_form s c h in
    let q = taken_form s d k in
    let u : (i : ℕ) → get_or c i 0 < 256 = λ i. omega (arith, plain_at c i p.bytes) in
    let v : (i : ℕ) → get_or d i 0 < 256 = λ i. omega (arith, plain_at d i q.bytes) in
    let t = three_same (get_or c 0 0) (get_or c 1 0) (get_or c 2 0) (get_or d 0 0) (get_or d 1 0) (get_or d 2 0) (u 0) (u 1) (u 2) (v 0) (v 1) (v 2) e in
    ext_get_or 0 c d (p.long ∙ sym q.long) (at t.0 t.1 t.2 p.long)
  where
    at : get_or c 0 0 ≡ get_or d 0 0 → get_or c 1 0 ≡ get_or d 1 0 → get_or c 2 0 ≡ get_or d 2 0 → length c ≡ 3 → (i : ℕ) → i < length c → get_or c i 0 ≡ get_or d i 0
    at x y z l zero m = x
    at x y z l (suc zero) m = y
    at x y z l (suc (suc zero)) m = z
    at x y z l (suc (suc (suc i))) m = absurd (omega arith)

codes_below : (lists : List (List (List ℕ))) (p : ℕ) (b : List ℕ) (j : ℕ) → j < p → get_or (laid_codes p lists b) j 0 ≡ get_or b j 0
unfolding laid_codes
codes_below [] p b j h = refl
codes_below (cs ∷ css) p b j h = codes_below css (p + 64) (sets b p (map packed cs)) j (omega arith) ∙ sets_below (map packed cs) b p j 0 h

-- room for the lists, and no list past its 64 places
abbrev pub Fit : ℕ → ℕ → List (List (List ℕ)) → Type 0
Fit n p lists = (s : ℕ) → s < length lists → 1 ≤ length (get_or lists s []) → (p + 64 * s + length (get_or lists s []) ≤ n) × (length (get_or lists s []) ≤ 64)

pub codes_held : (lists : List (List (List ℕ))) (p : ℕ) (b : List ℕ) → Fit (length b) p lists → (s i : ℕ) → s < length lists → i < length (get_or lists s [])
    → get_or (laid_codes p lists b) (p + 64 * s + i) 0 ≡ packed (get_or (get_or lists s []) i [])
unfolding laid_codes
codes_held [] p b f s i h k = absurd (omega arith)
codes_held (cs ∷ css) p b f zero i h k =
    let g = f 0 (omega arith) (omega arith) in
    let e : p + 64 * 0 + i ≡ p + i = omega arith in
    let l : length (map packed cs) ≡ length cs = length-map cs packed in
    let x : p + i < p + 64 = omega (arith, g.1) in
    let y : p + length (map packed cs) ≤ length b = omega (arith, g.0) in
    rw e (codes_below css (p + 64) (sets b p (map packed cs)) (p + i) x ∙ (sets_in (map packed cs) b p i 0 (omega arith) y ∙ get_or-map packed cs i []))
codes_held (cs ∷ css) p b f (suc s) i h k =
    let e : p + 64 * suc s + i ≡ p + 64 + 64 * s + i = omega arith in
    let l : length (sets b p (map packed cs)) ≡ length b = length-sets b p (map packed cs) in
    let g : Fit (length (sets b p (map packed cs))) (p + 64) css = λ t m n. let z = f (suc t) (omega arith) n in (omega (arith, z.0), z.1) in
    rw e (codes_held css (p + 64) (sets b p (map packed cs)) g s i (omega arith) k)

-- the lists of a header, for which there are places
pub fit : (letter : ℕ) (lists : List (List (List ℕ))) (b : List ℕ) → length lists ≡ 7 → AreLists letter lists → CodesFit (length b) lists → Fit (length b) 0 lists
fit letter lists b l u f s k n = let z : 64 * s + length (get_or lists s []) ≤ length b = f s (omega arith) n in (omega arith, (u s (omega arith)).few)

pub code_held : (letter : ℕ) (lists : List (List (List ℕ))) (b : List ℕ) → length lists ≡ 7 → AreLists letter lists → CodesFit (length b) lists → laid_codes 0 lists b ≡ b
    → (s i : ℕ) → s < 7 → i < length (get_or lists s []) → get_or b (64 * s + i) 0 ≡ packed (get_or (get_or lists s []) i [])
code_held letter lists b l u f c s i w n =
    let e : 64 * s + i ≡ 0 + 64 * s + i = omega arith in
    rw e (sym (ap (λ (x : List ℕ). get_or x (0 + 64 * s + i) 0) c) ∙ codes_held lists 0 b (fit letter lists b l u f) s i (omega arith) n)

module _ (b : List ℕ) (j k : ℕ) (xs ys : List (List (List ℕ))) where
  pub lists_same : length xs ≡ 7 → length ys ≡ 7 → AreLists j xs → AreLists k ys → CodesFit (length b) xs → CodesFit (length b) ys
      → map (λ (cs : List (List ℕ)). length cs) xs ≡ map (λ (cs : List (List ℕ)). length cs) ys → laid_codes 0 xs b ≡ b → laid_codes 0 ys b ≡ b → xs ≡ ys
  lists_same l m u v f g e c d =
      ext_get_or [] xs ys (l ∙ sym m) (λ s k. ext_get_or [] (get_or xs s []) (get_or ys s []) (long s) (λ i n. code s i (omega arith) n))
    where
      long : (s : ℕ) → length (get_or xs s []) ≡ length (get_or ys s [])
      long s =
          sym (get_or-map (λ (cs : List (List ℕ)). length cs) xs s []) ∙ (ap (λ (x : List ℕ). get_or x s 0) e
          ∙ get_or-map (λ (cs : List (List ℕ)). length cs) ys s [])

      code : (s i : ℕ) → s < 7 → i < length (get_or xs s []) → get_or (get_or xs s []) i [] ≡ get_or (get_or ys s []) i []
      code s i w n =
          let q : i < length (get_or ys s []) = omega (arith, long s) in
          packed_one s _ _ (all_at (IsTaken s) [] (get_or xs s []) i (u s w).codes n) (all_at (IsTaken s) [] (get_or ys s []) i (v s w).codes q)
          (sym (code_held j xs b l u f c s i w n) ∙ code_held k ys b m v g d s i w q)

-- all of it
module _ (h : FlatHead) (n : Counts) (b : Buffers) (f g : File) (p : Spelled h n b f) (q : Spelled h n b g) where
  heads : flat_head f.head ≡ flat_head g.head
  heads = sym p.hold.head ∙ q.hold.head

  totals : counts f ≡ counts g
  totals = sym p.hold.lengths ∙ q.hold.lengths

  lists : f.head.lists ≡ g.head.lists
  unfolding laid flat_head room
  lists =
      lists_same b.codes f.head.letter g.head.letter f.head.lists g.head.lists p.spells.header.systems q.spells.header.systems
      (head_lists p.spells.header_lines f.head p.spells.header) (head_lists q.spells.header_lines g.head q.spells.header)
      p.hold.fits.codes q.hold.fits.codes (ap (λ (x : FlatHead). x.lengths) heads)
      (ap (λ (x : Buffers). x.codes) p.hold.entries) (ap (λ (x : Buffers). x.codes) q.hold.entries)

  forms : All (EpochForm f.head.lists) f.epochs
  forms =
      let d = p.spells.epochs in
      epochs_form f.head.lists d.groups f.epochs d.epochs
      (subst (λ (x : List (List ℕ)). All Line x) d.lines (all_on Line p.spells.header_lines p.spells.data_lines p.spells.lines).1)

  forms' : All (EpochForm f.head.lists) g.epochs
  forms' =
      let d = q.spells.epochs in
      subst (λ (x : List (List (List ℕ))). All (EpochForm x) g.epochs) (sym lists)
      (epochs_form g.head.lists d.groups g.epochs d.epochs
      (subst (λ (x : List (List ℕ)). All Line x) d.lines (all_on Line q.spells.header_lines q.spells.data_lines q.spells.lines).1))

  entries : SameEntries f.epochs g.epochs
  unfolding laid counts room
  entries =
      let es : List Epoch = f.epochs in
      let fs : List Epoch = g.epochs in
      let e : length es ≡ length fs = ap (λ (x : Counts). x.epochs) totals in
      let m = p.hold.fits.epochs in
      let x = p.hold.entries in
      let y = q.hold.entries in
      record {
        times = held_one b.times _ _ (simp length-map e) (simp length-map (omega (arith, m))) (ap (λ (x : Buffers). x.times) x) (ap (λ (x : Buffers). x.times) y);
        time_states = held_one b.time_states _ _ (simp length-map e) (simp length-map (omega (arith, m))) (ap (λ (x : Buffers). x.time_states) x) (ap (λ (x : Buffers). x.time_states) y);
        flags = held_one b.flags _ _ (simp length-map e) (simp length-map (omega (arith, m))) (ap (λ (x : Buffers). x.flags) x) (ap (λ (x : Buffers). x.flags) y);
        counts = held_one b.counts _ _ (simp length-map e) (simp length-map (omega (arith, m))) (ap (λ (x : Buffers). x.counts) x) (ap (λ (x : Buffers). x.counts) y);
        clocks = held_one b.clocks _ _ (simp length-map e) (simp length-map (omega (arith, m))) (ap (λ (x : Buffers). x.clocks) x) (ap (λ (x : Buffers). x.clocks) y);
        clock_states = held_one b.clock_states _ _ (simp length-map e) (simp length-map (omega (arith, m))) (ap (λ (x : Buffers). x.clock_states) x) (ap (λ (x : Buffers). x.clock_states) y);
      }

  rows : all_rows f.epochs ≡ all_rows g.epochs
  unfolding laid counts room
  rows =
      let rs : List Row = all_rows f.epochs in
      let qs : List Row = all_rows g.epochs in
      let a = all_rows_form f.head.lists f.epochs forms in
      let c = all_rows_form f.head.lists g.epochs forms' in
      let e : length rs ≡ length qs = ap (λ (x : Counts). x.rows) totals in
      let s : length (all_slots rs) ≡ length (all_slots qs) = ap (λ (x : Counts). x.slots) totals in
      let m = p.hold.fits.rows in
      let k = p.hold.fits.slots in
      let x = p.hold.entries in
      let y = q.hold.entries in
      rows_same f.head.lists rs qs a c
      (held_one b.satellites _ _ (simp length-map e) (simp length-map m) (ap (λ (x : Buffers). x.satellites) x) (ap (λ (x : Buffers). x.satellites) y))
      (slots_same (all_slots rs) (all_slots qs) (all_slots_form f.head.lists rs a) (all_slots_form f.head.lists qs c)
      (held_one b.numbers _ _ (simp length-map s) (simp length-map (omega (arith, k))) (ap (λ (x : Buffers). x.numbers) x) (ap (λ (x : Buffers). x.numbers) y))
      (held_one b.states _ _ (simp length-map s) (simp length-map (omega (arith, k))) (ap (λ (x : Buffers). x.states) x) (ap (λ (x : Buffers). x.states) y))
      (held_one b.losses _ _ (simp length-map s) (simp length-map (omega (arith, k))) (ap (λ (x : Buffers). x.losses) x) (ap (λ (x : Buffers). x.losses) y))
      (held_one b.strengths _ _ (simp length-map s) (simp length-map (omega (arith, k))) (ap (λ (x : Buffers). x.strengths) x) (ap (λ (x : Buffers). x.strengths) y)))

  carried : (f.head.carried ≡ g.head.carried) × (all_lines f.epochs ≡ all_lines g.epochs)
  unfolding laid counts room carried_bytes flat_head
  carried =
      let cs : List (List ℕ) = f.head.carried in
      let ds : List (List ℕ) = g.head.carried in
      let e : length (text (cs ++ all_lines f.epochs)) ≡ length (text (ds ++ all_lines g.epochs)) = ap (λ (x : Counts). x.carried) totals in
      let t : text (cs ++ all_lines f.epochs) ≡ text (ds ++ all_lines g.epochs) =
      held_one b.carried _ _ e p.hold.fits.carried (ap (λ (x : Buffers). x.carried) p.hold.entries) (ap (λ (x : Buffers). x.carried) q.hold.entries) in
      let a = on_all Line cs (all_lines f.epochs) (head_carried p.spells.header_lines f.head p.spells.header (all_on Line p.spells.header_lines p.spells.data_lines p.spells.lines).0)
      (all_lines_form f.head.lists f.epochs forms) in
      let c = on_all Line ds (all_lines g.epochs) (head_carried q.spells.header_lines g.head q.spells.header (all_on Line q.spells.header_lines q.spells.data_lines q.spells.lines).0)
      (all_lines_form f.head.lists g.epochs forms') in
      append_one cs ds (all_lines f.epochs) (all_lines g.epochs) (ap (λ (x : FlatHead). x.header_lines) heads) (lines_one _ _ a c t)

  head : f.head ≡ g.head
  unfolding flat_head
  head =
      head_same f.head g.head (ap (λ (x : FlatHead). x.letter) heads) lists (ap (λ (x : FlatHead). x.first) heads) (ap (λ (x : FlatHead). x.time_system) heads)
      (number_same f.head.interval g.head.interval (ap (λ (x : FlatHead). x.interval_state) heads) (ap (λ (x : FlatHead). x.interval) heads)) carried.0

  one : f ≡ g
  one =
      ap (λ (x : Head). record { head = x; epochs = f.epochs }) head
      ∙ ap (λ (x : List Epoch). record { head = g.head; epochs = x }) (epochs_same f.head.lists f.epochs g.epochs forms forms' entries rows carried.1)

pub one_of_tables : Theorems.OneOfTables
one_of_tables = one

pub one_file : Theorems.OneFile
one_file = record { of_a_text = one_of_text; of_tables = one_of_tables }
