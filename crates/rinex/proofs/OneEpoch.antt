-- AN EPOCH THAT IS HANDED IN WITH ITS TABLES IS ONE EPOCH. Assumes nothing.
use Prim.Native.Nat.{ℕ}
use mathlib.Core.Path.{◌≡◌, refl, ap, sym, subst, ◌∙◌}
use mathlib.Core.List.{List, [], ◌∷◌, ◌++◌, map, append_assoc}
use native.Mathlib.Omega.{arith}
use lib.ListN.{length, get_or, take, drop, length-append, length-map, take-append-drop}
use Rattle.lists.specs.Lists.{All}
use Rattle.lists.proofs.Lists.{cons_same, cons_nil, append_one}
use Rattle.line.specs.Text.{text, Line, Raw, split, raw}
use Rattle.line.proofs.Texts.{raws_one, split_line}
use Rattle.rinex.specs.File.{Row, Epoch, observed, event, satellite}
use Rattle.rinex.specs.Tables.{time_of, clock_of, rows_of, lines_of, FlatEpoch, flat_epoch, all_slots, Buffers}
use Rattle.rinex.specs.Promises.{Begins, EpochSpelled}
use Rattle.rinex.proofs.Forms.{RowForm, EpochForm, epoch_form, head_lists, all_slots_form}
use Rattle.rinex.proofs.OneTables.{number_same, signed_same, slots_same, name_same, rows_same, SameEntry, epoch_same, lists_same}

-- a buffer begins with one list of each length
begins_one : {A : Type 0} (b xs ys : List A) → length xs ≡ length ys → Begins xs b → Begins ys b → xs ≡ ys
begins_one b xs ys l p q = sym p ∙ (ap (λ (n : ℕ). take n b) l ∙ q)

-- and with the texts of one list of lines
split_front : (ls : List (List ℕ)) (t : List ℕ) → All Line ls → split (text ls ++ t) ≡ map raw ls ++ split t
split_front [] t a = refl
split_front (l ∷ ls) t a =
    ap split (append_assoc l (10 ∷ text ls) t) ∙ (split_line l (text ls ++ t) a.0.plain ∙ ap (λ (x : List Raw). raw l ∷ x) (split_front ls t a.1))

pub split_begins : (b : List ℕ) (ls : List (List ℕ)) → All Line ls → Begins (text ls) b → split b ≡ map raw ls ++ split (drop (length (text ls)) b)
split_begins b ls a h =
    let rest : List ℕ = drop (length (text ls)) b in
    ap split (sym (take-append-drop (length (text ls)) b) ∙ ap (λ (x : List ℕ). x ++ rest) h) ∙ split_front ls rest a

text_begins : (b : List ℕ) (ls ks : List (List ℕ)) → length ls ≡ length ks → All Line ls → All Line ks → Begins (text ls) b → Begins (text ks) b → ls ≡ ks
text_begins b ls ks l p q h k =
    let s = sym (split_begins b ls p h) ∙ split_begins b ks q k in
    let m : length (map raw ls) ≡ length (map raw ks) = simp length-map l in
    raws_one ls ks (append_one (map raw ls) (map raw ks) _ _ m s).0

-- rows of the same satellites have as many slots
slots_many : (lists : List (List (List ℕ))) (rs qs : List Row) → All (RowForm lists) rs → All (RowForm lists) qs → map satellite rs ≡ map satellite qs
    → length (all_slots rs) ≡ length (all_slots qs)
unfolding all_slots
slots_many lists [] [] a b c = refl
slots_many lists [] (q ∷ qs) a b c = absurd (cons_nil _ _ (sym c))
slots_many lists (r ∷ rs) [] a b c = absurd (cons_nil _ _ c)
slots_many lists (r ∷ rs) (q ∷ qs) a b c =
    let p = cons_same c in
    let n = name_same r.system r.number q.system q.number a.0.number b.0.number p.0 in
    let m : length r.slots ≡ length q.slots = a.0.many ∙ (ap (λ (y : ℕ). length (get_or lists y [])) n.0 ∙ sym b.0.many) in
    let i : length (all_slots rs) ≡ length (all_slots qs) = slots_many lists rs qs a.1 b.1 p.1 in
    simp length-append (omega arith)

module _ (lengths : List ℕ) (k : FlatEpoch) (b : Buffers) (e f : Epoch) (p : EpochSpelled lengths k b e) (q : EpochSpelled lengths k b f) where
  lists : p.lists ≡ q.lists
  lists =
      let h = p.header in
      let i = q.header in
      lists_same b.codes h.head.letter i.head.letter p.lists q.lists (ap length h.same ∙ h.header.systems) (ap length i.same ∙ i.header.systems)
      (rw h.same (head_lists h.lines h.head h.header)) (rw i.same (head_lists i.lines i.head i.header))
      p.codes_fit q.codes_fit (sym p.lengths_are ∙ q.lengths_are) p.codes q.codes

  entry : SameEntry e f
  unfolding flat_epoch
  entry =
      let s : flat_epoch e ≡ flat_epoch f = sym p.epoch ∙ q.epoch in
      record {
        time = number_same (time_of e) (time_of f) (ap (λ (x : FlatEpoch). x.time_state) s) (ap (λ (x : FlatEpoch). x.time) s);
        flag = ap (λ (x : FlatEpoch). x.flag) s;
        count = ap (λ (x : FlatEpoch). x.count) s;
        clock = signed_same (clock_of e) (clock_of f) (ap (λ (x : FlatEpoch). x.clock_state) s) (ap (λ (x : FlatEpoch). x.clock) s);
      }

  form : EpochForm p.lists e
  form = epoch_form p.lists p.lines e p.spells p.plain

  form' : EpochForm p.lists f
  form' = subst (λ (x : List (List (List ℕ))). EpochForm x f) (sym lists) (epoch_form q.lists q.lines f q.spells q.plain)

  rows : All (RowForm p.lists) (rows_of e) → All (RowForm p.lists) (rows_of f) → length (rows_of e) ≡ length (rows_of f) → rows_of e ≡ rows_of f
  rows a c m =
      let rs : List Row = rows_of e in
      let qs : List Row = rows_of f in
      let n = begins_one b.satellites (map satellite rs) (map satellite qs) (simp length-map m) p.satellites q.satellites in
      let s = slots_many p.lists rs qs a c n in
      rows_same p.lists rs qs a c n
      (slots_same (all_slots rs) (all_slots qs) (all_slots_form p.lists rs a) (all_slots_form p.lists qs c)
      (begins_one b.numbers _ _ (simp length-map s) p.numbers q.numbers) (begins_one b.states _ _ (simp length-map s) p.states q.states)
      (begins_one b.losses _ _ (simp length-map s) p.losses q.losses) (begins_one b.strengths _ _ (simp length-map s) p.strengths q.strengths))

  parts : (e' f' : Epoch) → EpochForm p.lists e' → EpochForm p.lists f' → SameEntry e' f'
      → (All (RowForm p.lists) (rows_of e') → All (RowForm p.lists) (rows_of f') → length (rows_of e') ≡ length (rows_of f') → rows_of e' ≡ rows_of f')
      → (All Line (lines_of e') → All Line (lines_of f') → length (lines_of e') ≡ length (lines_of f') → lines_of e' ≡ lines_of f') → (rows_of e' ≡ rows_of f') × (lines_of e' ≡ lines_of f')
  parts (observed o) (observed v) a c s r l = (r a.rows c.rows s.count, refl)
  parts (observed o) (event v) a c s r l = absurd (omega (arith, s.flag, a.flag, c.flag_from))
  parts (event o) (observed v) a c s r l = absurd (omega (arith, s.flag, a.flag_from, c.flag))
  parts (event o) (event v) a c s r l = (refl, l a.lines c.lines s.count)

  pub one_epoch : e ≡ f
  one_epoch =
      let t = parts e f form form' entry rows (λ a c m. text_begins b.carried (lines_of e) (lines_of f) m a c p.carried q.carried) in
      (epoch_same p.lists e f [] [] [] [] form form' entry (ap (λ (x : List Row). x ++ []) t.0) (ap (λ (x : List (List ℕ)). x ++ []) t.1)).0
