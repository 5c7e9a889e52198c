-- Rows put one after the other: what a row of those that are ready has, and what the others leave to be put. Assumes nothing.
use Prim.Native.Nat.{ℕ, suc, ◌+◌, ◌-◌, ◌/◌, ◌%◌, ◌≤◌, ◌<◌}
use mathlib.Core.Path.{◌≡◌, refl, sym, ap, ◌∙◌, subst}
use mathlib.Core.Bool.{Bool, true, false}
use mathlib.Core.List.{List, [], ◌∷◌, ◌++◌, map, append_assoc}
use Rattle.std.specs.Prelude.{Option}
use native.Mathlib.Omega.{arith}
use lib.ListN.{length, get_or, length-append}
use lib.Seq.{sets}
use Rattle.lists.specs.Lists.{joined}
use Rattle.lists.specs.Maybe.{is_given, when, ◌>>=◌}
use Rattle.lists.proofs.Bools.{never}
use Rattle.lists.proofs.Ahead.{Ahead, begun, some_put, some_room, all_put}
use Rattle.write_field.specs.Normal.{fixed}
use Rattle.line.specs.Text.{cut}
use Rattle.rinex.specs.Codes.{letter_of}
use Rattle.rinex.specs.File.{Slot}
use Rattle.rinex.specs.Tables.{all_slots, Buffers}
use Rattle.rinex.specs.Fit.{codes_of_row, row_fits, rows_fit}
use Rattle.rinex.specs.Held.{slots_at, row_at, rows_at}
use Rattle.rinex.specs.Normal.{slot_text, row_line}
use Rattle.rinex.proofs.HeldFile.{slots_length}
use Rattle.rinex.proofs.Lent.{row_slots}
use Rattle.spell_data.specs.Slots.{of_slots, row_columns, SlotsLie}
use Rattle.write_rows.proofs.Fitting.{numbers_fit, slots_held}
use Rattle.write_rows.specs.Rows.{rows_text, RowsReady}

-- a test, and what is given behind it
when_given : {A B : Type 0} (t : Bool) (x : A) (f : A → Option B) → is_given (when t x >>= f) ≡ true → (t ≡ true) × (is_given (f x) ≡ true)
when_given true x f h = (refl, h)
when_given false x f h = absurd (never h)

-- the buffers of slots alone
abbrev pub slots_alone : Buffers → Buffers
slots_alone b = of_slots b.numbers b.states b.losses b.strengths

-- the line of row j, with its n slots from place i on
abbrev pub line_of : Buffers → (n j i : ℕ) → List ℕ
line_of b n j i = cut (row_columns (get_or b.satellites j 0) n i (slots_alone b))

-- row j, with its slots from place i on, is the first of k
module _ (lengths : List ℕ) (b : Buffers) (k j i : ℕ) where
  abbrev codes : ℕ
  codes = codes_of_row lengths b j

  abbrev line : List ℕ
  line = line_of b codes j i

  abbrev others : List ℕ
  others = rows_text lengths b (k - 1) (j + 1) (i + codes)

  -- its line
  line_is : row_line (row_at lengths b j i) ≡ line
  unfolding row_line
  line_is =
      let s = get_or b.satellites j 0 in
      ap (λ (x : List Slot). cut (letter_of (s / 100) ∷ (fixed 2 (s % 100) ++ joined (map slot_text x)))) (sym (slots_held b codes i))

  module _ (h : 0 < k) where
    one_more : k ≡ suc (k - 1)
    one_more = omega arith

    -- what is put
    pub text_more : rows_text lengths b k j i ≡ (line ++ (10 ∷ [])) ++ others
    unfolding rows_at
    text_more =
        ap (λ (m : ℕ). rows_text lengths b m j i) one_more ∙ (ap (λ (x : List ℕ). x ++ (10 ∷ others)) line_is ∙ sym (append_assoc line (10 ∷ []) others))

    -- the slots that are taken
    pub slots_more : length (all_slots (rows_at lengths b k j i)) ≡ codes + length (all_slots (rows_at lengths b (k - 1) (j + 1) (i + codes)))
    unfolding rows_at all_slots
    slots_more =
        ap (λ (m : ℕ). length (all_slots (rows_at lengths b m j i))) one_more
        ∙ (length-append (slots_at b codes i) (all_slots (rows_at lengths b (k - 1) (j + 1) (i + codes)))
        ∙ ap (λ (n : ℕ). n + length (all_slots (rows_at lengths b (k - 1) (j + 1) (i + codes)))) (slots_length b codes i))

    -- what is ready
    module _ (r : RowsReady lengths b k j i) where
      fits : (row_fits lengths r.used b j i ≡ true) × (is_given (rows_fit lengths r.used b (k - 1) (j + 1) (i + codes)) ≡ true)
      unfolding rows_fit
      fits =
          when_given (row_fits lengths r.used b j i) (i + codes) (rows_fit lengths r.used b (k - 1) (j + 1))
          (subst (λ (m : ℕ). is_given (rows_fit lengths r.used b m j i) ≡ true) one_more r.fit)

      row_lies : SlotsLie codes i (slots_alone b)
      row_lies =
          let f = row_slots lengths r.used b j i fits.0 in
          let l = r.lent.slots_hold in
          record {
            in_numbers = omega (arith, f.0, l.numbers_hold);
            in_states = omega (arith, f.0, l.states_hold);
            in_losses = omega (arith, f.0, l.losses_hold);
            in_strengths = omega (arith, f.0, l.strengths_hold);
            fit = numbers_fit b codes i f.1;
          }

      ready_more : RowsReady lengths b (k - 1) (j + 1) (i + codes)
      ready_more = record { used = r.used; lent = r.lent; rows = omega (arith, r.rows); slots = (row_slots lengths r.used b j i fits.0).0; fit = fits.1 }

-- THE LOOP: k rows from row j on, with slots from place i on, are to be put into o, from place at on; `left` rows from `row` and `slot` on are left, for out from place to on
pub record Putting (lengths : List ℕ) (b : Buffers) (k j i : ℕ) (o : List ℕ) (at : ℕ) (out : List ℕ) (to left row slot : ℕ) : Type 0 where
  pub ready : RowsReady lengths b left row slot
  pub ahead : Ahead out to (rows_text lengths b left row slot) o at (rows_text lengths b k j i)
  pub taken : slot + length (all_slots (rows_at lengths b left row slot)) ≡ i + length (all_slots (rows_at lengths b k j i))

module _ (lengths : List ℕ) (b : Buffers) (k j i : ℕ) (o : List ℕ) (at : ℕ) where
  pub rows_begun : RowsReady lengths b k j i → Putting lengths b k j i o at o at k j i
  rows_begun r = record { ready = r; ahead = begun o at _; taken = refl }

  module _ (out : List ℕ) (to left row slot : ℕ) (p : Putting lengths b k j i o at out to left row slot) where
    -- all is put
    pub put_all : left ≤ 0
        → (out ≡ sets o at (rows_text lengths b k j i)) × (to ≡ at + length (rows_text lengths b k j i)) × (slot ≡ i + length (all_slots (rows_at lengths b k j i)))
    unfolding rows_at all_slots
    put_all h =
        let e : left ≡ 0 = omega arith in
        let a = all_put out o to at _ _ (ap (λ (m : ℕ). rows_text lengths b m row slot) e) p.ahead in
        (a.0, a.1, omega (arith, ap (λ (m : ℕ). length (all_slots (rows_at lengths b m row slot))) e, p.taken))

    -- row `row`, of n codes
    module _ (h : 0 < left) (n : ℕ) (e : n ≡ codes_of_row lengths b row) where
      abbrev here : List ℕ
      here = line_of b n row slot ++ (10 ∷ [])

      first : rows_text lengths b left row slot ≡ here ++ rows_text lengths b (left - 1) (row + 1) (slot + n)
      first = text_more lengths b left row slot h ∙ ap (λ (y : ℕ). (line_of b y row slot ++ (10 ∷ [])) ++ rows_text lengths b (left - 1) (row + 1) (slot + y)) (sym e)

      -- its slots lie there, and are few
      pub row_here : SlotsLie n slot (slots_alone b)
      row_here = subst (λ (m : ℕ). SlotsLie m slot (slots_alone b)) (sym e) (row_lies lengths b left row slot h p.ready)

      pub row_few : n ≤ 64
      row_few = omega (arith, e, p.ready.lent.few (get_or b.satellites row 0 / 100))

      -- there is room for it
      pub row_room : to + (length (line_of b n row slot) + 1) ≤ at + length (rows_text lengths b k j i)
      row_room = omega (arith, some_room out o to at _ here _ _ first p.ahead, length-append (line_of b n row slot) (10 ∷ []))

      -- it is put into `out`, which is then x, and t is the place behind it, and s the slot
      pub put_more : (x : List ℕ) (t s m : ℕ) → x ≡ sets out to here → (t ≡ to + (length (line_of b n row slot) + 1)) × (s ≡ slot + n) → m ≡ left - 1 → Putting lengths b k j i o at x t m (row + 1) s
      put_more x t s m d f g =
          rw (g, f.1) (record {
            ready = subst (λ (y : ℕ). RowsReady lengths b (left - 1) (row + 1) (slot + y)) (sym e) (ready_more lengths b left row slot h p.ready);
            ahead = some_put out o to at _ here _ _ first p.ahead x t d (omega (arith, f.0, length-append (line_of b n row slot) (10 ∷ [])));
            taken = subst (λ (y : ℕ). slot + y + length (all_slots (rows_at lengths b (left - 1) (row + 1) (slot + y))) ≡ i + length (all_slots (rows_at lengths b k j i))) (sym e)
                (omega (arith, slots_more lengths b left row slot h, p.taken));
          })
