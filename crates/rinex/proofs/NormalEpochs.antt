-- The normal lines of an epoch that has the form spell it. Assumes nothing.
use Prim.Native.Nat.{ℕ, ◌+◌, ◌-◌, ◌*◌, ◌≤◌, ◌<◌}
use mathlib.Core.Path.{◌≡◌, refl, sym, ap, ◌∙◌}
use mathlib.Core.Bool.{true}
use mathlib.Core.List.{List, [], ◌∷◌, ◌++◌, map, append_assoc, append-nil}
use Rattle.std.specs.Prelude.{Option, None, Some}
use native.Mathlib.Omega.{arith}
use lib.IntN.{ℤ, pos}
use lib.ListN.{length, get_or, drop}
use Rattle.lists.specs.Lists.{All, Each, joined}
use Rattle.lists.specs.Blank.{blanks}
use Rattle.lists.proofs.Lists.{on_all}
use Rattle.field.specs.Field.{Mark}
use Rattle.write_field.specs.Normal.{digit, fixed, whole, decimal_or_blank, mark, decimal_fits, whole_fits, decimal}
use Rattle.write_field.proofs.Written.{whole_spelled, whole_length, decimal_length, fixed_spelled, fixed_digits, fixed_length, second_spelled, second_fits, room_whole}
use Rattle.moment.specs.declared.Date.{Date}
use Rattle.moment.specs.Moment.{Fit, instant}
use Rattle.moment.specs.Found.{date_at}
use Rattle.moment.proofs.DateAt.{date_at_lem}
use Rattle.moment.proofs.Days.{day_31}
use Rattle.line.specs.Text.{Line, col, cols, cut}
use Rattle.line.proofs.Columns.{cols_at, on, col_at, cols_cut, col_cut, past_end, past_cut, length_cut, plain_byte, cut_line}
use Rattle.rinex.specs.Codes.{letter_of}
use Rattle.rinex.specs.File.{Slot, Row, Epoch, observed, event}
use Rattle.rinex.specs.Data.{EpochTime, EpochTimeOrBlank, EpochLine, SlotAt, Slots, RowLine, EpochLines}
use Rattle.rinex.specs.Normal.{time_text, epoch_time_text, epoch_body, epoch_line, slot_text, row_line, epoch_lines}
use Rattle.rinex.proofs.WrittenFields.{Put, put_append, put_blanks, fixed_put, two_fits, two_value, whole_put, decimal_put, FitsOrBlank, given_spelled, given_put}
use Rattle.rinex.proofs.Forms.{MarkForm, SlotForm, RowForm, Timed, EpochForm}
use Rattle.rinex.proofs.WrittenHeader.{letter_plain}

-- pieces of a cut line
kept_cols : (body : List ℕ) (a b : ℕ) (x r : List ℕ) → 1 ≤ a → drop (a - 1) body ≡ x ++ r → length x ≡ b + 1 - a → cols a b (cut body) ≡ x
kept_cols body a b x r p e n = cols_cut a b body p ∙ cols_at a b body x r e n

kept_col : (body : List ℕ) (a x : ℕ) (r : List ℕ) → drop (a - 1) body ≡ x ∷ r → col a (cut body) ≡ x
kept_col body a x r e = col_cut a body ∙ col_at a body x r e

-- The 27 columns of a time
module _ (d : Date) (f : Fit d) where
  year_fits : whole_fits 4 d.year ≡ true
  year_fits = room_whole 4 d.year (omega arith)

  ticks_fit : decimal_fits 11 7 (pos d.ticks) ≡ true
  ticks_fit = second_fits 11 d.ticks (omega arith) f.seconds

  time_put : Put 27 (time_text d)
  unfolding time_text
  time_put =
      put_append (whole_put 4 d.year year_fits) (put_append (put_blanks 1) (put_append (fixed_put 2 d.month) (put_append (put_blanks 1) (put_append (fixed_put 2 d.day)
      (put_append (put_blanks 1) (put_append (fixed_put 2 d.hour) (put_append (put_blanks 1) (put_append (fixed_put 2 d.minute) (decimal_put 11 7 (pos d.ticks) ticks_fit)))))))))

  time_at : (body r : List ℕ) → drop 2 body ≡ time_text d ++ r → EpochTime (cut body) (instant d)
  unfolding time_text
  time_at body r e =
      let e2 : drop 2 body ≡ whole 4 d.year ++ (32 ∷ (fixed 2 d.month ++ (32 ∷ (fixed 2 d.day ++ (32 ∷ (fixed 2 d.hour
      ++ (32 ∷ (fixed 2 d.minute ++ (decimal 11 7 (pos d.ticks) ++ r))))))))) = e ∙ simp append_assoc in
      let e6 = on 2 4 body (whole 4 d.year) _ e2 (whole_length 4 d.year year_fits) in
      let e7 = on 6 1 body (32 ∷ []) _ e6 refl in
      let e9 = on 7 2 body (fixed 2 d.month) _ e7 (fixed_length 2 d.month) in
      let e10 = on 9 1 body (32 ∷ []) _ e9 refl in
      let e12 = on 10 2 body (fixed 2 d.day) _ e10 (fixed_length 2 d.day) in
      let e13 = on 12 1 body (32 ∷ []) _ e12 refl in
      let e15 = on 13 2 body (fixed 2 d.hour) _ e13 (fixed_length 2 d.hour) in
      let e16 = on 15 1 body (32 ∷ []) _ e15 refl in
      let e18 = on 16 2 body (fixed 2 d.minute) _ e16 (fixed_length 2 d.minute) in
      record {
        time = record {
          date = d;
          year = rw (kept_cols body 3 6 (whole 4 d.year) _ (omega arith) e2 (whole_length 4 d.year year_fits)) (whole_spelled 4 d.year year_fits);
          month = rw (kept_cols body 8 9 (fixed 2 d.month) _ (omega arith) e7 (fixed_length 2 d.month)) (fixed_spelled 2 d.month (two_fits d.month (omega arith)));
          day = rw (kept_cols body 11 12 (fixed 2 d.day) _ (omega arith) e10 (fixed_length 2 d.day)) (fixed_spelled 2 d.day (two_fits d.day (omega (arith, day_31 d f))));
          hour = rw (kept_cols body 14 15 (fixed 2 d.hour) _ (omega arith) e13 (fixed_length 2 d.hour)) (fixed_spelled 2 d.hour (two_fits d.hour (omega arith)));
          minute = rw (kept_cols body 17 18 (fixed 2 d.minute) _ (omega arith) e16 (fixed_length 2 d.minute)) (fixed_spelled 2 d.minute (two_fits d.minute (omega arith)));
          second = rw (kept_cols body 19 29 (decimal 11 7 (pos d.ticks)) _ (omega arith) e18 (decimal_length 11 7 (pos d.ticks) ticks_fit)) (second_spelled 11 d.ticks (omega arith) f.seconds);
          fit = f;
          time = refl;
        };
        gap_7 = kept_col body 7 32 _ e6;
        gap_10 = kept_col body 10 32 _ e9;
        gap_13 = kept_col body 13 32 _ e12;
        gap_16 = kept_col body 16 32 _ e15;
      }

pub epoch_time_put : (o : Option ℕ) → Timed o → Put 27 (epoch_time_text o)
unfolding epoch_time_text
epoch_time_put None h = put_blanks 27
epoch_time_put (Some t) h = rw (h.2, date_at_lem h.0 h.1) (time_put h.0 h.1)

epoch_time_at : (o : Option ℕ) → Timed o → (body r : List ℕ) → drop 2 body ≡ epoch_time_text o ++ r → EpochTimeOrBlank (cut body) o
unfolding epoch_time_text
epoch_time_at None h body r e = rw (kept_cols body 3 29 (blanks 27) r (omega arith) e refl)
epoch_time_at (Some t) h body r e =
    let p : date_at t ≡ h.0 = ap date_at h.2 ∙ date_at_lem h.0 h.1 in
    let q : drop 2 body ≡ time_text h.0 ++ r = e ∙ ap (λ (x : Date). time_text x ++ r) p in
    rw h.2 (time_at h.0 h.1 body r q)

begin_put : Put 2 (62 ∷ 32 ∷ [])
begin_put = record { long = refl; bytes = refl }

digit_put : (n : ℕ) → Put 1 (digit n ∷ [])
digit_put n = record { long = refl; bytes = plain_byte (digit n) [] (omega arith) (omega arith) refl }

-- The epoch record
module _ (time : Option ℕ) (flag count : ℕ) (clock : Option ℤ) (is-timed : Timed time) (low : flag ≤ 9) (fits : whole_fits 3 count ≡ true) (clock-fits : FitsOrBlank 15 12 clock) where
  body_put : Put 56 (epoch_body (epoch_time_text time) flag count clock)
  unfolding epoch_body
  body_put =
      put_append begin_put
      (put_append (epoch_time_put time is-timed)
      (put_append (put_blanks 2)
      (put_append (digit_put flag)
      (put_append (whole_put 3 count fits)
      (put_append (put_blanks 6) (given_put 15 12 clock clock-fits))))))

  epoch_is_line : Line (epoch_line time flag count clock)
  unfolding epoch_line
  epoch_is_line = cut_line (epoch_body (epoch_time_text time) flag count clock) _ refl (record { plain = body_put.bytes; width = omega (arith, body_put.long) })

  pub epoch_line_lem : EpochLine (epoch_line time flag count clock) time flag count clock
  unfolding epoch_line epoch_body
  epoch_line_lem =
      let body : List ℕ = epoch_body (epoch_time_text time) flag count clock in
      let long : length body ≡ 56 = body_put.long in
      let e29 = on 2 27 body (epoch_time_text time) _ refl (epoch_time_put time is-timed).long in
      let e31 = on 29 2 body (blanks 2) _ e29 refl in
      let e32 = on 31 1 body (digit flag ∷ []) _ e31 refl in
      let e35 = on 32 3 body (whole 3 count) _ e32 (whole_length 3 count fits) in
      let e41 : drop 41 body ≡ decimal_or_blank 15 12 clock = on 35 6 body (blanks 6) _ e35 refl in
      record {
        mark = kept_col body 1 62 _ refl;
        gap = kept_col body 2 32 _ refl;
        time_at = epoch_time_at time is-timed body _ refl;
        gap_2 = rw (kept_cols body 30 31 (blanks 2) _ (omega arith) e29 refl);
        flag_at = kept_col body 32 (digit flag) _ e31 ∙ omega arith;
        count_at = rw (kept_cols body 33 35 (whole 3 count) _ (omega arith) e32 (whole_length 3 count fits))
            (whole_spelled 3 count fits);
        gap_3 = rw (kept_cols body 36 41 (blanks 6) _ (omega arith) e35 refl);
        clock_at = rw (kept_cols body 42 56 (decimal_or_blank 15 12 clock) [] (omega arith) (e41 ∙ sym (append-nil (decimal_or_blank 15 12 clock))) (given_put 15 12 clock clock-fits).long)
            (given_spelled 15 12 clock clock-fits);
        rest = past_end 56 (cut body) (omega (arith, length_cut body));
      }

-- Slots
mark_put : (top : ℕ) (o : Option ℕ) → top ≤ 9 → MarkForm top o → Put 1 (mark o)
mark_put top None p h = put_blanks 1
mark_put top (Some m) p h = digit_put m

mark_at_lem : (top a : ℕ) (body r : List ℕ) (o : Option ℕ) → top ≤ 9 → MarkForm top o → drop (a - 1) body ≡ mark o ++ r → Mark top (col a (cut body)) o
mark_at_lem top a body r None p h e = kept_col body a 32 r e
mark_at_lem top a body r (Some m) p h e = (kept_col body a (digit m) r e ∙ omega arith, h)

slot_put : (s : Slot) → SlotForm s → Put 16 (slot_text s)
unfolding slot_text
slot_put s h = put_append (given_put 14 3 s.value h.value.fits) (put_append (mark_put 7 s.loss (omega arith) h.loss) (mark_put 9 s.strength (omega arith) h.strength))

slots_put : (ss : List Slot) → All SlotForm ss → Put (16 * length ss) (joined (map slot_text ss))
slots_put [] h = record { long = refl; bytes = refl }
slots_put (s ∷ ss) h =
    let p = put_append (slot_put s h.0) (slots_put ss h.1) in
    record { long = p.long ∙ omega arith; bytes = p.bytes }

slot_at : (a : ℕ) (body r : List ℕ) (s : Slot) → 1 ≤ a → SlotForm s → drop (a - 1) body ≡ slot_text s ++ r → SlotAt a (cut body) s
unfolding slot_text
slot_at a body r s p h e =
    let v : List ℕ = decimal_or_blank 14 3 s.value in
    let vp = given_put 14 3 s.value h.value.fits in
    let e0 : drop (a - 1) body ≡ v ++ (mark s.loss ++ (mark s.strength ++ r)) = e ∙ simp append_assoc in
    let i : a - 1 + 14 ≡ a + 14 - 1 = omega arith in
    let j : a + 14 - 1 + 1 ≡ a + 15 - 1 = omega arith in
    let e1 : drop (a + 14 - 1) body ≡ mark s.loss ++ (mark s.strength ++ r) = rw i at (on (a - 1) 14 body v _ e0 vp.long) in
    let e2 : drop (a + 15 - 1) body ≡ mark s.strength ++ r = rw j at (on (a + 14 - 1) 1 body (mark s.loss) _ e1 (mark_put 7 s.loss (omega arith) h.loss).long) in
    record {
      value = rw (kept_cols body a (a + 13) v _ p e0 (vp.long ∙ omega arith)) (record { printed = s.value; columns = given_spelled 14 3 s.value h.value.fits; held = sym h.value.held });
      loss = mark_at_lem 7 (a + 14) body _ s.loss (omega arith) h.loss e1;
      strength = mark_at_lem 9 (a + 15) body r s.strength (omega arith) h.strength e2;
    }

slots_at_lem : (a : ℕ) (body : List ℕ) (ss : List Slot) → 1 ≤ a → All SlotForm ss → drop (a - 1) body ≡ joined (map slot_text ss) → Slots a (cut body) ss
slots_at_lem a body [] p h e = past_cut body (a - 1) (rw e)
slots_at_lem a body (s ∷ ss) p h e =
    let i : a - 1 + 16 ≡ a + 16 - 1 = omega arith in
    let e1 : drop (a + 16 - 1) body ≡ joined (map slot_text ss) = rw i at (on (a - 1) 16 body (slot_text s) (joined (map slot_text ss)) e (slot_put s h.0).long) in
    (slot_at a body (joined (map slot_text ss)) s p h.0 e, slots_at_lem (a + 16) body ss (omega arith) h.1 e1)

-- Rows: no list has more than 64 codes
abbrev pub Few : List (List (List ℕ)) → Type 0
Few lists = (s : ℕ) → s < 7 → length (get_or lists s []) ≤ 64

module _ (lists : List (List (List ℕ))) (few : Few lists) where
  row_normal : (r : Row) → RowForm lists r → RowLine lists (row_line r) r × Line (row_line r)
  unfolding row_line
  row_normal r h =
      let slots : List ℕ = joined (map slot_text r.slots) in
      let body : List ℕ = letter_of r.system ∷ (fixed 2 r.number ++ slots) in
      let c : cols 2 3 (cut body) ≡ fixed 2 r.number = kept_cols body 2 3 (fixed 2 r.number) slots (omega arith) refl (fixed_length 2 r.number) in
      let e : drop 3 body ≡ slots = on 1 2 body (fixed 2 r.number) slots refl (fixed_length 2 r.number) in
      let lp = letter_plain r.system h.system in
      let put = put_append (fixed_put 2 r.number) (slots_put r.slots h.slots) in (
        record {
          letter = kept_col body 1 (letter_of r.system) _ refl;
          system = h.system;
          digits = rw c (fixed_digits 2 r.number);
          number = rw c (two_value r.number h.number);
          not_zero = h.not_zero;
          declared = h.declared;
          one_each = h.many;
          slots = slots_at_lem 4 body r.slots (omega arith) h.slots e;
        },
        cut_line body (cut body) refl (record {
          plain = plain_byte (letter_of r.system) (fixed 2 r.number ++ slots) lp.0 lp.1 put.bytes;
          width = omega (arith, put.long, h.many, few r.system h.system);
        }),
      )

  rows_normal : (rs : List Row) → All (RowForm lists) rs → Each (RowLine lists) (map row_line rs) rs × All Line (map row_line rs)
  rows_normal [] h = (tt, tt)
  rows_normal (r ∷ rs) h =
      let p = row_normal r h.0 in
      let q = rows_normal rs h.1 in
      ((p.0, q.0), (p.1, q.1))

  -- Epochs
  pub epoch_normal : (e : Epoch) → EpochForm lists e → EpochLines lists (epoch_lines e) e × All Line (epoch_lines e)
  unfolding epoch_lines
  epoch_normal (observed o) h =
      let low : o.flag ≤ 9 = omega (arith, h.flag) in
      let few : whole_fits 3 (length o.rows) ≡ true = room_whole 3 (length o.rows) (omega (arith, h.few)) in
      let r = rows_normal o.rows h.rows in (
        record { flag = h.flag; line = epoch_line_lem (Some o.time) o.flag (length o.rows) o.clock h.time low few h.clock; rows = r.0; apart = h.apart },
        (epoch_is_line (Some o.time) o.flag (length o.rows) o.clock h.time low few h.clock, r.1),
      )
  epoch_normal (event v) h =
      let low : v.flag ≤ 9 = omega (arith, h.flag_to) in
      let few : whole_fits 3 (length v.lines) ≡ true = room_whole 3 (length v.lines) (omega (arith, h.few)) in (
        record {
          flag_from = h.flag_from;
          flag_to = h.flag_to;
          line = epoch_line_lem v.time v.flag (length v.lines) None h.time low few tt;
          time = h.asked;
          lines = h.kept;
          marker = h.marker;
        },
        (epoch_is_line v.time v.flag (length v.lines) None h.time low few tt, h.lines),
      )

  pub epochs_normal : (es : List Epoch) → All (EpochForm lists) es → Each (EpochLines lists) (map epoch_lines es) es × All Line (joined (map epoch_lines es))
  epochs_normal [] h = (tt, tt)
  epochs_normal (e ∷ es) h =
      let p = epoch_normal e h.0 in
      let q = epochs_normal es h.1 in
      ((p.0, q.0), on_all Line (epoch_lines e) (joined (map epoch_lines es)) p.1 q.1)
