-- What each place asks of a line, in words of its own: the refusals that can fall there, turned round, both ways. Assumes nothing.
use Prim.Native.Nat.{ℕ, ◌+◌, ◌*◌, ◌≤◌}
use mathlib.Core.Path.{◌≡◌, ap, sym, ◌∙◌}
use mathlib.Core.Bool.{Bool, true, false, not, ◌&&◌, ◌||◌, and_assoc}
use mathlib.Core.List.{List}
use Rattle.std.specs.Prelude.{Option, None}
use native.Mathlib.Omega.{arith}
use lib.Dec.{eqb, leb, ltb}
use lib.ListN.{length}
use borrow.Author.Tests.{eqb-true, eqb-false, eq-eqb, ne_eqb, leb-true, leb-false, le-leb, lt-leb, ltb-false, le-ltb}
use Rattle.lists.specs.Lists.{is_in}
use Rattle.lists.specs.Blank.{Blank, is_blank}
use Rattle.lists.specs.Maybe.{given}
use Rattle.lists.proofs.Bools.{both, neither, none_of, is_not, not_is, if_then, then_if, not_both, both_not}
use Rattle.line.specs.Text.{cols, past, cut}
use Rattle.label.specs.declared.Label.{Label}
use Rattle.label.specs.declared.Label.TheVariants.{ObsTypes, ScaleFactor, MarkerName, Unknown}
use Rattle.label.specs.Labels.{is, label_of, barred_from_events}
use Rattle.rinex.specs.Data.{later}
use Rattle.rinex.specs.Tables.{Counts, Room}
use Rattle.rinex.specs.Tests.{version_fits, in_line, next_fits, flag_at, count_at, epoch_time, epoch_fits, satellite_fits, slots_fit}
use Rattle.rinex.specs.Refusals.{Place, version_due, in_header, next_due, epoch_due, row_due, line_due, SoFar, State, list_of, name_at, refusal3, refusal4, refusal5, refusal6, refusal7, refusal8, refusal9, refusal10, refusal11, refusal12, refusal13, refusal15, refusal16, again, unfit, lacks}
use Rattle.rinex.proofs.Rows.{codes_of}
use Rattle.rinex.proofs.Reach.{refused_at, Ok}

-- the version line
pub version_ok : (r : Room) (s : State) (l : List ℕ) → Ok r s version_due l → version_fits l ≡ true
unfolding refused_at refusal3 refusal4 refusal5 refusal6 refusal7 refusal8 refusal9 refusal10 refusal11 refusal12 refusal13 refusal15 refusal16
version_ok r s l o = not_is _ (neither (not (version_fits l)) false o).0

pub ok_version : (r : Room) (s : State) (l : List ℕ) → version_fits l ≡ true → Ok r s version_due l
unfolding refused_at refusal3 refusal4 refusal5 refusal6 refusal7 refusal8 refusal9 refusal10 refusal11 refusal12 refusal13 refusal15 refusal16
ok_version r s l h = rw h

-- a header line, by its label
pub record HeaderOk (r : Room) (s : State) (l : List ℕ) (k : Label) : Type 0 where
  pub known : is Unknown k ≡ false
  pub rest : Blank (past 80 l)
  pub read : is ScaleFactor k ≡ false
  pub once : again s l k ≡ false
  pub fit : unfit s l k ≡ false
  pub room : lacks r s l k ≡ false

pub header_ok : (r : Room) (s : State) (l : List ℕ) → Ok r s in_header l → HeaderOk r s l (label_of l)
unfolding refused_at refusal3 refusal4 refusal5 refusal6 refusal7 refusal8 refusal9 refusal10 refusal11 refusal12 refusal13 refusal15 refusal16
header_ok r s l o =
    let q = neither _ _ o in
    let a = neither (is Unknown (label_of l)) _ q.0 in
    let b = neither (not (is_blank (past 80 l))) _ a.1 in
    let c = neither (is ScaleFactor (label_of l)) false b.1 in
    let d = neither (again s l (label_of l)) _ q.1 in
    let e = neither (unfit s l (label_of l)) _ d.1 in
    record { known = a.0; rest = not_is _ b.0; read = c.0; once = d.0; fit = e.0; room = e.1 }

pub ok_header : (r : Room) (s : State) (l : List ℕ) (k : Label) → label_of l ≡ k → HeaderOk r s l k → Ok r s in_header l
unfolding refused_at refusal3 refusal4 refusal5 refusal6 refusal7 refusal8 refusal9 refusal10 refusal11 refusal12 refusal13 refusal15 refusal16
ok_header r s l k e o = rw (e, o.known, o.rest, o.read, o.once, o.fit) o.room

-- a continuation
pub record NextOk (r : Room) (s : State) (y n : ℕ) (l : List ℕ) : Type 0 where
  pub rest : Blank (past 80 l)
  pub label : is ObsTypes (label_of l) ≡ true
  pub gap : Blank (cols 1 6 l)
  pub fit : next_fits y (list_of s y) n l ≡ true
  pub room : 64 * y + length (list_of s y) + in_line n ≤ r.codes

pub next_ok : (r : Room) (s : State) (y n : ℕ) (l : List ℕ) → Ok r s (next_due y n) l → NextOk r s y n l
unfolding refused_at refusal3 refusal4 refusal5 refusal6 refusal7 refusal8 refusal9 refusal10 refusal11 refusal12 refusal13 refusal15 refusal16
next_ok r s y n l o =
    let q = neither _ _ o in
    let a = neither (is Unknown (label_of l)) _ q.0 in
    let b = neither (not (is_blank (past 80 l))) _ a.1 in
    let c = neither _ _ q.1 in
    let d = neither (not (is ObsTypes (label_of l))) (not (is_blank (cols 1 6 l))) c.0 in
    let e = neither (not (next_fits y (list_of s y) n l)) _ c.1 in
    record { rest = not_is _ b.0; label = not_is _ d.0; gap = not_is _ d.1; fit = not_is _ e.0; room = ltb-false _ _ e.1 }

pub ok_next : (r : Room) (s : State) (y n : ℕ) (l : List ℕ) → label_of l ≡ ObsTypes → NextOk r s y n l → Ok r s (next_due y n) l
unfolding refused_at refusal3 refusal4 refusal5 refusal6 refusal7 refusal8 refusal9 refusal10 refusal11 refusal12 refusal13 refusal15 refusal16
ok_next r s y n l e o = rw (e, o.rest, o.gap, o.fit) (le-ltb _ _ o.room)

-- a state of the data, under this header
abbrev pub at : SoFar → Place → Option ℕ → List ℕ → Counts → State
at z p last seen u = record { place = p; head = z; last = last; seen = seen; used = u }

pub settled : (z : SoFar) (s : State) → s.place ≡ epoch_due → s.last ≡ None → s.head ≡ z → s ≡ at z epoch_due None s.seen s.used
settled z s d o e =
    ap (λ (x : SoFar). at x s.place s.last s.seen s.used) e ∙ (ap (λ (x : Place). at z x s.last s.seen s.used) d
    ∙ ap (λ (x : Option ℕ). at z epoch_due x s.seen s.used) o)

pub record EpochOk (r : Room) (last : Option ℕ) (u : Counts) (l : List ℕ) : Type 0 where
  pub fits : epoch_fits l ≡ true
  pub known : flag_at l ≤ 5
  pub order : flag_at l ≤ 1 → later last (given 0 (epoch_time l)) ≡ true
  pub marker : flag_at l ≡ 3 → count_at l ≡ 0 → ⊥
  pub room : u.epochs + 1 ≤ r.epochs

pub record RowOk (r : Room) (lists : List (List (List ℕ))) (seen : List ℕ) (u : Counts) (l : List ℕ) : Type 0 where
  pub satellite : satellite_fits l ≡ true
  pub declared : 1 ≤ codes_of lists l
  pub unseen : is_in eqb (name_at l) seen ≡ false
  pub fit : slots_fit (codes_of lists l) 4 l ≡ true
  pub rows : u.rows + 1 ≤ r.rows
  pub slots : u.slots + codes_of lists l ≤ r.slots

pub record LineOk (r : Room) (u : Counts) (f n : ℕ) (b : Bool) (l : List ℕ) : Type 0 where
  pub known : is Unknown (label_of l) ≡ false
  pub not_barred : barred_from_events (label_of l) ≡ false
  pub rest : Blank (past 80 l)
  pub marker : f ≡ 3 → n ≡ 1 → (b || is MarkerName (label_of l)) ≡ true
  pub room : u.carried + (length (cut l) + 1) ≤ r.carried

-- what is barred from events is SYS / SCALE FACTOR too
scale_barred : (k : Label) → barred_from_events k ≡ false → is ScaleFactor k ≡ false
scale_barred k h = (neither (is ScaleFactor k) _ (neither (is ObsTypes k) _ (neither (is Rattle.label.specs.declared.Label.TheVariants.Version k) _ h).1).1).0

module _ (r : Room) (z : SoFar) (last : Option ℕ) (seen : List ℕ) (u : Counts) (l : List ℕ) where
  pub epoch_ok : Ok r (at z epoch_due last seen u) epoch_due l → EpochOk r last u l
  unfolding refused_at refusal3 refusal4 refusal5 refusal6 refusal7 refusal8 refusal9 refusal10 refusal11 refusal12 refusal13 refusal15 refusal16
  epoch_ok o =
      let a = neither (not (epoch_fits l)) _ o in
      let b = neither (leb 6 (flag_at l)) _ a.1 in
      let c = neither (leb (flag_at l) 1 && not (later last (given 0 (epoch_time l)))) _ b.1 in
      let d = neither (eqb (flag_at l) 3 && eqb (count_at l) 0) _ c.1 in
      record {
        fits = not_is _ a.0;
        known = omega (arith, leb-false 6 (flag_at l) b.0);
        order = λ x. if_then (leb (flag_at l) 1) _ c.0 (le-leb _ _ x);
        marker = λ x y. not_both (eqb (flag_at l) 3) (eqb (count_at l) 0) d.0 (eq-eqb _ _ x) (eq-eqb _ _ y);
        room = ltb-false _ _ d.1;
      }

  pub ok_epoch : EpochOk r last u l → Ok r (at z epoch_due last seen u) epoch_due l
  unfolding refused_at refusal3 refusal4 refusal5 refusal6 refusal7 refusal8 refusal9 refusal10 refusal11 refusal12 refusal13 refusal15 refusal16
  ok_epoch c =
      none_of _ _ (is_not _ c.fits) (none_of _ _ (lt-leb 6 (flag_at l) (omega (arith, c.known)))
      (none_of _ _ (then_if (leb (flag_at l) 1) _ (λ x. c.order (leb-true _ _ x)))
      (none_of _ _ (both_not _ _ (λ x y. c.marker (eqb-true _ _ x) (eqb-true _ _ y))) (le-ltb _ _ c.room))))

  pub row_ok : (m : ℕ) → Ok r (at z (row_due m) last seen u) (row_due m) l → RowOk r z.lists seen u l
  unfolding refused_at refusal3 refusal4 refusal5 refusal6 refusal7 refusal8 refusal9 refusal10 refusal11 refusal12 refusal13 refusal15 refusal16
  row_ok m o =
      let a = neither (not (satellite_fits l)) _ o in
      let b = neither (eqb (codes_of z.lists l) 0) _ a.1 in
      let c = neither (is_in eqb (name_at l) seen) _ b.1 in
      let d = neither (not (slots_fit (codes_of z.lists l) 4 l)) _ c.1 in
      let i = neither (ltb r.rows (u.rows + 1)) _ d.1 in
      let y : codes_of z.lists l ≡ 0 → ⊥ = eqb-false _ _ b.0 in
      record {
        satellite = not_is _ a.0;
        declared = omega (arith, y);
        unseen = c.0;
        fit = not_is _ d.0;
        rows = ltb-false _ _ i.0;
        slots = ltb-false _ _ i.1;
      }

  pub ok_row : (m : ℕ) → RowOk r z.lists seen u l → Ok r (at z (row_due m) last seen u) (row_due m) l
  unfolding refused_at refusal3 refusal4 refusal5 refusal6 refusal7 refusal8 refusal9 refusal10 refusal11 refusal12 refusal13 refusal15 refusal16
  ok_row m c =
      rw (
        c.satellite,
        ne_eqb (codes_of z.lists l) 0 (λ y. omega (arith, y, c.declared)),
        c.unseen,
        c.fit,
        le-ltb r.rows (u.rows + 1) c.rows,
      ) (le-ltb _ _ c.slots)

  pub line_ok : (f n : ℕ) (b : Bool) → Ok r (at z (line_due f n b) last seen u) (line_due f n b) l → LineOk r u f n b l
  unfolding refused_at refusal3 refusal4 refusal5 refusal6 refusal7 refusal8 refusal9 refusal10 refusal11 refusal12 refusal13 refusal15 refusal16
  line_ok f n b o =
      let q = neither _ _ o in
      let i = neither (is Unknown (label_of l)) _ q.0 in
      let j = neither (not (is_blank (past 80 l))) _ i.1 in
      let k = neither (is ScaleFactor (label_of l)) _ j.1 in
      let m = neither _ _ q.1 in
      record {
        known = i.0;
        not_barred = k.1;
        rest = not_is _ j.0;
        marker = λ x y. if_then (eqb f 3 && eqb n 1) _ (and_assoc (eqb f 3) (eqb n 1) _ ∙ m.0) (rw (eq-eqb f 3 x, eq-eqb n 1 y));
        room = ltb-false _ _ m.1;
      }

  pub ok_line : (f n : ℕ) (b : Bool) → LineOk r u f n b l → Ok r (at z (line_due f n b) last seen u) (line_due f n b) l
  unfolding refused_at refusal3 refusal4 refusal5 refusal6 refusal7 refusal8 refusal9 refusal10 refusal11 refusal12 refusal13 refusal15 refusal16
  ok_line f n b c =
      let m : (eqb f 3 && (eqb n 1 && not (b || is MarkerName (label_of l)))) ≡ false =
      sym (and_assoc (eqb f 3) (eqb n 1) _)
      ∙ then_if (eqb f 3 && eqb n 1) _ (λ x. let p = both (eqb f 3) (eqb n 1) x in c.marker (eqb-true _ _ p.0) (eqb-true _ _ p.1))
      in
      none_of _ _ (none_of _ _ c.known (none_of _ _ (is_not _ c.rest) (none_of _ _ (scale_barred (label_of l) c.not_barred) c.not_barred)))
      (none_of _ _ m (le-ltb _ _ c.room))
