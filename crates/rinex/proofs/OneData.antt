-- Lines spell at most one list of epochs. Assumes nothing.
use Prim.Native.Nat.{ℕ}
use mathlib.Core.Path.{◌≡◌, refl, ap, sym, ◌∙◌}
use mathlib.Core.List.{List, [], ◌∷◌, ◌++◌}
use Rattle.std.specs.Prelude.{Option}
use native.Mathlib.Omega.{arith}
use lib.IntN.{ℤ}
use lib.ListN.{length}
use Rattle.lists.specs.Lists.{Each, joined}
use Rattle.lists.proofs.Maybe.{some_one}
use Rattle.lists.proofs.Lists.{cons_same, cons_nil, append_one, each_length, each_one}
use Rattle.rinex.specs.File.{Row, Observed, Event, Epoch, observed, event}
use Rattle.rinex.specs.Data.{RowLine, EventLine, EpochLines, DataLines}
use Rattle.rinex.proofs.Rows.{row_one}
use Rattle.rinex.proofs.Epochs.{epoch_line_one, observed_suits, event_suits}

event_line_one : (l : List ℕ) (c d : List ℕ) → EventLine l c → EventLine l d → c ≡ d
event_line_one l c d p q = p.kept ∙ sym q.kept

pub observed_same : (o p : Observed) → o.time ≡ p.time → o.flag ≡ p.flag → o.clock ≡ p.clock → o.rows ≡ p.rows → o ≡ p
observed_same o p a b c d =
    ap (λ (x : ℕ). make x o.flag o.clock o.rows) a ∙ (ap (λ (x : ℕ). make p.time x o.clock o.rows) b
    ∙ (ap (λ (x : Option ℤ). make p.time p.flag x o.rows) c ∙ ap (make p.time p.flag p.clock) d))
  where
    make : ℕ → ℕ → Option ℤ → List Row → Observed
    make t f c rs = record { time = t; flag = f; clock = c; rows = rs }

pub event_same : (o p : Event) → o.time ≡ p.time → o.flag ≡ p.flag → o.lines ≡ p.lines → o ≡ p
event_same o p a b c =
    ap (λ (x : Option ℕ). make x o.flag o.lines) a ∙ (ap (λ (x : ℕ). make p.time x o.lines) b ∙ ap (make p.time p.flag) c)
  where
    make : Option ℕ → ℕ → List (List ℕ) → Event
    make t f ls = record { time = t; flag = f; lines = ls }

-- the first epoch, and the lines past it
module _ (lists : List (List (List ℕ))) where
  epoch_one : (l : List ℕ) (ls ks xs ys : List (List ℕ)) (e f : Epoch) → ls ++ xs ≡ ks ++ ys → EpochLines lists (l ∷ ls) e → EpochLines lists (l ∷ ks) f
      → (e ≡ f) × (xs ≡ ys)
  epoch_one l ls ks xs ys (observed o) (observed p) s g h =
      let q = epoch_line_one l _ _ _ _ _ _ _ _ g.line (observed_suits lists l ls o g) h.line (observed_suits lists l ks p h) in
      let many : length ls ≡ length ks = each_length (RowLine lists) ls o.rows g.rows ∙ (q.2 ∙ sym (each_length (RowLine lists) ks p.rows h.rows)) in
      let a = append_one ls ks xs ys many s in
      let hr : Each (RowLine lists) ls p.rows = rw a.0 h.rows in
      let rs = each_one (RowLine lists) (row_one lists) ls o.rows p.rows g.rows hr in
      (ap observed (observed_same o p (some_one _ _ q.0) q.1 q.3 rs), a.1)
  epoch_one l ls ks xs ys (observed o) (event p) s g h =
      let q = epoch_line_one l _ _ _ _ _ _ _ _ g.line (observed_suits lists l ls o g) h.line (event_suits l ks p h) in
      absurd (omega (arith, q.1, g.flag, h.flag_from))
  epoch_one l ls ks xs ys (event o) (observed p) s g h =
      let q = epoch_line_one l _ _ _ _ _ _ _ _ g.line (event_suits l ls o g) h.line (observed_suits lists l ks p h) in
      absurd (omega (arith, q.1, h.flag, g.flag_from))
  epoch_one l ls ks xs ys (event o) (event p) s g h =
      let q = epoch_line_one l _ _ _ _ _ _ _ _ g.line (event_suits l ls o g) h.line (event_suits l ks p h) in
      let many : length ls ≡ length ks = each_length EventLine ls o.lines g.lines ∙ (q.2 ∙ sym (each_length EventLine ks p.lines h.lines)) in
      let a = append_one ls ks xs ys many s in
      let hr : Each EventLine ls p.lines = rw a.0 h.lines in
      let cs = each_one EventLine event_line_one ls o.lines p.lines g.lines hr in
      (ap event (event_same o p q.0 q.1 cs), a.1)

  epochs_one : (gs hs : List (List (List ℕ))) (es fs : List Epoch) → joined gs ≡ joined hs → Each (EpochLines lists) gs es → Each (EpochLines lists) hs fs → es ≡ fs
  epochs_one [] [] [] [] s g h = refl
  epochs_one [] [] [] (f ∷ fs) s g h = absurd h
  epochs_one [] [] (e ∷ es) fs s g h = absurd g
  epochs_one [] (k ∷ hs) (e ∷ es) fs s g h = absurd g
  epochs_one [] (k ∷ hs) [] [] s g h = absurd h
  epochs_one [] ([] ∷ hs) [] (f ∷ fs) s g h = absurd h.0
  epochs_one [] ((l ∷ k) ∷ hs) [] (f ∷ fs) s g h = absurd (cons_nil _ _ (sym s))
  epochs_one (j ∷ gs) hs [] fs s g h = absurd g
  epochs_one ([] ∷ gs) hs (e ∷ es) fs s g h = absurd g.0
  epochs_one ((l ∷ j) ∷ gs) [] (e ∷ es) fs s g h = absurd (cons_nil _ _ s)
  epochs_one ((l ∷ j) ∷ gs) (k ∷ hs) (e ∷ es) [] s g h = absurd h
  epochs_one ((l ∷ j) ∷ gs) ([] ∷ hs) (e ∷ es) (f ∷ fs) s g h = absurd h.0
  epochs_one ((l ∷ j) ∷ gs) ((m ∷ k) ∷ hs) (e ∷ es) (f ∷ fs) s g h =
      let p = cons_same s in
      let x : EpochLines lists (l ∷ k) f = rw p.0 h.0 in
      let q = epoch_one l j k (joined gs) (joined hs) e f p.1 g.0 x in
      cc (q.0, epochs_one gs hs es fs q.1 g.1 h.1)

pub data_one : (lists : List (List (List ℕ))) (ls : List (List ℕ)) (es fs : List Epoch) → DataLines lists ls es → DataLines lists ls fs → es ≡ fs
data_one lists ls es fs p q = epochs_one lists p.groups q.groups es fs (sym p.lines ∙ q.lines) p.epochs q.epochs
