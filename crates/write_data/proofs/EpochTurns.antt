-- One epoch more: the first of those that fit, and those behind it. Assumes nothing.
use Prim.Native.Nat.{ℕ, suc, ◌+◌, ◌-◌, ◌≤◌, ◌<◌}
use mathlib.Core.Path.{◌≡◌, refl, sym, ap, ◌∙◌, subst}
use mathlib.Core.Bool.{true}
use mathlib.Core.List.{List, ◌++◌, map}
use Rattle.std.specs.Prelude.{Option, None, Some}
use native.Mathlib.Omega.{arith}
use lib.ListN.{length, drop}
use lib.Seq.{sets}
use Rattle.lists.specs.Lists.{joined}
use Rattle.lists.specs.Maybe.{is_given, ◌>>=◌}
use Rattle.lists.proofs.Bools.{never}
use Rattle.lists.proofs.Ahead.{Ahead, begun, some_put, some_room, all_put}
use Rattle.line.specs.Text.{text}
use Rattle.line.proofs.Texts.{text_append}
use Rattle.rinex.specs.File.{Epoch}
use Rattle.rinex.specs.Tables.{rows_of, lines_of, FlatEpoch, all_slots, Buffers}
use Rattle.rinex.specs.Fit.{entry_at, Untaken, epoch_fits, epochs_fit}
use Rattle.rinex.specs.Held.{epochs_at}
use Rattle.rinex.specs.Normal.{epoch_lines, normal_epoch}
use Rattle.fits.proofs.Walked as fit
use Rattle.write_data.specs.EpochTexts.{epoch_from, epoch_next, EpochReady, epochs_text, EpochsReady}
use Rattle.write_data.proofs.EpochSteps.{epoch_leaves}
use Rattle.fits.proofs.Alone.{rows_alone}
use Rattle.write_data.proofs.HeldAlone.{epoch_same}

module _ (lengths : List ℕ) (b : Buffers) (k e : ℕ) (c : Untaken) where
  -- what the first leaves, seen in the rows alone
  abbrev next : Untaken
  next = epoch_next lengths (rows_alone b) (entry_at b e) c

  next_same : next ≡ epoch_next lengths b (entry_at b e) c
  unfolding epoch_next
  next_same =
      ap (λ (x : Epoch). record { row = c.row + length (rows_of x); slot = c.slot + length (all_slots (rows_of x)); lines = drop (length (lines_of x)) c.lines; last = (epoch_next lengths b (entry_at b e) c).last })
      (epoch_same lengths b (entry_at b e) c.row c.slot c.lines)

  -- it fits, and so do those behind it
  pub record Turn : Type 0 where
    pub first : EpochReady lengths (rows_alone b) (entry_at b e) c
    pub rest : EpochsReady lengths b k (e + 1) next

  turn : EpochsReady lengths b (suc k) e c → Turn
  unfolding epochs_fit
  turn r = at (epoch_fits lengths r.used b (entry_at b e) c) refl r.fit
    where
      at : (o : Option Untaken) → epoch_fits lengths r.used b (entry_at b e) c ≡ o → is_given (o >>= epochs_fit lengths r.used b k (e + 1)) ≡ true → Turn
      at None h g = absurd (never g)
      at (Some d) h g =
          let s : d ≡ next = epoch_leaves lengths r.used b (entry_at b e) c d h ∙ sym next_same in
          let w = fit.epoch_within lengths r.used b (entry_at b e) c r.row r.slot d h in
          record {
            first = record { used = r.used; lent = record { few = r.lent.few; rows_hold = r.lent.rows_hold; slots_hold = r.lent.slots_hold }; row = r.row; slot = r.slot; fit = ap is_given (fit.epoch_same lengths r.used b (entry_at b e) c ∙ h) };
            rest = subst (EpochsReady lengths b k (e + 1)) s (record { used = r.used; lent = r.lent; row = w.0; slot = w.1; fit = g });
          }

  -- their text
  pub text_more : epochs_text lengths b (suc k) e c ≡ normal_epoch (epoch_from lengths (rows_alone b) (entry_at b e) c) ++ epochs_text lengths b k (e + 1) next
  unfolding epochs_at normal_epoch epoch_next
  text_more =
      let x : Epoch = epoch_from lengths b (entry_at b e) c in
      let xs : List Epoch = epochs_at lengths b k (e + 1) (c.row + length (rows_of x)) (c.slot + length (all_slots (rows_of x))) (drop (length (lines_of x)) c.lines) in
      text_append (epoch_lines x) (joined (map epoch_lines xs))
      ∙ (ap (λ (d : Untaken). text (epoch_lines x) ++ epochs_text lengths b k (e + 1) d) (sym next_same)
      ∙ ap (λ (y : Epoch). text (epoch_lines y) ++ epochs_text lengths b k (e + 1) next) (sym (epoch_same lengths b (entry_at b e) c.row c.slot c.lines)))

-- THE LOOP: n entries are to be put into o, from place at on; those from entry i on are left, for x from place to on
pub record Left (lengths : List ℕ) (b : Buffers) (n : ℕ) (start : Untaken) (o : List ℕ) (at : ℕ) (x : List ℕ) (i to : ℕ) (c : Untaken) : Type 0 where
  pub ready : EpochsReady lengths b (n - i) i c
  pub ahead : Ahead x to (epochs_text lengths b (n - i) i c) o at (epochs_text lengths b n 0 start)

module _ (lengths : List ℕ) (b : Buffers) (n : ℕ) (start : Untaken) (o : List ℕ) (at : ℕ) where
  pub epochs_begun : EpochsReady lengths b n 0 start → Left lengths b n start o at o 0 at start
  epochs_begun h =
      let e : n - 0 ≡ n = omega arith in
      record { ready = subst (λ (k : ℕ). EpochsReady lengths b k 0 start) (sym e) h; ahead = rw e (begun o at _) }

  module _ (x : List ℕ) (i to : ℕ) (c : Untaken) (l : Left lengths b n start o at x i to c) where
    pub epochs_done : n ≤ i → x ≡ sets o at (epochs_text lengths b n 0 start)
    unfolding epochs_at
    epochs_done h = let e : n - i ≡ 0 = omega arith in (all_put x o to at _ _ (ap (λ (k : ℕ). epochs_text lengths b k i c) e) l.ahead).0

    module _ (h : i < n) (p : FlatEpoch) (q : p ≡ entry_at b i) where
      one_more : n - i ≡ suc (n - (i + 1))
      one_more = omega arith

      stepped : Turn lengths b (n - (i + 1)) i c
      stepped = turn lengths b (n - (i + 1)) i c (subst (λ (k : ℕ). EpochsReady lengths b k i c) one_more l.ready)

      abbrev first_text : FlatEpoch → List ℕ
      first_text y = normal_epoch (epoch_from lengths (rows_alone b) y c)

      -- the first of them, and those behind it
      split_text : epochs_text lengths b (n - i) i c ≡ first_text p ++ epochs_text lengths b (n - (i + 1)) (i + 1) (epoch_next lengths (rows_alone b) p c)
      split_text =
          ap (λ (k : ℕ). epochs_text lengths b k i c) one_more
          ∙ (text_more lengths b (n - (i + 1)) i c ∙ ap (λ (y : FlatEpoch). first_text y ++ epochs_text lengths b (n - (i + 1)) (i + 1) (epoch_next lengths (rows_alone b) y c)) (sym q))

      pub epochs_first : EpochReady lengths (rows_alone b) p c × (to + length (first_text p) ≤ at + length (epochs_text lengths b n 0 start))
      epochs_first =
          (subst (λ (y : FlatEpoch). EpochReady lengths (rows_alone b) y c) (sym q) stepped.first, some_room x o to at _ (first_text p) _ _ split_text l.ahead)

      pub epochs_more : (y : List ℕ) (r : ℕ) (d : Untaken) → y ≡ sets x to (first_text p) → r ≡ to + length (first_text p) → d ≡ epoch_next lengths (rows_alone b) p c → Left lengths b n start o at y (i + 1) r d
      epochs_more y r d e f g =
          let rest : Untaken → List ℕ = λ u. epochs_text lengths b (n - (i + 1)) (i + 1) u in
          let u : d ≡ next lengths b (n - (i + 1)) i c = g ∙ ap (λ (z : FlatEpoch). epoch_next lengths (rows_alone b) z c) q in
          let v : epochs_text lengths b (n - i) i c ≡ first_text p ++ rest d = split_text ∙ ap (λ (z : Untaken). first_text p ++ rest z) (sym g) in
          record {
            ready = subst (EpochsReady lengths b (n - (i + 1)) (i + 1)) (sym u) stepped.rest;
            ahead = some_put x o to at _ (first_text p) (rest d) _ v l.ahead y r e f;
          }
