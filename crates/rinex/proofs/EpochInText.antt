-- AN EPOCH ALONE AND IN A TEXT: `specs/Theorems` `EpochInText`. Assumes nothing.
use Prim.Native.Nat.{ℕ}
use mathlib.Core.Path.{◌≡◌, refl, sym, subst}
use mathlib.Core.List.{List, [], ◌∷◌, ◌++◌}
use Rattle.lists.specs.Lists.{All, Each, joined}
use Rattle.lists.proofs.Lists.{all_on, on_all}
use Rattle.line.specs.Text.{text, Line}
use Rattle.rinex.specs.File.{File, Epoch}
use Rattle.rinex.specs.Data.{EpochLines}
use Rattle.rinex.specs.Tables.{FlatEpoch, Buffers}
use Rattle.rinex.specs.Spells.{Spells}
use Rattle.rinex.specs.Promises.{HeaderLists, EpochSpelled}
use Rattle.rinex.specs.Theorems.{EpochInText}
use Rattle.rinex.proofs.FitEpoch.{alone_in_order}

-- a header that has the lists, and the epoch's lines behind it
has : (lengths : List ℕ) (p : FlatEpoch) (b : Buffers) (e : Epoch) (s : EpochSpelled lengths p b e)
    → (t : List ℕ) × (f : File) × Spells t f × (f.head.lists ≡ s.lists) × (f.epochs ≡ e ∷ [])
has lengths p b e s =
    let h = s.header in
    let ls : List (List ℕ) = joined (s.lines ∷ []) in
    let f : File = record { head = h.head; epochs = e ∷ [] } in
    let spells : Spells (text (h.lines ++ ls)) f =
    record {
      header_lines = h.lines;
      data_lines = ls;
      whole = refl;
      lines = on_all Line h.lines ls h.plain (on_all Line s.lines [] s.plain tt);
      header = h.header;
      epochs =
          record {
            groups = s.lines ∷ [];
            lines = refl;
            epochs = (subst (λ (x : List (List (List ℕ))). EpochLines x s.lines e) h.same s.spells, tt);
            order = alone_in_order e;
          };
    } in
    (text (h.lines ++ ls), f, spells, sym h.same, refl)

-- the lines of an epoch, among those of others
pick : (lists : List (List (List ℕ))) (xs ys : List Epoch) (e : Epoch) (gs : List (List (List ℕ))) → Each (EpochLines lists) gs (xs ++ (e ∷ ys)) → All Line (joined gs)
    → (ls : List (List ℕ)) × EpochLines lists ls e × All Line ls
pick lists [] ys e [] p a = absurd p
pick lists [] ys e (g ∷ gs) p a = (g, p.0, (all_on Line g (joined gs) a).0)
pick lists (x ∷ xs) ys e [] p a = absurd p
pick lists (x ∷ xs) ys e (g ∷ gs) p a = pick lists xs ys e gs p.1 (all_on Line g (joined gs) a).1

had : (t : List ℕ) (f : File) (xs ys : List Epoch) (e : Epoch) → Spells t f → f.epochs ≡ xs ++ (e ∷ ys)
    → HeaderLists f.head.lists × (ls : List (List ℕ)) × EpochLines f.head.lists ls e × All Line ls
had t f xs ys e s q =
    let a = all_on Line s.header_lines s.data_lines s.lines in
    let d = s.epochs in
    let each : Each (EpochLines f.head.lists) d.groups (xs ++ (e ∷ ys)) = subst (Each (EpochLines f.head.lists) d.groups) q d.epochs in
    let plain : All Line (joined d.groups) = subst (All Line) d.lines a.1 in
    let r = pick f.head.lists xs ys e d.groups each plain in
    (record { lines = s.header_lines; head = f.head; header = s.header; plain = a.0; same = refl }, r.0, r.1, r.2)

pub epoch_in_text : EpochInText
epoch_in_text = record { has = has; had = had }
