-- The loop over the data's lines: what is left of the text is judged as the whole. Assumes nothing.
use Prim.Native.Nat.{ℕ, ◌+◌, ◌-◌, ◌≤◌, ◌<◌}
use mathlib.Core.Path.{◌≡◌, refl, sym, ap, ◌∙◌, subst}
use mathlib.Core.List.{List, ◌∷◌}
use native.Mathlib.Omega.{arith}
use borrow.Author.Tests.{ne_eqb}
use lib.ListN.{length, length-set, drop, drop_of_length-le}
use Rattle.line.specs.Text.{Raw, split}
use Rattle.find_line.proofs.Finding.{line_there}
use Rattle.rinex.specs.Refusals.{refused, name_at}
use Rattle.state.specs.declared.Room.{Room}
use Rattle.judge.specs.declared.Cursor.{Cursor}
use Rattle.std.specs.Prelude.{Ok, Err}
use Rattle.state.specs.declared.fault.LineFault.{LineFault}
use Rattle.state.specs.Faults.{refusal_number}
use Rattle.state.specs.declared.State.{State}
use Rattle.state.specs.declared.Stage.{Stage}
use Rattle.state.specs.declared.Stage.TheVariants as stages
use Rattle.state.specs.Judge.{judged, ending_at, raw_fault, table_at, seen_at, none_seen}
use Rattle.judge.specs.Step.{DataSane, Sized, Stepped, Behind}
use Rattle.state.proofs.Numbers.{some_number}
use Rattle.judge.proofs.Stages.{data_sane}

module _ (r : Room) (table : List ℕ) where
  pub judged_fault : (t : List ℕ) (c : Cursor) (seen : List ℕ) (w : Raw) (ws : List Raw) (n : ℕ) → split (drop c.at t) ≡ w ∷ ws
      → n ≡ raw_fault r c.state table seen w → (n ≡ 0 → ⊥) → judged r c.state table seen c.line (split (drop c.at t)) ≡ refused n c.line
  unfolding judged
  judged_fault t c seen w ws n h e z = rw (h, ← e, ne_eqb n 0 z)

pub judged_step : (r : Room) (t : List ℕ) (c d : Cursor) (table table' seen seen' : List ℕ) (w : Raw) (ws : List Raw) → split (drop c.at t) ≡ w ∷ ws
    → raw_fault r c.state table seen w ≡ 0 → Behind t c w ws d
    → table' ≡ table_at c.state.stage c.state w.bytes table → seen' ≡ seen_at c.state.stage c.state w.bytes seen
    → judged r d.state table' seen' d.line (split (drop d.at t)) ≡ judged r c.state table seen c.line (split (drop c.at t))
unfolding judged
judged_step r t c d table table' seen seen' w ws h e b g f = rw (h, e, b.rest, b.state, b.line, f, g)

-- less is left behind a line without a fault
pub step_less : (r : Room) (t : List ℕ) (c : Cursor) (table table' seen seen' : List ℕ) (n : Cursor) → c.at < length t
    → ((w : Raw) (ws : List Raw) → split (drop c.at t) ≡ w ∷ ws → Stepped r t c table table' seen seen' w ws (Ok n))
    → length t - n.at < length t - c.at
step_less r t c table table' seen seen' n h f =
    let p = line_there t c.at h in
    let b = (f p.0 p.1 p.2).next in
    omega (arith, b.further, b.within)

-- the stamps keep their number
seen_long : (k : Stage) (c : State) (l seen : List ℕ) → length (seen_at k c l seen) ≡ length seen
unfolding seen_at
seen_long stages.Version c l seen = refl
seen_long stages.Record c l seen = refl
seen_long stages.Continuation c l seen = refl
seen_long stages.Epoch c l seen = refl
seen_long stages.Row c l seen = length-set seen (name_at l) c.used.epochs
seen_long stages.Event c l seen = refl

-- the invariant
pub record Loop (t : List ℕ) (r : Room) (from : Cursor) (seen : List ℕ) (c : Cursor) : Type 0 where
  pub sane : DataSane c.state
  pub stamps : length seen ≡ 700
  pub at : c.at ≤ length t
  pub line : c.line ≤ c.at + 1
  pub sized : Sized r
  pub same : (table : List ℕ) → judged r c.state table seen c.line (split (drop c.at t)) ≡ judged r from.state table none_seen from.line (split (drop from.at t))

pub loop_on : (t : List ℕ) (r : Room) (from : Cursor) (seen seen' : List ℕ) (c n : Cursor) → Loop t r from seen c → c.at < length t
    → ((table : List ℕ) (w : Raw) (ws : List Raw) → split (drop c.at t) ≡ w ∷ ws → Stepped r t c table table seen seen' w ws (Ok n))
    → Loop t r from seen' n
loop_on t r from seen seen' c n l h f =
    let p = line_there t c.at h in
    let g = f seen p.0 p.1 p.2 in
    let b = g.next in
    record {
      sane = subst DataSane (sym b.state) (data_sane c.state p.0.bytes l.sane);
      stamps = ap length g.seen_is ∙ (seen_long c.state.stage c.state p.0.bytes seen ∙ l.stamps);
      at = b.within;
      line = omega (arith, b.line, b.further, l.line);
      sized = l.sized;
      same = λ table.
          let k = f table p.0 p.1 p.2 in
          judged_step r t c n table table seen seen' p.0 p.1 p.2 (sym k.fault) k.next k.table_is k.seen_is ∙ l.same table;
    }

pub loop_fault : (t : List ℕ) (r : Room) (from : Cursor) (seen seen' : List ℕ) (c : Cursor) (e : LineFault) → Loop t r from seen c → c.at < length t
    → ((table : List ℕ) (w : Raw) (ws : List Raw) → split (drop c.at t) ≡ w ∷ ws → Stepped r t c table table seen seen' w ws (Err e))
    → (table : List ℕ) → judged r from.state table none_seen from.line (split (drop from.at t)) ≡ refused (refusal_number e) c.line
loop_fault t r from seen seen' c e l h f table =
    let p = line_there t c.at h in
    sym (l.same table) ∙ judged_fault r table t c seen p.0 p.1 (refusal_number e) p.2 (f table p.0 p.1 p.2).fault (λ z. omega (arith, some_number e, z))

pub loop_end : (t : List ℕ) (r : Room) (from : Cursor) (seen : List ℕ) (c : Cursor) → Loop t r from seen c → length t ≤ c.at
    → (table : List ℕ) → judged r from.state table none_seen from.line (split (drop from.at t)) ≡ ending_at c.state.stage c.state c.line
unfolding judged split
loop_end t r from seen c l h table = sym (l.same table) ∙ rw (drop_of_length-le t h)
