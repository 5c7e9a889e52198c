-- The line at a cursor: its fault by what `find` answers, and a step over it. Assumes nothing.
use Prim.Native.Nat.{ℕ, ◌+◌}
use mathlib.Core.Path.{◌≡◌, refl, sym, ap, ◌∙◌}
use mathlib.Core.Bool.{Bool, true, false, cond}
use mathlib.Core.List.{List, ◌∷◌}
use native.Mathlib.Omega.{arith}
use borrow.Author.Tests.{lt-ltb, le-ltb}
use lib.ListN.{length, drop}
use Rattle.lists.proofs.Bools.{never}
use Rattle.lists.proofs.Lists.{cons_same, cons_nil}
use Rattle.line.specs.Text.{widest, Line, Raw, split, raw}
use Rattle.find_line.specs.Promises.{between, LineEnds, Finds}
use Rattle.find_line.specs.declared.Found.TheVariants.{Over, Faulty, Long, Ends}
use Rattle.find_line.proofs.Finding.{length_between}
use Rattle.rinex.specs.Refusals.{refusal1, refusal2}
use Rattle.state.specs.declared.Room.{Room}
use Rattle.state.specs.declared.State.{State}
use Rattle.judge.specs.declared.Cursor.{Cursor}
use Rattle.std.specs.Prelude.{Result, Ok, Err}
use Rattle.std.specs.Result.{result_unwrap_or}
use Rattle.state.specs.declared.fault.LineFault.{LineFault}
use Rattle.state.specs.declared.fault.LineFault.TheVariants.{OtherByte, TooWide}
use Rattle.state.specs.declared.Stage.{Stage}
use Rattle.state.specs.declared.Stage.TheVariants as stages
use Rattle.state.specs.Faults.{refusal_number}
use Rattle.state.proofs.Numbers.{some_number}
use Rattle.state.specs.Judge.{in_heading, raw_fault, fault_at, next_at, table_at, seen_at}
use Rattle.judge.specs.Reached.{own_fault, EndsAt, Reaches}
use Rattle.judge.specs.Step.{Stepped}

module _ (r : Room) (c : State) (table seen : List ℕ) where
  -- a line that may stand in a text
  pub line_fault_is : (l : List ℕ) → Line l → raw_fault r c table seen (raw l) ≡ fault_at c.stage r c table seen l
  unfolding raw_fault refusal1 refusal2
  line_fault_is l h = rw (h.plain, le-ltb widest (length l) h.width)

  -- a fault that a line has by itself comes first
  own_fault_is : (w : Raw) → (own_fault w ≡ 0 → ⊥) → raw_fault r c table seen w ≡ own_fault w
  unfolding raw_fault own_fault
  own_fault_is w n = at (refusal1 w) (refusal2 w.bytes) n
    where
      at : (a b : Bool) → (◌≡◌ {A = ℕ} (cond a 1 (cond b 2 0)) 0 → ⊥) → cond a 1 (cond b 2 (fault_at c.stage r c table seen w.bytes)) ≡ cond a 1 (cond b 2 0)
      at true b n = refl
      at false true n = refl
      at false false n = absurd (n refl)

-- behind the header the table of codes stays
pub table_stays : (c : State) (l table : List ℕ) → in_heading c.stage ≡ false → table_at c.stage c l table ≡ table
unfolding table_at
table_stays c l table h = go c.stage h
  where
    go : (n : Stage) → in_heading n ≡ false → table_at n c l table ≡ table
    go stages.Version h = refl
    go stages.Record h = absurd (never (sym h))
    go stages.Continuation h = absurd (never (sym h))
    go stages.Epoch h = refl
    go stages.Row h = refl
    go stages.Event h = refl

-- the first line is the one that was found
module _ (t : List ℕ) (a e : ℕ) (f : LineEnds t a e) (w : Raw) (ws : List Raw) (h : split (drop a t) ≡ w ∷ ws) where
  pub first_is : w ≡ raw (between a e t)
  first_is = sym (cons_same (sym f.lines ∙ h)).0

  rest_is : split (drop (e + 1) t) ≡ ws
  rest_is = (cons_same (sym f.lines ∙ h)).1

-- a line that refusals 1 and 2 spare
pub own_none : (w : Raw) → refusal1 w ≡ false → refusal2 w.bytes ≡ false → own_fault w ≡ 0
unfolding own_fault
own_none w x y = rw (x, y)

-- the line at a place, by what is found there
module _ (t : List ℕ) (a e : ℕ) where
  pub reaches_end : Finds t a (Ends e) → Reaches t a (Ok e)
  unfolding refusal1 refusal2
  reaches_end f =
      let l = f.1 in
      let None : own_fault (raw (between a e t)) ≡ 0 = own_none (raw (between a e t)) (rw l.plain) (le-ltb widest (length (between a e t)) l.width) in
      record { fault = λ w ws h. sym (ap own_fault (first_is t a e f.0 w ws h) ∙ None); ends = f }

  pub reaches_long : Finds t a (Long e) → Reaches t a (Err TooWide)
  unfolding own_fault refusal1 refusal2
  reaches_long f =
      let two : own_fault (raw (between a e t)) ≡ 2 = rw (f.1, lt-ltb widest (length (between a e t)) f.2) in
      record { fault = λ w ws h. sym (ap own_fault (first_is t a e f.0 w ws h) ∙ two); ends = tt }

module _ (t : List ℕ) (a : ℕ) where
  pub reaches_faulty : Finds t a Faulty → Reaches t a (Err OtherByte)
  unfolding own_fault refusal1
  reaches_faulty f =
      let one : own_fault f.line ≡ 1 = rw f.fault in
      record { fault = λ w ws h. sym (ap own_fault (cons_same (sym h ∙ f.lines)).0 ∙ one); ends = tt }

  pub reaches_over : Finds t a Over → Reaches t a (Err OtherByte)
  reaches_over f = record { fault = λ w ws h. absurd (cons_nil w ws (sym h ∙ f)); ends = tt }

-- where a line ends that refusals 1 and 2 spare
pub ends_at : (t : List ℕ) (a d : ℕ) (r : Result ℕ LineFault) → Reaches t a r → EndsAt t a (result_unwrap_or r d)
ends_at t a d (Ok e) q = λ w ws h x y. q.ends
ends_at t a d (Err e) q = λ w ws h x y. absurd (omega (arith, q.fault w ws h, own_none w x y, some_number e))

-- a line that has a fault: nothing is said of what is behind it
pub faulty_step : (r : Room) (t : List ℕ) (c : Cursor) (table table' seen seen' : List ℕ) (w : Raw) (ws : List Raw) (e : LineFault)
    → refusal_number e ≡ raw_fault r c.state table seen w → Stepped r t c table table' seen seen' w ws (Err e)
faulty_step r t c table table' seen seen' w ws e h = record { fault = h; next = tt; table_is = tt; seen_is = tt }

-- it is one that a line has by itself
pub unreached_step : (r : Room) (t : List ℕ) (c : Cursor) (table table' seen seen' : List ℕ) (w : Raw) (ws : List Raw) (e : LineFault)
    → Reaches t c.at (Err e) → split (drop c.at t) ≡ w ∷ ws → Stepped r t c table table' seen seen' w ws (Err e)
unreached_step r t c table table' seen seen' w ws e q h =
    let own = q.fault w ws h in
    faulty_step r t c table table' seen seen' w ws e (own ∙ sym (own_fault_is r c.state table seen w (λ z. omega (arith, own, some_number e, z))))

-- a line that has none
pub fine_step : (r : Room) (t : List ℕ) (c : Cursor) (e : ℕ) (table table' seen seen' : List ℕ) (w : Raw) (ws : List Raw) (n : Cursor)
    → LineEnds t c.at e → Line (between c.at e t) → split (drop c.at t) ≡ w ∷ ws
    → fault_at c.state.stage r c.state table seen (between c.at e t) ≡ 0
    → n.at ≡ e + 1 → n.line ≡ c.line + 1 → n.state ≡ next_at c.state.stage c.state (between c.at e t)
    → table' ≡ table_at c.state.stage c.state (between c.at e t) table
    → seen' ≡ seen_at c.state.stage c.state (between c.at e t) seen
    → Stepped r t c table table' seen seen' w ws (Ok n)
fine_step r t c e table table' seen seen' w ws n f l h fine at line state tab stamps =
    let p : w ≡ raw (between c.at e t) = first_is t c.at e f w ws h in
    let q : w.bytes ≡ between c.at e t = ap (λ (x : Raw). x.bytes) p in
    record {
      fault = sym (ap (raw_fault r c.state table seen) p ∙ (line_fault_is r c.state table seen (between c.at e t) l ∙ fine));
      next =
          record {
            further = omega (arith, at, f.from);
            place = omega (arith, at, f.from, f.within, ap length q, length_between t c.at e f.from (omega (arith, f.within)));
            within = omega (arith, at, f.within);
            line = line;
            state = state ∙ ap (next_at c.state.stage c.state) (sym q);
            rest = ap (λ (i : ℕ). split (drop i t)) at ∙ rest_is t c.at e f w ws h;
          };
      table_is = tab ∙ ap (λ (x : List ℕ). table_at c.state.stage c.state x table) (sym q);
      seen_is = stamps ∙ ap (λ (x : List ℕ). seen_at c.state.stage c.state x seen) (sym q);
    }
