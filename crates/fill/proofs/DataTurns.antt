-- The data's second pass, one line at a time: what an accepted line gives, what it leaves, and the lines that are left end alike. Assumes nothing.
use Prim.Native.Nat.{ℕ, ◌+◌, ◌≤◌, ◌<◌}
use mathlib.Core.Path.{◌≡◌, refl, sym, subst, ◌∙◌}
use mathlib.Core.Bool.{Bool, true, false, cond}
use mathlib.Core.List.{List, ◌∷◌}
use native.Mathlib.Omega.{arith}
use lib.Dec.{eqb}
use lib.IntN.{ℤ}
use lib.ListN.{length, drop}
use borrow.Author.Tests.{eqb-true}
use Rattle.lists.proofs.Bools.{never}
use Rattle.line.specs.Text.{Line, Raw, split, raw}
use Rattle.find_line.specs.Promises.{LineEnds, between}
use Rattle.find_line.proofs.Finding.{over_line, line_there}
use Rattle.rinex.specs.Tables.{Buffers}
use Rattle.rinex.specs.Tables as tables
use Rattle.rinex.specs.Tests.{system_at, flag_at, is_event}
use Rattle.rinex.specs.Refusals.{Verdict, accepted, refused, refusal1, refusal2}
use Rattle.state.specs.declared.Room.{Room}
use Rattle.state.specs.declared.State.{State}
use Rattle.state.specs.declared.Stage.{Stage}
use Rattle.state.specs.declared.Stage.TheVariants as stages
use Rattle.state.specs.Judge.{in_heading, fault_at, next_at, after_event, after_observed, after_row, after_line, table_at, seen_at, raw_fault, judged}
use Rattle.judge.specs.Step.{DataSane, Sized, Roomy, Runs}
use Rattle.judge.proofs.Stages.{no_fault, fault_row, RowFine, row_fine, roomy, data_sane}
use Rattle.fill.specs.Fill.{epoch_put, row_put, line_put, put_at, filled_from}
use Rattle.rinex.specs.Lent.{buffers}
use Rattle.judge.specs.Reached.{EndsAt}
use Rattle.fill_entries.specs.Entries.{EpochStored, RowStored}
use Rattle.fill.specs.Filling.{Puttable}
use Rattle.fill.proofs.Puts.{same}

-- AN ACCEPTED LINE has no fault, and the lines behind it are accepted
chosen : (n k : ℕ) (x : Verdict) (u : tables.Counts) → cond (eqb n 0) x (refused n k) ≡ accepted u → (n ≡ 0) × (x ≡ accepted u)
chosen n k x u h = at (eqb n 0) refl h
  where
    at : (b : Bool) → eqb n 0 ≡ b → cond b x (refused n k) ≡ accepted u → (n ≡ 0) × (x ≡ accepted u)
    at true e p = (eqb-true n 0 e, p)
    at false e p = let z : ◌≡◌ {A = ℕ} 0 1 = cc in absurd (omega arith)

accepted_next : (r : Room) (c : State) (table seen : List ℕ) (k : ℕ) (w : Raw) (ws : List Raw) (u : tables.Counts) → judged r c table seen k (w ∷ ws) ≡ accepted u
    → (raw_fault r c table seen w ≡ 0)
    × (judged r (next_at c.stage c w.bytes) (table_at c.stage c w.bytes table) (seen_at c.stage c w.bytes seen) (k + 1) ws ≡ accepted u)
unfolding judged
accepted_next r c table seen k w ws u h = chosen (raw_fault r c table seen w) k _ u h

-- WHAT FAULTLESSNESS GIVES
pub record Spared (r : Room) (c : State) (table seen : List ℕ) (w : Raw) : Type 0 where
  pub sound : refusal1 w ≡ false
  pub short : refusal2 w.bytes ≡ false
  pub fine : fault_at c.stage r c table seen w.bytes ≡ 0

spared : (r : Room) (c : State) (table seen : List ℕ) (w : Raw) → raw_fault r c table seen w ≡ 0 → Spared r c table seen w
unfolding raw_fault
spared r c table seen w h =
    let p = no_fault (refusal1 w) 0 _ h in
    let q = no_fault (refusal2 w.bytes) 1 _ p.1 in
    record { sound = p.0; short = q.0; fine = q.1 }

-- THE NEXT STATE has at most 64 slots more
module _ (c : State) (l : List ℕ) (s : DataSane c) where
  epoch_slots : (b : Bool) → (cond b (after_event c l) (after_observed c l)).used.slots ≤ c.used.slots + 64
  unfolding after_event after_observed
  epoch_slots true = omega arith
  epoch_slots false = omega arith

  slots_at : (n : Stage) → in_heading n ≡ false → (next_at n c l).used.slots ≤ c.used.slots + 64
  unfolding next_at after_row after_line
  slots_at stages.Version h = absurd (never (sym h))
  slots_at stages.Record h = absurd (never (sym h))
  slots_at stages.Continuation h = absurd (never (sym h))
  slots_at stages.Epoch h = epoch_slots (is_event (flag_at l))
  slots_at stages.Row h = omega (arith, s.few (system_at l))
  slots_at stages.Event h = omega arith

-- LINES THAT ARE ACCEPTED
module _ (t : List ℕ) (c : State) (a : ℕ) (q : Runs t c a) where
  taken_as : (w : Raw) (ws : List Raw) → split (drop a t) ≡ w ∷ ws → judged q.room c q.table q.seen q.line (w ∷ ws) ≡ accepted q.counts
  taken_as w ws e = subst (λ (x : List Raw). judged q.room c q.table q.seen q.line x ≡ accepted q.counts) e q.taken

  spared_here : (w : Raw) (ws : List Raw) → split (drop a t) ≡ w ∷ ws → Spared q.room c q.table q.seen w
  spared_here w ws e = spared q.room c q.table q.seen w (accepted_next q.room c q.table q.seen q.line w ws q.counts (taken_as w ws e)).0

  -- the line that comes first ends there
  pub runs_ends : (e : ℕ) → a < length t → EndsAt t a e → LineEnds t a e × Line (between a e t)
  runs_ends e h f =
      let p = line_there t a h in
      let s = spared_here p.0 p.1 p.2 in
      f p.0 p.1 p.2 s.sound s.short

  module _ (e : ℕ) (f : LineEnds t a e) where
    fine_here : fault_at c.stage q.room c q.table q.seen (between a e t) ≡ 0
    fine_here = (spared_here (raw (between a e t)) (split (drop (e + 1) t)) f.lines).fine

    pub runs_roomy : Roomy c (between a e t)
    runs_roomy =
        let sized : Sized q.room = q.sized in
        roomy q.room c q.table q.seen (between a e t) sized q.sane fine_here

    row_here : c.stage ≡ stages.Row → RowFine q.room c q.seen (between a e t)
    row_here x = row_fine q.room c q.seen (between a e t) (sym (fault_row q.room c q.table q.seen (between a e t) x) ∙ fine_here)

    pub runs_puttable : Puttable c (between a e t)
    runs_puttable =
        record {
          stage = q.sane.stage;
          seven = q.sane.seven;
          few = q.sane.few (system_at (between a e t));
          slots = omega (arith, q.few_slots, q.inside, q.short);
          satellite = λ x. (row_here x).satellite;
          fit = λ x. (row_here x).slots;
          carried = runs_roomy.carried;
        }

    pub runs_next : (d : State) → d ≡ next_at c.stage c (between a e t) → Runs t d (e + 1)
    runs_next d p =
        subst (λ (x : State). Runs t x (e + 1)) (sym p)
        (record {
          room = q.room;
          table = _;
          seen = _;
          line = q.line + 1;
          counts = q.counts;
          taken =
              (accepted_next q.room c q.table q.seen q.line (raw (between a e t)) (split (drop (e + 1) t)) q.counts
              (taken_as (raw (between a e t)) (split (drop (e + 1) t)) f.lines)).1;
          sane = data_sane c (between a e t) q.sane;
          inside = omega (arith, f.within);
          short = q.short;
          few_slots = omega (arith, slots_at c (between a e t) q.sane c.stage q.sane.stage, q.few_slots, f.from);
          sized = q.sized;
        })

-- WHAT A LINE LEAVES, by its stage
as_stage : (c : State) (l : List ℕ) (b x : Buffers) (n : Stage) → c.stage ≡ n → x ≡ put_at n c l b → x ≡ put_at c.stage c l b
as_stage c l b x n e p = subst (λ (m : Stage). x ≡ put_at m c l b) (sym e) p

module _ (c : State) (l : List ℕ) (b : Buffers) where
  pub put_epoch_lem : (t' ts' f' n' : List ℕ) (k' : List ℤ) (ks' : List ℕ) → c.stage ≡ stages.Epoch
      → EpochStored c l b.times t' b.time_states ts' b.flags f' b.counts n' b.clocks k' b.clock_states ks'
      → buffers b.codes t' ts' f' n' k' ks' b.satellites b.numbers b.states b.losses b.strengths b.carried ≡ put_at c.stage c l b
  unfolding put_at epoch_put
  put_epoch_lem t' ts' f' n' k' ks' e p =
      as_stage c l b _ stages.Epoch e
      (same _ _
      (record {
        codes = refl;
        times = p.times_are;
        time_states = p.states_are;
        flags = p.flags_are;
        counts = p.counts_are;
        clocks = p.clocks_are;
        clock_states = p.clock_states_are;
        satellites = refl;
        numbers = refl;
        states = refl;
        losses = refl;
        strengths = refl;
        carried = refl;
      }))

  pub put_row : (s' : List ℕ) (x' : List ℤ) (xs' l' m' : List ℕ) → c.stage ≡ stages.Row
      → RowStored c l b.satellites s' b.numbers x' b.states xs' b.losses l' b.strengths m'
      → buffers b.codes b.times b.time_states b.flags b.counts b.clocks b.clock_states s' x' xs' l' m' b.carried ≡ put_at c.stage c l b
  unfolding put_at row_put
  put_row s' x' xs' l' m' e p =
      as_stage c l b _ stages.Row e
      (same _ _
      (record {
        codes = refl;
        times = refl;
        time_states = refl;
        flags = refl;
        counts = refl;
        clocks = refl;
        clock_states = refl;
        satellites = p.satellites_are;
        numbers = p.numbers_are;
        states = p.states_are;
        losses = p.losses_are;
        strengths = p.strengths_are;
        carried = refl;
      }))

  pub put_carried : (r' : List ℕ) → c.stage ≡ stages.Event → r' ≡ (line_put c l b).carried
      → buffers b.codes b.times b.time_states b.flags b.counts b.clocks b.clock_states b.satellites b.numbers b.states b.losses b.strengths r' ≡ put_at c.stage c l b
  unfolding put_at line_put
  put_carried r' e p =
      as_stage c l b _ stages.Event e
      (same _ _
      (record {
        codes = refl;
        times = refl;
        time_states = refl;
        flags = refl;
        counts = refl;
        clocks = refl;
        clock_states = refl;
        satellites = refl;
        numbers = refl;
        states = refl;
        losses = refl;
        strengths = refl;
        carried = p;
      }))

-- LINE AFTER LINE
pub filled_more : (t : List ℕ) (a e : ℕ) (c d : State) (b x : Buffers) → LineEnds t a e → d ≡ next_at c.stage c (between a e t) → x ≡ put_at c.stage c (between a e t) b
    → filled_from d x (split (drop (e + 1) t)) ≡ filled_from c b (split (drop a t))
unfolding filled_from
filled_more t a e c d b x f p q = rw (f.lines, p, q)

pub filled_over : (t : List ℕ) (a : ℕ) (c : State) (b : Buffers) → length t ≤ a → filled_from c b (split (drop a t)) ≡ b
unfolding filled_from
filled_over t a c b h = rw (over_line t a h)
