-- TABLES INTO WHICH A FILE IS LAID HOLD IT. Assumes nothing.
use Prim.Native.Nat.{◌≤◌, min}
use mathlib.Core.Path.{◌≡◌, refl, sym, subst}
use mathlib.Core.List.{List, map}
use native.Mathlib.Omega.{arith}
use lib.ListN.{length, length-map}
use lib.Seq.{sets, length-sets}
use Rattle.rinex.specs.File.{Slot, Epoch, File, satellite}
use Rattle.rinex.specs.Tables.{state_of, number_of, signed_of, mark_of, time_of, flag_of, count_of, clock_of, all_rows, all_slots, carried_bytes, flat_head, counts, Buffers, laid_codes, laid, Room, room, Fits, Hold}
use Rattle.rinex.proofs.Forms.{FileForm}
use Rattle.rinex.proofs.Lent.{part_sets}
use Rattle.rinex.proofs.LentLists.{codes_laid, laid_lie, length_laid}
use Rattle.lists.proofs.Apart.{stores_there}

module _ {A : Type 0} (b xs : List A) where
  -- to store again what is stored changes nothing
  sets_again : length xs ≤ length b → sets (sets b 0 xs) 0 xs ≡ sets b 0 xs
  sets_again h = part_sets (sets b 0 xs) xs 0 (omega (arith, length-sets b 0 xs)) (stores_there b 0 xs (omega arith))

column_again : {A B : Type 0} (b : List A) (g : B → A) (xs : List B) → length xs ≤ length b → sets (sets b 0 (map g xs)) 0 (map g xs) ≡ sets b 0 (map g xs)
column_again b g xs h = sets_again b (map g xs) (simp length-map h)

module _ (f : File) (b : Buffers) where
  -- the room stays
  room_laid : room (laid f b) ≡ room b
  unfolding laid room
  room_laid =
      let es : List Epoch = f.epochs in
      let ss : List Slot = all_slots (all_rows f.epochs) in
      let q1 = length_laid f.head.lists 0 b.codes in
      let q2 = length-sets b.times 0 (map (λ (e : Epoch). number_of (time_of e)) es) in
      let q3 = length-sets b.time_states 0 (map (λ (e : Epoch). state_of (time_of e)) es) in
      let q4 = length-sets b.flags 0 (map flag_of es) in
      let q5 = length-sets b.counts 0 (map count_of es) in
      let q6 = length-sets b.clocks 0 (map (λ (e : Epoch). signed_of (clock_of e)) es) in
      let q7 = length-sets b.clock_states 0 (map (λ (e : Epoch). state_of (clock_of e)) es) in
      let q8 = length-sets b.satellites 0 (map satellite (all_rows es)) in
      let q9 = length-sets b.numbers 0 (map (λ (s : Slot). signed_of s.value) ss) in
      let qa = length-sets b.states 0 (map (λ (s : Slot). state_of s.value) ss) in
      let qb = length-sets b.losses 0 (map (λ (s : Slot). mark_of s.loss) ss) in
      let qc = length-sets b.strengths 0 (map (λ (s : Slot). mark_of s.strength) ss) in
      let qd = length-sets b.carried 0 (carried_bytes f) in
      λ i. record {
        codes = q1 i;
        epochs = min (q2 i) (min (q3 i) (min (q4 i) (min (q5 i) (min (q6 i) (q7 i)))));
        rows = q8 i;
        slots = min (q9 i) (min (qa i) (min (qb i) (qc i)));
        carried = qd i;
      }

  laid_again : FileForm f → Fits (room b) f → laid f (laid f b) ≡ laid f b
  unfolding laid room counts
  laid_again form fits =
      let es : List Epoch = f.epochs in
      let ss : List Slot = all_slots (all_rows f.epochs) in
      let m = fits.epochs in
      let k = fits.slots in
      let head = form.head in
      let p1 = codes_laid f.head.letter (laid_codes 0 f.head.lists b.codes) f.head.lists 0 0 refl
      (laid_lie f.head.letter b.codes f.head.lists head.systems head.lists fits.codes) in
      let p2 = column_again b.times (λ (e : Epoch). number_of (time_of e)) es (omega (arith, m)) in
      let p3 = column_again b.time_states (λ (e : Epoch). state_of (time_of e)) es (omega (arith, m)) in
      let p4 = column_again b.flags flag_of es (omega (arith, m)) in
      let p5 = column_again b.counts count_of es (omega (arith, m)) in
      let p6 = column_again b.clocks (λ (e : Epoch). signed_of (clock_of e)) es (omega (arith, m)) in
      let p7 = column_again b.clock_states (λ (e : Epoch). state_of (clock_of e)) es (omega (arith, m)) in
      let p8 = column_again b.satellites satellite (all_rows es) fits.rows in
      let p9 = column_again b.numbers (λ (s : Slot). signed_of s.value) ss (omega (arith, k)) in
      let pa = column_again b.states (λ (s : Slot). state_of s.value) ss (omega (arith, k)) in
      let pb = column_again b.losses (λ (s : Slot). mark_of s.loss) ss (omega (arith, k)) in
      let pc = column_again b.strengths (λ (s : Slot). mark_of s.strength) ss (omega (arith, k)) in
      let pd = sets_again b.carried (carried_bytes f) fits.carried in
      λ i. record {
        codes = p1 i;
        times = p2 i;
        time_states = p3 i;
        flags = p4 i;
        counts = p5 i;
        clocks = p6 i;
        clock_states = p7 i;
        satellites = p8 i;
        numbers = p9 i;
        states = pa i;
        losses = pb i;
        strengths = pc i;
        carried = pd i;
      }

  pub laid_holds : FileForm f → Fits (room b) f → Hold (flat_head f.head) (counts f) (laid f b) f
  laid_holds form fits = record { head = refl; lengths = refl; fits = subst (λ (r : Room). Fits r f) (sym room_laid) fits; entries = laid_again form fits }
