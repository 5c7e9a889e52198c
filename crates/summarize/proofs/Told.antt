-- The summary of each reply of reading. Assumes nothing.
use Prim.Native.Nat.{ℕ, zero, suc, ◌-◌, ◌≤◌, ◌<◌}
use mathlib.Core.Path.{◌≡◌, refl, sym, ap, subst, ◌∙◌}
use mathlib.Core.List.{List, map}
use native.Mathlib.Omega.{arith}
use lib.ListN.{length, take, replicate, length-map}
use lib.IntN.{pos}
use lib.Seq.{sets}
use Rattle.rinex.specs.File.{Slot, File}
use Rattle.rinex.specs.Spells.{Spells}
use Rattle.rinex.specs.Tables.{state_of, flag_of, all_rows, all_slots, Counts, counts, Buffers, laid, Room, room, Fits}
use Rattle.rinex.specs.Refusals.{accepted, refused, verdict}
use Rattle.rinex.specs.Lent.{head_of, counts_of, buffers}
use Rattle.rinex.specs.Promises.{Accepts, Refuses, Read}
use Rattle.rinex.specs.Summary.{longest_input, its_room, observed_ones, event_ones, blank_ones, tally_text, accepted_text, refused_text, too_long_text, Summary}
use Rattle.rinex.proofs.Agree.{agree}
use Rattle.rinex.proofs.Forms.{file_form}
use Rattle.read_reply.specs.declared.Reply.{Reply}
use Rattle.reader.specs.Reading.{Reads, reply_of}
use Rattle.summarize.specs.Count.{belows}
use Rattle.summarize.proofs.Counting.{observed_counted, events_rest, blank_counted}
use Rattle.summary_text.specs.Said.{Says}
use Rattle.summary_text.specs.declared.SummaryText.{SummaryText}
use Rattle.summarize.specs.Summarizes.{Summarizes}
use Rattle.lists.proofs.Apart.{stores_there}

pub told_long : (t out : List ℕ) → longest_input < length t → out ≡ too_long_text → Summary t out
told_long t out h e = record { short = λ m. absurd (omega (arith, h, m)); long = λ m. e }

pub long_told : (t : List ℕ) (r : SummaryText) → Says too_long_text r → longest_input < length t → Summarizes t r
long_told t r s h = record { summary = told_long t _ h s.is; whole = s.whole }

-- the tables that are lent
abbrev pub lent : Buffers
lent = buffers (replicate 448 0) (replicate 256 0) (replicate 256 0) (replicate 256 0) (replicate 256 0) (replicate 256 (pos 0)) (replicate 256 0) (replicate 512 0) (replicate 2048 (pos 0)) (replicate 2048 0) (replicate 2048 0) (replicate 2048 0) (replicate 4096 0)

lent_room : room lent ≡ its_room
unfolding room
lent_room = refl

-- the text of some counts and tables
abbrev tally_of : Counts → Buffers → List ℕ
tally_of n b =
    let epochs = belows 2 (take n.epochs b.flags) in
    tally_text epochs (n.epochs - epochs) n.rows n.slots (belows 1 (take n.slots b.states))

-- the numbers of the summary, counted in the tables of a file
module _ (t : List ℕ) (f : File) (s : Spells t f) (b : Buffers) (flags-fit : length f.epochs ≤ length b.flags) (states-fit : length (all_slots (all_rows f.epochs)) ≤ length b.states) where
  observed_in : belows 2 (take (length f.epochs) (laid f b).flags) ≡ observed_ones f.epochs
  unfolding laid
  observed_in =
      let fs = map flag_of f.epochs in
      let n : length fs ≡ length f.epochs = length-map f.epochs flag_of in
      let p : take (length f.epochs) (sets b.flags 0 fs) ≡ fs = subst (λ (k : ℕ). take k (sets b.flags 0 fs) ≡ fs) n (stores_there b.flags 0 fs (rw n (omega (arith, flags-fit)))) in
      ap (λ (x : List ℕ). belows 2 x) p ∙ observed_counted f.head.lists f.epochs (file_form t f s).epochs

  blank_in : belows 1 (take (length (all_slots (all_rows f.epochs))) (laid f b).states) ≡ blank_ones (all_slots (all_rows f.epochs))
  unfolding laid
  blank_in =
      let ss = all_slots (all_rows f.epochs) in
      let fs = map (λ (x : Slot). state_of x.value) ss in
      let n : length fs ≡ length ss = length-map ss (λ (x : Slot). state_of x.value) in
      let p : take (length ss) (sets b.states 0 fs) ≡ fs = subst (λ (k : ℕ). take k (sets b.states 0 fs) ≡ fs) n (stores_there b.states 0 fs (rw n (omega (arith, states-fit)))) in
      ap (λ (x : List ℕ). belows 1 x) p ∙ blank_counted ss

  events_in : length f.epochs - observed_ones f.epochs ≡ event_ones f.epochs
  events_in = omega (arith, events_rest f.epochs)

  tallied : tally_of (counts f) (laid f b) ≡ accepted_text f
  unfolding counts
  tallied = rw (observed_in, blank_in, events_in)

-- what reading into these tables has answered
module _ (t : List ℕ) (after : Buffers) (r : Reply) (short : length t ≤ longest_input) (q : Reads t lent after r) where
  turned : (r.number ≡ 0 → ⊥) → Refuses t lent after r.number r.line
  turned h = go r.number h q.promise
    where
      go : (n : ℕ) → (n ≡ 0 → ⊥) → Read t lent after (reply_of n r) → Refuses t lent after n r.line
      go zero h p = absurd (h refl)
      go (suc n) h p = p

  pub told_refused : (out : List ℕ) → (r.number ≡ 0 → ⊥) → out ≡ refused_text r.number r.line → Summary t out
  told_refused out h e =
      let v : verdict its_room t ≡ refused r.number r.line = subst (λ (x : Room). verdict x t ≡ refused r.number r.line) lent_room (turned h).which in
      record { short = λ m. rw v e; long = λ m. absurd (omega (arith, short, m)) }

  module _ (z : r.number ≡ 0) where
    abbrev taken : Accepts t lent after (head_of r.head) (counts_of r.counts)
    taken = subst (λ (n : ℕ). Read t lent after (reply_of n r)) z q.promise

    fits : Fits its_room taken.file
    fits = subst (λ (x : Room). Fits x taken.file) lent_room taken.fits

    pub epochs_few : r.counts.epochs ≤ 256
    epochs_few = subst (λ (n : Counts). n.epochs ≤ 256) (sym taken.lengths) fits.epochs

    pub slots_few : r.counts.slots ≤ 2048
    slots_few = subst (λ (n : Counts). n.slots ≤ 2048) (sym taken.lengths) fits.slots

    tallied_as : accepted_text taken.file ≡ tally_of (counts_of r.counts) after
    unfolding counts
    tallied_as =
        let f = taken.file in
        sym (tallied t f taken.spells lent fits.epochs fits.slots) ∙ sym (ap (λ (n : Counts). tally_of n after) taken.lengths ∙ ap (λ (b : Buffers). tally_of (counts f) b) taken.entries)

    pub told_taken : (out : List ℕ) (epochs blank : ℕ) → epochs ≡ belows 2 (take r.counts.epochs after.flags) → blank ≡ belows 1 (take r.counts.slots after.states)
        → out ≡ tally_text epochs (r.counts.epochs - epochs) r.counts.rows r.counts.slots blank → Summary t out
    told_taken out epochs blank x y e =
        let w : out ≡ tally_of (counts_of r.counts) after = rw (x, y) at e in
        let f = taken.file in
        let v : verdict its_room t ≡ accepted (counts f) = agree.complete its_room t f taken.size taken.spells fits in
        record { short = λ m. rw v (f, taken.spells, w ∙ sym tallied_as); long = λ m. absurd (omega (arith, short, m)) }
