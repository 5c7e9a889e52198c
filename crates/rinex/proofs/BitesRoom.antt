-- THE THEOREM OF MORE ROOM BITES: it does not hold of wrong readers, each shown at the paper's example or a damaged form of it, by computation. Assumes nothing.
use Prim.Native.Nat.{ℕ, ◌/◌, ◌≤◌}
use mathlib.Core.Path.{◌≡◌, refl, ap}
use mathlib.Core.Bool.{cond}
use mathlib.Core.List.{List, [], ◌∷◌, ◌++◌, map}
use native.Mathlib.Omega.{arith}
use lib.Dec.{eqb, ltb, leb→le}
use lib.ListN.{length, get_or, set, replicate}
use Rattle.lists.specs.Lists.{bytes}
use Rattle.line.specs.Text.{text, split}
use Rattle.rinex.specs.Tables.{packed, all_rows, all_slots, flat_head, Buffers, laid_codes, laid, Room}
use Rattle.rinex.specs.Refusals.{Verdict, accepted, refused, verdict}
use Rattle.rinex.specs.Promises.{ReadReply, taken, turned_away}
use Rattle.rinex.specs.MoreRoom.{NoLess, NowhereShorter}
use Rattle.rinex.specs.Theorems.{MoreRoom, MoreLent}
use Rattle.rinex.proofs.Examples.{judged_in, header, counted, file}
use Rattle.rinex.proofs.Bites.{lent, example}

-- a room for the example, but for so many codes and rows
abbrev with : (codes rows : ℕ) → Room
with c n = record { codes = c; epochs = 1; rows = n; slots = 3; carried = 0 }

no_less : (c d m n : ℕ) → c ≤ d → m ≤ n → NoLess (with c m) (with d n)
no_less c d m n h k = record { codes = h; epochs = omega arith; rows = k; slots = omega arith; carried = omega arith }

-- what a verdict tells
rows_in : Verdict → ℕ
rows_in (accepted n) = n.rows
rows_in (refused n k) = 0

number_in : Verdict → ℕ
number_in (accepted n) = 0
number_in (refused n k) = n

-- IN A ROOM. A reader that judges right but for what it tells in place of 16
instead : (ℕ → Verdict) → Verdict → Verdict
instead f (accepted n) = accepted n
instead f (refused n k) = cond (eqb n 16) (f k) (refused n k)

-- what has no room is left out, and the text accepted
leaves_out : Room → List ℕ → Verdict
leaves_out r t = instead (λ (k : ℕ). accepted (counted r.epochs r.rows r.slots r.carried)) (verdict r t)

leaves_out_lem : MoreRoom leaves_out → ⊥
unfolding judged_in instead leaves_out rows_in number_in
leaves_out_lem m =
    let e = m.same (with 65 1) (with 65 2) example (no_less 65 65 1 2 (omega arith) (omega arith)) (λ k d. let z : ◌≡◌ {A = ℕ} 0 16 = ap number_in d in omega arith) in
    let z : ◌≡◌ {A = ℕ} 2 1 = ap rows_in e in
    omega arith

-- what has no room is told as a text that is cut short there
cut_short_lent : Room → List ℕ → Verdict
cut_short_lent r t = instead (λ (k : ℕ). refused 14 k) (verdict r t)

cut_short : MoreRoom cut_short_lent → ⊥
unfolding judged_in instead cut_short_lent number_in
cut_short m =
    let e = m.same (with 65 1) (with 65 2) example (no_less 65 65 1 2 (omega arith) (omega arith)) (λ k d. let z : ◌≡◌ {A = ℕ} 14 16 = ap number_in d in omega arith) in
    let z : ◌≡◌ {A = ℕ} 0 14 = ap number_in e in
    omega arith

-- a list is unfit where the table of codes has fewer places than all lists may take
shares_out : Room → List ℕ → Verdict
shares_out r t = cond (ltb r.codes 448) (refused 6 2) (verdict r t)

shares_out_lem : MoreRoom shares_out → ⊥
unfolding judged_in shares_out number_in
shares_out_lem m =
    let e = m.same (with 447 2) (with 448 2) example (no_less 447 448 2 2 (omega arith) (omega arith)) (λ k d. let z : ◌≡◌ {A = ℕ} 6 16 = ap number_in d in omega arith) in
    let z : ◌≡◌ {A = ℕ} 0 6 = ap number_in e in
    omega arith

-- rows are counted in a byte, so that 256 are none
in_a_byte : Room → List ℕ → Verdict
in_a_byte r t = verdict (with r.codes (cond (ltb r.rows 256) r.rows 0)) t

in_a_byte_lem : MoreRoom in_a_byte → ⊥
unfolding judged_in in_a_byte number_in
in_a_byte_lem m =
    let e = m.same (with 65 2) (with 65 256) example (no_less 65 65 2 256 (omega arith) (omega arith)) (λ k d. let z : ◌≡◌ {A = ℕ} 0 16 = ap number_in d in omega arith) in
    let z : ◌≡◌ {A = ℕ} 16 0 = ap number_in e in
    omega arith

-- line 7 needs a row, line 8 has an unfit slot, and there is a line 9
abbrev unfit : List ℕ
unfit = text (map bytes (header ++ ("> 2024 12 31 23 59 30.0000000  0  3" ∷ "R11" ∷ "R12           0.0" ∷ "R13" ∷ [])))

-- 16 is told at the last line, once all are seen
told_last : Room → List ℕ → Verdict
told_last r t = instead (λ (k : ℕ). refused 16 (length (split t))) (verdict r t)

told_last_lem : MoreRoom told_last → ⊥
unfolding judged_in instead told_last
told_last_lem m =
    let h : 9 ≤ 8 = m.no_earlier (with 65 0) (with 65 3) unfit 9 13 8 (no_less 65 65 0 3 (omega arith) (omega arith)) refl refl in
    omega arith

-- IN LENT BUFFERS. A reader of one text alone, by what it leaves and what it tells
abbrev Of : (Buffers → Buffers) → (Buffers → ReadReply) → List ℕ → (before after : Buffers) → ReadReply → Type 0
Of f g t b a r = (a ≡ f b) × (r ≡ g b)

-- the right reply to the example
abbrev right : Buffers → ReadReply
right b = taken (flat_head file.head) (counted 1 2 3 0)

-- the lent buffers, and some more of the codes and of the strengths
wide : Buffers
unfolding lent
wide =
    record {
      codes = replicate 455 7;
      times = lent.times;
      time_states = lent.time_states;
      flags = lent.flags;
      counts = lent.counts;
      clocks = lent.clocks;
      clock_states = lent.clock_states;
      satellites = lent.satellites;
      numbers = lent.numbers;
      states = lent.states;
      losses = lent.losses;
      strengths = replicate 8 7;
      carried = lent.carried;
    }

wider : NowhereShorter lent wide
unfolding lent wide
wider =
    record {
      codes = leb→le 448 455 tt;
      times = leb→le 3 3 tt;
      time_states = leb→le 3 3 tt;
      flags = leb→le 3 3 tt;
      counts = leb→le 3 3 tt;
      clocks = leb→le 3 3 tt;
      clock_states = leb→le 3 3 tt;
      satellites = leb→le 5 5 tt;
      numbers = leb→le 7 7 tt;
      states = leb→le 7 7 tt;
      losses = leb→le 7 7 tt;
      strengths = leb→le 7 8 tt;
      carried = leb→le 9 9 tt;
    }

-- buffers with other codes, and with other strengths
abbrev other : Buffers → (codes strengths : List ℕ) → Buffers
other b codes strengths =
    record {
      codes = codes;
      times = b.times;
      time_states = b.time_states;
      flags = b.flags;
      counts = b.counts;
      clocks = b.clocks;
      clock_states = b.clock_states;
      satellites = b.satellites;
      numbers = b.numbers;
      states = b.states;
      losses = b.losses;
      strengths = strengths;
      carried = b.carried;
    }

-- each system's list lies at its seventh of the table of codes
sevenths : Buffers → Buffers
sevenths b =
    let codes = set (set (set b.codes 0 (packed (bytes "C1C"))) 1 (packed (bytes "L1C"))) (length b.codes / 7) (packed (bytes "C1C")) in
    other (laid file b) codes (laid file b).strengths

in_sevenths : MoreLent (λ (r : ReadReply). r) (Of sevenths right) → ⊥
unfolding lent wide sevenths laid laid_codes all_rows all_slots flat_head
in_sevenths m =
    let e = m.same example lent (sevenths lent) wide (sevenths wide) _ _ wider (refl, refl) (refl, refl) (λ k d. let z : ◌≡◌ {A = ℕ} 0 1 = cc in omega arith) in
    let z : ◌≡◌ {A = ℕ} 4403523 7 = e.1.codes 1 0 (omega arith) (omega arith) in
    omega arith

-- the marks of strength are left out where their buffer is short
unmarked : Buffers → Buffers
unmarked b = other (laid file b) (laid file b).codes (cond (ltb (length b.strengths) 8) b.strengths (laid file b).strengths)

without_marks : MoreLent (λ (r : ReadReply). r) (Of unmarked right) → ⊥
unfolding lent wide unmarked laid laid_codes all_rows all_slots flat_head
without_marks m =
    let e = m.same example lent (unmarked lent) wide (unmarked wide) _ _ wider (refl, refl) (refl, refl) (λ k d. let z : ◌≡◌ {A = ℕ} 0 1 = cc in omega arith) in
    let z : ◌≡◌ {A = ℕ} 7 255 = ap (λ (l : List ℕ). get_or l 1 0) e.1.strengths in
    omega arith

-- what a reply tells
slots_in : ReadReply → ℕ
slots_in (taken h n) = n.slots
slots_in (turned_away n k) = 0

-- as many slots are told as the buffer of strengths has entries
as_lent : Buffers → ReadReply
as_lent b = taken (flat_head file.head) (counted 1 2 (length b.strengths) 0)

as_lent_lem : MoreLent (λ (r : ReadReply). r) (Of (laid file) as_lent) → ⊥
unfolding lent wide as_lent slots_in
as_lent_lem m =
    let e = m.same example lent (laid file lent) wide (laid file wide) _ _ wider (refl, refl) (refl, refl) (λ k d. let z : ◌≡◌ {A = ℕ} 0 1 = cc in omega arith) in
    let z : ◌≡◌ {A = ℕ} 8 7 = ap slots_in e.0 in
    omega arith

-- a text that is refused, and nothing is left: 16 at line 9, and with more strengths 13 at line 8
late_here : Buffers → ReadReply
late_here b = cond (ltb (length b.strengths) 8) (turned_away 16 9) (turned_away 13 8)

late_here_lem : MoreLent (λ (r : ReadReply). r) (Of (λ (b : Buffers). b) late_here) → ⊥
unfolding lent wide late_here
late_here_lem m =
    let h : 9 ≤ 8 = m.no_earlier unfit lent lent wide wide (turned_away 16 9) (turned_away 13 8) 9 13 8 wider (refl, refl) (refl, refl) refl refl in
    omega arith
