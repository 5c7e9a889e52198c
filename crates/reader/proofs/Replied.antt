-- What the two passes answer and leave keeps the promise of reading. Assumes nothing.
use Prim.Native.Nat.{ℕ, zero, suc, ◌<◌}
use mathlib.Core.Path.{◌≡◌, refl, sym, ap, ◌∙◌, subst}
use mathlib.Core.Bool.{Bool, true, cond}
use mathlib.Core.List.{List}
use native.Mathlib.Omega.{arith}
use lib.Dec.{ltb}
use borrow.Author.Tests.{lt-ltb}
use lib.ListN.{length}
use Rattle.line.specs.Text.{longest, split}
use Rattle.rinex.specs.Tables.{FlatHead, flat_head, Buffers, laid_codes, laid, room}
use Rattle.rinex.specs.Tables as tables
use Rattle.rinex.specs.Refusals.{accepted, refused, verdict, judge, start}
use Rattle.rinex.specs.Theorems.{Taken}
use Rattle.rinex.specs.Lent.{head_of, counts_of}
use Rattle.rinex.proofs.Agree.{agree}
use Rattle.rinex.proofs.Replies.{read_refused}
use Rattle.state.specs.declared.Room.{Room}
use Rattle.state.specs.Judge.{room_of}
use Rattle.std.specs.Prelude.{Ok, Err}
use Rattle.state.specs.Faults.{refusal_number}
use Rattle.state.proofs.Numbers.{some_number}
use Rattle.judge.specs.declared.Refusal.{Refusal}
use Rattle.judge.specs.declared.whole.Whole.{Whole}
use Rattle.judge.specs.Ending.{Ended, header_end}
use Rattle.judge.specs.Step.{Judges, ended_at}
use Rattle.fill.specs.declared.HeadRest as filled
use Rattle.fill.specs.Fill.{HeadRead, head_from, nothing_read, carried_from, filled_from}
use Rattle.fill.specs.Filling.{rest_of, Lined, second_pass}
use Rattle.fill.proofs.Filled.{Filled, filled}
use Rattle.fill.proofs.SecondPass.{with}
use Rattle.fill.proofs.HeadTurns.{spells_lined}
use Rattle.read_reply.specs.declared.Reply.{Reply}
use Rattle.reader.specs.Reading.{Reads}
use Rattle.read_reply.specs.Replies.{refusing, taking}

-- heads are the same where each part is
made : (letter : ℕ) (lengths : List ℕ) (first system state interval lines : ℕ) → FlatHead
made a b c d e f g = record { letter = a; lengths = b; first = c; time_system = d; interval_state = e; interval = f; header_lines = g }

made_is : (h : FlatHead) → made h.letter h.lengths h.first h.time_system h.interval_state h.interval h.header_lines ≡ h
unfolding made
made_is h = refl

same_head : (g h : FlatHead) → g.letter ≡ h.letter → g.lengths ≡ h.lengths → g.first ≡ h.first → g.time_system ≡ h.time_system
    → g.interval_state ≡ h.interval_state → g.interval ≡ h.interval → g.header_lines ≡ h.header_lines → g ≡ h
same_head g h a b c d e f i = cc (made_is g, made_is h, a, b, c, d, e, f, i)

-- the room of the lent buffers
pub room_is : (b : Buffers) (e s : ℕ) → e ≡ (room b).epochs → s ≡ (room b).slots
    → room_of (record { codes = length b.codes; epochs = e; rows = length b.satellites; slots = s; carried = length b.carried }) ≡ room b
unfolding room
room_is b e s p q =
    ap (λ (x : ℕ). record { codes = length b.codes; epochs = x; rows = length b.satellites; slots = s; carried = length b.carried }) p
    ∙ ap (λ (x : ℕ). record { codes = length b.codes; epochs = (room b).epochs; rows = length b.satellites; slots = x; carried = length b.carried }) q

-- A REFUSAL
refuses : (t : List ℕ) (b : Buffers) (n k : ℕ) → (n ≡ 0 → ⊥) → verdict (room b) t ≡ refused n k → Reads t b b (refusing n k)
refuses t b zero k z v = absurd (z refl)
refuses t b (suc n) k z v = record { promise = read_refused t b (suc n) k v; no_line = λ y. absurd (z y); no_head = λ _. refl; no_counts = λ _. refl }

pub too_long : (t : List ℕ) (b : Buffers) (x : Reply) → x ≡ refusing 17 0 → longest < length t → Reads t b b x
unfolding verdict
too_long t b x i h =
    let e : ltb longest (length t) ≡ true = lt-ltb _ _ h in
    subst (Reads t b b) (sym i) (refuses t b 17 0 (λ z. omega (arith, z)) (ap (λ (y : Bool). cond y (refused 17 0) (judge (room b) start 1 (split t))) e))

module _ (t table : List ℕ) (b : Buffers) (r : Room) (q : room_of r ≡ room b) where
  pub turns_away : (e : Refusal) → Judges r t table (Err e) → (x : Reply) → x ≡ refusing (refusal_number e.fault) e.line → Reads t b b x
  turns_away e j x i =
      subst (Reads t b b) (sym i)
      (refuses t b _ _ (λ z. omega (arith, some_number e.fault, z)) (subst (λ (y : tables.Room). verdict y t ≡ refused (refusal_number e.fault) e.line) q j.told))

  module _ (w : Whole) (j : Judges r t table (Ok w)) where
    -- AN ACCEPTANCE: the file
    found : Taken (room b) t (counts_of w.used)
    found = agree.sound (room b) t _ (subst (λ (y : tables.Room). verdict y t ≡ accepted (counts_of w.used)) q j.told)

    pub lined : Lined t
    lined = spells_lined t found.file found.spells

    pass : Filled t found.file b
    pass = filled t found.file b found.spells found.fits

    -- the head
    head_is : (h : filled.HeadRest) → rest_of h ≡ head_from (header_end t).lines nothing_read (split t) → head_of (taking w h).head ≡ flat_head found.file.head
    unfolding flat_head
    head_is h e =
        let c : header_end t ≡ ended_at t table w.from = j.end in
        let i = pass.head in
        same_head _ (flat_head found.file.head)
        (sym (ap (λ (x : Ended). x.state.letter) c) ∙ pass.letter)
        (sym (ap (λ (x : Ended). x.state.lengths) c) ∙ pass.lengths)
        (ap (λ (x : HeadRead). x.first) e ∙ i.first)
        (ap (λ (x : HeadRead). x.time_system) e ∙ i.time_system)
        (ap (λ (x : HeadRead). x.interval_state) e ∙ i.interval_state)
        (ap (λ (x : HeadRead). x.interval) e ∙ i.interval)
        (ap (λ (x : HeadRead). x.lines) e ∙ i.lines)

    -- the tables
    laid_is : second_pass t b ≡ laid found.file b
    laid_is =
        let d = header_end t in
        ap (λ (x : List ℕ). filled_from d.state (with x (carried_from d.lines nothing_read b.carried (split t)) b) d.rest) (pass.codes b.codes)
        ∙ (ap (λ (x : List ℕ). filled_from d.state (with (laid_codes 0 found.file.head.lists b.codes) x b) d.rest) pass.carried
        ∙ pass.tables)

    pub takes : (h : filled.HeadRest) (a : Buffers) (x : Reply) → x ≡ taking w h → rest_of h ≡ head_from (header_end t).lines nothing_read (split t) → a ≡ second_pass t b → Reads t b a x
    takes h a x i e f =
        subst (Reads t b a) (sym i)
        (record {
          promise =
              record {
                file = found.file;
                size = found.size;
                spells = found.spells;
                fits = found.fits;
                head = head_is h e;
                lengths = found.lengths;
                entries = f ∙ laid_is;
              };
          no_line = λ _. refl;
          no_head = λ y. absurd (y refl);
          no_counts = λ y. absurd (y refl);
        })
