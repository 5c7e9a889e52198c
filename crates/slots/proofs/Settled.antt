-- One answer keeps the promise of a slot, and one only; and one reply that of a column, with one pair of buffers. Assumes nothing.
use Prim.Native.Nat.{ℕ}
use mathlib.Core.Path.{◌≡◌, refl, sym, ap, ◌∙◌}
use Rattle.std.specs.Prelude.{Result, Ok, Err}
use Rattle.rinex.specs.Tables.{FlatHead, Counts, Buffers}
use Rattle.rinex.specs.Answers.{Answer, metres, cycles, hertz, strength, blank, not_declared, no_row, unspelled}
use Rattle.rinex.specs.Promises.{Slotted, Column, Columned, Keeps}
use Rattle.rinex.proofs.Settled.{settled, alike}
use Rattle.slot_answers.specs.declared.Answer.TheVariants.{Metres, Cycles, Hertz, Strength, Blank, NotDeclared, NoRow}
use Rattle.slot_answers.specs.declared.Answer as handed
use Rattle.slot_answers.specs.declared.Unspelled.{Unspelled}
use Rattle.slot_answers.specs.declared.Reply.{Reply}
use Rattle.slot_answers.specs.Handed.{meant_of, told}

-- what is told where a slot is asked for
abbrev Told : Type 0
Told = Result handed.Answer Unspelled

-- the case for each of the rule's answers
abbrev spoken : Answer → Told
spoken (metres x) = Ok (Metres x)
spoken (cycles x) = Ok (Cycles x)
spoken (hertz x) = Ok (Hertz x)
spoken (strength x) = Ok (Strength x)
spoken blank = Ok Blank
spoken not_declared = Ok NotDeclared
spoken no_row = Ok NoRow
spoken unspelled = Err (record {})

spoken_meant : (r : Told) → spoken (meant_of r) ≡ r
spoken_meant (Ok (Metres x)) = refl
spoken_meant (Ok (Cycles x)) = refl
spoken_meant (Ok (Hertz x)) = refl
spoken_meant (Ok (Strength x)) = refl
spoken_meant (Ok Blank) = refl
spoken_meant (Ok NotDeclared) = refl
spoken_meant (Ok NoRow) = refl
spoken_meant (Err e) = refl

pub one_slot : (h : FlatHead) (n : Counts) (b : Buffers) (row code : ℕ) (r s : Told) → Slotted h n b row code (meant_of r) → Slotted h n b row code (meant_of s) → r ≡ s
one_slot h n b row code r s p q = sym (spoken_meant r) ∙ (ap spoken (settled.slot h n b row code (meant_of r) (meant_of s) p q) ∙ spoken_meant s)

pub one_column : (h : FlatHead) (n : Counts) (b : Buffers) (s code : ℕ) (before x y : Column) (r q : Reply)
    → Keeps told (Columned h n b s code before x) r → Keeps told (Columned h n b s code before y) q → (r ≡ q) × (x ≡ y)
one_column h n b s code before x y r q j k =
    let e = settled.column h n b s code before x y j.reply k.reply j.kept k.kept in
    (alike told (Columned h n b s code before x) (Columned h n b s code before y) r q j k e.0, e.1)
