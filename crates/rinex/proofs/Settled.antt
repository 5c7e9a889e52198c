-- TWO REPLIES THAT A PROMISE ALLOWS COINCIDE, and so does what they leave. Assumes nothing.
use Prim.Native.Nat.{ℕ}
use mathlib.Core.Path.{◌≡◌, refl, ap, sym, subst, ◌∙◌}
use mathlib.Core.List.{List}
use lib.ListN.{length}
use lib.Seq.{sets}
use Rattle.lists.proofs.Bools.{Either, left, right}
use Rattle.rinex.specs.File.{File}
use Rattle.rinex.specs.Tables.{FlatHead, flat_head, Counts, counts, Buffers, laid}
use Rattle.rinex.specs.Refusals.{refused}
use Rattle.rinex.specs.Normal.{normal, normal_epoch}
use Rattle.rinex.specs.Answers.{Answer, metres, cycles, hertz, strength, blank, not_declared, no_row, unspelled, answer, answers}
use Rattle.rinex.specs.Promises.{ReadReply, taken, turned_away, Read, Spelled, WriteReply, written, no_text, no_place, RoomFor, Writes, EpochSpelled, Answers, Slotted, ColumnReply, filled, no_tables, no_room, Column, ColumnRoom, laid_column, Columned, Keeps}
use Rattle.rinex.proofs.Agree.{one_of_text}
use Rattle.rinex.proofs.OneTables.{one_of_tables}
use Rattle.rinex.proofs.OneEpoch.{one_epoch}
use Rattle.rinex.specs.Theorems

read : (t : List ℕ) (b a₁ a₂ : Buffers) (r₁ r₂ : ReadReply) → Read t b a₁ r₁ → Read t b a₂ r₂ → (r₁ ≡ r₂) × (a₁ ≡ a₂)
read t b a₁ a₂ (taken h m) (taken k n) p q =
    let e : p.file ≡ q.file = one_of_text t p.file q.file p.spells q.spells in
    let x : h ≡ k = p.head ∙ (ap (λ (f : File). flat_head f.head) e ∙ sym q.head) in
    let y : m ≡ n = p.lengths ∙ (ap counts e ∙ sym q.lengths) in
    (ap (λ (u : FlatHead). taken u m) x ∙ ap (taken k) y, p.entries ∙ (ap (λ (f : File). laid f b) e ∙ sym q.entries))
read t b a₁ a₂ (taken h m) (turned_away n k) p q = absurd (q.rightly p.file p.size p.spells p.fits)
read t b a₁ a₂ (turned_away n k) (taken h m) p q = absurd (p.rightly q.file q.size q.spells q.fits)
read t b a₁ a₂ (turned_away m j) (turned_away n k) p q =
    let e : refused m j ≡ refused n k = sym p.which ∙ q.which in
    let x : m ≡ n = cc in
    let y : j ≡ k = cc in
    (ap (λ (u : ℕ). turned_away u j) x ∙ ap (turned_away n) y, p.entries ∙ sym q.entries)

-- what is written, where it is of one thing
module _ {A : Type 0} (P : A → Type 0) (one : (x y : A) → P x → P y → x ≡ y) (text : A → List ℕ) (out a₁ a₂ : List ℕ) (at : ℕ) where
  writes : (r₁ r₂ : WriteReply) → Writes P text out a₁ at r₁ → Writes P text out a₂ at r₂ → (r₁ ≡ r₂) × (a₁ ≡ a₂)
  writes (written m) (written n) p q =
      let e : text p.0 ≡ text q.0 = ap text (one p.0 q.0 p.1 q.1) in
      (ap written (p.2.length_is ∙ (ap length e ∙ sym q.2.length_is)), p.2.bytes ∙ (ap (sets out at) e ∙ sym q.2.bytes))
  writes (written m) no_text p q = absurd (q.0 p.0 p.1)
  writes (written m) no_place p q = absurd (q.2 (subst (λ (x : A). RoomFor (text x) out at) (one p.0 q.0 p.1 q.1) p.2.fits))
  writes no_text (written n) p q = absurd (p.0 q.0 q.1)
  writes no_text no_text p q = (refl, p.1 ∙ sym q.1)
  writes no_text no_place p q = absurd (p.0 q.0 q.1)
  writes no_place (written n) p q = absurd (p.2 (subst (λ (x : A). RoomFor (text x) out at) (one q.0 p.0 q.1 p.1) q.2.fits))
  writes no_place no_text p q = absurd (q.0 p.0 p.1)
  writes no_place no_place p q = (refl, p.3 ∙ sym q.3)

-- what is handed on
module _ (h : FlatHead) (n : Counts) (b : Buffers) (row code : ℕ) where
  abbrev pub None : Answer → Type 0
  None a = (a ≡ unspelled) × ((f : File) → Spelled h n b f → ⊥)

  pub told : (a : Answer) → Slotted h n b row code a → Either (Answers h n b row code a) (None a)
  told (metres x) s = left s
  told (cycles x) s = left s
  told (hertz x) s = left s
  told (strength x) s = left s
  told blank s = left s
  told not_declared s = left s
  told no_row s = left s
  told unspelled s = right (refl, s)

  slot : (a₁ a₂ : Answer) → Slotted h n b row code a₁ → Slotted h n b row code a₂ → a₁ ≡ a₂
  slot a₁ a₂ p q = at (told a₁ p) (told a₂ q)
    where
      at : Either (Answers h n b row code a₁) (None a₁) → Either (Answers h n b row code a₂) (None a₂) → a₁ ≡ a₂
      at (left x) (left y) =
          x.answers ∙ (ap (λ (f : File). answer f row code) (one_of_tables h n b x.file y.file x.spelled y.spelled) ∙ sym y.answers)
      at (left x) (right y) = absurd (y.1 x.file x.spelled)
      at (right x) (left y) = absurd (x.1 y.file y.spelled)
      at (right x) (right y) = x.0 ∙ sym y.0

-- a column
module _ (h : FlatHead) (n : Counts) (b : Buffers) (s code : ℕ) (c a₁ a₂ : Column) where
  abbrev of : File → List Answer
  of f = answers f s code

  same : (f g : File) → Spelled h n b f → Spelled h n b g → of f ≡ of g
  same f g p q = ap (λ (x : File). answers x s code) (one_of_tables h n b f g p q)

  column : (r₁ r₂ : ColumnReply) → Columned h n b s code c a₁ r₁ → Columned h n b s code c a₂ r₂ → (r₁ ≡ r₂) × (a₁ ≡ a₂)
  column (filled j) (filled k) p q =
      let e = same p.0 q.0 p.1 q.1 in
      (ap filled (p.2.rows ∙ (ap length e ∙ sym q.2.rows)), p.2.entries ∙ (ap (λ (x : List Answer). laid_column x c) e ∙ sym q.2.entries))
  column (filled j) no_tables p q = absurd (q.0 p.0 p.1)
  column (filled j) no_room p q = absurd (q.2 (subst (λ (x : List Answer). ColumnRoom x c) (same p.0 q.0 p.1 q.1) p.2.room))
  column no_tables (filled k) p q = absurd (p.0 q.0 q.1)
  column no_tables no_tables p q = (refl, p.1 ∙ sym q.1)
  column no_tables no_room p q = absurd (p.0 q.0 q.1)
  column no_room (filled k) p q = absurd (p.2 (subst (λ (x : List Answer). ColumnRoom x c) (same q.0 p.0 q.1 p.1) q.2.room))
  column no_room no_tables p q = absurd (q.0 p.0 p.1)
  column no_room no_room p q = (refl, p.3 ∙ sym q.3)

pub settled : Theorems.Settled
settled =
    record {
      read = read;
      write = λ h n b out a₁ a₂ at r₁ r₂ p q. writes (Spelled h n b) (one_of_tables h n b) normal out a₁ a₂ at r₁ r₂ p q;
      write_epoch = λ lengths k b out a₁ a₂ at r₁ r₂ p q. writes (EpochSpelled lengths k b) (one_epoch lengths k b) normal_epoch out a₁ a₂ at r₁ r₂ p q;
      slot = slot;
      column = column;
    }

-- one reply is told in one way
pub alike : {R S : Type 0} (tell : R → S) (p q : R → Type 0) (r s : S) (x : Keeps tell p r) (y : Keeps tell q s) → x.reply ≡ y.reply → r ≡ s
alike tell p q r s x y e = x.told_so ∙ (ap tell e ∙ sym y.told_so)
