-- One reply keeps the promise of reading, and one only, for any text and any lent buffers. Assumes nothing.
use Prim.Native.Nat.{ℕ, zero, suc}
use mathlib.Core.Path.{◌≡◌, refl, sym, ap, ◌∙◌, subst}
use mathlib.Core.List.{List}
use native.Mathlib.Omega.{arith}
use Rattle.rinex.specs.declared.Head.{Head}
use Rattle.rinex.specs.declared.Counts as handed
use Rattle.rinex.specs.Tables.{FlatHead, Counts, Buffers}
use Rattle.rinex.specs.Lent.{head_of, counts_of}
use Rattle.rinex.specs.Promises.{ReadReply, taken, turned_away}
use Rattle.rinex.proofs.Settled.{settled}
use Rattle.read_reply.specs.declared.Reply.{Reply}
use Rattle.reader.specs.Reading.{reply_of, Reads}

-- what a reply of the rule says, or something else
head_in : FlatHead → ReadReply → FlatHead
head_in d (taken h n) = h
head_in d (turned_away n k) = d

counts_in : Counts → ReadReply → Counts
counts_in d (taken h n) = n
counts_in d (turned_away n k) = d

number_in : ReadReply → ℕ
number_in (taken h n) = 0
number_in (turned_away n k) = n

line_in : ReadReply → ℕ
line_in (taken h n) = 0
line_in (turned_away n k) = k

numbered : (n : ℕ) (r : Reply) → number_in (reply_of n r) ≡ n
unfolding number_in
numbered zero r = refl
numbered (suc n) r = refl

-- a head and counts are what the rule makes of them
headed : FlatHead → Head
headed h = record { letter = h.letter; lengths = h.lengths; first = h.first; time_system = h.time_system; interval_state = h.interval_state; interval = h.interval; lines = h.header_lines }

headed_is : (h : Head) → headed (head_of h) ≡ h
unfolding headed
headed_is h = refl

counted : Counts → handed.Counts
counted n = record { epochs = n.epochs; rows = n.rows; slots = n.slots; carried = n.carried }

counted_is : (n : handed.Counts) → counted (counts_of n) ≡ n
unfolding counted
counted_is n = refl

made : (number line : ℕ) → Head → handed.Counts → Reply
made n k h c = record { number = n; line = k; head = h; counts = c }

made_is : (r : Reply) → made r.number r.line r.head r.counts ≡ r
unfolding made
made_is r = refl

-- replies of one number
alike : (n : ℕ) (r s : Reply) → r.number ≡ n → s.number ≡ n → reply_of n r ≡ reply_of n s → (n ≡ 0 → r.line ≡ s.line)
    → ((n ≡ 0 → ⊥) → r.head ≡ s.head) → ((n ≡ 0 → ⊥) → r.counts ≡ s.counts) → r ≡ s
unfolding head_in counts_in line_in
alike zero r s p q e l h c =
    let x : head_of r.head ≡ head_of s.head = ap (head_in (head_of r.head)) e in
    let y : counts_of r.counts ≡ counts_of s.counts = ap (counts_in (counts_of r.counts)) e in
    let u : r.head ≡ s.head = sym (headed_is r.head) ∙ (ap headed x ∙ headed_is s.head) in
    let v : r.counts ≡ s.counts = sym (counted_is r.counts) ∙ (ap counted y ∙ counted_is s.counts) in
    cc (made_is r, made_is s, p, q, l refl, u, v)
alike (suc n) r s p q e l h c =
    let k : r.line ≡ s.line = ap line_in e in
    let z : suc n ≡ 0 → ⊥ = λ w. omega (arith, w) in
    cc (made_is r, made_is s, p, q, k, h z, c z)

-- replies that say the same are the same
pub same_reply : (t u : List ℕ) (b c a₁ a₂ : Buffers) (r s : Reply) → Reads t b a₁ r → Reads u c a₂ s → reply_of r.number r ≡ reply_of s.number s → r ≡ s
same_reply t u b c a₁ a₂ r s x y w =
    let n : r.number ≡ s.number = sym (numbered r.number r) ∙ (ap number_in w ∙ numbered s.number s) in
    let e : reply_of r.number r ≡ reply_of r.number s = subst (λ (i : ℕ). reply_of r.number r ≡ reply_of i s) (sym n) w in
    alike r.number r s refl (sym n) e (λ z. x.no_line z ∙ sym (y.no_line (sym n ∙ z)))
    (λ z. x.no_head z ∙ sym (y.no_head (λ v. z (n ∙ v))))
    (λ z. x.no_counts z ∙ sym (y.no_counts (λ v. z (n ∙ v))))

pub one_reply : (t : List ℕ) (b a₁ a₂ : Buffers) (r s : Reply) → Reads t b a₁ r → Reads t b a₂ s → (r ≡ s) × (a₁ ≡ a₂)
one_reply t b a₁ a₂ r s x y =
    let w = settled.read t b a₁ a₂ _ _ x.promise y.promise in
    (same_reply t t b b a₁ a₂ r s x y w.0, w.1)
