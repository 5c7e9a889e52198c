-- WHAT IS WRITTEN IS READ BACK, AND WHAT IS READ IS WRITTEN BACK, over the promises. Assumes nothing.
use Prim.Native.Nat.{ℕ, ◌≤◌}
use mathlib.Core.Path.{◌≡◌, refl, sym, ap, ◌∙◌, subst}
use mathlib.Core.List.{List}
use lib.ListN.{length, take, drop}
use Rattle.rinex.specs.File.{File}
use Rattle.rinex.specs.Spells.{Spells}
use Rattle.rinex.specs.Tables.{FlatHead, flat_head, Counts, counts, Buffers, laid, room, Fits}
use Rattle.rinex.specs.Normal.{normal}
use Rattle.rinex.specs.Promises.{ReadReply, taken, turned_away, Accepts, Read, Spelled, WriteReply, written, no_text, no_place, RoomFor, Stands, Write}
use Rattle.line.specs.Text.{longest}
use Rattle.rinex.proofs.Agree.{one_of_text}
use Rattle.rinex.proofs.Forms.{file_form}
use Rattle.rinex.proofs.OneTables.{one_of_tables}
use Rattle.rinex.proofs.NormalText.{normal_spelled}
use Rattle.lists.proofs.Apart.{stores_there}
use Rattle.rinex.proofs.Laid.{laid_holds}
use Rattle.rinex.specs.Theorems

-- what stands in the buffer
stood : (s out after : List ℕ) (at n : ℕ) → Stands s out after at n → take n (drop at after) ≡ s
stood s out after at n w =
    ap (λ (x : ℕ). take x (drop at after)) w.length_is ∙ (ap (λ (x : List ℕ). take (length s) (drop at x)) w.bytes ∙ stores_there out at s w.fits.buffer)

module _ (h : FlatHead) (n : Counts) (b : Buffers) (f : File) (out after : List ℕ) (at : ℕ) (p : Spelled h n b f) where
  -- what is written is the normal text
  wrote : (k : ℕ) → Write h n b out after at (written k) → Stands (normal f) out after at k
  wrote k w = subst (λ (x : File). Stands (normal x) out after at k) (one_of_tables h n b w.0 f w.1 p) w.2

  forth : (r : WriteReply) → RoomFor (normal f) out at → Write h n b out after at r → (r ≡ written (length (normal f))) × (take (length (normal f)) (drop at after) ≡ normal f)
  forth (written k) m w =
      let s = wrote k w in
      (ap written s.length_is, stood (normal f) out after at (length (normal f)) (record { fits = s.fits; length_is = refl; bytes = s.bytes }))
  forth no_text m w = absurd (w.0 f p)
  forth no_place m w = absurd (w.2 (subst (λ (x : File). RoomFor (normal x) out at) (one_of_tables h n b f w.0 p w.1) m))

-- a text that spells the file is read as it, where there is room
read_as : (t : List ℕ) (lent a : Buffers) (r : ReadReply) (f : File) → Spells t f → length t ≤ longest → Fits (room lent) f → Read t lent a r
    → (r ≡ taken (flat_head f.head) (counts f)) × (a ≡ laid f lent)
read_as t lent a (taken h n) f s m w p =
    let e : p.file ≡ f = one_of_text t p.file f p.spells s in
    let x : h ≡ flat_head f.head = p.head ∙ ap (λ (g : File). flat_head g.head) e in
    let y : n ≡ counts f = p.lengths ∙ ap counts e in
    (ap (λ (u : FlatHead). taken u n) x ∙ ap (taken (flat_head f.head)) y, p.entries ∙ ap (λ (g : File). laid g lent) e)
read_as t lent a (turned_away n k) f s m w p = absurd (p.rightly f m s w)

-- the tables that are handed back hold it
kept : (h : FlatHead) (n : Counts) (t : List ℕ) (lent a : Buffers) (f : File) → h ≡ flat_head f.head → n ≡ counts f → Spells t f → Fits (room lent) f → a ≡ laid f lent → Spelled h n a f
kept h n t lent a f x y s m e =
    let k = laid_holds f lent (file_form t f s) m in
    record {
      hold = record { head = x; lengths = y; fits = subst (λ (b : Buffers). Fits (room b) f) (sym e) k.fits; entries = subst (λ (b : Buffers). laid f b ≡ b) (sym e) k.entries };
      a_text = t;
      spells = s;
    }

back : (h : FlatHead) (n : Counts) (b : Buffers) (f : File) (out after : List ℕ) (at k : ℕ) (lent a : Buffers) (r : ReadReply)
    → Spelled h n b f → Fits (room lent) f → Write h n b out after at (written k) → Read (take k (drop at after)) lent a r → (r ≡ taken h n) × (a ≡ laid f lent) × Spelled h n a f
back h n b f out after at k lent a r p m w q =
    let s = wrote h n b f out after at p k w in
    let e : take k (drop at after) ≡ normal f = stood (normal f) out after at k s in
    let z = read_as (normal f) lent a r f (normal_spelled p.a_text f p.spells) s.fits.size m (subst (λ (t : List ℕ). Read t lent a r) e q) in
    let x = p.hold.head in
    let y = p.hold.lengths in
    (z.0 ∙ sym (λ i. taken (x i) (y i)), z.1, kept h n p.a_text lent a f x y p.spells m z.1)

read_held : (t : List ℕ) (b a : Buffers) (h : FlatHead) (n : Counts) (p : Accepts t b a h n) → Spelled h n a p.file
read_held t b a h n p = kept h n t b a p.file p.head p.lengths p.spells p.fits p.entries

held : (t : List ℕ) (b a : Buffers) (h : FlatHead) (n : Counts) → Read t b a (taken h n) → (f : File) × Spells t f × Spelled h n a f
held t b a h n p = (p.file, p.spells, read_held t b a h n p)

again : (t : List ℕ) (b a₁ a₂ : Buffers) (h : FlatHead) (n : Counts) (out after : List ℕ) (at k : ℕ) (r : ReadReply)
    → Read t b a₁ (taken h n) → Write h n a₁ out after at (written k) → Read (take k (drop at after)) b a₂ r → (r ≡ taken h n) × (a₂ ≡ a₁)
again t b a₁ a₂ h n out after at k r p w q =
    let z = back h n a₁ p.file out after at k b a₂ r (read_held t b a₁ h n p) p.fits w q in
    (z.0, z.1 ∙ sym p.entries)

fixed : (t : List ℕ) (f : File) (b a : Buffers) (h : FlatHead) (n : Counts) (out after : List ℕ) (at k : ℕ)
    → Spells t f → Read (normal f) b a (taken h n) → Write h n a out after at (written k) → take k (drop at after) ≡ normal f
fixed t f b a h n out after at k s p w =
    let e : p.file ≡ f = one_of_text (normal f) p.file f p.spells (normal_spelled t f s) in
    stood (normal p.file) out after at k (wrote h n a p.file out after at (read_held (normal f) b a h n p) k w) ∙ ap normal e

pub round_trip : Theorems.RoundTrip
round_trip = record { forth = λ h n b f out after at r p m w. forth h n b f out after at p r m w; back = back; held = held; again = again; fixed = fixed }
