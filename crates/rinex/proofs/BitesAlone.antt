-- THE PROMISE OF WRITING ONE EPOCH BITES: at the example's epoch, or at tables that no text spells, wrong programs are not allowed. Assumes nothing.
use Prim.Native.Nat.{ℕ, ◌≤◌}
use mathlib.Core.Path.{◌≡◌, refl, ap}
use mathlib.Core.Bool.{true, false}
use mathlib.Core.List.{List}
use native.Mathlib.Omega.{arith}
use lib.ListN.{get_or, set, replicate}
use lib.Seq.{sets}
use Rattle.lists.proofs.Bools.{never}
use Rattle.rinex.specs.File.{Epoch}
use Rattle.rinex.specs.Tables.{flat_epoch}
use Rattle.rinex.specs.Fit
use Rattle.rinex.specs.Normal.{normal_epoch}
use Rattle.rinex.specs.Promises.{WriteReply, written, no_text, no_place, EpochSpelled, WriteEpoch}
use Rattle.rinex.proofs.FitEpoch.{fit_epoch}
use Rattle.rinex.proofs.Settled.{settled}
use Rattle.rinex.proofs.Examples as examples
use Rattle.rinex.proofs.Bites.{lent}
use Rattle.rinex.proofs.BitesWriting.{head, tables, marred, out, epoch_held, Alone, alone}

-- its text, put
abbrev put : List ℕ
put = sets out 3 (normal_epoch examples.only)

-- one reply is allowed, and one thing to leave
only : (a : List ℕ) (r : WriteReply) → Alone a r → (written 75 ≡ r) × (put ≡ a)
only a r p = settled.write_epoch head.lengths (flat_epoch examples.only) tables out put a 3 (written 75) r alone p

-- a made_up count of bytes
made_up : (n : ℕ) (a : List ℕ) → (75 ≡ n → ⊥) → Alone a (written n) → ⊥
made_up n a h p =
    let e : written 75 ≡ written n = (only a (written n) p).0 in
    h cc

-- it says written and leaves the bytes
nothing_written : (n : ℕ) → Alone out (written n) → ⊥
unfolding normal_epoch examples.written
nothing_written n p =
    let z : ◌≡◌ {A = ℕ} 62 7 = ap (λ (l : List ℕ). get_or l 3 0) (only out (written n) p).1 in
    omega arith

-- a byte before the place, or behind the text
byte_before : (r : WriteReply) → Alone (set put 2 32) r → ⊥
unfolding normal_epoch examples.written
byte_before r p =
    let z : ◌≡◌ {A = ℕ} 7 32 = ap (λ (l : List ℕ). get_or l 2 0) (only (set put 2 32) r p).1 in
    omega arith

byte_behind : (r : WriteReply) → Alone (set put 78 10) r → ⊥
unfolding normal_epoch examples.written
byte_behind r p =
    let z : ◌≡◌ {A = ℕ} 7 10 = ap (λ (l : List ℕ). get_or l 78 0) (only (set put 78 10) r p).1 in
    omega arith

-- one byte is changed after a refusal with 21: a byte is missing
abbrev small : List ℕ
small = replicate 77 7

abbrev Cramped : List ℕ → WriteReply → Type 0
Cramped a r = WriteEpoch head.lengths (flat_epoch examples.only) tables small a 3 r

cramped : Cramped small no_place
unfolding normal_epoch examples.written
cramped = (examples.only, epoch_held, (λ f. let z : 78 ≤ 77 = f.buffer in omega arith), refl)

changed_after_21 : (r : WriteReply) → Cramped (set small 3 32) r → ⊥
changed_after_21 r p =
    let e = (settled.write_epoch head.lengths (flat_epoch examples.only) tables small small (set small 3 32) 3 no_place r cramped p).1 in
    let z : ◌≡◌ {A = ℕ} 7 32 = ap (λ (l : List ℕ). get_or l 3 0) e in
    omega arith

-- of tables that no text spells: written, refused with 21, or changed after a refusal with 20
unspelled : (e : Epoch) → EpochSpelled head.lengths (flat_epoch examples.only) marred e → ⊥
unfolding examples.fitting flat_epoch Fit.lent Fit.lone_epoch_fits lent marred
unspelled e s = let x : false ≡ true = fit_epoch.complete head.lengths (flat_epoch examples.only) marred e s in never x

abbrev Marred : List ℕ → WriteReply → Type 0
Marred a r = WriteEpoch head.lengths (flat_epoch examples.only) marred out a 3 r

marred_written : (n : ℕ) (a : List ℕ) → Marred a (written n) → ⊥
marred_written n a p = unspelled p.0 p.1

marred_no_place : (a : List ℕ) → Marred a no_place → ⊥
marred_no_place a p = unspelled p.0 p.1

changed_after_20 : (r : WriteReply) → Marred (set out 3 32) r → ⊥
changed_after_20 r p =
    let e = (settled.write_epoch head.lengths (flat_epoch examples.only) marred out out (set out 3 32) 3 no_text r (unspelled, refl) p).1 in
    let z : ◌≡◌ {A = ℕ} 7 32 = ap (λ (l : List ℕ). get_or l 3 0) e in
    omega arith
