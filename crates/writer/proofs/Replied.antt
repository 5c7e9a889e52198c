-- Each reply keeps the promise: refused where no text spells what is lent, refused where the text has no room, else written. Assumes nothing.
use Prim.Native.Nat.{ℕ, ◌-◌, ◌≤◌, ◌<◌, min}
use mathlib.Core.Path.{◌≡◌, refl, ap, ◌∙◌}
use mathlib.Core.List.{List}
use native.Mathlib.Omega.{arith}
use lib.ListN.{length}
use lib.Seq.{sets}
use Rattle.line.specs.Text.{longest}
use Rattle.rinex.specs.Promises.{WriteReply, written, no_text, no_place, RoomFor, Writes, Keeps}
use Rattle.std.specs.Prelude.{Result}
use Rattle.write_reply.specs.declared.Reply.{Reply}
use Rattle.write_reply.specs.declared.Unwritten.{Unwritten}
use Rattle.write_reply.specs.Replies.{told, write_meant, result_of}
use Rattle.measure.specs.Size.{Told}
use Rattle.measure.proofs.Steps.{told_whole_lem}

-- A text s from place at of o on, where m is the room, and r is told of the size
module _ (s o : List ℕ) (at m r : ℕ) (room : m ≡ min (length o - at) longest) (told : Told m (length s) r) where
  -- what is not empty ends within the buffer only from a place in it on
  pub fits_in : 0 < length s → r ≤ m → (r ≡ length s) × RoomFor s o at
  fits_in filled h =
      let e : r ≡ length s = told_whole_lem m (length s) r told h in
      (e, record { buffer = omega (arith, e, h, filled, room); size = omega (arith, e, h, room) })

  no_room : m < r → RoomFor s o at → ⊥
  no_room h f =
      let e : r ≡ length s = told.within (omega (arith, room, f.buffer, f.size)) in
      omega (arith, e, h, room, f.buffer, f.size)

-- x is what is lent, and s is its normal text
module _ {A : Type 0} (P : A → Type 0) (normal : A → List ℕ) (o : List ℕ) (at : ℕ) where
  pub unspelled : ((x : A) → P x → ⊥) → Writes P normal o o at no_text
  unspelled n = (n, refl)

  module _ (x : A) (p : P x) (m r : ℕ) (room : m ≡ min (length o - at) longest) (told : Told m (length (normal x)) r) where
    pub unplaced : m < r → Writes P normal o o at no_place
    unplaced h = (x, p, no_room (normal x) o at m r room told h, refl)

    pub done : (after : List ℕ) → 0 < length (normal x) → r ≤ m → after ≡ sets o at (normal x) → Writes P normal o after at (written r)
    done after filled h e = let f = fits_in (normal x) o at m r room told filled h in (x, p, record { fits = f.1; length_is = f.0; bytes = e })

-- the result that keeps a promise is told
said : (r : WriteReply) → write_meant (result_of r) ≡ r
said (written n) = refl
said no_text = refl
said no_place = refl

pub told_result : (P : WriteReply → Type 0) (x : Result ℕ Unwritten) (s : Reply) → Keeps result_of P x → s ≡ told (write_meant x) → Keeps told P s
told_result P x s k e =
    record { reply = k.reply; told_so = e ∙ (ap (λ (y : Result ℕ Unwritten). told (write_meant y)) k.told_so ∙ ap told (said k.reply)); kept = k.kept }
