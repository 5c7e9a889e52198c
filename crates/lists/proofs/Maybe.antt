-- Laws of what may be missing. Assumes nothing.
use Prim.Native.Nat.{ℕ}
use mathlib.Core.Path.{◌≡◌, refl}
use mathlib.Core.Bool.{Bool, true, false}
use Rattle.std.specs.Prelude.{Option, None, Some}
use native.Mathlib.Omega.{arith}
use Rattle.lists.specs.Maybe.{is_given, when, ◌>>=◌}
use Rattle.lists.proofs.Bools.{never}

module _ {A : Type 0} where
  pub none_some : (x : A) → None ≡ Some x → ⊥
  none_some x e = let z : ◌≡◌ {A = ℕ} 0 1 = cc in omega arith

  pub some_one : (x y : A) → Some x ≡ Some y → x ≡ y
  some_one x y e = cc

  pub none_found : (o : Option A) → ((x : A) → o ≡ Some x → ⊥) → o ≡ None
  none_found None h = refl
  none_found (Some x) h = absurd (h x refl)

  pub when_some : (b : Bool) (x y : A) → when b x ≡ Some y → (b ≡ true) × (x ≡ y)
  when_some true x y e = (refl, some_one x y e)
  when_some false x y e = absurd (none_some y e)

  pub given_some : (o : Option A) → is_given o ≡ true → (x : A) × (o ≡ Some x)
  given_some None e = absurd (never e)
  given_some (Some x) e = (x, refl)

pub bind_some : {A B : Type 0} (o : Option A) (f : A → Option B) (y : B) → (o >>= f) ≡ Some y → (x : A) × (o ≡ Some x) × (f x ≡ Some y)
bind_some None f y e = absurd (none_some y e)
bind_some (Some x) f y e = (x, refl, e)
