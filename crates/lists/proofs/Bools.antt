-- Laws of computed tests. Assumes nothing.
use mathlib.Core.Path.{◌≡◌, refl, sym, ◌∙◌}
use mathlib.Core.Bool.{Bool, true, false, not, ◌&&◌, ◌||◌, true≢false, false≢true}

pub never : false ≡ true → ⊥
never e = false≢true e

-- tests of two parts
pub both : (a b : Bool) → (a && b) ≡ true → (a ≡ true) × (b ≡ true)
both true b e = (refl, e)
both false b e = absurd (never e)

pub all_of : (a b : Bool) → a ≡ true → b ≡ true → (a && b) ≡ true
all_of a b e f = rw (e, f)

-- one of the two
pub data Either (A B : Type 0) : Type 0 where
  left : A → Either A B
  right : B → Either A B

pub or_either : (a b : Bool) → (a || b) ≡ true → Either (a ≡ true) (b ≡ true)
or_either true b e = left refl
or_either false b e = right e

pub or_right : (a b : Bool) → b ≡ true → (a || b) ≡ true
or_right true b e = refl
or_right false b e = e

-- two tests that pass alike
pub both_ways : (a b : Bool) → (a ≡ true → b ≡ true) → (b ≡ true → a ≡ true) → a ≡ b
both_ways true b f g = sym (f refl)
both_ways false true f g = g refl
both_ways false false f g = refl

pub or_assoc : (a b c : Bool) → ((a || b) || c) ≡ (a || (b || c))
or_assoc true b c = refl
or_assoc false b c = refl

pub or_false : (a : Bool) → (a || false) ≡ a
or_false true = refl
or_false false = refl

pub neither : (a b : Bool) → (a || b) ≡ false → (a ≡ false) × (b ≡ false)
neither true b e = absurd (true≢false e)
neither false b e = (refl, e)

pub none_of : (a b : Bool) → a ≡ false → b ≡ false → (a || b) ≡ false
none_of a b e f = rw (e, f)

pub is_not : (b : Bool) → b ≡ true → not b ≡ false
is_not b e = rw e

pub not_is : (b : Bool) → not b ≡ false → b ≡ true
not_is true e = refl
not_is false e = absurd (true≢false e)

pub if_then : (a b : Bool) → (a && not b) ≡ false → a ≡ true → b ≡ true
if_then true b e h = not_is b e
if_then false b e h = absurd (never h)

pub then_if : (a b : Bool) → (a ≡ true → b ≡ true) → (a && not b) ≡ false
then_if true b h = rw (h refl)
then_if false b h = refl

pub not_both : (a b : Bool) → (a && b) ≡ false → a ≡ true → b ≡ true → ⊥
not_both true b e h k = true≢false (sym k ∙ e)
not_both false b e h k = never h

pub both_not : (a b : Bool) → (a ≡ true → b ≡ true → ⊥) → (a && b) ≡ false
both_not true true h = absurd (h refl refl)
both_not true false h = refl
both_not false b h = refl
