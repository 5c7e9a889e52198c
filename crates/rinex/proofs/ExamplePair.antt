-- The example with a second epoch behind its own, and with that epoch alone: both texts spell their files. Assumes nothing.
use Prim.Native.Nat.{ℕ}
use Prim.Native.String.{String}
use mathlib.Core.Path.{◌≡◌, refl, subst}
use mathlib.Core.Bool.{true}
use mathlib.Core.List.{List, [], ◌∷◌, ◌++◌, map}
use Rattle.std.specs.Prelude.{None, Some}
use native.Mathlib.Omega.{arith}
use lib.Dec.{leb→le}
use lib.IntN.{pos}
use Rattle.lists.specs.Lists.{bytes, All}
use Rattle.write_field.specs.Normal.{decimal_fits}
use Rattle.moment.specs.declared.Date.{Date}
use Rattle.moment.specs.Moment.{Fit, leap, year_days, month_days, sum_to, days, instant}
use Rattle.line.specs.Text.{text}
use Rattle.rinex.specs.File.{Row, Epoch, observed, File, times}
use Rattle.rinex.specs.Data.{ascend}
use Rattle.rinex.specs.Spells.{Spells}
use Rattle.rinex.specs.Normal.{normal}
use Rattle.rinex.proofs.Forms.{RowForm, EpochForm, FileForm, file_form}
use Rattle.rinex.proofs.NormalText.{form_spells}
use Rattle.rinex.proofs.Examples.{header, epoch, file, written}
use Rattle.rinex.proofs.ExampleSpelled.{example_spelled}

-- half a minute later, other rows
abbrev pub later_epoch : List String
later_epoch =
    "> 2025 01 01 00 00  0.0000000  0  2" ∷
    "R12  21000000.500" ∷
    "G07  20000100.250 8         3.25016" ∷
    []

abbrev row_r : Row
row_r = record { system = 1; number = 12; slots = record { value = Some (pos 21000000500); loss = None; strength = None } ∷ [] }

abbrev row_g : Row
row_g =
    record {
      system = 0;
      number = 7;
      slots = record { value = Some (pos 20000100250); loss = None; strength = Some 8 } ∷ record { value = Some (pos 3250); loss = Some 1; strength = Some 6 } ∷ [];
    }

-- an epoch at its time
abbrev pub later_of : List Row → Epoch
later_of rows = observed (record { time = 14201568000000000; flag = 0; clock = None; rows = rows })

abbrev pub later : Epoch
later = later_of (row_r ∷ row_g ∷ [])

-- the example's head over some epochs
abbrev pub over : List Epoch → File
over es = record { head = file.head; epochs = es }

abbrev date : Date
date = record { year = 2025; month = 1; day = 1; hour = 0; minute = 0; ticks = 0 }

fit : Fit date
unfolding leap month_days
fit = omega arith

at_date : 14201568000000000 ≡ instant date
unfolding leap year_days month_days sum_to days instant
at_date = refl

r_form : RowForm file.head.lists row_r
unfolding decimal_fits
r_form =
    record {
      system = leb→le 2 7 tt;
      number = leb→le 13 100 tt;
      not_zero = leb→le 1 12 tt;
      declared = leb→le 1 1 tt;
      many = refl;
      slots = (record { value = record { fits = refl; held = refl }; loss = tt; strength = tt }, tt);
    }

g_form : RowForm file.head.lists row_g
unfolding decimal_fits
g_form =
    record {
      system = leb→le 1 7 tt;
      number = leb→le 8 100 tt;
      not_zero = leb→le 1 7 tt;
      declared = leb→le 1 2 tt;
      many = refl;
      slots = (
        record { value = record { fits = refl; held = refl }; loss = tt; strength = leb→le 8 9 tt },
        (record { value = record { fits = refl; held = refl }; loss = leb→le 1 7 tt; strength = leb→le 6 9 tt }, tt),
      );
    }

later_form : EpochForm file.head.lists later
later_form =
    record { flag = leb→le 0 1 tt; time = (date, fit, at_date); clock = tt; few = leb→le 3 1000 tt; rows = (r_form, (g_form, tt)); apart = refl }

-- a text that is the normal one of the head over fit epochs in order
spelled : (t : List ℕ) (es : List Epoch) → All (EpochForm file.head.lists) es → ascend None (times es) ≡ true → normal (over es) ≡ t → Spells t (over es)
spelled t es a o e =
    let f : FileForm (over es) = record { head = (file_form _ file example_spelled).head; epochs = a; order = o } in
    subst (λ (u : List ℕ). Spells u (over es)) e (form_spells (over es) f)

abbrev pub pair : File
pair = over (file.epochs ++ (later ∷ []))

pub pair_spelled : Spells (text (map bytes (header ++ epoch ++ later_epoch))) pair
unfolding written
pair_spelled = spelled _ pair.epochs ((file_form _ file example_spelled).epochs.0, (later_form, tt)) refl refl

pub later_spelled : Spells (text (map bytes (header ++ later_epoch))) (over (later ∷ []))
unfolding written
later_spelled = spelled _ (later ∷ []) (later_form, tt) refl refl
