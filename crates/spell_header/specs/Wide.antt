-- A header line's 80 columns, before its trailing blanks are cut: `line body label` is `cut (wide body label)`.
use Rattle.std.specs.Prelude.{ℕ, List, ◌++◌, take}
use Prim.Native.String.{String}
use Rattle.lists.specs.Blank.{blanks}
use Rattle.write_field.specs.Normal.{whole}
use Rattle.moment.specs.declared.Date.{Date}
use Rattle.label.specs.Labels.{padded}

abbrev pub wide : List ℕ → String → List ℕ
wide body label = take 60 (body ++ blanks 60) ++ padded label

-- columns 1 to 30 of TIME OF FIRST OBS
abbrev pub day_body : Date → List ℕ
day_body d = whole 6 d.year ++ (whole 6 d.month ++ (whole 6 d.day ++ (whole 6 d.hour ++ whole 6 d.minute)))
