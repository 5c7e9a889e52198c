-- `write_data::epochs::put_record` meets its contract. Assumes nothing.
use Prim.Native.Nat.{ℕ, ◌+◌}
use mathlib.Core.Path.{◌≡◌, ap, ◌∙◌}
use mathlib.Core.List.{List, [], ◌∷◌, ◌++◌}
use lib.ListN.{length}
use lib.Seq.{sets}
use Rattle.line.specs.Text.{cut}
use Rattle.rinex.specs.Normal.{epoch_line}
use Rattle.rinex.specs.Lent.{entry_of}
use Rattle.write_data.specs.Records.{record_line}
use Rattle.write_data.proofs.epochs.put_record.Goals as goal

pub put_line-requires : goal.put_line-requires
unfolding epoch_line
put_line-requires c = let e : cut c.epoch_columns.new.out ≡ record_line (entry_of c.args.e) = ap cut c.epoch_columns.ensures in rw e c.requires.1

pub returns : goal.returns
unfolding epoch_line
returns c =
    let e : cut c.epoch_columns.new.out ≡ record_line (entry_of c.args.e) = ap cut c.epoch_columns.ensures in
    let p = c.put_line in
    record {
      out_after = p.ensures.out_after ∙ ap (λ (x : List ℕ). sets c.args.out.now c.args.at (x ++ (10 ∷ []))) e;
      value = p.ensures.value ∙ ap (λ (x : List ℕ). c.args.at + (length x + 1)) e;
    }
