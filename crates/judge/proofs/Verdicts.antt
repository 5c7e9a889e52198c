-- The header's judge and the data's give the verdict of the rule. Assumes nothing.
use Prim.Native.Nat.{ℕ, ◌≤◌}
use mathlib.Core.Path.{sym, ◌∙◌}
use mathlib.Core.List.{List}
use native.Mathlib.Omega.{arith}
use lib.ListN.{length, drop}
use Rattle.line.specs.Text.{longest, split}
use Rattle.state.specs.declared.Room.{Room}
use Rattle.std.specs.Prelude.{Ok, Err}
use Rattle.rinex.specs.declared.Counts.{Counts}
use Rattle.rinex.specs.Lent.{counts_of}
use Rattle.judge.specs.declared.Cursor.{Cursor}
use Rattle.judge.specs.declared.Refusal.{Refusal}
use Rattle.state.specs.Judge.{judged, none_seen}
use Rattle.judge.specs.Step.{Sized, JudgedAs, Headed, Judges}
use Rattle.state.proofs.Simulated.{judged_verdict}

module _ (r : Room) (t table : List ℕ) (o : Sized r) (h : length t ≤ longest) where
  pub judges_no : (e : Refusal) → Headed r t table (Err e) → Judges r t table (Err e)
  judges_no e k = record { told = sym (judged_verdict r t h) ∙ k.no; places = k.places; first = tt; end = tt; runs = tt }

  module _ (n : Cursor) (k : Headed r t table (Ok n)) where
    pub judges_late : (e : Refusal) → ((x : List ℕ) → JudgedAs (Err e) (judged r n.state x none_seen n.line (split (drop n.at t)))) → Judges r t table (Err e)
    judges_late e f = record { told = sym (judged_verdict r t h) ∙ (k.yes.same ∙ f table); places = k.places; first = tt; end = tt; runs = tt }

    pub judges_yes : (u : Counts) → ((x : List ℕ) → JudgedAs (Ok u) (judged r n.state x none_seen n.line (split (drop n.at t)))) → Judges r t table (Ok (record { used = u; from = n }))
    judges_yes u f =
        let y = k.yes in
        record {
          told = sym (judged_verdict r t h) ∙ (y.same ∙ f table);
          places = k.places;
          first = y.first;
          end = y.end;
          runs =
              record {
                room = r;
                table = table;
                seen = none_seen;
                line = n.line;
                counts = counts_of u;
                taken = f table;
                sane = y.sane;
                inside = y.at;
                short = h;
                few_slots = omega (arith, y.slots);
                sized = o;
              };
        }
