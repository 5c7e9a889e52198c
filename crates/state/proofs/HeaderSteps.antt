-- A header line without a fault: what is kept of the code's state goes with the rule's. Assumes nothing.
use Prim.Native.Nat.{ℕ, ◌+◌, ◌-◌, ◌*◌, ◌<◌}
use mathlib.Core.Path.{◌≡◌, refl, ap}
use mathlib.Core.Bool.{false, cond, true≢false}
use mathlib.Core.List.{List, [], map}
use native.Mathlib.Omega.{arith}
use lib.ListN.{length, get_or}
use lib.Seq.{sets}
use borrow.Author.Tests.{leb-false}
use Rattle.lists.proofs.Bools.{not_is}
use Rattle.line.specs.Text.{col}
use Rattle.label.specs.declared.Label.{Label}
use Rattle.label.specs.declared.Label.TheVariants.{Version, ObsTypes, FirstObs, Interval, EndOfHeader, ScaleFactor, MarkerName, Other, Unknown}
use Rattle.label.specs.Labels.{is, label_of}
use Rattle.rinex.specs.Tables.{packed}
use Rattle.rinex.specs.Tables as tables
use Rattle.rinex.specs.Tests.{system_at, codes_at, in_line, list_count}
use Rattle.rinex.specs.Refusals.{version_due, in_header, next_due, again, unfit, next_header, next}
use Rattle.rinex.specs.Refusals as rule
use Rattle.rinex.proofs.Places.{HeaderOk, NextOk}
use Rattle.rinex.proofs.HeaderRecords.{obs_is, list_to, next_to}
use Rattle.rinex.proofs.Forms.{codes_formed}
use Rattle.state.specs.declared.State.{State}
use Rattle.state.specs.declared.Stage.TheVariants as stages
use Rattle.state.specs.Judge.{headed, listed, after_record}
use Rattle.state.proofs.Kept.{rule_at, NextDue, Settled, Kept, rule_of, length_at, kept_on}
use Rattle.state.proofs.ListSteps.{listed_kept}

module _ (r : tables.Room) (c : State) (table seen : List ℕ) (lists : List (List (List ℕ))) (names : List ℕ) (s : Settled c table seen lists) (l : List ℕ) where
  -- the version line
  pub version_step : (k : Kept (headed c stages.Record c.system c.left (col 41 l) c.lengths false false) table seen)
      × (next (rule_at version_due c lists names) version_due l ≡ rule_of _ _ _ k)
  unfolding next rule.headed
  version_step = (kept_on c table seen lists s names _ refl (omega arith) tt, refl)

  -- a record, by its label
  pub record_step : (k : Label) → label_of l ≡ k → HeaderOk r (rule_at in_header c lists names) l k
      → (x : Kept (after_record c l k) (cond (is ObsTypes k) (sets table (64 * system_at l) (map packed (codes_at (in_line (list_count l)) 7 l))) table) seen)
      × (next_header (rule_at in_header c lists names) l k ≡ rule_of _ _ _ x)
  unfolding after_record next_header again unfit rule.headed rule.kept
  record_step Version e o = absurd (true≢false o.once)
  record_step ObsTypes e o =
      let f = list_to c.letter l (not_is _ o.fit) e o.rest in
      let z : length (get_or lists (system_at l) []) < 1 = leb-false 1 (length (get_or lists (system_at l) [])) o.once in
      listed_kept c table seen lists names s l (system_at l) (64 * system_at l) (list_count l) f.line.system_is
      (codes_formed (system_at l) 7 l (codes_at (in_line (list_count l)) 7 l) f.line.codes_at) (omega arith) (omega (arith, f.few_codes)) in_header
  record_step FirstObs e o = (kept_on c table seen lists s names _ refl (omega arith) tt, refl)
  record_step Interval e o = (kept_on c table seen lists s names _ refl (omega arith) tt, refl)
  record_step EndOfHeader e o = (kept_on c table seen lists s names _ refl (omega arith) tt, refl)
  record_step ScaleFactor e o = absurd (true≢false o.read)
  record_step MarkerName e o = (kept_on c table seen lists s names _ refl (omega arith) tt, refl)
  record_step Other e o = (kept_on c table seen lists s names _ refl (omega arith) tt, refl)
  record_step Unknown e o = absurd (true≢false o.known)

  -- a continuation
  pub next_step : NextDue c lists → NextOk r (rule_at (next_due c.system c.left) c lists names) c.system c.left l
      → (x : Kept (listed c c.system (in_line c.left) (c.left - in_line c.left)) (sets table (64 * c.system + get_or c.lengths c.system 0) (map packed (codes_at (in_line c.left) 7 l))) seen)
      × (next (rule_at (next_due c.system c.left) c lists names) (next_due c.system c.left) l ≡ rule_of _ _ _ x)
  unfolding next
  next_step d o =
      let f = next_to c.system (get_or lists c.system []) c.left l o.fit (obs_is (label_of l) o.label) o.gap o.rest in
      listed_kept c table seen lists names s l c.system (64 * c.system + get_or c.lengths c.system 0) c.left d.system
      (codes_formed c.system 7 l (codes_at (in_line c.left) 7 l) f.0.codes_at) (ap (λ (n : ℕ). 64 * c.system + n) (length_at c table seen lists s c.system))
      d.few (next_due c.system c.left)
