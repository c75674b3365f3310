use Rattle.std.proofs.Common.{ℕ, ◌≡◌, ◌++◌, List, length}
use Rattle.std.specs.List.{AllZip}
use Rattle.std.specs.Vec.Iter.{into_iter_items, into_iter_len}
use Rattle.lb_static.specs.Signature.{Elements}
use Rattle.lb_flat.specs.declared.program.FlatProgram.{FlatProgram}
use Rattle.lb_trace.specs.Rolls.{IsRoll}
use Rattle.lb_trace.specs.Spelling.{Record}
use Rattle.lb_trace.specs.Tables.{IsColumnTable}
use Rattle.lb_report.specs.JudgedParts.{IsJudgedPart}
use Rattle.lb_report.specs.Sections.{IsSection}
use Rattle.lb_report.proofs.SectionJoins.{ArePlainJudged}
use Rattle.lb_report.proofs.sections.append_all.Given as goal

abbrev pub invariant-sections : goal.invariant-sections
invariant-sections l = record {
  roll : IsRoll l.all.roll;
  count : l.count ≡ length l.yielded;
  left : l.yielded ++ into_iter_items l.one-iterator ≡ l.fn.judged.items;
  long : into_iter_len l.one-iterator ≡ length (into_iter_items l.one-iterator);
  known : (p : FlatProgram) → (elements : Elements) → (rows : List Record)
      → IsColumnTable elements l.table → IsJudgedPart p elements l.table rows l.fn.before
      → (texts : List (List ℕ)) → AllZip (IsSection p elements l.table) texts l.yielded
      → ArePlainJudged p elements l.table rows texts l.all;
}
