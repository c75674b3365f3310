use Rattle.std.proofs.Common.{◌≡◌, ◌∙◌, List, [], ℕ, Vec, ap, length, subst, sym}
use Rattle.std.specs.Global.{Global}
use Rattle.std.specs.Prelude.{string_bytes}
use Rattle.lb_output.specs.declared.text.Report.{Report}
use Rattle.lb_listing.specs.Listings.{Lists}
use Rattle.lb_listing.specs.Merged.{joined}
use Rattle.lb_command.specs.Conclusions.{IsTold}
use Rattle.lb_command.proofs.merging.conclude_merge.Goals as goal

pub conclude_text-requires-clause-lists : goal.conclude_text-requires-clause-lists
conclude_text-requires-clause-lists g c =
    let merged = c.in_ok-report.ensures.ok in (
      joined merged.1.1.lists,
      subst (λ (text : List ℕ). Lists text (joined merged.1.1.lists))
          (sym c.as_slice-2.ensures.value) merged.1.1.all,
    )

pub returns-clause-ok : goal.returns-clause-ok
returns-clause-ok g c =
    let terms = c.args.task.now.terms in
    let node = string_bytes c.args.task.now.options.node in
    let merged = c.in_ok-report.ensures.ok in
    let found = c.in_ok-told.ensures in
    let shown = c.in_ok-told.told.shown in
    let notes = c.in_ok-told.told.notes in
    record {
      texts = merged.0;
      report = c.in_ok-report.report.items;
      whole = merged.1.0 ∙ ap length c.as_slice.ensures.value;
      merged = merged.1.1;
      traces = found.0;
      lists = subst (λ (text : List ℕ). Lists text found.0) c.as_slice-2.ensures.value found.1;
      told = subst (λ (v : Vec ℕ Global).
          IsTold terms node [] found.0 c.into_warned.result.value v.items)
          (sym c.into_warned.ensures.warnings)
          (subst (λ (r : Report). IsTold terms node [] found.0 r notes.items)
          (sym c.into_warned.ensures.value)
          (subst (λ (name : List ℕ). IsTold terms name [] found.0 shown notes.items)
          c.as_str-node.ensures.value found.2));
    }
