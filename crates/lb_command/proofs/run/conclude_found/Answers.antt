use Rattle.std.proofs.Common.{◌≡◌, ◌++◌, ◌∙◌, ap, subst, sym, List, ℕ, Vec}
use Rattle.std.specs.Global.{Global}
use Rattle.std.specs.Prelude.{string_bytes}
use Rattle.lb_output.specs.declared.text.Report.{Report}
use Rattle.lb_command.specs.Conclusions.{IsConcluded}
use Rattle.lb_command.proofs.run.conclude_found.Goals as goal

pub returns : goal.returns
returns c =
    let terms = c.args.task.now.terms in
    let value = c.args.found.value in
    let shown = c.in_ok-told.told.shown in
    let notes = c.in_ok-told.told.notes.items in
    let named = subst (λ (node : List ℕ).
    IsConcluded terms node value c.as_slice.result.now shown notes) c.as_str-node.ensures.value
    c.in_ok-told.ensures in
    let node = string_bytes c.args.task.now.options.node in
    let remarked = subst (λ (remarks : List ℕ). IsConcluded terms node value remarks shown notes)
    c.as_slice.ensures.value named in (
      notes,
      subst (λ (report : Report).
          IsConcluded terms node value c.args.found.warnings.items report notes)
          (sym c.into_warned.ensures.value) remarked,
      ap (λ (v : Vec ℕ Global). v.items) c.into_warned.ensures.warnings
          ∙ c.in_ok-extend_from_slice.ensures.items
          ∙ ap (λ (remarks : List ℕ). notes ++ remarks) c.as_slice-2.ensures.value,
    )
