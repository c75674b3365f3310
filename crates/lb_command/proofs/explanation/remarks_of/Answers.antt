use Rattle.std.proofs.Common.{List, map, subst, sym, ◌∙◌}
use Rattle.std.specs.Prelude.{is_ok, string_bytes}
use Rattle.lb_command.proofs.Remarks.{remarks_are}
use Rattle.lb_command.proofs.explanation.remarks_of.Goals as goal

pub returns : goal.returns
returns c =
    remarks_are (map string_bytes c.args.words.now) c.args.task.now.options
    c.warnings_of-remarks.result.items c.as_slice.result.now c.extend_from_slice.new.self.items
    (is_ok c.extend_from_slice.result) c.warnings_of-remarks.ensures
    (λ no. c.as_slice.ensures.value ∙ c.reasons_of-reasons.ensures no)
    c.extend_from_slice.ensures.items
