use Rattle.std.proofs.Common.{sym, subst, rules}
use Rattle.std.proofs.lemmas.List.{with_items_is, places}
use Rattle.lb_sim.specs.ReadInputs.{MarksReads}
use Rattle.lb_sim.proofs.read_inputs.read_elements.Goals as goal

pub returns : goal.returns
returns c =
    subst (MarksReads c.args.program.now)
    (sym (with_items_is c.in_ok-marks.marks c.mark_reads.new.marks (search (rules, places))))
    c.mark_reads.ensures
