use Rattle.lb_check.proofs.{Words.{ap, ◌∙◌, found_in, with_row}, typing.SignatureRows.part_moved}
use Rattle.lb_check.proofs.judged_types.move_all.Goals as goal

pub loop-part-preserved : goal.loop-part-preserved
loop-part-preserved c =
    let l = c.loop-part in
    let part = c.in-Some.part in
    record {
      left = l.invariant.left;
      moved =
          l.invariant.moved
          ∙ part_moved (found_in l.found) (found_in c.note.new.self) l.parts.found.items
          c.pop.new.self.items part c.in-Some.ensures.items
          (c.in_ok-note.ensures
          ∙ ap (λ ns. with_row (found_in l.found) part.data_type.kind ns part.elements)
          c.deref.ensures.value);
    }
