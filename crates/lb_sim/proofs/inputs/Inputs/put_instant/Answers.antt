use Rattle.std.proofs.Common.{◌∙◌}
use Rattle.lb_sim.proofs.RowsLoaded.{row_handed}
use Rattle.lb_sim.proofs.inputs.Inputs.put_instant.Goals as goal

pub returns-clause-rows : goal.returns-clause-rows
returns-clause-rows c i h =
    let x = c.args.self.now in
    row_handed i x.columns.kinds.items x.planes.items c.copy_planes.new.planes _ x.words.items
    c.copy_words.new.words _ (x.planes_room ∙ x.columns.all_truths)
    (x.words_room ∙ x.columns.all_numbers) c.as_slice.ensures.value
    c.as_slice-2.ensures.value c.copy_planes.ensures.put c.copy_words.ensures.put
