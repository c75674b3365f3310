use Rattle.std.proofs.Common.{rules, ◌∙◌, sym, get_or, pos, w32}
use Rattle.std.proofs.lemmas.Int.{to_z-of_z}
use mir.Val.{SFits}
use Rattle.lb_traces.proofs.NarrowLists.{search-found, search-missed}
use Rattle.lb_traces.proofs.narrow_numbers.elsewhere.Goals as goal

pub returns-in-Ok : goal.returns-in-Ok
returns-in-Ok c =
    let value = get_or c.args.values.now c.in-Ok.k (pos 0) in
    let fits : SFits w32 value = search rules in
    to_z-of_z w32 value fits
    ∙ sym (search-found _ _ _ _ c.requires.paired c.requires.ascend c.in-Ok.ensures.position)

pub returns-in-Err : goal.returns-in-Err
returns-in-Err c =
    sym (search-missed _ _ _ _ c.requires.ascend c.in-Err.ensures.position)
