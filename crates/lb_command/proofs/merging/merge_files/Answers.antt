use Rattle.std.proofs.Common.{◌≡◌, ◌∙◌, ap, length}
use Rattle.std.proofs.lemmas.List.{length-map}
use Rattle.lb_listing.specs.Merged.{texts_of}
use Rattle.lb_command.specs.Merging.IsMergeRefused.{unmerged}
use Rattle.lb_command.proofs.merging.merge_files.Goals as goal

pub returns-in-Ok-clause-ok : goal.returns-in-Ok-clause-ok
returns-in-Ok-clause-ok g c =
    let whole = length-map c.as_slice.result.now _ ∙ ap length c.as_slice.ensures.value
    ∙ c.in_ok-texts.ensures.ok in
    (texts_of c.as_slice.result.now, (whole, c.in-Ok.ensures.ok))

pub returns-clause-err : goal.returns-clause-err
returns-clause-err g c =
    let whole = length-map c.as_slice.result.now _ ∙ ap length c.as_slice.ensures.value
    ∙ c.in_ok-texts.ensures.ok in
    unmerged (texts_of c.as_slice.result.now) whole c.in-Err.ensures.err
