use Rattle.std.proofs.Common.{subst}
use Rattle.lb_command.specs.Outcomes.{HasPath, IsLoaded}
use Rattle.lb_command.proofs.Outcomes.{file_read}
use Rattle.lb_command.proofs.showing.load_both.Goals as goal

pub returns-in-Texts-clause-ok : goal.returns-in-Texts-clause-ok
returns-in-Texts-clause-ok g c =
    let known = g.F.Feed.coming c.args.reader.now in
    subst (IsLoaded c.args.task.now known) c.in-Texts.is c.in-Ok.ensures.ok

pub returns-in-Ok-load_open-clause-ok : goal.returns-in-Ok-load_open-clause-ok
returns-in-Ok-load_open-clause-ok g c =
    let known = g.F.Feed.coming c.args.reader.now in
    let is = subst (IsLoaded c.args.task.now known) c.in-Open.is c.in-Ok.ensures.ok in
    is.1 _ _
