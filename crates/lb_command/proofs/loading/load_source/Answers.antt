use Rattle.std.proofs.Common.{refl}
use Rattle.lb_command.specs.Outcomes.IsSource.{of_case, of_file}
use Rattle.lb_command.specs.Outcomes.{HasPath}
use Rattle.lb_command.specs.Streams.{input}
use Rattle.lb_command.proofs.Inputs.{tells_more}
use Rattle.lb_command.proofs.Outcomes.{passed_read}
use Rattle.lb_command.proofs.loading.load_source.Goals as goal

pub returns-in_err-case-clause-read : goal.returns-in_err-case-clause-read
returns-in_err-case-clause-read g c =
    let reader = c.args.reader.now in
    let after = c.load_input.new.feed in
    let i =
    input (g.F.Feed.coming reader) (g.F.Feed.given reader) (g.F.Feed.given after)
    (g.F.Feed.failures reader) (g.F.Feed.failures after) in
    let first = c.in_err-case.field-0.0 in
    passed_read (HasPath c.args.task.now) i c.from_residual.result first c.from_residual.ensures.1
    (tells_more ⊥ (HasPath c.args.task.now) i first (λ none. absurd none)
    c.in_err-case.ensures.read)

pub returns-in_default-clause-ok : goal.returns-in_default-clause-ok
returns-in_default-clause-ok g c =
    of_case c.in_default.is c.in_ok-case.case.items c.in_ok-case.ensures.ok refl

pub returns-clause-ok : goal.returns-clause-ok
returns-clause-ok g c = of_file _ c.in-Some.is
