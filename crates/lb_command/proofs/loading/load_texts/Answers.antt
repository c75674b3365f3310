use Rattle.lb_command.specs.Outcomes.AreTexts.{of_files, of_input}
use Rattle.lb_command.specs.Outcomes.{HasPath}
use Rattle.lb_command.specs.Streams.{input}
use Rattle.lb_command.proofs.Inputs.{tells_more}
use Rattle.lb_command.proofs.Outcomes.{passed_read}
use Rattle.lb_command.proofs.loading.load_texts.Goals as goal

pub returns-in_err-case-clause-read : goal.returns-in_err-case-clause-read
returns-in_err-case-clause-read g c =
    let reader = c.args.reader.now in
    let after = c.load_input.new.feed in
    let i =
    input (g.F.Feed.coming reader) (g.F.Feed.given reader) (g.F.Feed.given after)
    (g.F.Feed.failures reader) (g.F.Feed.failures after) in
    let first = c.in_err-case.field-0.0 in
    passed_read (HasPath c.args.task.now) i c.from_residual.result first c.from_residual.ensures.1
    (tells_more ⊥ (HasPath c.args.task.now) i first (λ none. absurd none)
    c.in_err-case.ensures.read)

pub returns-in_ok-traces-in-None-clause-ok : goal.returns-in_ok-traces-in-None-clause-ok
returns-in_ok-traces-in-None-clause-ok g c =
    of_input _ c.in-Some.is c.in-None.is c.in_ok-traces-in-None.ensures.ok

pub returns-in_default-part-clause-ok : goal.returns-in_default-part-clause-ok
returns-in_default-part-clause-ok g c =
    ((_, c.in-Some.is), λ first second. of_files _ _ c.in-Some.is c.in-Some-traces.is)

pub returns-in_ok-traces-in-Some-traces-clause-ok : goal.returns-in_ok-traces-in-Some-traces-clause-ok
returns-in_ok-traces-in-Some-traces-clause-ok g c =
    of_files _ _ c.in-Some.is c.in-Some-traces.is
