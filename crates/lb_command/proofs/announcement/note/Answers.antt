use Rattle.std.proofs.Common.{Bool, List, ℕ, refl, subst, sym, ◌∙◌}
use Rattle.lb_output.proofs.SinkBytes.{takes_nothing}
use Rattle.lb_command.specs.Announcements.{IsNotedBy}
use Rattle.lb_command.specs.Streams.{change}
use Rattle.lb_command.specs.Warnings.{IsWarned}
use Rattle.lb_command.proofs.announcement.note.Goals as goal

pub returns-then-awaits_traces-clause-noted : goal.returns-then-awaits_traces-clause-noted
returns-then-awaits_traces-clause-noted g c =
    let errors = change (g.E.Sink.taken c.args.errors.now) (g.E.Sink.taken c.warn.new.errors)
    (g.E.Sink.failures c.args.errors.now) (g.E.Sink.failures c.warn.new.errors) in
    let Is : Bool → Type 0 = λ b. IsNotedBy b errors in
    let Told : List ℕ → Type 0 = IsWarned errors in
    subst Is (sym c.if-awaits_traces.true ∙ c.awaits_traces.ensures)
    (subst Told c.as_bytes.ensures.value c.warn.ensures.warned)

pub returns-else-awaits_traces-clause-noted : goal.returns-else-awaits_traces-clause-noted
returns-else-awaits_traces-clause-noted g c =
    let errors = change (g.E.Sink.taken c.args.errors.now) (g.E.Sink.taken c.args.errors.now)
    (g.E.Sink.failures c.args.errors.now) (g.E.Sink.failures c.args.errors.now) in
    let Is : Bool → Type 0 = λ b. IsNotedBy b errors in
    subst Is (sym c.if-awaits_traces.false ∙ c.awaits_traces.ensures)
    (record { kept = takes_nothing _; never_failed = refl })
