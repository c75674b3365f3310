use Rattle.std.proofs.Common.{◌≡◌, ◌-◌}
use Rattle.lb_syntax.specs.Parts.{followed}
use Rattle.lb_syntax.specs.Programs.{parts_at, source_at}
use Rattle.lb_syntax.specs.SourceView.{view_source}
use Rattle.lb_syntax.proofs.program.program.Given as goal

abbrev pub invariant-loop-turn : goal.invariant-loop-turn
invariant-loop-turn l =
    source_at l.tokens ≡ followed (view_source l.source) (parts_at (l._turn-end - l._turn) l.rest)
