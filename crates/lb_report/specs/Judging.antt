-- The answers to a source alone.
-- Source: this project's rule.
use Rattle.std.specs.Prelude.{◌≡◌, Err}
use Rattle.lb_syntax.specs.Tokens.{Text}
use Rattle.lb_static.specs.DataTypes.{signature}
use Rattle.lb_static.specs.Signature.{Elements}
use Rattle.lb_check.specs.Acceptance.{IsAccepted}
use Rattle.lb_report.specs.Bench.{OnlyProgram}
use Rattle.lb_report.specs.Correct.{IsBenchAnswer}
use Rattle.lb_refusal.specs.declared.error.BenchError.{BenchError}
use Rattle.lb_refusal.specs.declared.options.Options.{Options}

-- the source spells exactly one program, which is accepted, and these are the scalar inputs of its
-- node under test
abbrev pub IsAcceptedSource : (source : Text) → Options → Elements → Type 0
IsAcceptedSource source options inputs =
    OnlyProgram source options (λ P. IsAccepted P × (signature P ≡ inputs))

-- whatever the traces are, the bench refuses the two texts with this error
abbrev pub IsRefusedSource : (source : Text) → Options → BenchError → Type 0
IsRefusedSource source options e =
    (traces : Text) → IsBenchAnswer source traces options (Err e)
