-- The outcome of a run that judges a source, from the judgement of its text.
use Rattle.std.proofs.Common.{Option, Result, Ok, Err, Vec, ℕ}
use Rattle.std.specs.Prelude.{IfErr, IfOk}
use Rattle.std.specs.Global.{Global as Heap}
use Rattle.clap.specs.Words.{Text}
use Rattle.lb_words.specs.declared.request.Task.{Task}
use Rattle.lb_command.specs.Judging.{IsAnswer, IsOutcome, IsRefused}
use Rattle.lb_command.specs.Judging.IsTurnedAway.{refused}
use Rattle.lb_command.specs.Outcomes.{IsSource}
use Rattle.lb_command.specs.declared.answer.Warned.{Warned}
use Rattle.lb_command.specs.declared.refusal.Refusal.{Refusal}

pub outcome_of : (task : Task) (known : Option Text) (source : Text)
    (r : Result (Warned (Vec ℕ Heap)) Refusal) → IsSource task known source
    → IfOk r (λ found. IsAnswer task source found.value.items)
    → IfErr r (IsRefused task source) → IsOutcome task known r
outcome_of task known source (Ok found) is answer none =
    record { source = source; of = is; answer = answer }
outcome_of task known source (Err refusal) is none turned = refused source is turned
