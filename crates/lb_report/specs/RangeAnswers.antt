-- The answer of the bench to a source and a file that is read in ranges.
-- Source: this project's rule.
use Rattle.std.specs.Prelude.{ℕ, List, Option, Result, Ok, Err, Bool as Truth}
use Rattle.lb_syntax.specs.Tokens.{Text}
use Rattle.lb_output.specs.declared.text.Report.{Report}
use Rattle.lb_feed.specs.Ranges.{IsFileFault, IsFileText}
use Rattle.lb_report.specs.Correct.{IsBenchAnswer}
use Rattle.lb_report.specs.declared.feeding.FeedFault.{FeedFault}
use Rattle.lb_report.specs.declared.feeding.FeedFault.TheVariants as fault
use Rattle.lb_refusal.specs.declared.options.Options.{Options}

-- a report on a trace text, or a refusal of the source and that text; a fault in reading says
-- nothing of them
abbrev pub IsRangeAnswer :
    (source traces : Text) → Options → Result Report FeedFault → Type 0
IsRangeAnswer source traces options (Ok report) = IsBenchAnswer source traces options (Ok report)
IsRangeAnswer source traces options (Err (fault.Load e)) = Unit {0}
IsRangeAnswer source traces options (Err (fault.Refused e)) =
    IsBenchAnswer source traces options (Err e)

-- a fault in reading has a cause: memory ran out, or reads of the file may fail
abbrev pub IsReadingFault : (may_fail : Truth) → Result Report FeedFault → Type 0
IsReadingFault may_fail (Ok report) = Unit {0}
IsReadingFault may_fail (Err (fault.Load e)) = IsFileFault may_fail e
IsReadingFault may_fail (Err (fault.Refused e)) = Unit {0}

-- the answer on a file: `traces` are the file's bytes where it tells them, and else some text
pub record IsFileAnswer (source : Text) (bytes : Option (List ℕ)) (may_fail : Truth)
    (options : Options) (found : Result Report FeedFault)
    : Type 0 where
  pub traces : Text
  pub is : IsFileText bytes traces
  pub answer : IsRangeAnswer source traces options found
  pub fault : IsReadingFault may_fail found
