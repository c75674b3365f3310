-- The answer of the bench to a source and the traces of a feed.
-- Source: this project's rule.
use Rattle.std.specs.Prelude.{◌≡◌, ◌<◌, ◌⊎◌, length, Result, Ok, Err}
use Rattle.std.specs.Io.KnownBytes.{Consumes, IsAtEnd}
use Rattle.lb_syntax.specs.Tokens.{Text}
use Rattle.lb_feed.specs.Counts.{count_more}
use Rattle.lb_feed.specs.Feeds.{IsTooLong}
use Rattle.lb_feed.specs.Windows.{Left}
use Rattle.lb_feed.specs.declared.feed.LoadError.{LoadError}
use Rattle.lb_feed.specs.declared.feed.LoadError.TheVariants as load
use Rattle.lb_report.specs.Correct.{IsBenchAnswer}
use Rattle.lb_refusal.specs.declared.error.BenchError.{BenchError}
use Rattle.lb_report.specs.declared.feeding.FeedFault.{FeedFault}
use Rattle.lb_report.specs.declared.feeding.FeedFault.TheVariants as fault
use Rattle.lb_refusal.specs.declared.options.Options.{Options}
use Rattle.lb_output.specs.declared.text.Report.{Report}

-- the feed was read to its end, and `told` is the answer of the bench to all its bytes; a feed that
-- tells its bytes gave just those
pub record IsAnswerOnFeed (source : Text) (options : Options) (old new : Left)
    (told : Result Report BenchError)
    : Type 0 where
  pub traces : Text
  pub consumed : Consumes old.coming new.coming traces
  pub end : IsAtEnd new.coming
  pub given : new.given ≡ count_more old.given (length traces)
  pub failures : new.failures ≡ old.failures
  pub answer : IsBenchAnswer source traces options told

-- the feed failed or gave too many bytes, or it did not fail and memory ran out
abbrev pub IsFeedFault : (old new : Left) → LoadError → Type 0
IsFeedFault old new load.Memory = new.failures ≡ old.failures
IsFeedFault old new load.Read =
    (old.failures < new.failures) ⊎ IsTooLong old.coming old.given new.given

-- a report, a refusal of the texts, or a fault of the feed
abbrev pub IsFeedAnswer :
    (source : Text) → Options → (old new : Left) → Result Report FeedFault → Type 0
IsFeedAnswer source options old new (Ok report) =
    IsAnswerOnFeed source options old new (Ok report)
IsFeedAnswer source options old new (Err (fault.Load e)) = IsFeedFault old new e
IsFeedAnswer source options old new (Err (fault.Refused e)) =
    IsAnswerOnFeed source options old new (Err e)
