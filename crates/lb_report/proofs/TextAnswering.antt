-- The answer of the bench to a text in memory, which is a feed that tells its bytes.
use Rattle.std.proofs.Common.{◌≡◌, ◌∙◌, ◌<◌, ◌++◌, List, ℕ, None, Some, Option, Result}
use Rattle.std.proofs.Common.{ap, append-nil, length, subst, sym}
use Rattle.std.specs.Io.KnownBytes.{Consumes, IsAtEnd}
use Rattle.lb_syntax.specs.Tokens.{Text}
use Rattle.lb_feed.specs.Windows.{Left}
use Rattle.lb_report.specs.AcceptedPrograms.{IsAcceptedProgram}
use Rattle.lb_report.specs.Bench.{IsRefused, OnlyProgram, program_of}
use Rattle.lb_report.specs.Correct.{IsBenchAnswer}
use Rattle.lb_report.specs.FeedAnswers.{IsAnswerOnFeed}
use Rattle.lb_report.specs.FeedJudging.{too_long}
use Rattle.lb_report.specs.declared.answer.AcceptedProgram.{AcceptedProgram}
use Rattle.lb_refusal.specs.declared.error.BenchError.{BenchError}
use Rattle.lb_refusal.specs.declared.options.Options.{Options}
use Rattle.lb_output.specs.declared.text.Report.{Report}
use Rattle.lb_report.proofs.FeedAnswering.{long_refused}

-- a feed that was read to its end gave all the bytes that it told
all_given : (old new : Option (List ℕ)) (text more : List ℕ) → old ≡ Some text
    → Consumes old new more → IsAtEnd new → more ≡ text
all_given None new text more told came end = cc
all_given (Some xs) None text more told came end = absurd came
all_given (Some xs) (Some ys) text more told came end =
    let same : xs ≡ text = cc in
    sym (append-nil more) ∙ ap (λ rest. more ++ rest) (sym end) ∙ sym came ∙ same

-- the answer on a feed that tells a text is the answer to the text
pub text_answered : (source text : Text) (options : Options) (old new : Left)
    (told : Result Report BenchError)
    → old.coming ≡ Some text → IsAnswerOnFeed source options old new told
    → IsBenchAnswer source text options told
text_answered source text options old new told is found =
    subst (λ t. IsBenchAnswer source t options told)
    (all_given old.coming new.coming text found.traces is found.consumed found.end) found.answer

-- a text that is too long is refused, where the source is accepted
pub refused_long : (source traces : Text) (options : Options) (p : AcceptedProgram)
    → OnlyProgram source options (IsAcceptedProgram p) → 1073741824 < length traces
    → IsRefused source traces options too_long
refused_long source traces options p found long = record {
  tree = found.tree;
  spelled = found.spelled;
  holds = (
    found.holds.accepted,
    long_refused (program_of found.tree options) traces long,
  );
}
