use Rattle.std.proofs.Common.{◌≡◌, ◌∙◌, ap, Option, Some}
use Rattle.clap.specs.Lexer.{usize_max}
use Rattle.clap.specs.Words.{Rule, rule_of}
use Rattle.clap.specs.declared.builder.arg.Arg.{Arg}
use Rattle.clap.specs.declared.builder.range.ValueRange.{ValueRange}
use Rattle.lb_words.specs.WordValues.{named}
use Rattle.lb_words.proofs.Ranges.{some_is}
use Rattle.lb_words.proofs.modes.several_argument.Goals as goal

pub returns-clause-rule : goal.returns-clause-rule
returns-clause-rule c =
    let range = c.num_args.result.num_vals in
    let most : ValueRange = record { start_inclusive = 1; end_inclusive = usize_max } in
    let is : range ≡ Some most = some_is range most c.num_args.ensures.1 in
    ap rule_of c.num_args.ensures.0
    ∙ ap (λ (rule : Rule). record rule { range = range }) c.named_argument.ensures.rule
    ∙ ap (λ (o : Option ValueRange). record (named c.args.name.now) { range = o }) is

pub returns-clause-global : goal.returns-clause-global
returns-clause-global c =
    ap (λ (a : Arg). a.global) c.num_args.ensures.0 ∙ c.named_argument.ensures.global
