use Rattle.std.proofs.Common.{arith, rules, ◌∙◌, ◌≡◌, length}
use Rattle.lb_syntax.proofs.Words.{no_symbol, one_symbol, two_symbol}
use Rattle.lb_syntax.proofs.lex.symbol_mark.Goals as goal

pub returns-in-1 : goal.returns-in-1
returns-in-1 c =
    let one : length c.args.text.now ≡ 1 = omega arith in
    c.single.ensures ∙ one_symbol c.args.text.now one

pub returns-in-2 : goal.returns-in-2
returns-in-2 c =
    let two : length c.args.text.now ≡ 2 = omega arith in
    c.pair.ensures ∙ two_symbol c.args.text.now two

pub returns-in_default : goal.returns-in_default
returns-in_default c = search (rules, no_symbol)
