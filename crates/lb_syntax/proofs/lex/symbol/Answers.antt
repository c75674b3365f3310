use Rattle.std.proofs.Common.{None, Some, refl, sym}
use Rattle.lb_syntax.proofs.Words.{symbol_is}
use Rattle.lb_syntax.proofs.lex.symbol.Goals as goal

pub returns-in-Some-clause-value : goal.returns-in-Some-clause-value
returns-in-Some-clause-value c =
    sym (symbol_is c.args.text.now _ _ (Some c.in-Some.mark) _ c.requires refl
    c.byte_at.ensures.value (cc) refl)

pub returns-in-Some-single-clause-value : goal.returns-in-Some-single-clause-value
returns-in-Some-single-clause-value c =
    sym (symbol_is c.args.text.now _ _ None (Some c.in-Some-single.mark) c.requires refl
    c.byte_at.ensures.value (cc) (cc))

pub returns-in-None-clause-value : goal.returns-in-None-clause-value
returns-in-None-clause-value c =
    sym (symbol_is c.args.text.now _ _ None None c.requires refl
    c.byte_at.ensures.value (cc) (cc))
