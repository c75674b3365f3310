use Rattle.lb_syntax.proofs.Words.{word_found}
use Rattle.lb_syntax.proofs.lex.word_mark.Goals as goal

pub returns : goal.returns
returns c = word_found c.args.text.now _ _ c.words_of.ensures c.lookup.ensures
