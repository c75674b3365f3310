use Rattle.std.proofs.Common.{sym, subst}
use Rattle.std.specs.Str.{IsUtf8}
use Rattle.lb_syntax.proofs.NameTexts.{name_is_text}
use Rattle.lb_syntax.proofs.lex.cut.Goals as goal

pub word-requires : goal.word-requires
word-requires c = subst IsUtf8 (sym c.run-name.ensures.value) (name_is_text c.args.text.now)
