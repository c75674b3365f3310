-- The promise of `parse` on a text, from what is read of its tokens.
use Rattle.std.proofs.Common.{◌≡◌, List, Some, None, subst}
use Rattle.lb_syntax.specs.declared.token.Token.{Token}
use Rattle.lb_syntax.specs.Correct.{SpellsText, IsOnlyProgram, IsSyntaxFault}
use Rattle.lb_syntax.specs.Grammar.{Spells}
use Rattle.lb_syntax.specs.Programs.{source_at}
use Rattle.lb_syntax.specs.Texts.{HasTokens}
use Rattle.lb_syntax.specs.Tokens.{Text, tokens}
use Rattle.lb_syntax.specs.Tree.{Source}
use Rattle.lb_syntax.proofs.Sources.{source_read, source_unique, source_none}

-- a text has at most one list of tokens
same_tokens : (text : Text) (ts us : List Token) → tokens text ≡ Some ts → tokens text ≡ Some us →
    us ≡ ts
same_tokens text ts us p q = cc

spelled_by : (text : Text) (ts : List Token) (s : Source) → tokens text ≡ Some ts →
    SpellsText s text → Spells s ts
spelled_by text ts s is spelled =
    subst (Spells s) (same_tokens text ts spelled.0 is spelled.1) spelled.2

pub only_program : (text : Text) (ts : List Token) (s : Source) → HasTokens text ts →
    source_at ts ≡ Some s → IsOnlyProgram s text
only_program text ts s has found =
    let spelled = source_read ts s found in
    record {
      text_spells_it = (ts, has.tokens_are, spelled);
      no_other_is_spelled = λ other is.
          source_unique s other ts spelled (spelled_by text ts other has.tokens_are is);
      limits_hold = (ts, has);
    }

pub syntax_fault : (text : Text) (ts : List Token) → HasTokens text ts → source_at ts ≡ None →
    IsSyntaxFault text
syntax_fault text ts has none = record {
  limits_hold = (ts, has);
  none_is_spelled = λ s is. source_none ts none s (spelled_by text ts s has.tokens_are is);
}
