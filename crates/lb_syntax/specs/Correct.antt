-- The promise of `parse` on a text.
-- Source: the order of the refusals and the limits are this project's rule.
use Rattle.std.specs.Prelude.{◌≡◌, ℕ, ◌⊎◌, Contains, List, Some, Result, Ok, Err, length}
use Rattle.lb_syntax.specs.declared.error.SyntaxError.{SyntaxError}
use Rattle.lb_syntax.specs.declared.error.SyntaxError.TheVariants as error
use Rattle.lb_syntax.specs.declared.token.Token.{Token}
use Rattle.lb_syntax.specs.declared.tree.Source.{Source}
use Rattle.lb_syntax.specs.Grammar.{Spells}
use Rattle.lb_syntax.specs.Places.{IsPlace, starts}
use Rattle.lb_syntax.specs.SourceView.{view_source}
use Rattle.lb_syntax.specs.Texts.{HasTokens, IsCharacterFault, IsSizeFault}
use Rattle.lb_syntax.specs.Tokens.{Text, tokens}
use Rattle.lb_syntax.specs.Tree as tree

-- `text` has tokens, and they spell the program `s`
abbrev pub SpellsText : tree.Source → Text → Type 0
SpellsText s text = (ts : List Token) × (tokens text ≡ Some ts) × Spells s ts

-- the text keeps its limit, has tokens, and they keep the limits of names, literals and statements
abbrev pub KeepsLimits : Text → Type 0
KeepsLimits text = (ts : List Token) × HasTokens text ts

-- accepted: the text spells this program and no other, and the limits hold
pub record IsOnlyProgram (s : tree.Source) (text : Text) : Type 0 where
  pub text_spells_it : SpellsText s text
  pub no_other_is_spelled : (other : tree.Source) → SpellsText other text → s ≡ other
  pub limits_hold : KeepsLimits text

-- refused as E2: all that is judged before holds, and the text spells no program
pub record IsSyntaxFault (text : Text) : Type 0 where
  pub limits_hold : KeepsLimits text
  pub none_is_spelled : (s : tree.Source) → SpellsText s text → ⊥

-- the place of the first byte of a token, or of the end of the text
abbrev pub IsTokenPlace : (text : Text) (line column : ℕ) → Type 0
IsTokenPlace text line column = (offset : ℕ)
    × (Contains (starts text) offset ⊎ (offset ≡ length text)) × IsPlace text offset line column

-- refused as E2 at this place, that of a token or of the end; at which token is not promised
pub record IsSyntaxFaultAt (text : Text) (line column : ℕ) : Type 0 where
  pub fault : IsSyntaxFault text
  pub place : IsTokenPlace text line column

-- the promise of `parse` on its result; it says nothing where memory ran out
abbrev pub Parses : Text → Result Source SyntaxError → Type 0
Parses text (Ok s) = IsOnlyProgram (view_source s) text
Parses text (Err error.Memory) = Unit {0}
Parses text (Err (error.Character line column)) = IsCharacterFault text line column
Parses text (Err (error.Size line column)) = IsSizeFault text line column
Parses text (Err (error.Syntax line column)) = IsSyntaxFaultAt text line column
