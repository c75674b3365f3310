-- Refusals of a text for its bytes and its size, before any tree is looked for, and their places.
-- Source: this project's rule.
use Rattle.std.specs.Prelude.{◌≡◌, ℕ, ◌<◌, ◌≤◌, ◌⊎◌, List, length, slice_index, Some, None, Result}
use Rattle.std.specs.Prelude.{Ok, Err, IsTrue, IsFalse}
use Rattle.lb_syntax.specs.declared.error.SyntaxError.{SyntaxError}
use Rattle.lb_syntax.specs.declared.error.SyntaxError.TheVariants as error
use Rattle.lb_syntax.specs.declared.lex.Tokens.{Tokens}
use Rattle.lb_syntax.specs.declared.token.Token.{Token}
use Rattle.lb_syntax.specs.Tokens.{Text, tokens}
use Rattle.lb_syntax.specs.Limits.{keeps_limits, IsFirstOver}
use Rattle.lb_syntax.specs.Places.{IsPlace, starts, wrong_at}
use Rattle.lb_syntax.specs.Lexed.{IsLexed}

-- `text` is over its limit of 1,000,000 bytes
abbrev pub IsTooLong : Text → Type 0
IsTooLong text = 1000000 < length text

-- `text` has no tokens: a byte begins none, or a comment has no end
abbrev pub HasNoTokens : Text → Type 0
HasNoTokens text = tokens text ≡ None

-- the text has tokens, and a name, a literal or a statement among them breaks its limit
abbrev pub BreaksLimit : Text → Type 0
BreaksLimit text = (ts : List Token) × (tokens text ≡ Some ts) × IsFalse (keeps_limits ts)

-- `text` has the tokens `ts` and keeps all limits
pub record HasTokens (text : Text) (ts : List Token) : Type 0 where
  pub short : length text ≤ 1000000
  pub tokens_are : tokens text ≡ Some ts
  pub limits_kept : IsTrue (keeps_limits ts)

-- ---- the places of refusals

-- refused as E1 at this place; only the length of the text is judged before
pub record IsCharacterFault (text : Text) (line column : ℕ) : Type 0 where
  pub short : length text ≤ 1000000
  pub has_none : HasNoTokens text
  pub place : (offset : ℕ) × (wrong_at text ≡ Some offset) × IsPlace text offset line column

-- refused as E3 for the length of the text, which is judged first
pub record IsTextFault (text : Text) (line column : ℕ) : Type 0 where
  pub too_long : IsTooLong text
  pub first_line : line ≡ 1
  pub first_column : column ≡ 1

-- refused as E3 for the token at `index`, which is judged once the text has tokens
pub record IsTokenFault (text : Text) (line column : ℕ) (ts : List Token) (index : ℕ) : Type 0 where
  pub short : length text ≤ 1000000
  pub tokens_are : tokens text ≡ Some ts
  pub limit_broken : IsFalse (keeps_limits ts)
  pub first : IsFirstOver ts index
  pub place : IsPlace text (slice_index (starts text) index) line column

-- refused as E3, for the length of the text or for a token
abbrev pub IsSizeFault : Text → ℕ → ℕ → Type 0
IsSizeFault text line column =
    IsTextFault text line column ⊎
    ((ts : List Token) × (index : ℕ) × IsTokenFault text line column ts index)

-- ---- the promise of `read_tokens`

-- `text` keeps all limits, and `found` has its tokens and the offset at which each starts
pub record IsRead (text : Text) (found : Tokens) : Type 0 where
  pub has_tokens : HasTokens text found.tokens.items
  pub lexed : IsLexed text found

-- the promise of `read_tokens` on its result; it says nothing where memory ran out
abbrev pub Reads : Text → Result Tokens SyntaxError → Type 0
Reads text (Ok found) = IsRead text found
Reads text (Err error.Memory) = Unit {0}
Reads text (Err (error.Character line column)) = IsCharacterFault text line column
Reads text (Err (error.Syntax line column)) = ⊥
Reads text (Err (error.Size line column)) = IsSizeFault text line column
