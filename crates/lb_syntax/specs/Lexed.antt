-- The promises of the functions that cut a text into tokens.
use Rattle.std.specs.Prelude.{◌≡◌, ℕ, ◌<◌, ◌≤◌, All, AllPairs, Bool, not, length, Some, None}
use Rattle.std.specs.Prelude.{Result, Ok, Err}
use Rattle.std.specs.Char.{is_ascii_digit}
use Rattle.lb_syntax.specs.declared.lex.Class.{Class}
use Rattle.lb_syntax.specs.declared.lex.Class.TheVariants as class
use Rattle.lb_syntax.specs.declared.lex.Front.{Front}
use Rattle.lb_syntax.specs.declared.lex.Front.TheVariants as front
use Rattle.lb_syntax.specs.declared.lex.LexError.{LexError}
use Rattle.lb_syntax.specs.declared.lex.LexError.TheVariants as error
use Rattle.lb_syntax.specs.declared.lex.Tokens.{Tokens}
use Rattle.lb_syntax.specs.Tokens.{Text, Piece, Blank, Lexeme, Wrong, is_newline, continues_name}
use Rattle.lb_syntax.specs.Tokens.{tokens}
use Rattle.lb_syntax.specs.Places.{starts, wrong_at}

-- `text` has the tokens `found`, with the offset at which each starts
pub record IsLexed (text : Text) (found : Tokens) : Type 0 where
  pub tokens_are : tokens text ≡ Some found.tokens.items
  pub starts_are : found.starts.items ≡ starts text
  pub one_start_each : length found.starts.items ≡ length found.tokens.items
  pub starts_within : All (λ start. start < length text) found.starts.items
  pub starts_increase : AllPairs (λ earlier later. earlier < later) found.starts.items

-- `text` has no tokens, and its first wrong piece stands at offset `at`
pub record IsWrongAt (text : Text) (at : ℕ) : Type 0 where
  pub has_none : tokens text ≡ None
  pub place : wrong_at text ≡ Some at

-- the promise of `lex` on its result; it says nothing where memory ran out
abbrev pub Lexes : Text → Result Tokens LexError → Type 0
Lexes text (Ok found) = IsLexed text found
Lexes text (Err error.Memory) = Unit {0}
Lexes text (Err (error.Character at)) = IsWrongAt text at

-- ---- definitions for the lexer's own functions

-- whether a byte is of a class
abbrev pub passes : Class → ℕ → Bool
passes class.Line = λ b. not (is_newline b)
passes class.Name = continues_name
passes class.Digit = is_ascii_digit

-- the plain piece that a `Front` stands for
abbrev pub piece_of : Front → Piece
piece_of (front.Blank n) = Blank n
piece_of (front.Lexeme t n) = Lexeme t n
piece_of front.Wrong = Wrong

-- a piece has at least one byte, and lies within `text`
abbrev pub IsWithin : Text → Front → Type 0
IsWithin text (front.Blank n) = (1 ≤ n) × (n ≤ length text)
IsWithin text (front.Lexeme t n) = (1 ≤ n) × (n ≤ length text)
IsWithin text front.Wrong = Unit {0}
