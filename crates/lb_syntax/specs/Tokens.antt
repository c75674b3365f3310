-- The tokens of a text.
-- Source: the lexical conventions of the Lustre V6 reference manual, narrowed to the words and
-- symbols of this project's profile.
use Rattle.std.specs.Prelude.{ℕ, zero, suc, ◌+◌, ◌-◌, ◌*◌, min, Bool, not, ◌||◌, if◌then◌else◌}
use Rattle.std.specs.Prelude.{◌==◌, nat_eq, List, [], ◌∷◌, ◌++◌, drop, fold, length, slice_index}
use Rattle.std.specs.Prelude.{take_while, Option, Some, None, codes, bytes_eq}
use Rattle.std.specs.Char.{is_ascii_digit, is_ascii_alphabetic, is_ascii_alphanumeric}
use Rattle.std.specs.List.{prefix_len, starts_with}
use Rattle.std.specs.Option.{option_map}
use Rattle.lb_syntax.specs.declared.token.Mark.{Mark}
use Rattle.lb_syntax.specs.declared.token.Mark.TheVariants as m
use Rattle.lb_syntax.specs.declared.token.Token.{Token}
use Rattle.lb_syntax.specs.declared.token.Token.TheVariants as token

-- a text is a list of bytes
abbrev pub Text : Type 0
Text = List ℕ

-- ---- bytes

-- space, tab, carriage return, newline, form feed
abbrev pub is_space : ℕ → Bool
is_space b = b == 32 || b == 9 || b == 13 || b == 10 || b == 12

-- the newline, which alone ends a line
abbrev pub is_newline : ℕ → Bool
is_newline b = b == 10

-- a letter or `_`
abbrev pub begins_name : ℕ → Bool
begins_name b = is_ascii_alphabetic b || b == 95

-- a letter, a digit or `_`
abbrev pub continues_name : ℕ → Bool
continues_name b = is_ascii_alphanumeric b || b == 95

-- whether `text` begins with `bytes`
abbrev pub begins : Text → Text → Bool
begins text bytes = starts_with nat_eq text bytes

-- ---- words, literals and symbols

-- the reserved words
abbrev pub words : List (Text × Mark)
words =
    (codes "and", m.And) ∷ (codes "assert", m.Assert) ∷ (codes "bool", m.Bool) ∷
    (codes "const", m.Const) ∷ (codes "current", m.Current) ∷ (codes "div", m.Div) ∷
    (codes "else", m.Else) ∷ (codes "false", m.False) ∷ (codes "fby", m.Fby) ∷
    (codes "function", m.Function) ∷ (codes "if", m.If) ∷ (codes "int", m.Int) ∷
    (codes "let", m.Let) ∷ (codes "mod", m.Mod) ∷ (codes "node", m.Node) ∷ (codes "nor", m.Nor) ∷
    (codes "not", m.Not) ∷ (codes "or", m.Or) ∷ (codes "pre", m.Pre) ∷
    (codes "returns", m.Returns) ∷ (codes "tel", m.Tel) ∷ (codes "then", m.Then) ∷
    (codes "true", m.True) ∷ (codes "var", m.Var) ∷ (codes "when", m.When) ∷
    (codes "xor", m.Xor) ∷ []

-- the symbols of two bytes
abbrev pub pairs : List (Text × Mark)
pairs =
    (codes "->", m.Arrow) ∷ (codes "=>", m.Implies) ∷ (codes "<>", m.Unequal) ∷
    (codes "<=", m.AtMost) ∷ (codes ">=", m.AtLeast) ∷ (codes "<<", m.OpenStatic) ∷
    (codes ">>", m.CloseStatic) ∷ (codes "..", m.DotDot) ∷ []

-- the symbols of one byte
abbrev pub singles : List (Text × Mark)
singles =
    (codes ".", m.Dot) ∷ (codes ";", m.Semicolon) ∷ (codes ":", m.Colon) ∷ (codes ",", m.Comma) ∷
    (codes "(", m.Open) ∷ (codes ")", m.Close) ∷ (codes "[", m.OpenBracket) ∷
    (codes "]", m.CloseBracket) ∷ (codes "=", m.Equal) ∷ (codes "<", m.Less) ∷
    (codes ">", m.Greater) ∷ (codes "+", m.Plus) ∷ (codes "-", m.Minus) ∷ (codes "*", m.Star) ∷
    (codes "/", m.Slash) ∷ (codes "^", m.Caret) ∷ (codes "|", m.Bar) ∷ (codes "#", m.Hash) ∷ []

-- all symbols; those of two bytes stand first, so the first that fits is the longest: `<=`, not `<`
abbrev pub symbols : List (Text × Mark)
symbols = pairs ++ singles

-- the mark that a table has for a whole word, if there is one
abbrev pub lookup : List (Text × Mark) → Text → Option Mark
lookup [] text = None
lookup (entry ∷ table) text = if bytes_eq entry.0 text then Some entry.1 else lookup table text

-- the token of a word: its mark if it is reserved, else a name
abbrev pub word_by : Text → Option Mark → Token
word_by text None = token.Name text
word_by text (Some mark) = token.Mark mark

-- the token of a whole word
unfoldable pub word : Text → Token
word text = word_by text (lookup words text)

-- the value of decimal digits; each value above the greatest literal, 2147483647, is 2147483648
unfoldable pub value_of : Text → ℕ
value_of digits = min (fold (λ value digit. 10 * value + (digit - 48)) 0 digits) 2147483648

-- ---- pieces

-- A piece at the front of a text, with its length in bytes: white space or a comment, a token, or
-- one byte that begins none of these.
pub data Piece : Type 0 where
  Blank : ℕ → Piece
  Lexeme : Token → ℕ → Piece
  Wrong : Piece

-- the length of a piece
abbrev pub size : Piece → ℕ
size (Blank n) = n
size (Lexeme t n) = n
size Wrong = 1

-- the number of bytes of a text through the end of the first `bytes` in it, if there is one: 4 for
-- `*)` in `ab*)c`
abbrev pub through : Text → Text → Option ℕ
through bytes [] = None
through bytes (b ∷ rest) =
    if begins (b ∷ rest) bytes then Some (length bytes)
    else option_map (λ n. n + 1) (through bytes rest)

-- the comment of two opening bytes and `n` bytes through its end, or a wrong piece without an end;
-- comments do not nest
abbrev pub comment : Option ℕ → Piece
comment None = Wrong
comment (Some n) = Blank (n + 2)

-- the first symbol of a table with which the text begins
abbrev pub symbol_of : List (Text × Mark) → Text → Piece
symbol_of [] text = Wrong
symbol_of (entry ∷ table) text =
    if begins text entry.0 then Lexeme (token.Mark entry.1) (length entry.0)
    else symbol_of table text

-- the piece at the front of a text: a comment is tried before any symbol, and a word or a literal
-- is as long as it goes
unfoldable pub piece : Text → Piece
piece text =
    let first = slice_index text 0 in
    let name = take_while continues_name text in
    let digits = take_while is_ascii_digit text in
    if is_space first then Blank 1
    else (if begins text (codes "--") then Blank (prefix_len (λ b. not (is_newline b)) text)
    else (if begins text (codes "(*") then comment (through (codes "*)") (drop 2 text))
    else (if begins text (codes "/*") then comment (through (codes "*/") (drop 2 text))
    else (if begins_name first then Lexeme (word name) (length name)
    else (if is_ascii_digit first then Lexeme (token.Literal (value_of digits)) (length digits)
    else symbol_of symbols text)))))

-- the pieces of a text after its first `n` bytes, which belong to the piece before
unfoldable pub pieces_after : ℕ → Text → List Piece
pieces_after n [] = []
pieces_after (suc n) (b ∷ rest) = pieces_after n rest
pieces_after zero (b ∷ rest) =
    let front = piece (b ∷ rest) in front ∷ pieces_after (size front - 1) rest

-- the pieces of a text, from its front
abbrev pub pieces : Text → List Piece
pieces = pieces_after 0

-- ---- tokens

-- the tokens among some pieces, or none where a piece is wrong
abbrev pub tokens_of : List Piece → Option (List Token)
tokens_of [] = Some []
tokens_of (Blank n ∷ rest) = tokens_of rest
tokens_of (Lexeme t n ∷ rest) = option_map (λ ts. t ∷ ts) (tokens_of rest)
tokens_of (Wrong ∷ rest) = None

-- the tokens of a text, or none where a byte begins no token or a comment has no end
abbrev pub tokens : Text → Option (List Token)
tokens text = tokens_of (pieces text)
