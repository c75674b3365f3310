-- Places in a text: as an offset in bytes, and as a line and a column.
-- Source: this project's rule.
use Rattle.std.specs.Prelude.{◌≡◌, ℕ, ◌+◌, not, List, [], ◌∷◌, take, count_by, Option, Some, None}
use Rattle.std.specs.List.{suffix_len}
use Rattle.lb_syntax.specs.Tokens.{Text, Piece, Blank, Lexeme, Wrong, pieces, is_newline}

-- the offsets of the tokens among some pieces, the first of which stands at offset `at`
abbrev pub starts_from : ℕ → List Piece → List ℕ
starts_from at [] = []
starts_from at (Blank n ∷ rest) = starts_from (at + n) rest
starts_from at (Lexeme t n ∷ rest) = at ∷ starts_from (at + n) rest
starts_from at (Wrong ∷ rest) = starts_from (at + 1) rest

-- the offset of each token's first byte
abbrev pub starts : Text → List ℕ
starts text = starts_from 0 (pieces text)

-- the offset of the first wrong piece among some pieces, the first of which stands at offset `at`
abbrev pub wrong_from : ℕ → List Piece → Option ℕ
wrong_from at [] = None
wrong_from at (Wrong ∷ rest) = Some at
wrong_from at (Blank n ∷ rest) = wrong_from (at + n) rest
wrong_from at (Lexeme t n ∷ rest) = wrong_from (at + n) rest

-- the offset of the first byte that begins no token, or of the first byte of an unclosed comment
abbrev pub wrong_at : Text → Option ℕ
wrong_at text = wrong_from 0 (pieces text)

-- the line of an offset, counted from 1; the newline alone ends a line
abbrev pub line_of : Text → ℕ → ℕ
line_of text offset = 1 + count_by is_newline (take offset text)

-- the column of an offset, counted in bytes, from 1 after each newline
abbrev pub column_of : Text → ℕ → ℕ
column_of text offset = 1 + suffix_len (λ b. not (is_newline b)) (take offset text)

-- `line` and `column` are those of `offset` in `text`
pub record IsPlace (text : Text) (offset line column : ℕ) : Type 0 where
  pub line_is : line ≡ line_of text offset
  pub column_is : column ≡ column_of text offset
