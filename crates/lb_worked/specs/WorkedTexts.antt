-- Texts for the examples of tokens, places and limits.
-- Source: this project's rule.
use Rattle.std.specs.Prelude.{ℕ, List, [], ◌∷◌, ◌++◌, Option, map, count_by, codes}
use Rattle.std.specs.Option.{option_map_or}
use Prim.Native.String.{String}
use Rattle.lb_syntax.specs.declared.token.Mark.{Mark}
use Rattle.lb_syntax.specs.declared.token.Mark.TheVariants as m
use Rattle.lb_syntax.specs.declared.token.Token.{Token}
use Rattle.lb_syntax.specs.declared.token.Token.TheVariants as token
use Rattle.lb_syntax.specs.Tokens.{Text, tokens}
use Rattle.lb_syntax.specs.Places as places
use Rattle.lb_syntax.specs.Limits.{statements, is_counted}

-- ## Words of the examples

-- the tokens of a text, the offset of each, and the offset of the first byte that begins none
abbrev pub tokens_of : String → Option (List Token)
tokens_of text = tokens (codes text)

abbrev pub starts_of : String → List ℕ
starts_of text = places.starts (codes text)

abbrev pub wrong_in : String → Option ℕ
wrong_in text = places.wrong_at (codes text)

abbrev pub named : String → Token
named x = token.Name (codes x)

abbrev pub number : ℕ → Token
number n = token.Literal n

abbrev pub mark : Mark → Token
mark k = token.Mark k

-- the number of counted tokens in each statement
abbrev pub counts : String → List ℕ
counts text = option_map_or (λ ts. map (count_by is_counted) (statements ts)) (tokens_of text) []

-- ## Bytes

-- a comment of any bytes to the end of its line, white space, and `y`
abbrev pub line_comment : Text
line_comment = codes "-- x" ++ 13 ∷ 255 ∷ 10 ∷ 9 ∷ 12 ∷ codes " y"

-- two comments of any bytes, and then a byte that begins no token
abbrev pub bytes_in_comments : Text
bytes_in_comments = codes "(*" ++ 0 ∷ 255 ∷ (codes "*)/*" ++ 0 ∷ (codes "*/" ++ 0 ∷ []))

-- bytes that are neither white space nor part of any token
abbrev pub no_token : List ℕ
no_token = codes "%@$&~!?'`{}" ++ 34 ∷ 92 ∷ 0 ∷ 11 ∷ 127 ∷ 128 ∷ 195 ∷ 255 ∷ []

-- `b` on the second line, and behind it `%`, which begins no token
abbrev pub on_the_second_line : ℕ → Text
on_the_second_line b = codes "const n" ++ 10 ∷ 9 ∷ (codes "= " ++ b ∷ codes " %")

-- ## Marks

abbrev pub longest_symbols : List Token
longest_symbols =
    mark m.OpenStatic ∷ mark m.AtMost ∷ mark m.DotDot ∷ mark m.Arrow ∷ mark m.CloseStatic ∷
    mark m.Equal ∷ named "a" ∷ []

abbrev pub literals : List Token
literals = mark m.Minus ∷ number 2147483648 ∷ number 2147483647 ∷ number 2147483648 ∷ []

abbrev pub names : List Token
names =
    named "prefix" ∷ mark m.Pre ∷ named "_1" ∷ named "map" ∷ number 7 ∷ named "up" ∷ number 7 ∷ []

abbrev pub reserved_words : Text
reserved_words =
    codes "and assert bool const current div else false fby function if int let " ++
    codes "mod node nor not or pre returns tel then true var when xor"

-- the marks of `reserved_words`, in the same order
abbrev pub reserved : List Mark
reserved =
    m.And ∷ m.Assert ∷ m.Bool ∷ m.Const ∷ m.Current ∷ m.Div ∷ m.Else ∷ m.False ∷ m.Fby ∷
    m.Function ∷ m.If ∷ m.Int ∷ m.Let ∷ m.Mod ∷ m.Node ∷ m.Nor ∷ m.Not ∷ m.Or ∷ m.Pre ∷
    m.Returns ∷ m.Tel ∷ m.Then ∷ m.True ∷ m.Var ∷ m.When ∷ m.Xor ∷ []

abbrev pub symbols : List Mark
symbols =
    m.Implies ∷ m.Unequal ∷ m.AtLeast ∷ m.Dot ∷ m.Semicolon ∷ m.Colon ∷ m.Comma ∷ m.Open ∷
    m.Close ∷ m.OpenBracket ∷ m.CloseBracket ∷ m.Unequal ∷ m.Plus ∷ m.Minus ∷ m.Star ∷
    m.Slash ∷ m.Caret ∷ m.Bar ∷ m.Hash ∷ []
