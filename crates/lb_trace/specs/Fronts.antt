-- The digits at the front of a text.
-- This file says what the code finds in a text; no definition of the language stands on it.
use Rattle.std.specs.Prelude.{ℕ, ◌≡◌, ◌<◌, ◌≤◌, ◌+◌, ◌-◌, ◌*◌, Bool, true, false, not, List, ◌++◌}
use Rattle.std.specs.Prelude.{map, take, drop, replicate}
use Rattle.std.specs.Char.{is_ascii_digit}
use Rattle.std.specs.List.{fold, list_all}
use lib.Lanes.{digits_l, mask_l, number_l}

-- the bytes that are no digits, as bits: bit `i` is 1 where byte `i` of `text` is no digit
abbrev pub others : List ℕ → ℕ
others text = mask_l (map (λ b. not (is_ascii_digit b)) text)

-- the text after its sign, if it has one
abbrev pub past_sign : Bool → List ℕ → List ℕ
past_sign true text = drop 1 text
past_sign false text = text

abbrev pub sign_len : Bool → ℕ
sign_len true = 1
sign_len false = 0

-- the first `count` bytes after the sign are digits, and the next byte is among the first eight of
-- `text`; a `count` above 7 claims nothing
abbrev pub CountsDigits : Bool → List ℕ → ℕ → Type 0
CountsDigits negative text count =
    count ≤ 7
    → (count + sign_len negative < 8)
    × (list_all is_ascii_digit (take count (past_sign negative text)) ≡ true)

-- the eight bytes of a number of 64 bits, the lowest one first
unfoldable pub bytes_of : ℕ → List ℕ
bytes_of n = digits_l 256 8 n

-- the first `count` digits of `text`, behind as many 0 as make them eight: 0 0 0 0 0 0 5 7 for 57
unfoldable pub lone : ℕ → List ℕ → List ℕ
lone count text = replicate (8 - count) 0 ++ map (λ b. b - 48) (take count text)

-- the number that decimal digits stand for, the highest one first
unfoldable pub joined : List ℕ → ℕ
joined digits = fold (λ n digit. n * 10 + digit) 0 digits

-- the number with these bytes, the lowest one first
unfoldable pub number_of : List ℕ → ℕ
number_of bytes = number_l 256 bytes
