-- The keys by which static expressions are found, and when two of them are equal.
-- This file mirrors code (src/part_keys.rt); no definition of the language stands on it.
use denote.Enum.Bare.{sameb}
use Rattle.std.specs.Prelude.{ℕ, ◌+◌, ◌*◌, ◌%◌, ◌^◌, nat_eq, Bool, true, false, ◌&&◌, Option, Some}
use Rattle.std.specs.Prelude.{None, option_map, List, [], ◌∷◌}
use Rattle.std.specs.Str.{bytes_eq}
use Rattle.lb_syntax.specs.Lists.{holds}
use Rattle.lb_syntax.specs.Tree.{Name, Static, Whole, Named, Negated, Combined, Grouped}
use Rattle.lb_syntax.specs.contracts.tree.BinaryOperator.{the_type}
use Rattle.lb_syntax.specs.declared.tree.BinaryOperator.{BinaryOperator}
use Rattle.lb_syntax.specs.declared.tree.BinaryOperator.TheVariants.{Plus, Minus, Times, Divide}
use Rattle.lb_syntax.specs.declared.tree.BinaryOperator.TheVariants.{Modulo}
use Rattle.lb_static.specs.StaticParts.{Part, Purpose, Size, Index, SliceStart, SliceEnd, Value}
use Rattle.lb_static.specs.StaticParts.{Dimension, Argument}

-- ## Equality

-- whether two static expressions are written alike
abbrev pub is_same_static : Static → Static → Bool
is_same_static (Whole m) (Whole n) = nat_eq m n
is_same_static (Named x) (Named y) = bytes_eq x y
is_same_static (Grouped s) (Grouped t) = is_same_static s t
is_same_static (Negated s) (Negated t) = is_same_static s t
is_same_static (Combined op s t) (Combined other u v) =
    sameb the_type op other && (is_same_static s u && is_same_static t v)
is_same_static _ _ = false

abbrev pub is_same_purpose : Purpose → Purpose → Bool
is_same_purpose Size Size = true
is_same_purpose Index Index = true
is_same_purpose SliceStart SliceStart = true
is_same_purpose (SliceEnd s) (SliceEnd t) = is_same_static s t
is_same_purpose Value Value = true
is_same_purpose _ _ = false

abbrev pub is_same_part : Part → Part → Bool
is_same_part p q = is_same_purpose p.0 q.0 && is_same_static p.1 q.1

-- ## Keys

-- the letter of a purpose whose static expressions are kept once
abbrev pub letter_of : Purpose → Option ℕ
letter_of Size = Some 115
letter_of Index = Some 105
letter_of SliceStart = Some 97
letter_of (SliceEnd s) = Some 101
letter_of Value = Some 118
letter_of Dimension = None
letter_of Argument = None

-- a key with one more number in it
abbrev pub key_with : ℕ → ℕ → ℕ
key_with key n = ((key * 6364136223846793005) % 2 ^ 64 + n) % 2 ^ 64

abbrev pub bytes_key : ℕ → List ℕ → ℕ
bytes_key key [] = key
bytes_key key (b ∷ bs) = bytes_key (key_with key b) bs

abbrev pub name_key : ℕ → Name → ℕ
name_key key x = bytes_key (key_with key 110) x

-- the sign of an operator of arithmetic
abbrev pub sign_of : BinaryOperator → ℕ
sign_of Plus = 43
sign_of Minus = 45
sign_of Times = 42
sign_of Divide = 47
sign_of Modulo = 37
sign_of _ = 63

abbrev pub static_key : ℕ → Static → ℕ
static_key key (Whole n) = key_with key n
static_key key (Named x) = name_key key x
static_key key (Grouped s) = static_key (key_with key 40) s
static_key key (Negated s) = static_key (key_with key 45) s
static_key key (Combined op s t) = static_key (static_key (key_with key (sign_of op)) s) t

-- the letter of a purpose, with the first end of a slice where it is that of a last end
abbrev pub start_key : Purpose → ℕ → ℕ
start_key (SliceEnd s) letter = static_key letter s
start_key _ letter = letter

abbrev pub role_key : Purpose → Option ℕ
role_key p = option_map (start_key p) (letter_of p)

-- the key of a static expression, if it may be kept once
abbrev pub key_of : Part → Option ℕ
key_of p = option_map (λ key. static_key key p.1) (role_key p.0)

abbrev pub has_key : ℕ → Part → Bool
has_key k p = holds (nat_eq k) (key_of p)
