-- The arguments of a command line, and the values that its words give for them.
-- Source: this project's rule; what words make of a command line is what the library `clap` says.
use Rattle.std.specs.Prelude.{◌≡◌, ℕ, ◌≤◌, Bool, false, Option, None, Some, List, [], ◌∷◌, codes}
use Rattle.std.specs.Prelude.{bytes_eq, unwrap_or}
use Rattle.std.specs.Str.Parse.{IsNumeral, digits_value}
use Rattle.clap.specs.Lexer.{usize_max}
use Rattle.clap.specs.Words.{Row, Rule, Text, first_of, new_rule}
use Rattle.clap.specs.declared.builder.action.ArgAction.TheVariants.{SetTrue}

-- an option with a value, and an argument that is known by its place
abbrev pub named : Text → Rule
named name = record (new_rule name) { long = Some name; value_names = 1 }

abbrev pub placed : Text → Rule
placed name = record (new_rule name) { value_names = 1 }

-- the rule of an argument that has `value` where none is given
abbrev pub by_default : Text → Rule → Rule
by_default value rule = record rule { defaults = value ∷ [] }

-- an option with one value or more
abbrev pub several : Text → Rule
several name =
    record (named name) { range = Some record { start_inclusive = 1; end_inclusive = usize_max } }

-- an option without a value
abbrev pub switch : Text → Rule
switch name = record (new_rule name) { long = Some name; action = Some SetTrue }

-- a text of ASCII digits that spell `n`, from `least` to `most`
pub record IsNumber (text : Text) (least most n : ℕ) : Type 0 where
  pub digits : IsNumeral 10 text
  pub value : digits_value 10 text ≡ n
  pub not_below : least ≤ n
  pub not_above : n ≤ most

-- the value that the words give for the argument `id`, or else `default`, is the number `n`, from
-- `least` to `most`
abbrev pub HasNumber : List Row → (id default : Text) → (least most n : ℕ) → Type 0
HasNumber rows id default least most n =
    IsNumber (unwrap_or (first_of id rows) default) least most n

-- whether an option without a value is given, by what the parser has for it
abbrev pub is_given : Option Text → Bool
is_given (Some text) = bytes_eq text (codes "true")
is_given None = false

-- whether the words give the option `id`, which has no value
abbrev pub has_switch : Text → List Row → Bool
has_switch id rows = is_given (first_of id rows)
