-- The refusals: the reasons for which a text is refused.
-- Source: this project's rule; the numbers are part of the product.
use Rattle.std.specs.Prelude.{ℕ, Bool, true, false, Option, Some, None}

pub data Refusal : Type 0 where
  E1 : Refusal
  E2 : Refusal
  E3 : Refusal
  E4 : Refusal
  E5 : Refusal
  E6 : Refusal
  E7 : Refusal
  E8 : Refusal
  E9 : Refusal
  E10 : Refusal
  E11 : Refusal
  E12 : Refusal
  E13 : Refusal
  E14 : Refusal
  E15 : Refusal
  E16 : Refusal
  E17 : Refusal
  E18 : Refusal

-- no refusal where a rule is kept, else `r`
abbrev pub unless : Bool → Refusal → Option Refusal
unless true r = None
unless false r = Some r

-- the number of a refusal
abbrev pub refusal_number : Refusal → ℕ
refusal_number E1 = 1
refusal_number E2 = 2
refusal_number E3 = 3
refusal_number E4 = 4
refusal_number E5 = 5
refusal_number E6 = 6
refusal_number E7 = 7
refusal_number E8 = 8
refusal_number E9 = 9
refusal_number E10 = 10
refusal_number E11 = 11
refusal_number E12 = 12
refusal_number E13 = 13
refusal_number E14 = 14
refusal_number E15 = 15
refusal_number E16 = 16
refusal_number E17 = 17
refusal_number E18 = 18
