-- The values that a table of constants holds.
-- This file says what data of the program mean; no definition of the language stands on it.
use Rattle.std.specs.Prelude.{ℤ, Option}
use Rattle.lb_syntax.specs.Tree.{Name}
use Rattle.lb_static.specs.ConstantValues.{value_held}
use Rattle.lb_static.specs.declared.constants.Constants.{Constants}

-- the value that is held for a name
abbrev pub value_of : Constants → Name → Option ℤ
value_of c = value_held c.names c.values.items
