-- The types that types of the code stand for, and the types of variables by the values of the
-- static expressions of their node.
-- This file says what data of the program mean; no definition of the language stands on it.
use Rattle.std.specs.Prelude.{ℕ, ℤ, Option, option_map, List, Vec, map, reverse, take, drop}
use Rattle.std.specs.Global.{Global}
use Rattle.lb_syntax.specs.Lists.{all_some}
use Rattle.lb_static.specs.DataTypes.{DataType}
use Rattle.lb_static.specs.StaticValues.{natural}
use Rattle.lb_static.specs.declared.data_type.DataType as stored
use Rattle.lb_static.specs.declared.resolved.StaticId.{StaticId}
use Rattle.lb_static.specs.declared.resolved.Variable.{Variable}

-- the type that a type of the code stands for; the code keeps the outermost size last
abbrev pub view_type : stored.DataType → DataType
view_type t = record { kind = t.kind; sizes = reverse t.sizes.items }

abbrev pub view_types : Vec stored.DataType Global → List DataType
view_types ts = map view_type ts.items

-- values as natural numbers, if none is negative
abbrev pub naturals : List ℤ → Option (List ℕ)
naturals values = all_some (map natural values)

-- the `count` sizes from `first` on, the innermost first
abbrev pub sizes_at : List ℤ → StaticId → ℕ → Option (List ℕ)
sizes_at statics first count = naturals (take count (drop first.0 statics))

-- the type of a variable
abbrev pub declared_type : List ℤ → Variable → Option DataType
declared_type statics v =
    option_map (λ ns. record { kind = v.kind; sizes = reverse ns })
    (sizes_at statics v.first_size v.sizes)

-- the types of some variables
abbrev pub declared_types : List ℤ → List Variable → Option (List DataType)
declared_types statics vs = all_some (map (declared_type statics) vs)
