-- The kind of the element that an equation of the code gives, from the kinds of other elements.
-- This file mirrors code (src/temporary_kinds.rt); no definition of the language stands on it.
use Rattle.std.specs.Prelude.{List}
use Rattle.lb_syntax.specs.declared.tree.Kind.{Kind}
use Rattle.lb_flat.specs.TemporaryKinds.{operation_kind, kind_among}
use Rattle.lb_flat.specs.Values.{operation_of}
use Rattle.lb_flat.specs.declared.equation.Equation.{Equation}

unfoldable pub equation_kind : List Kind → Equation → Kind
equation_kind kinds q = operation_kind (kind_among kinds) (operation_of q.operation)
