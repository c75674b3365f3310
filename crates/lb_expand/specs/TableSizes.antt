-- The size of a program, counted by the rows of the table of instances.
-- This file mirrors code (src/table_size.rt); no definition of the language stands on it.
use Rattle.std.specs.Prelude.{◌≡◌, ℕ, min, Option, Some, option_map, Vec, slice_get, sum_by}
use Rattle.std.specs.Global.{Global}
use Rattle.lb_syntax.specs.Lists.{either_or, ◌>>=◌}
use Rattle.lb_static.specs.Instances.{Program, Instance, Path}
use Rattle.lb_static.specs.InstanceTable.{specialized_at}
use Rattle.lb_static.specs.Parts.{node_parts}
use Rattle.lb_static.specs.declared.reachable.Reached.{Reached}
use Rattle.lb_static.specs.declared.table.Specialization.{Specialization}
use Rattle.lb_static.specs.declared.table.Table.{Table}
use Rattle.lb_check.specs.TypeRules.{expression_size}
use Rattle.lb_check.specs.declared.found_types.NodeTypes.{NodeTypes}
use Rattle.lb_check.specs.declared.found_types.TermType.{TermType}
use Rattle.lb_static.specs.declared.table.Instance as row

-- how many elements the expressions of all rows have, where `size` gives this for each
-- specialization
abbrev pub term_total : Table → (ℕ → ℕ) → ℕ
term_total t size = sum_by (λ (i : row.Instance). size i.specialization.0) t.instances.items

-- `size` gives, for each specialization, how many elements the expressions of its instances have,
-- and at most 65,537
abbrev pub HasTermSizes : Program → Reached → Table → (ℕ → ℕ) → Type 0
HasTermSizes P r t size =
    (i : ℕ) (s : Specialization) → slice_get t.specializations.items i ≡ Some s →
    (p : Path) (here : Instance) → specialized_at r p s ≡ Some here →
    size i ≡ min (sum_by (expression_size P here) (node_parts here.node)) 65537

-- the size that is found of specialization `i`, at most 65,537; 65,537 also where nothing is found
-- of it
abbrev pub lent_size : Option (Vec NodeTypes Global) → ℕ → ℕ
lent_size types i =
    either_or (option_map
    (λ (f : NodeTypes). min (sum_by (λ (t : TermType). t.elements) f.terms.items) 65537)
    (types >>= λ (all : Vec NodeTypes Global). slice_get all.items i)) 65537
