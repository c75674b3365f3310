-- The scalar elements of a program in a row, and their numbers.
-- Source: this project's rule: instances in the order of instantiation, in each its inputs, outputs
-- and locals, of an array the first index slowest.
use Rattle.std.specs.Prelude.{ℕ, ◌+◌, Option, Some, None, List, [], ◌∷◌, length, replicate}
use Rattle.std.specs.Prelude.{flat_map, if◌then◌else◌}
use Rattle.std.specs.Str.{bytes_eq}
use Rattle.std.specs.List.{range_with_len}
use Rattle.lb_syntax.specs.declared.tree.Kind.{Kind}
use Rattle.lb_syntax.specs.Lists.{listed}
use Rattle.lb_syntax.specs.Tree.{Name, Declaration}
use Rattle.lb_static.specs.Instances.{Program, Instance, Path, is_path, instances}
use Rattle.lb_static.specs.DataTypes.{variables, width}
use Rattle.lb_check.specs.Needs.{Element, elements}

-- ## In a row

-- the scalar elements of the variables of an instance
abbrev pub instance_elements : Program → Instance → List Element
instance_elements P here = flat_map (elements P here) (variables here.node)

-- the scalar elements of a program, instance by instance
unfoldable pub program_elements : Program → List Element
program_elements P = flat_map (instance_elements P) (instances P)

-- the kind of each scalar element of a program
unfoldable pub element_kinds : Program → List Kind
element_kinds P =
    flat_map (λ here. flat_map (λ d. replicate (width P here d) d.kind) (variables here.node))
    (instances P)

-- ## Numbers

-- the instance at path `p` in a list, with the number of elements that stand before its own; `n`
-- elements stand before those of the list
unfoldable pub found_from : Program → ℕ → List Instance → Path → Option (ℕ × Instance)
found_from P n [] p = None
found_from P n (here ∷ rest) p =
    if is_path here.path p then Some (n, here)
    else found_from P (n + length (instance_elements P here)) rest p

-- the numbers of the elements of variable `x` in a list of declarations, which begins at number `n`
unfoldable pub numbers_from : Program → Instance → ℕ → List Declaration → Name → List ℕ
numbers_from P here n [] x = []
numbers_from P here n (d ∷ ds) x =
    if bytes_eq d.name x then range_with_len n (width P here d)
    else numbers_from P here (n + width P here d) ds x

-- the numbers of the elements of a variable of the instance at a path, and none where there is no
-- such instance
abbrev pub numbers_of : Program → Path → Name → List ℕ
numbers_of P p x =
    listed (λ s. numbers_from P s.1 s.0 (variables s.1.node) x) (found_from P 0 (instances P) p)
