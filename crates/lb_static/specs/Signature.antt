-- The signature of a program: the scalar elements of the inputs of the node under test.
-- Source: this project's rule; an array of the inputs is taken apart into its scalar elements.
use Rattle.std.specs.Prelude.{ℕ, List, map}
use Rattle.lb_syntax.specs.declared.tree.Kind.{Kind}

-- a scalar input element: its name, as `x` or `m[1][2]`, and its kind
abbrev pub Element : Type 0
Element = List ℕ × Kind

-- the scalar input elements, in order
abbrev pub Elements : Type 0
Elements = List Element

-- the names of some elements, in order
abbrev pub names_of : Elements → List (List ℕ)
names_of elements = map (λ e. e.0) elements

-- the kinds of some elements, in order
abbrev pub kinds_of : Elements → List Kind
kinds_of elements = map (λ e. e.1) elements
