-- Whether a program is causal, as a computation.
-- Source: this project's rule.
use Rattle.std.specs.Prelude.{ℕ, zero, suc, nat_eq, Bool, true, false, ◌&&◌, List, [], ◌∷◌, length}
use Rattle.std.specs.Prelude.{bytes_eq}
use Rattle.std.specs.List.{filter, list_any}
use Rattle.lb_static.specs.Instances.{Program, is_path}
use Rattle.lb_check.specs.Needs.{Element, Definition, definitions, IsCausal, IsCyclic}

-- whether two elements are the same
abbrev pub is_element : Element → Element → Bool
is_element a b =
    is_path a.path b.path && (bytes_eq a.variable b.variable && nat_eq a.index b.index)

-- whether one of these definitions is of an element
abbrev pub is_left : List Definition → Element → Bool
is_left ds x = list_any (λ d. is_element d.element x) ds

-- the definitions of `ds` that need an element that one of `ds` defines
abbrev pub waiting : List Definition → List Definition
waiting ds = filter (λ d. list_any (is_left ds) d.needed) ds

-- the definitions of `ds` that are left after a number of turns; each turn removes those that wait
-- for none
unfoldable pub left_after : ℕ → List Definition → List Definition
left_after zero ds = ds
left_after (suc n) ds = left_after n (waiting ds)

abbrev pub is_none : List Definition → Bool
is_none [] = true
is_none (d ∷ ds) = false

-- whether no definition is left after as many turns as there are definitions
unfoldable pub is_causal : Program → Bool
is_causal P = is_none (left_after (length (definitions P)) (definitions P))

-- the statement on a program for the result of `is_causal`
abbrev pub IsDecidedBy : Bool → Program → Type 0
IsDecidedBy true P = IsCausal P
IsDecidedBy false P = IsCyclic P
