-- The acceptance of a program, and the first refusal of one that is not accepted.
-- Source: this project's rule.
use Rattle.std.specs.Prelude.{◌≡◌, Option, Some, None}
use Rattle.std.specs.List.{list_all}
use Rattle.lb_syntax.specs.Lists.{or_else}
use Rattle.lb_syntax.specs.Refusals.{Refusal, E9, E10, E11, E12, E13, unless}
use Rattle.lb_static.specs.Instances.{Program, instances}
use Rattle.lb_static.specs.Instantiation.{static_refusal}
use Rattle.lb_check.specs.TypeRules.{is_typed, is_small}
use Rattle.lb_check.specs.ClockRules.{is_clocked}
use Rattle.lb_check.specs.DefinitionRules.{is_defined}
use Rattle.lb_check.specs.Needs.{IsCausal, IsCyclic}

-- the first refusal of types, clocks and definitions, each over all instances
abbrev pub check_refusal : Program → Option Refusal
check_refusal P =
    or_else (unless (list_all (is_typed P) (instances P)) E9)
    (or_else (unless (list_all (λ here. is_clocked P here.node) (instances P)) E10)
    (unless (list_all (λ here. is_defined P here.node) (instances P)) E11))

-- the first refusal before causality
abbrev pub refusal : Program → Option Refusal
refusal P =
    or_else (static_refusal P) (or_else (check_refusal P) (unless (is_small P) E12))

-- an accepted program breaks no rule and is causal
pub record IsAccepted (P : Program) : Type 0 where
  pub rules : refusal P ≡ None
  pub causal : IsCausal P

-- the first refusal of a program, or none where it is accepted
abbrev pub IsFirst : Program → Option Refusal → Type 0
IsFirst P (Some E13) = (refusal P ≡ None) × IsCyclic P
IsFirst P (Some r) = refusal P ≡ Some r
IsFirst P None = IsAccepted P
