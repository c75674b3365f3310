-- A refusal by a part of the bench is the first refusal of the program; a program that no part
-- refuses is accepted.
use Rattle.std.proofs.Common.{◌≡◌, true, Option, None, Err, ap, ◌∙◌, subst, sym}
use Rattle.std.specs.Prelude.{string_bytes}
use Rattle.std.specs.Option.{option_map}
use Rattle.lb_syntax.specs.Lists.{or_else}
use Rattle.lb_syntax.specs.Refusals.{E12, unless}
use Rattle.lb_syntax.specs.Tree.{Name, Source}
use Rattle.lb_static.specs.Instances.{Program}
use Rattle.lb_static.specs.Instantiation.{static_refusal}
use Rattle.lb_check.specs.Acceptance.{check_refusal, refusal, IsAccepted}
use Rattle.lb_check.specs.Needs.{IsCausal}
use Rattle.lb_check.specs.TypeRules.{is_small}
use Rattle.lb_flat.specs.Correct.{IsCycleFound, IsExpansionOf}
use Rattle.lb_expand.specs.Correct.{IsExpansionAnswer, IsPlaced}
use Rattle.lb_flat.specs.CyclicPrograms.{AreOfCyclic}
use Rattle.lb_flat.specs.FlatPrograms.{IsFlatOf}
use Rattle.lb_flat.specs.Judging.{FlatProgram}
use Rattle.lb_flat.specs.Programs.{numbers_of}
use Rattle.lb_flat.specs.Reading.{IsCertificate}
use Rattle.lb_expand.specs.declared.error.FlatError.{FlatError}
use Rattle.lb_expand.specs.declared.error.FlatError.TheVariants as flat
use Rattle.lb_flat.specs.declared.error.OrderError.{OrderError}
use Rattle.lb_flat.specs.declared.error.OrderError.TheVariants.{Memory, Cycle}
use Rattle.lb_report.specs.Bench.{IsCycle, IsTooLarge, program_of}
use Rattle.lb_refusal.specs.declared.options.Options.{Options}

-- the program is that of the options
pub same_program :
    (tree : Source) (options : Options) (root : Name) (observer : Option Name) →
    root ≡ string_bytes options.node → observer ≡ option_map string_bytes options.observer →
    record { source = tree; root = root; observer = observer } ≡ program_of tree options
same_program tree options root observer e f =
    λ i. record { source = tree; root = e i; observer = f i }

size_decides :
    (P : Program) → static_refusal P ≡ None → check_refusal P ≡ None →
    refusal P ≡ unless (is_small P) E12
size_decides P s c =
    ap (λ o. or_else o (or_else (check_refusal P) (unless (is_small P) E12))) s
    ∙ ap (λ o. or_else o (unless (is_small P) E12)) c

-- a program that keeps the rules before is refused for its size
pub too_large :
    (P : Program) (e : FlatError) → static_refusal P ≡ None → check_refusal P ≡ None →
    IsExpansionAnswer P (Err e) → IsTooLarge P e
too_large P flat.Memory s c h = tt
too_large P (flat.Large fault) s c h =
    (size_decides P s c ∙ ap (λ b. unless b E12) h.0, h.1)

-- a small program whose equations cannot be put in order is refused for that first
pub is_cycle :
    (P : Program) (f : FlatProgram) (e : OrderError) → static_refusal P ≡ None →
    check_refusal P ≡ None → is_small P ≡ true → IsExpansionOf P f →
    IsCycleFound f e → AreOfCyclic f e → IsCycle P e
is_cycle P f Memory s c z expansion found cyclic = tt
is_cycle P f (Cycle cycle) s c z expansion found cyclic = (
  (size_decides P s c ∙ ap (λ b. unless b E12) z, cyclic P expansion),
  found.1 P expansion,
)

-- a cycle is still one once the places of its elements are found
pub placed_cycle :
    (P : Program) (e placed : OrderError) → IsPlaced e placed → IsCycle P e → IsCycle P placed
placed_cycle P e Memory same h = tt
placed_cycle P Memory (Cycle placed) same h = absurd same
placed_cycle P (Cycle cycle) (Cycle placed) same h =
    (h.0, subst (λ is. IsCertificate P (numbers_of is)) (sym same.0) h.1)

-- a causal program whose equations are put in order is accepted, and these are its equations
pub accepted_is :
    (P : Program) (g : FlatProgram) → static_refusal P ≡ None → check_refusal P ≡ None →
    is_small P ≡ true → IsFlatOf P g → IsCausal P → IsAccepted P × IsFlatOf P g
accepted_is P g s c z stands causal =
    (record { rules = size_decides P s c ∙ ap (λ b. unless b E12) z; causal = causal }, stands)
