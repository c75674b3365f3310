-- An equation of a program at its place, the ranges of its elements, and its memory.
use Rattle.std.proofs.Common.{◌≡◌, ℕ, zero, suc, ◌<◌, ◌≤◌, List, [], ◌∷◌, get_or, length, All}
use Rattle.std.proofs.Common.{sym, ap, ◌∙◌, subst, arith}
use Rattle.std.proofs.lemmas.List.{get_or_default}
use Rattle.lb_syntax.specs.Lists.{Every}
use Rattle.lb_syntax.specs.declared.tree.Kind.{Kind}
use Rattle.lb_syntax.specs.declared.tree.Kind.TheVariants.{Int as Int_kind}
use Rattle.lb_flat.specs.declared.equation.Clock.{Clock}
use Rattle.lb_flat.specs.declared.equation.Equation.{Equation}
use Rattle.lb_flat.specs.declared.equation.Operation as code
use Rattle.lb_flat.specs.declared.equation.Operation.TheVariants as variants
use Rattle.lb_flat.specs.declared.program.FlatProgram as code_programs
use Rattle.lb_flat.specs.Flat.{FlatEquation}
use Rattle.lb_flat.specs.TemporaryKinds.{kind_among}
use Rattle.lb_flat.specs.Judging.{FlatProgram}
use Rattle.lb_flat.specs.Programs.{flat_equations, IsInRange}
use Rattle.lb_flat.specs.Run.{reads, keeps}
use Rattle.lb_flat.specs.Values.{equation_of, operation_of}
use Rattle.lb_flat.specs.Within.{IsWithin}
use Rattle.lb_sim.specs.Presets.{AreMemories, IsMemoryOf}
use Rattle.lb_sim.specs.States.{kept_at, no_holding}
use Rattle.lb_sim.specs.declared.place.Holding.{Holding}
use Rattle.lb_sim.specs.declared.place.Place.{Place}
use Rattle.lb_sim.specs.declared.preset.Preset.{Preset}
use Rattle.lb_sim.proofs.Committing.{IsKeptIn}

pub equation_there :
    (clocks : List Clock) (qs : List Equation) (i : ℕ) (x : Equation) → i < length qs →
    get_or qs i x ≡ x →
    get_or (flat_equations clocks qs) i (equation_of clocks x) ≡ equation_of clocks x
equation_there clocks [] i x lt e = absurd (omega (arith, lt))
equation_there clocks (q ∷ qs) zero x lt e = ap (equation_of clocks) e
equation_there clocks (q ∷ qs) (suc i) x lt e =
    equation_there clocks qs i x (omega (arith, lt)) e

pub equation_within : (clocks : List Clock) (qs : List Equation) (i : ℕ) → i < length qs →
    i < length (flat_equations clocks qs)
equation_within clocks [] i lt = absurd (omega (arith, lt))
equation_within clocks (q ∷ qs) zero lt = omega arith
equation_within clocks (q ∷ qs) (suc i) lt =
    omega (arith, equation_within clocks qs i (omega (arith, lt)))

pub all_within : (clocks : List Clock) (qs : List Equation) (i : ℕ) → length qs ≤ i →
    length (flat_equations clocks qs) ≤ i
all_within clocks [] i le = omega arith
all_within clocks (q ∷ qs) zero le = absurd (omega (arith, le))
all_within clocks (q ∷ qs) (suc i) le =
    omega (arith, all_within clocks qs i (omega (arith, le)))

module _ (p : code_programs.FlatProgram) (range : IsInRange p) (i : ℕ) (x : Equation) where
  within_there : i < length p.equations.items → get_or p.equations.items i x ≡ x →
      IsWithin p.size p.clocks.items x
  within_there lt e =
      subst (λ (y : Equation). IsWithin p.size p.clocks.items y) e (range.equations i x lt)

  module _ (lt : i < length p.equations.items) (e : get_or p.equations.items i x ≡ x) where
    pub element_there : x.element.0 < p.size
    element_there = (within_there lt e).element

    -- the operands of memories are elements
    pub operands_there : (places : List Place) → length places ≡ p.size →
        IsKeptIn places (operation_of x.operation)
    operands_there places long =
        by x.operation (within_there lt e).operands (within_there lt e).memory_operands
      where
        by : (o : code.Operation) → All (λ n. n < p.size) (reads (operation_of o)) →
            All (λ n. n < p.size) (keeps (operation_of o)) → IsKeptIn places (operation_of o)
        by (variants.FirstThen s a b) h g = omega (arith, h 0 0 (omega arith), long)
        by (variants.Previous v a) h g = omega (arith, g 0 0 (omega arith), long)
        by (variants.Latest v a) h g = omega (arith, h 0 0 (omega arith), long)
        by (variants.Input j) h g = tt
        by (variants.Constant v) h g = tt
        by (variants.Copy a) h g = tt
        by (variants.ApplyUnary op a) h g = tt
        by (variants.ApplyBinary op a b) h g = tt
        by (variants.Choose c a b) h g = tt
        by (variants.Sample a) h g = tt

  pub kind_there :
      (kind : Kind) → i < length p.equations.items → get_or p.equations.items i x ≡ x →
      kind ≡ get_or p.kinds.items x.element.0 kind → kind ≡ kind_among p.kinds.items x.element.0
  kind_there kind lt e is =
      is
      ∙ get_or_default p.kinds.items x.element.0 kind Int_kind
      (omega (arith, element_there lt e, range.kinds))

-- ## The memory of an equation

pub home_there :
    (kept : List Holding) (e : ℕ) (home : Holding) (size : ℕ) → length kept ≡ size → e < size →
    home ≡ get_or kept e home → home ≡ kept_at kept e
home_there kept e home size long lt is =
    is ∙ get_or_default kept e home no_holding (omega (arith, lt, long))

every_at : {A : Type 0} (P : A → Type 0) (xs : List A) (i : ℕ) (x : A) → i < length xs →
    get_or xs i x ≡ x → Every P xs → P x
every_at P [] i x lt e h = absurd (omega (arith, lt))
every_at P (y ∷ xs) zero x lt e h = subst P e h.0
every_at P (y ∷ xs) (suc i) x lt e h = every_at P xs i x (omega (arith, lt)) e h.1

module _ (f : FlatProgram) (mp mw : ℕ) (preset : Preset) (kept : List Holding)
    (m : AreMemories f mp mw preset kept) where
  pub memory_there :
      (q : FlatEquation) (i : ℕ) → i < length f.equations → get_or f.equations i q ≡ q →
      (home : Holding) → home ≡ kept_at kept q.element → IsMemoryOf f q home
  memory_there q i lt e home at =
      subst (IsMemoryOf f q) (sym at)
      (every_at (λ (r : FlatEquation). IsMemoryOf f r (kept_at kept r.element)) f.equations i q lt
      e m.memories)
