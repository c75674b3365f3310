-- A memory whose operand is absent at an instant does not change.
use Rattle.std.proofs.Common.{◌≡◌, Bool, true, false, None, List, [], ◌∷◌, ◌++◌, map, refl, sym}
use Rattle.std.proofs.Common.{ap, ◌∙◌, subst}
use Rattle.lb_syntax.specs.Lists.{Every}
use Rattle.lb_check.specs.Scalars.{Scalar, Cell, Nil}
use Rattle.lb_check.specs.Solutions.{Inputs}
use Rattle.lb_check.specs.Streams.{newest}
use Rattle.lb_flat.specs.Flat.{Operation, Input, Constant, Copy, ApplyUnary, ApplyBinary, Choose}
use Rattle.lb_flat.specs.Flat.{FirstThen, Previous, Latest, Sample, FlatEquation}
use Rattle.lb_flat.specs.Judging.{FlatProgram}
use Rattle.lb_flat.specs.MemoryPlaces.{after_rows}
use Rattle.lb_flat.specs.Run.{Row, cell, started_by, remembered, advanced, row_of, run}
use Rattle.lb_flat.specs.Programs.{program_of}
use Rattle.lb_machine.specs.Meaning.{Lane}
use Rattle.lb_sim.specs.BatchLaws.{IsKept}
use Rattle.lb_sim.specs.Showing.{scalar_at}
use Rattle.lb_sim.specs.States.{kept_at, flag_at, with_memory, equation_in, IsStateAfter}
use Rattle.lb_sim.specs.declared.place.Holding.{Holding}
use Rattle.lb_sim.specs.declared.program.LaneProgram.{LaneProgram}
use Rattle.lb_sim.proofs.RunMemories.{run_appended}
use Rattle.lb_sim.proofs.Standing.{after_one}

-- the memory of an operation
memory_in : Operation → Scalar
memory_in (Previous v a) = v
memory_in (Latest v a) = v
memory_in o = Nil

flag_in : Operation → Bool
flag_in (FirstThen started a b) = started
flag_in o = false

not_started : (started : Bool) (x : Cell) → x ≡ None → started_by started x ≡ started
not_started true x e = refl
not_started false x e = ap (started_by false) e

waits : (row : Row) (s s' : Lane) (h : Holding) (o : Operation) →
    with_memory s' h o ≡ remembered row (with_memory s h o) →
    IsKept (cell row) (scalar_at s' h ≡ scalar_at s h) (flag_at s' h ≡ flag_at s h) o
unfolding memory_in flag_in
waits row s s' h (FirstThen started a b) e = λ none.
    ap flag_in e ∙ not_started (flag_at s h) (cell row a) none
waits row s s' h (Previous v a) e = λ none.
    ap memory_in e ∙ ap (newest (scalar_at s h)) none
waits row s s' h (Latest v a) e = λ none.
    ap memory_in e ∙ ap (newest (scalar_at s h)) none
waits row s s' h (Input j) e = tt
waits row s s' h (Constant v) e = tt
waits row s s' h (Copy a) e = tt
waits row s s' h (ApplyUnary op a) e = tt
waits row s s' h (ApplyBinary op a b) e = tt
waits row s s' h (Choose c a b) e = tt
waits row s s' h (Sample a) e = tt

-- the first item of a list, and the rest
module _ {A : Type 0} where
  first_of_list : A → List A → A
  first_of_list d [] = d
  first_of_list d (x ∷ xs) = x

  rest_of : List A → List A
  rest_of [] = []
  rest_of (x ∷ xs) = xs

all_wait :
    (row : Row) (s s' : Lane) (kept : List Holding) (Q : List FlatEquation) →
    map (equation_in s' kept) Q ≡ map (advanced row) (map (equation_in s kept) Q) →
    Every
    (λ q. IsKept (cell row)
    (scalar_at s' (kept_at kept q.element) ≡ scalar_at s (kept_at kept q.element))
    (flag_at s' (kept_at kept q.element) ≡ flag_at s (kept_at kept q.element)) q.operation) Q
unfolding first_of_list rest_of
all_wait row s s' kept [] e = tt
all_wait row s s' kept (q ∷ Q) e = (
  waits row s s' (kept_at kept q.element) q.operation
      (ap (λ qs. (first_of_list q qs).operation) e),
  all_wait row s s' kept Q (ap rest_of e),
)

-- from the state after a trace to the state one row later, memories whose operand is absent do not
-- change
pub keeps_memories :
    (f : FlatProgram) (kept : List Holding) (s s' : Lane) (X : Inputs) (given : List Scalar) →
    IsStateAfter f kept s X → IsStateAfter f kept s' (X ++ given ∷ []) →
    Every
    (λ q. IsKept
    (cell (row_of f.size (after_rows f.equations (run f.size f.equations X)) given))
    (scalar_at s' (kept_at kept q.element) ≡ scalar_at s (kept_at kept q.element))
    (flag_at s' (kept_at kept q.element) ≡ flag_at s (kept_at kept q.element)) q.operation)
    f.equations
keeps_memories f kept s s' X given was is =
    let rows = run f.size f.equations X in
    let row = row_of f.size (after_rows f.equations rows) given in
    all_wait row s s' kept f.equations
    (sym is
    ∙ ap (after_rows f.equations) (run_appended f.size X (given ∷ []) f.equations)
    ∙ after_one rows row f.equations
    ∙ ap (map (advanced row)) was)

-- `keeps_memories` for two lanes of runs of a program
pub program_keeps :
    (p p' : LaneProgram) → p' ≡ p → (s s' : Lane) (X : Inputs) (given : List Scalar) →
    IsStateAfter (program_of p.program.now) p.kept.items s X →
    IsStateAfter (program_of p'.program.now) p'.kept.items s' (X ++ given ∷ []) →
    Every
    (λ q. IsKept
    (cell (row_of (program_of p.program.now).size (after_rows (program_of p.program.now).equations
    (run (program_of p.program.now).size (program_of p.program.now).equations X)) given))
    (scalar_at s' (kept_at p'.kept.items q.element) ≡ scalar_at s (kept_at p.kept.items q.element))
    (flag_at s' (kept_at p'.kept.items q.element) ≡ flag_at s (kept_at p.kept.items q.element))
    q.operation)
    (program_of p.program.now).equations
program_keeps p p' same s s' X given was is =
    let f = program_of p.program.now in
    subst
    (λ (r : LaneProgram).
    IsStateAfter (program_of r.program.now) r.kept.items s' (X ++ given ∷ []) →
    Every
    (λ q. IsKept (cell (row_of f.size (after_rows f.equations (run f.size f.equations X)) given))
    (scalar_at s' (kept_at r.kept.items q.element) ≡ scalar_at s (kept_at p.kept.items q.element))
    (flag_at s' (kept_at r.kept.items q.element) ≡ flag_at s (kept_at p.kept.items q.element))
    q.operation) f.equations)
    (sym same) (keeps_memories f p.kept.items s s' X given was) is
