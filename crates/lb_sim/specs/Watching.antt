-- The planes that an instant is judged by in each lane, and the verdict that they give.
-- Source: this project's rule.
use Rattle.std.specs.Prelude.{◌≡◌, ℕ, Bool, true, false, Option, List, [], ◌∷◌, slice_index_or}
use Rattle.std.specs.Prelude.{if◌then◌else◌}
use Rattle.lb_check.specs.Scalars.{Cell}
use Rattle.lb_check.specs.Verdicts.{is_bad, is_nil, is_false}
use Rattle.lb_check.specs.declared.verdict.Verdict.{Verdict}
use Rattle.lb_check.specs.declared.verdict.Verdict.TheVariants.{Passed, Fault, Undefined, Assertion}
use Rattle.lb_check.specs.declared.verdict.Verdict.TheVariants.{False}
use Rattle.lb_flat.specs.Judging.{FlatProgram, some_in, named_elements, truth_elements}
use Rattle.lb_machine.specs.Correct.{IsPlaneFor}
use Rattle.lb_machine.specs.Listed.{listed}
use Rattle.lb_machine.specs.Meaning.{Lane, HasRun}
use Rattle.lb_machine.specs.declared.code.Code.{Code}
use Rattle.lb_machine.specs.declared.instruction.PlaneId.{PlaneId}
use Rattle.lb_sim.specs.Showing.{row_at}
use Rattle.lb_sim.specs.declared.place.Place.{Place}
use Rattle.lb_sim.specs.declared.place.Watched.{Watched}
use Rattle.lb_sim.specs.declared.watch.Sought.{Sought}
use Rattle.lb_sim.specs.declared.watch.Sought.TheVariants.{Faults, Nils, Falses}

-- whether an element shows the sought kind of cell: a fault, nil or false
abbrev pub is_sought : Sought → Option Cell → Bool
is_sought Faults x = is_bad x
is_sought Nils x = is_nil x
is_sought Falses x = is_false x

-- each marked plane is within `plane`, in each lane that has run the code
pub record AreWithin (code : Code) (marked : List Bool) (plane : PlaneId) : Type 0 where
  pub within :
      (p : ℕ) → slice_index_or marked p false ≡ true → (s : Lane) →
      HasRun (listed code.instructions) s → s.bits p ≡ true → s.bits plane.0 ≡ true

-- the planes of `w` hold in each lane what its row shows at the elements that are watched
pub record AreWatched (code : Code) (f : FlatProgram) (places : List Place) (w : Watched) :
    Type 0 where
  pub faults :
      IsPlaneFor code (λ s. some_in is_bad (row_at s places) (named_elements f)) w.faults
  pub undefined :
      IsPlaneFor code (λ s. some_in is_nil (row_at s places) (truth_elements f)) w.undefined
  pub failed : IsPlaneFor code (λ s. some_in is_false (row_at s places) f.asserted) w.failed
  pub violated :
      IsPlaneFor code (λ s. some_in is_false (row_at s places) (f.property ∷ [])) w.violated

-- the verdict of instant `t`, from whether a fault counts, a truth is missing, an assertion is
-- false, and the property is false
abbrev pub verdict_by : ℕ → Bool → Bool → Bool → Bool → Verdict
verdict_by t fault undefined failed violated =
    if fault then Fault t else
    if undefined then Undefined t else
    if failed then Assertion t else
    if violated then False t else Passed

-- the verdict of lane `s` at instant `t`
abbrev pub lane_judged : Watched → ℕ → Lane → Verdict
lane_judged w t s =
    verdict_by t (s.bits w.faults.0) (s.bits w.undefined.0) (s.bits w.failed.0)
    (s.bits w.violated.0)
