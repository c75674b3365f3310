-- An instant of a batch in one lane: a live lane stands for its trace and one row more, and any
-- other lane for its trace as before.
-- Source: this project's rule. No lane occurs beside it.
use Rattle.std.specs.Prelude.{◌≡◌, ℕ, ◌+◌, ◌++◌, ◌∷◌, [], Bool, true, false, List}
use Rattle.lb_check.specs.Scalars.{Scalar}
use Rattle.lb_check.specs.Solutions.{Inputs}
use Rattle.lb_check.specs.declared.verdict.Verdict.{Verdict}
use Rattle.lb_flat.specs.Fitting.{IsFitting}
use Rattle.lb_flat.specs.Flat.{FlatClock}
use Rattle.lb_flat.specs.TemporaryKinds.{kind_among}
use Rattle.lb_flat.specs.Programs.{program_of}
use Rattle.lb_machine.specs.Meaning.{Lane, HasConstants}
use Rattle.lb_sim.specs.Compiled.{HasConstantWords}
use Rattle.lb_sim.specs.LaneStates.{StandsAt, is_passed}
use Rattle.lb_sim.specs.declared.program.LaneProgram.{LaneProgram}

-- a lane of a program stands for a trace
abbrev pub StandsIn : LaneProgram → Lane → Verdict → Bool → ℕ → Inputs → Type 0
StandsIn p s v active steps X =
    StandsAt (program_of p.program.now) p.kept.items s v active steps X

-- one instant takes lane `s`, verdict `v` and `active` to `s'`, `v'` and `active'`
pub record IsMovedOn (p : LaneProgram) (row : List Scalar) (s s' : Lane) (v v' : Verdict)
    (active live active' : Bool) (steps : ℕ) : Type 0 where
  pub moves :
      live ≡ true → active ≡ is_passed v → (K : ℕ → FlatClock) →
      IsFitting (program_of p.program.now).inputs K (kind_among (program_of p.program.now).kinds)
      (program_of p.program.now).equations →
      (X : Inputs) → StandsIn p s v active steps X →
      StandsIn p s' v' active' (steps + 1) (X ++ row ∷ [])
  pub stays :
      live ≡ false → (X : Inputs) → StandsIn p s v active steps X →
      StandsIn p s' v' active' (steps + 1) X
  pub settled : active ≡ false → v' ≡ v
  pub passes : live ≡ true → active ≡ is_passed v → active' ≡ is_passed v'
  pub rests : live ≡ false → active' ≡ false
  pub constants : HasConstants s'
  pub constant_words : HasConstantWords p.constant_word p.memory_word p.start_words.items s'
