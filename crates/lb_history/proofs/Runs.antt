-- The cells of a row are those of the history.
use Rattle.std.proofs.Common.{◌≡◌, ◌<◌, ℕ, zero, suc, List, [], ◌∷◌, Some, None, length, map}
use Rattle.std.proofs.Common.{get_or, slice_get, refl, sym, ap, ap₂, ◌∙◌, arith}
use Rattle.std.proofs.lemmas.List.{get_or-map}
use Rattle.std.proofs.lemmas.Option.{get_or_from_slice_get, slice_get_within}
use Rattle.lb_syntax.specs.Lists.{Every}
use Rattle.lb_static.specs.DataTypes.{variables}
use Rattle.lb_static.specs.Instances.{Program, instances}
use Rattle.lb_check.specs.Elements.{program_elements, numbers_of}
use Rattle.lb_check.specs.Needs.{Element}
use Rattle.lb_check.specs.Scalars.{Stream}
use Rattle.lb_check.specs.Solutions.{Inputs, Solves, AgreeAt, AreSame}
use Rattle.lb_check.specs.Streams.{History}
use Rattle.lb_check.proofs.{lists.Members.Every-at, programs.AcceptedElements.number_is}
use Rattle.lb_check.proofs.programs.AcceptedElements.{value_of_element}
use Rattle.lb_flat.specs.Flat.{FlatEquation, column, FlatSolves}
use Rattle.lb_flat.specs.FlatPrograms.{IsFlatOf}
use Rattle.lb_flat.specs.FlatSolutions.{IsFlatSolution}
use Rattle.lb_flat.specs.Flattening.{history_of}
use Rattle.lb_flat.specs.TemporaryKinds.{kind_among}
use Rattle.lb_flat.specs.Judging.{FlatProgram}
use Rattle.lb_flat.specs.NumberedLayouts.{layout}
use Rattle.lb_flat.specs.Run.{Row, cell, advanced, Ready, row_of, run}
use Rattle.lb_flat.proofs.runs.Running.{step_of, ready_advanced, after_first, column_step}
use Rattle.lb_history.specs.Histories.{history_cell}
use Rattle.lb_history.specs.Replaying.{equations_before, row_at}

-- ## Rows of a run

module _ (size : ℕ) where
  later :
      (Q : List FlatEquation) (given : _) (X : Inputs) (t : ℕ) →
      equations_before size Q (given ∷ X) (suc t)
      ≡ equations_before size (map (advanced (row_of size Q given)) Q) X t
  later Q given X zero = refl
  later Q given X (suc t) =
      ap (λ (E : List FlatEquation). map (advanced (row_of size E (get_or X t []))) E)
      (later Q given X t)

  -- row `t` of a run is the row of the equations before instant `t`
  pub run_row :
      (Q : List FlatEquation) (X : Inputs) (t : ℕ) → t < length X →
      get_or (run size Q X) t [] ≡ row_of size (equations_before size Q X t) (get_or X t [])
  run_row Q [] t lt = absurd (omega arith)
  run_row Q (given ∷ X) zero lt = refl
  run_row Q (given ∷ X) (suc t) lt =
      run_row (map (advanced (row_of size Q given)) Q) X t (omega arith)
      ∙ ap (λ E. row_of size E (get_or X t [])) (sym (later Q given X t))

  -- the equations before instant `t` are in order
  pub ready_before :
      (Q : List FlatEquation) (X : Inputs) (t : ℕ) → Ready size [] Q →
      Ready size [] (equations_before size Q X t)
  ready_before Q X zero ready = ready
  ready_before Q X (suc t) ready =
      let before = equations_before size Q X t in
      ready_advanced size (row_of size before (get_or X t [])) [] before
      (ready_before Q X t ready)

  -- the stream of element `i` holds at instant `t` the cell of row `t`
  cell_at :
      (X : Inputs) (Q : List FlatEquation) (F : List Stream) → Ready size [] Q →
      FlatSolves size Q X F → (t : ℕ) → t < length X → (i : ℕ) →
      slice_get (column X F i) t ≡ Some (cell (get_or (run size Q X) t []) i)
  cell_at [] Q F ready s t lt i = absurd (omega arith)
  cell_at (given ∷ X) Q F ready s zero lt i =
      let step = step_of size given X Q F ready s in
      ap (λ xs. slice_get xs 0) (column_step given X F s.as_long i)
      ∙ ap (λ row. Some (cell row i)) step.row
  cell_at (given ∷ X) Q F ready s (suc t) lt i =
      let step = step_of size given X Q F ready s in
      ap (λ xs. slice_get xs (suc t)) (column_step given X F s.as_long i)
      ∙ cell_at X _ (after_first F) (ready_advanced size _ [] Q ready) step.rest t (omega arith) i

-- ## The history

module _ (P : Program) (f : FlatProgram) (flat : IsFlatOf P f)
    (ready : Ready f.size [] f.equations) (X : Inputs) (H : History) (solves : Solves P X H) where
  -- the cell of an element of a variable in a row is the cell of the history
  pub row_shows :
      (t i : ℕ) (x : Element) → t < length X → slice_get (program_elements P) i ≡ Some x →
      cell (row_at f X t) i ≡ history_cell H x t
  row_shows t i x lt e =
      sym (ap (λ row. cell row i) (run_row f.size f.equations X t lt))
      ∙ sym (get_or_from_slice_get (column X F i) t
      (cell (get_or (run f.size f.equations X) t []) i)
      None (cell_at f.size X f.equations F ready r.1.equations t lt i))
      ∙ ap (λ xs. get_or xs t None) (sym stream)
      ∙ ap (λ xss. get_or (get_or xss x.index []) t None) columns
    where
      r :
          (F : List Stream) × IsFlatSolution f.inputs (kind_among f.kinds) f X F
          × AreSame P (history_of (layout P) X F) H
      r = flat.solved X H solves

      F : List Stream
      F = r.0

      columns : map (column X F) (numbers_of P x.path x.variable) ≡ H.columns x.path x.variable
      columns =
          let v = value_of_element P (λ here d. d.kind) i x e in
          let agree = Every-at (AgreeAt (history_of (layout P) X F) H) (instances P) v.here r.2
          v.is_in in
          let own = Every-at
          (λ d. map (column X F) (numbers_of P v.here.path d.name)
          ≡ H.columns v.here.path d.name) (variables v.here.node) v.variable agree.columns
          v.declared in
          ap₂ (λ p y. map (column X F) (numbers_of P p y)) v.path v.name ∙ own
          ∙ sym (ap₂ H.columns v.path v.name)

      stream :
          get_or (map (column X F) (numbers_of P x.path x.variable)) x.index [] ≡ column X F i
      stream =
          let ns = numbers_of P x.path x.variable in
          let at = number_is P flat.accepted i x e in
          get_or-map (column X F) ns x.index 0 [] (slice_get_within ns x.index i at)
          ∙ ap (column X F) (get_or_from_slice_get ns x.index i 0 at)
