-- The verdict that the watched planes of a lane give is that of its row.
use Rattle.std.proofs.Common.{◌≡◌, ℕ, List, ap, ap₂, ◌∙◌}
use Rattle.lb_check.specs.Verdicts.{is_bad, is_nil}
use Rattle.lb_flat.specs.Judging.{FlatProgram, some_in, row_judged, named_elements}
use Rattle.lb_flat.specs.Judging.{truth_elements}
use Rattle.lb_machine.specs.Listed.{listed}
use Rattle.lb_machine.specs.Meaning.{Lane, HasRun}
use Rattle.lb_machine.specs.declared.code.Code.{Code}
use Rattle.lb_sim.specs.Showing.{row_at}
use Rattle.lb_sim.specs.Watching.{AreWatched, verdict_by, lane_judged}
use Rattle.lb_sim.specs.declared.place.Place.{Place}
use Rattle.lb_sim.specs.declared.place.Watched.{Watched}

-- the verdict by the watched planes is the verdict by the row
pub decides :
    (code : Code) (f : FlatProgram) (places : List Place) (w : Watched) (t : ℕ) (s : Lane) →
    AreWatched code f places w → HasRun (listed code.instructions) s →
    lane_judged w t s ≡ row_judged f t (row_at s places)
decides code f places w t s h r =
    let row = row_at s places in
    let fault = some_in is_bad row (named_elements f) in
    let missing = some_in is_nil row (truth_elements f) in
    let undefined = s.bits w.undefined.0 in
    let failed = s.bits w.failed.0 in
    let violated = s.bits w.violated.0 in
    ap (λ b. verdict_by t b undefined failed violated) (h.faults.means s r)
    ∙ ap (λ b. verdict_by t fault b failed violated) (h.undefined.means s r)
    ∙ ap₂ (verdict_by t fault missing) (h.failed.means s r) (h.violated.means s r)
