-- The order of a lane program in planes and words: the places that are the same everywhere, the
-- inputs, the constants, the memories, and behind them what the code writes; and what the first of
-- them hold at the start.
-- Source: this project's rule.
use Rattle.std.specs.Prelude.{◌≡◌, ◌≤◌, ◌<◌, ◌+◌, ℕ, List, length, map, All, ℤ, pos}
use Rattle.std.specs.Prelude.{slice_index, slice_index_or}
use Rattle.lb_flat.specs.Judging.{FlatProgram}
use Rattle.lb_lanes.specs.Planes.{on}
use Rattle.lb_machine.specs.Meaning.{Lane, HasConstants}
use Rattle.lb_machine.specs.declared.code.Code.{Code}
use Rattle.lb_machine.specs.declared.instruction.PlaneId.{PlaneId}
use Rattle.lb_machine.specs.declared.instruction.WordId.{WordId}
use Rattle.lb_sim.specs.InputRows.{places_of, truth_columns, number_columns}
use Rattle.lb_sim.specs.States.{equation_in}
use Rattle.lb_sim.specs.declared.place.Holding.{Holding}
use Rattle.lb_sim.specs.declared.place.Value.{Value}

-- a lane before the first instant
abbrev pub start_lane : List ℕ → List ℤ → ℕ → Lane
start_lane planes words i = record {
  bits = λ p. on (slice_index planes p) i;
  ints = λ w. slice_index_or words w (pos 0);
}

pub record IsLaidOut (f : FlatProgram) (code : Code) (inputs : List Value) (kept : List Holding)
    (start_planes : List ℕ) (start_words : List ℤ)
    (constant_word memory_plane memory_word : ℕ)
    (plane_sources : List PlaneId) (word_sources : List WordId) : Type 0 where
  pub inputs_at : inputs ≡ places_of 2 1 f.inputs
  pub inputs_planes : 2 + length (truth_columns 0 f.inputs) ≤ memory_plane
  pub inputs_words : 1 + length (number_columns 0 f.inputs) ≤ constant_word
  pub constants_words : constant_word ≤ memory_word
  pub planes_behind :
      All (λ (p : PlaneId). code.first_plane ≤ p.0 × p.0 < code.planes) plane_sources
  pub words_behind :
      All (λ (w : WordId). code.first_word ≤ w.0 × w.0 < code.words) word_sources
  pub start_planes_room : length start_planes ≡ code.first_plane
  pub start_words_room : length start_words ≡ code.first_word
  pub start_constants : (i : ℕ) → i < 64 → HasConstants (start_lane start_planes start_words i)
  pub start_state :
      (i : ℕ) → i < 64 →
      map (equation_in (start_lane start_planes start_words i) kept) f.equations ≡ f.equations
