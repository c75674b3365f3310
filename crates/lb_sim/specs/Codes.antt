-- Code of a lane program that stands for its flat program: the lanes that suit it, and what it does
-- in them.
-- Source: this project's rule. No lane occurs beside it.
use Rattle.std.specs.Prelude.{◌≡◌, ◌≤◌, ℕ, true, false, List, ℤ, All}
use Rattle.lb_flat.specs.Judging.{FlatProgram}
use Rattle.lb_machine.specs.Meaning.{Lane}
use Rattle.lb_machine.specs.declared.instruction.PlaneId.{PlaneId}
use Rattle.lb_sim.specs.Compiled.{IsCompiled, IsHomeAt}
use Rattle.lb_sim.specs.LaidOut.{IsLaidOut}
use Rattle.lb_sim.specs.declared.place.Holding.{Holding}
use Rattle.lb_sim.specs.declared.place.Value.{Value}
use Rattle.lb_sim.specs.declared.program.LaneCode.{LaneCode}

-- a lane suits some code: the planes of `clear` are false in it, and those of `set` are true
pub record Suits (c : LaneCode) (s : Lane) : Type 0 where
  pub clear : All (λ (p : PlaneId). s.bits p.0 ≡ false) c.clear.items
  pub set : All (λ (p : PlaneId). s.bits p.0 ≡ true) c.set.items

-- code of a flat program, within `planes` planes and `words` words: in each lane that suits it, it
-- shows the program's elements and moves its memories; `clear` and `set` are planes of memories
pub record IsCodeOf (f : FlatProgram) (inputs : List Value) (kept : List Holding)
    (start_planes : List ℕ) (start_words : List ℤ)
    (constant_word memory_plane memory_word planes words : ℕ) (c : LaneCode) : Type 0 where
  pub compiled :
      IsCompiled f c.code inputs c.places.items kept c.watched start_words constant_word
      memory_plane memory_word c.plane_sources.items c.word_sources.items (Suits c)
  pub laid_out :
      IsLaidOut f c.code inputs kept start_planes start_words constant_word memory_plane memory_word
      c.plane_sources.items c.word_sources.items
  pub planes_room : c.code.planes ≤ planes
  pub words_room : c.code.words ≤ words
  pub clear_homes :
      All (λ (p : PlaneId). IsHomeAt memory_plane c.code.first_plane p.0) c.clear.items
  pub set_homes : All (λ (p : PlaneId). IsHomeAt memory_plane c.code.first_plane p.0) c.set.items
