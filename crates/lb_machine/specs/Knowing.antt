-- Planes that hold in each lane what an instruction would compute.
-- Source: this project's rule.
use Rattle.std.specs.Prelude.{◌≡◌, ◌⊎◌, if◌then◌else◌}
use Rattle.lb_machine.specs.declared.instruction.PlaneId.{PlaneId}
use Rattle.lb_machine.specs.declared.instruction.WordId.{WordId}
use Rattle.lb_machine.specs.Meaning.{Lane, HasConstants}

-- plane `p` is one of three, or the plane that is false everywhere
abbrev pub IsOneOf : (a b c p : PlaneId) → Type 0
IsOneOf a b c p = (p.0 ≡ 0) ⊎ ((p.0 ≡ a.0) ⊎ ((p.0 ≡ b.0) ⊎ (p.0 ≡ c.0)))

-- plane `p` holds `a` where the mask is true, and `b` elsewhere
pub record IsSelected (m a b p : PlaneId) : Type 0 where
  pub means :
      (s : Lane) → HasConstants s →
      s.bits p.0 ≡ (if s.bits m.0 then s.bits a.0 else s.bits b.0)
  pub there : IsOneOf m a b p

-- word `w` holds `a` where the mask is true, and `b` elsewhere
pub record IsBlended (m : PlaneId) (a b w : WordId) : Type 0 where
  pub means :
      (s : Lane) → HasConstants s →
      s.ints w.0 ≡ (if s.bits m.0 then s.ints a.0 else s.ints b.0)
  pub there : (w.0 ≡ a.0) ⊎ (w.0 ≡ b.0)
