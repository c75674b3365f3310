use Rattle.std.proofs.Common.{◌≡◌, ◌==◌, Bool, true, false, cond, ℤ, pos, refl, ap, ◌∙◌, w32, w64}
use Rattle.std.proofs.Common.{to_z, of_z, SFits}
use Rattle.std.proofs.lemmas.Int.{to_z-of_z}
use Rattle.lb_lanes.specs.Operators.{is_int}
use Rattle.lb_lanes.proofs.Words.{int_fits}
use Rattle.lb_core_tests.proofs.lanes.pair.Goals as goal

chosen : (b : Bool) (v w : ℤ) → is_int v ≡ true → is_int w ≡ true → is_int (cond b v w) ≡ true
chosen true v w p q = p
chosen false v w p q = q

zero_is_int : is_int (pos 0) ≡ true
unfolding is_int
zero_is_int = refl

-- an integer of 32 bits is still one after the casts
small : (v r : ℤ) → SFits w32 v → SFits w64 r → r ≡ to_z w32 (of_z w32 v)
    → is_int (to_z w64 (of_z w64 r)) ≡ true
small v r f g e = ap is_int (to_z-of_z w64 r g ∙ e ∙ to_z-of_z w32 v f) ∙ int_fits v f

pub returns : goal.returns
returns c i h =
    ap is_int (c.set-2.ensures i h)
    ∙ chosen (i == 1) _ _ (small c.args.second c.from-2.result c.ranges.second
    (record { sfits = c.from-2.type_inv }) c.from-2.ensures)
    (ap is_int (c.set.ensures i h)
    ∙ chosen (i == 0) _ _ (small c.args.first c.from.result c.ranges.first
    (record { sfits = c.from.type_inv }) c.from.ensures)
    (ap is_int (c.splat-lanes.ensures i h) ∙ zero_is_int))
