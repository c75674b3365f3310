use Rattle.std.proofs.Common.{◌≤◌, ap₂, ◌∙◌, sym, subst, arith, w32, to_z, SFits}
use Rattle.std.proofs.Math.Nat.{div-le_self}
use Rattle.std.specs.Int.RustNames.{unsigned_abs}
use Rattle.lb_lanes.proofs.Divisions.{quotient_fits}
use Rattle.lb_lanes.proofs.SignedDivisions.{signed_by, quotient_signed, word_negated, word_same}
use Rattle.lb_lanes.proofs.WordViews.{word_is_int}
use Rattle.lb_lanes.proofs.Words.{fits_int, abs_int}
use Rattle.lb_lanes.proofs.reciprocals.signed.Goals as goal

pub returns-then-differs_in_sign : goal.returns-then-differs_in_sign
returns-then-differs_in_sign c =
    let small : c.args.size ≤ 2147483648
    = omega (
      arith,
      c.requires.size,
      abs_int _ (fits_int _ (word_is_int c.args.x)),
      div-le_self (unsigned_abs (to_z w32 c.args.x)) (unsigned_abs (to_z w32 c.args.divisor)),
    ) in
    word_negated c.args.size small
    ∙ ap₂ signed_by (sym c.if-differs_in_sign.true ∙ c.differs_in_sign.ensures) c.requires.size
    ∙ sym (quotient_signed (to_z w32 c.args.x) (to_z w32 c.args.divisor))

pub returns-else-differs_in_sign : goal.returns-else-differs_in_sign
returns-else-differs_in_sign c =
    let is = ap₂ signed_by (sym c.if-differs_in_sign.false ∙ c.differs_in_sign.ensures)
    c.requires.size
    ∙ sym (quotient_signed (to_z w32 c.args.x) (to_z w32 c.args.divisor)) in
    word_same c.args.size
    (subst (SFits w32) (sym is)
    (quotient_fits (to_z w32 c.args.x) (to_z w32 c.args.divisor) (fits_int _ (word_is_int c.args.x))
    c.requires.divisible))
    ∙ is
