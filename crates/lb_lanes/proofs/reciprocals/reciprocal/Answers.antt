use Rattle.std.proofs.Common.{◌≡◌, ℕ, ◌+◌, ◌-◌, ◌*◌, ◌/◌, ◌%◌, ◌^◌, ◌<◌, ap₂, sym, subst, arith}
use Rattle.std.proofs.lemmas.Nat.{one_shl}
use Rattle.lb_lanes.specs.Reciprocals.{IsReciprocal}
use Rattle.lb_lanes.proofs.ByReciprocals.{reciprocal_of, factor_fits}
use Rattle.lb_lanes.proofs.reciprocals.reciprocal.Goals as goal

-- the multiplier that the code forms
formed : (l d n : ℕ) → l < 32 → n ≡ d
    → (1 * 2 ^ (32 + l) % 18446744073709551616 - 1) / n + 1 ≡ (2 ^ (32 + l) - 1) / d + 1
formed l d n h e = ap₂ (λ m k. (m - 1) / k + 1) (one_shl (32 + l) 64 (omega (arith, h))) e

pub overflow_cast-result : goal.overflow_cast-result
overflow_cast-result c =
    record {
      fits = subst (λ m. m < 4294967296)
          (sym (formed c.args.log c.args.d c.from.result c.requires.short c.from.ensures))
          (factor_fits c.args.d c.args.log c.requires.above c.requires.bound);
    }

pub returns : goal.returns
returns c =
    subst (λ m. IsReciprocal c.args.d m (32 + c.args.log))
    (sym (formed c.args.log c.args.d c.from.result c.requires.short c.from.ensures))
    (reciprocal_of c.args.d c.args.log c.requires.above c.requires.below c.requires.short)
