use Rattle.std.proofs.Common.{◌≡◌, ◌∙◌, ◌-◌, ◌==◌, List, ℕ, length, ap, arith, subst, sym}
use Rattle.std.proofs.lemmas.List.Sums.{count_by-le-length}
use Rattle.lb_part.specs.Ranges.{HasRange}
use Rattle.lb_part.specs.Skips.{newlines_of}
use Rattle.lb_part.proofs.SkippedLines.{more-newlines}
use Rattle.lb_part.proofs.skips.count.Goals as goal

pub loop-preserved : goal.loop-preserved
loop-preserved g c =
    let known = c.loop.invariant in
    let long : length c.as_slice.result.now ≡ c.min-next.result - c.loop.at =
    c.as_slice.ensures.len ∙ c.in_ok-bytes.ensures.length in
    let few = count_by-le-length (λ b. b == 10) c.as_slice.result.now in
    record {
      low = omega (arith, known.low, known.high, c.saturating_add.ensures, c.min-next.ensures);
      high = omega (arith, c.min-next.ensures);
      few = omega (
        arith,
        few,
        long,
        known.few,
        c.newlines.ensures,
        known.high,
        c.saturating_add.ensures,
        c.min-next.ensures,
      );
      lines = λ all is.
          more-newlines all c.as_slice.result.now c.args.from c.loop.at c.min-next.result
          c.loop.skipped.lines c.newlines.result known.low (omega arith)
          (subst (λ (w : List ℕ). HasRange all c.loop.at w) (sym c.as_slice.ensures.value)
          (c.in_ok-bytes.ensures.range all is))
          long (known.lines all is) c.newlines.ensures;
    }
