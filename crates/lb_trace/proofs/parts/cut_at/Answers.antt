use Rattle.std.proofs.Common.{refl, sym}
use Rattle.lb_trace.proofs.CutTexts.{cut-found, cut-none, quote-found, quote-none}
use Rattle.lb_trace.proofs.parts.cut_at.Goals as goal

pub returns-then-ends_line : goal.returns-then-ends_line
returns-then-ends_line c = record {
  records = cut-found c.args.text.now c.loop-i.i _ c.loop-i-test.true refl
      (sym c.if-ends_line.ensures);
  quotes = quote-found c.args.text.now c.loop-i.i _ c.loop-i-test.true refl
      (sym c.if-ends_line.ensures);
}

pub returns : goal.returns
returns c = record { records = cut-none c.args.text.now; quotes = quote-none c.args.text.now }
