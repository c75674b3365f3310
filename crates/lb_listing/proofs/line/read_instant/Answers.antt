use Rattle.std.proofs.Common.{◌≡◌, sym, ◌∙◌, ap, true, arith, Ok}
use Rattle.lb_listing.specs.Plain.{is_canonical}
use Rattle.lb_listing.proofs.Digits.{parsed, plain_decimal, read_back}
use Rattle.lb_listing.proofs.line.read_instant.Goals as goal

pub returns-then-not-is_canonical-clause-none : goal.returns-then-not-is_canonical-clause-none
returns-then-not-is_canonical-clause-none c = λ t small e.
    let plain : is_canonical c.args.digits.now ≡ true = ap is_canonical e ∙ plain_decimal t small in
    let no : c.is_canonical.result ≡ true = c.is_canonical.ensures ∙ plain in cc

pub returns-in-Ok-clause-some : goal.returns-in-Ok-clause-some
returns-in-Ok-clause-some c = (
  c.if-t-lt-INSTANTS.true,
  parsed c.args.digits.now c.parse.result c.in-Ok.t (sym c.if-not-is_canonical.ensures)
      c.parse.ensures.value.0 c.in-Ok.is,
)

pub returns-in_default-clause-none : goal.returns-in_default-clause-none
returns-in_default-clause-none c = λ t small e.
    let back : c.parse.result ≡ Ok t =
    read_back c.args.digits.now c.parse.result t small c.parse.ensures.value.0 e in
    let same : c.in-Ok.t ≡ t = cc in absurd (omega arith)

pub returns-in_default-2-clause-none : goal.returns-in_default-2-clause-none
returns-in_default-2-clause-none c = λ t small e.
    let back : c.parse.result ≡ Ok t =
    read_back c.args.digits.now c.parse.result t small c.parse.ensures.value.0 e in cc
