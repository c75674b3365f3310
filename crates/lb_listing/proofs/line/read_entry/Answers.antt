use Rattle.std.proofs.Common.{◌≡◌, sym, ◌∙◌, subst, List, ℕ, true, false}
use Rattle.lb_traces.specs.Traces.{IsTraceName}
use Rattle.lb_listing.specs.Listings.{IsLine, Line, body}
use Rattle.lb_listing.proofs.Cuts.{none_if, parts_none, parts_some}
use Rattle.lb_listing.proofs.line.read_entry.Goals as goal

pub returns-in_err-name-clause-none : goal.returns-in_err-name-clause-none
returns-in_err-name-clause-none c =
    none_if c.from_residual.result ((l : Line) → IsLine l → c.args.line.now ≡ body l → ⊥)
    (λ l lawful e. parts_none c.args.line.now c.split_once.result l c.split_once.ensures.cases
    lawful
    c.in_err-name.was e)

pub returns-then-not-is_trace_name-clause-none : goal.returns-then-not-is_trace_name-clause-none
returns-then-not-is_trace_name-clause-none c = λ l lawful e.
    let parts = parts_some c.args.line.now c.split_once.result l (
      c.in_ok-name.name,
      c.in_ok-name.said,
    )
    c.split_once.ensures.cases lawful c.in_ok-name.was e in
    let named : IsTraceName c.as_bytes.result.now =
    subst (λ (name : List ℕ). IsTraceName name) (sym parts.0 ∙ sym c.as_bytes.ensures.value)
    lawful.name in
    let no : false ≡ true = c.if-not-is_trace_name.ensures.1 named in cc

pub returns-in_err-verdict-clause-none : goal.returns-in_err-verdict-clause-none
returns-in_err-verdict-clause-none c =
    none_if c.from_residual-in_err-verdict.result
    ((l : Line) → IsLine l → c.args.line.now ≡ body l → ⊥)
    (λ l lawful e.
    let parts = parts_some c.args.line.now c.split_once.result l (
      c.in_ok-name.name,
      c.in_ok-name.said,
    )
    c.split_once.ensures.cases lawful c.in_ok-name.was e in
    c.in_err-verdict.ensures.none l.1 lawful.instant parts.1)
