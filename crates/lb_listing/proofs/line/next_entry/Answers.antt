use Rattle.std.proofs.Common.{◌≡◌, ◌++◌, sym, ◌∙◌, subst, List, ℕ}
use Rattle.std.specs.Str.{IsUtf8}
use Rattle.lb_listing.specs.Listings.{IsLine, Line, body, spelled}
use Rattle.lb_listing.proofs.Bytes.{body_is_text}
use Rattle.lb_listing.proofs.Cuts.{line_is, none_if}
use Rattle.lb_listing.proofs.line.next_entry.Goals as goal

pub returns-in_default-clause-none : goal.returns-in_default-clause-none
returns-in_default-clause-none c = λ l rest lawful e.
    let cut = c.in_ok-line.ensures.some in
    let is : c.in_ok-line.line.now ≡ body l =
    line_is c.args.text.now c.in_ok-line.line.now c.in_ok-line.rest.now rest l lawful cut.0 cut.1 e
    in
    c.in_default.ensures.cases.0 (subst (λ (text : List ℕ). IsUtf8 text) (sym is) (body_is_text l
    lawful))

pub returns-in_err-entry-clause-none : goal.returns-in_err-entry-clause-none
returns-in_err-entry-clause-none c =
    none_if c.from_residual-in_err-entry.result
    ((l : Line) (rest : List ℕ) → IsLine l → c.args.text.now ≡ spelled l ++ rest → ⊥)
    (λ l rest lawful e.
    let cut = c.in_ok-line.ensures.some in
    let is : c.in_ok-line.line.now ≡ body l =
    line_is c.args.text.now c.in_ok-line.line.now c.in_ok-line.rest.now rest l lawful cut.0 cut.1 e
    in
    c.in_err-entry.ensures.none l lawful (c.in-Ok.ensures.cases.0 ∙ is))
