use Rattle.std.proofs.Common.{◌≡◌, ◌∙◌, ◌⊎◌, ℕ, Contains, List, length, rules, subst}
use Rattle.lb_syntax.specs.SourceView.{view_source}
use Rattle.lb_syntax.proofs.Parses.{only_program, syntax_fault}
use Rattle.lb_syntax.proofs.parser.parse.Goals as goal

pub returns-in-Ok : goal.returns-in-Ok
returns-in-Ok c =
    let ts = c.in_ok-found.found.tokens.items in
    let has = c.in_ok-found.ensures.has_tokens in
    only_program c.args.text.now ts (view_source c.in-Ok.source) has (search rules)

pub returns : goal.returns
returns c =
    let ts = c.in_ok-found.found.tokens.items in
    let has = c.in_ok-found.ensures.has_tokens in
    let none = rw c.in-Err-Syntax.field-0-is at c.in-Err-Syntax.ensures in
    let offset = c.offset_of-offset.result in
    let Of : List ℕ → Type 0 =
    λ starts. Contains starts offset ⊎ (offset ≡ length c.args.text.now) in
    let starts = c.deref-in-Err-Syntax.ensures.value ∙ c.in_ok-found.ensures.lexed.starts_are in
    record {
      fault = syntax_fault c.args.text.now ts has (rw c.deref.ensures.value at none);
      place = (offset, subst Of starts c.offset_of-offset.ensures, c.line_column-line.ensures);
    }
