-- The first line that is not empty is the header, or there is none.
use Rattle.std.proofs.Common.{◌≡◌, ◌∙◌, ℕ, List, ap, false, refl, rules, sym, take}
use Rattle.lb_trace.specs.Plain.{has_quote, plain_records}
use Rattle.lb_trace.specs.Tables.{has_header}
use Rattle.lb_feed.proofs.Passing.{passes_on}
use Rattle.lb_feed.specs.Windows.{left}
use Rattle.lb_report.specs.JudgedParts.{IsHeadHalted}
use Rattle.lb_report.specs.declared.rounds.Halt.{Halt}
use Rattle.lb_report.specs.declared.rounds.Halt.TheVariants.{Load}
use Rattle.lb_trace.specs.declared.error.TraceError.TheVariants.{Header}
use Rattle.lb_report.proofs.HeadReads.{head_found, head_none}
use Rattle.lb_report.proofs.rounds.Rounds.read_header.Goals as goal

pub returns-in_err-count-clause-err : goal.returns-in_err-count-clause-err
returns-in_err-count-clause-err g c =
    let feed = c.args.feed.now in
    let after = c.first_piece.new.feed in
    let old = left (g.F.Feed.coming feed) (g.F.Feed.given feed) (g.F.Feed.failures feed) in
    let new = left (g.F.Feed.coming after) (g.F.Feed.given after) (g.F.Feed.failures after) in
    let Is : Halt → Type 0 =
    IsHeadHalted c.args.self.now.signature.now c.args.window.now c.first_piece.new.window old new in
    passes_on c.from_residual.result (Load c.in_err-count.field-0.0) Is c.from_residual.ensures.1
    c.in_err-count.ensures.err

pub returns-in_default-clause-err : goal.returns-in_default-clause-err
returns-in_default-clause-err g c =
    let elements = c.args.self.now.signature.now in
    let took = c.in_ok-count.ensures in
    let count = c.in_ok-count.count in
    let len = c.header_len-len in
    let shown = c.text.result.now in
    let plain : has_quote (take len.result (take count shown)) ≡ false = search rules in
    let none = rw c.in_default.is at c.in_ok-begun.ensures in
    head_none elements c.args.window.now c.first_piece.new.window _ _ shown count len.result
    took.taken c.text.ensures took.within took.whole took.ended took.line len.ensures.within
    len.ensures.first len.ensures.ended plain Header refl
    (ap (λ (t : List ℕ). has_header elements (plain_records t)) (sym c.strip_bom.ensures) ∙ none)

pub returns-clause-ok : goal.returns-clause-ok
returns-clause-ok g c =
    let took = c.in_ok-count.ensures in
    let count = c.in_ok-count.count in
    let len = c.header_len-len in
    let shown = c.text.result.now in
    let gone = c.let_go.ensures in
    let plain : has_quote (take len.result (take count shown)) ≡ false = search rules in
    let found = rw c.in-Some.is at c.in_ok-begun.ensures in
    head_found c.args.self.now.signature.now c.args.window.now c.first_piece.new.window _ _ shown
    count len.result took.taken c.text.ensures took.within took.whole took.ended took.line
    len.ensures.within len.ensures.first len.ensures.ended plain c.in-Some.begun.table
    (plain_records c.in-Some.begun.rest.now) c.let_go.new.self found.0
    (ap plain_records (sym c.strip_bom.ensures) ∙ found.1) gone.rest gone.read gone.over gone.ended
