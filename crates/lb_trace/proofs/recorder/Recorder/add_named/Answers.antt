-- An instant of the last trace adds no name.
use Rattle.std.proofs.Common.{◌≡◌, Ok, Some, sym, subst}
use Rattle.std.proofs.lemmas.Result.{on_ok_weaker}
use Rattle.lb_trace.specs.declared.seen_names.SeenNames.{SeenNames}
use Rattle.lb_trace.specs.Mirrors.{go_on_by, knows}
use Rattle.lb_trace.proofs.KnownNames.{go_on_by-knows}
use Rattle.lb_trace.proofs.recorder.Recorder.add_named.Goals as goal

pub returns-then-is_same-clause-names : goal.returns-then-is_same-clause-names
returns-then-is_same-clause-names c =
    on_ok_weaker c.push_row.result
    (λ (gone : go_on_by c.args.self.now.rows.signature c.args.self.now.rows.traces
    (Some c.args.self.now.row.items) ≡ Ok c.push_row.new.self.rows.traces).
    subst (λ (names : SeenNames). knows names c.push_row.new.self.rows.traces)
    (sym c.push_row.ensures.names)
    (go_on_by-knows c.args.self.now.names c.args.self.now.rows.signature
    c.args.self.now.rows.traces c.push_row.new.self.rows.traces
    (Some c.args.self.now.row.items) gone c.requires.names))
    c.push_row.ensures.ok
