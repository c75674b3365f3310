-- The traces of the other parts are joined to those of the first part.
use Rattle.std.proofs.Common.{◌≡◌, ◌<◌, sym, ap, ◌∙◌, arith, length}
use Rattle.std.proofs.lemmas.Bool.Decides.{nat_tests}
use Rattle.lb_traces.specs.Traces.{Recording}
use Rattle.lb_trace.specs.declared.recorder.Recorder.{Recorder}
use Rattle.lb_trace.specs.Mirrors.{knows}
use Rattle.lb_trace.specs.Spelling.{instants}
use Rattle.lb_trace.proofs.JoinedTraces.{part-at, parts-others, parts-whole}
use Rattle.lb_trace.proofs.parallel.joined.Goals as goal

pub join_all-requires-clause-names : goal.join_all-requires-clause-names
join_all-requires-clause-names c =
    let some : 0 < length c.args.parts.items =
    grind (arith, nat_tests, c.is_empty.ensures, c.if-is_empty.false) in
    part-at (λ (part : Recorder). knows part.names part.rows.traces) c.args.parts.items
    c.remove-all.result some c.remove-all.ensures.value
    (λ k d below. (c.requires k d below).1)

pub join_all-requires-clause-same : goal.join_all-requires-clause-same
join_all-requires-clause-same c =
    let some : 0 < length c.args.parts.items =
    grind (arith, nat_tests, c.is_empty.ensures, c.if-is_empty.false) in
    let first : c.remove-all.result.rows.signature ≡ c.args.signature.now =
    part-at (λ (part : Recorder). part.rows.signature ≡ c.args.signature.now) c.args.parts.items
    c.remove-all.result some c.remove-all.ensures.value
    (λ k d below. (c.requires k d below).0) in
    parts-others (λ (part : Recorder). part.rows.signature ≡ c.remove-all.result.rows.signature)
    c.args.parts.items c.remove-all.new.self.items c.remove-all.ensures.items
    (λ k d below. (c.requires k d below).0 ∙ sym first)

pub returns : goal.returns
returns c =
    let some : 0 < length c.args.parts.items =
    grind (arith, nat_tests, c.is_empty.ensures, c.if-is_empty.false) in
    let first : c.remove-all.result.rows.signature ≡ c.args.signature.now =
    part-at (λ (part : Recorder). part.rows.signature ≡ c.args.signature.now) c.args.parts.items
    c.remove-all.result some c.remove-all.ensures.value
    (λ k d below. (c.requires k d below).0) in (
      ap (λ (r : Recording). r.signature) c.into_set-set.ensures ∙ c.in-Ok.ensures.signature
          ∙ first,
      c.signature.ensures.lawful,
      ap (λ (r : Recording). instants r.traces) c.into_set-set.ensures
          ∙ parts-whole c.args.parts.items c.remove-all.new.self.items c.remove-all.result _ some
          c.remove-all.ensures.value c.remove-all.ensures.items
          c.in-Ok.ensures.instants,
    )
