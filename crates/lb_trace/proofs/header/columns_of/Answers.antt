-- One more element has its column, or its name does not stand once.
use Rattle.std.proofs.Common.{◌≡◌, ◌∙◌}
use Rattle.std.specs.List.{count_by, position_or_len}
use Rattle.std.specs.Str.{bytes_eq}
use Rattle.csv.specs.Records.{fields_of}
use Rattle.lb_trace.specs.Spelling.{after_first}
use Rattle.lb_trace.proofs.Headers.{not_once, once_more, table_more}
use Rattle.lb_trace.proofs.header.columns_of.Goals as goal

pub returns-then-count-ne1 : goal.returns-then-count-ne1
returns-then-count-ne1 c =
    not_once c.args.signature.now (fields_of c.args.header.now) c.loop-i.i c.count.result
    c.name.result.now c.name.ensures
    (rw (← c.as_bytes-name.ensures.value) c.count.ensures) c.if-count-ne1.true

pub loop-i-preserved : goal.loop-i-preserved
loop-i-preserved c =
    let counted : c.count.result
    ≡ count_by (bytes_eq c.name.result.now) (after_first (fields_of c.args.header.now)) =
    rw (← c.as_bytes-name.ensures.value) c.count.ensures in
    let placed : c.position.result
    ≡ position_or_len (bytes_eq c.name.result.now) (after_first (fields_of c.args.header.now)) =
    rw (← c.as_bytes-name.ensures.value) c.position.ensures in
    record {
      once = once_more c.args.signature.now (after_first (fields_of c.args.header.now)) c.loop-i.i
          c.count.result c.name.result.now c.name.ensures
          counted c.if-count-ne1.false c.loop-i.invariant.once;
      table = c.in_ok-push.ensures.items
          ∙ table_more c.args.signature.now (after_first (fields_of c.args.header.now))
          c.loop-i.columns.items c.loop-i.i c.position.result c.kind.result
          c.name.result.now c.name.ensures c.kind.ensures placed c.loop-i.invariant.table;
    }
