-- One more name is compared with that of the column.
use Rattle.std.proofs.Common.{◌≡◌, ◌<◌, length, get_or, [], sym, ap, ◌∙◌, false, refl}
use Rattle.std.proofs.lemmas.List.Folds.{list_any_at, list_any_more}
use Rattle.std.proofs.lemmas.Option.{get_or_from_slice_get, slice_get_within}
use Rattle.std.specs.Str.{bytes_eq}
use Rattle.lb_static.specs.Signature.{names_of}
use Rattle.lb_trace.proofs.header.is_named.Goals as goal

pub returns-then-eq : goal.returns-then-eq
returns-then-eq c =
    let names = names_of c.args.signature.now in
    let below : c.loop-i.i < length names =
    slice_get_within names c.loop-i.i c.name.result.now c.name.ensures in
    let same : get_or names c.loop-i.i [] ≡ c.as_bytes.result.now =
    get_or_from_slice_get names c.loop-i.i c.name.result.now [] c.name.ensures
    ∙ sym c.as_bytes.ensures.value in
    sym (list_any_at (bytes_eq c.args.column.now) names c.loop-i.i [] below
    (ap (bytes_eq c.args.column.now) same ∙ sym c.eq.ensures ∙ c.if-eq.true))

pub loop-i-preserved : goal.loop-i-preserved
loop-i-preserved c =
    let names = names_of c.args.signature.now in
    let below : c.loop-i.i < length names =
    slice_get_within names c.loop-i.i c.name.result.now c.name.ensures in
    let same : get_or names c.loop-i.i [] ≡ c.as_bytes.result.now =
    get_or_from_slice_get names c.loop-i.i c.name.result.now [] c.name.ensures
    ∙ sym c.as_bytes.ensures.value in
    let other : bytes_eq c.args.column.now (get_or names c.loop-i.i []) ≡ false =
    ap (bytes_eq c.args.column.now) same ∙ sym c.eq.ensures ∙ c.if-eq.false in
    list_any_more (bytes_eq c.args.column.now) names c.loop-i.i [] below
    ∙ rw (c.loop-i.invariant, other) refl
