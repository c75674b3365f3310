use Rattle.std.proofs.Common.{◌<◌, ℤ, List, Some, ap, ◌∙◌, get_or, length, map, pos, subst, sym}
use Rattle.std.specs.List.{All}
use Rattle.lb_trace.specs.Lines.{record_of}
use Rattle.lb_trace.specs.declared.header.Column.{Column}
use Rattle.lb_trace.proofs.PlacedRows.{cells_placed, places_within, row_placed}
use Rattle.lb_trace.proofs.placed_rows.read_placed.Goals as goal

pub take_places-requires : goal.take_places-requires
take_places-requires c =
    let read = rw c.in-Some.is at c.in_ok-past.ensures in
    subst (λ (vs : List ℤ). All (λ (column : Column). column.at < length vs) c.args.columns.now)
    (sym c.deref.ensures.value)
    (places_within _ _ _ _ read.0 c.requires)

pub returns : goal.returns
returns c =
    let read = rw c.in-Some.is at c.in_ok-past.ensures in
    let cells = record_of c.args.text.now in
    let values = c.read_line.new.row.items in (
      cells_placed _ _ _ read.0,
      row_placed _ _ _ _ read.0 c.requires
          ∙ ap Some (sym (c.in_ok-take_places.ensures
          ∙ ap (λ (vs : List ℤ). map (λ (column : Column). get_or vs column.at (pos 0))
          c.args.columns.now) c.deref.ensures.value)),
      read.1,
    )
