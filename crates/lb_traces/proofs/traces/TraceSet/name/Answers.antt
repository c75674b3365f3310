-- The name at a place is that of the trace there.
use Rattle.std.proofs.Common.{arith, ◌<◌, length, sym, ◌∙◌}
use Rattle.lb_traces.proofs.Storing.{count_of, name_of}
use Rattle.lb_traces.proofs.traces.TraceSet.name.Goals as goal

pub get-requires : goal.get-requires
get-requires c =
    omega (
      arith,
      c.requires,
      count_of _ _ _ _ _
          c.self.view_is,
    )

pub returns : goal.returns
returns c =
    let below : c.args.k < length c.self.inside.names =
    omega (
      arith,
      c.requires,
      count_of _ _ _ _ _
          c.self.view_is,
    ) in
    c.get.ensures ∙ sym (name_of _ _ _ _ _ _ c.self.view_is below)
