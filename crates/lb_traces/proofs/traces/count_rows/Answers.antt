-- What stands at the last place is `last_place`.
use Rattle.std.proofs.Common.{◌≡◌, arith, rules}
use Rattle.lb_traces.specs.Ledger.{last_place}
use Rattle.lb_traces.proofs.Ledgers.{read_last}
use Rattle.lb_traces.proofs.traces.count_rows.Goals as goal

pub overflow_add-index_mut : goal.overflow_add-index_mut
overflow_add-index_mut c =
    let rows : c.index_mut.result.now ≡ last_place c.args.row_ends.now.items =
    read_last _ _ _ c.requires.ledger (search rules) c.index_mut.ensures.value in
    omega (arith, rows, c.requires.room)
