-- The second round goes on where the first one ended.
use Rattle.std.proofs.Common.{subst, sym}
use Rattle.std.specs.Prelude.{All}
use Rattle.std.proofs.lemmas.List.{take-append-drop}
use Rattle.std.proofs.lemmas.Option.{IfSome_then}
use Rattle.lb_trace.specs.Loads.{IsRecorder}
use Rattle.lb_trace.proofs.LoadedChunks.{joined-under, rounds-joined}
use Rattle.lb_trace.proofs.loaded.ChunkReader.read_rounds.Goals as goal

pub with_parts-requires-clause-parts : goal.with_parts-requires-clause-parts
with_parts-requires-clause-parts g c =
    let ends = c.in-Some-next_round.ensures in
    subst (λ e. All (IsRecorder e) c.in-Some-next_round.last.read.items) (sym ends.joined.1.0)
    ends.read.1

pub returns : goal.returns
returns g c =
    let reader = c.args.self.now in
    let last = c.in-Some-next_round.last in
    let ends = c.in-Some-next_round.ensures in
    IfSome_then c.with_parts.result
    (joined-under reader.signature.now last.all last.read.items c.with_parts.result
    ends.joined.1.0 c.with_parts.ensures)
    (λ one joined.
    rounds-joined _ reader.signature.now reader.table.now reader.most c.args.numbers.now _ _
    c.args.begun last.all one c.in-Some.read.items last.read.items
    (rw (c.split_at.ensures.front, c.split_at.ensures.back)
    (take-append-drop _ c.args.numbers.now))
    c.in-Some.ensures ends.joined ends.read joined)
