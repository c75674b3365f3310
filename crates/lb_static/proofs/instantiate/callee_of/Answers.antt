-- The number of times that a call is entered is read at the place of its count.
use Rattle.std.proofs.Common.{◌∙◌, ap, sym, length}
use Rattle.lb_static.specs.Instantiated.{times_of}
use Rattle.lb_static.proofs.InstanceSteps.{times_read}
use Rattle.lb_static.proofs.instantiate.callee_of.Goals as goal
use Rattle.lb_static.proofs.instantiate.callee_of.Goals.{in-Some, in-None}

pub returns-clause-count : goal.returns-clause-count
returns-clause-count c =
    let statics = c.args.statics.now in
    let site = c.args.site.now in
    elim c.match-site.branch [
      | in-Some w ↦
          let read = times_read (length c.args.reached.now.ids.items) statics site w.in-Some.count
          w.index-statics-count.result c.requires.within w.in-Some.is
          w.index-statics-count.is in
          w.count-is ∙ w.size_of.ensures.value ∙ sym read
      | in-None w ↦ w.count-is ∙ ap (times_of statics) (sym w.in-None.is)
    ]
