use Rattle.std.proofs.Common.{◌<◌, ◌∙◌, get_or, length, subst}
use Rattle.lb_static.specs.Signature.{kinds_of}
use Rattle.lb_traces.specs.Packed.{number_columns}
use Rattle.lb_sim.specs.InputRows.{member_cell}
use Rattle.lb_sim.proofs.IntegerLoads.{four_are}
use Rattle.lb_sim.proofs.integer_loads.put_four_members.Goals as goal

pub returns : goal.returns
returns c =
    let at = c.args.at.now in
    let columns = number_columns 0 (kinds_of at.set.now.signature) in
    record {
      words = c.put_four.ensures.words;
      put = λ i k ge lt e l.
          let w = get_or c.args.places.now k 0 in
          let inside : w < length columns =
          subst (λ n. w < n) c.requires.room (c.requires.within k 0 l) in
          c.put_four.ensures.put k i l ge lt
          ∙ four_are c.args.first i _ _ _ _
          (λ m. member_cell at.set.now at.members.now at.begins.now at.t m (get_or columns w 0))
          (c.numbers_of.ensures.numbers w inside) (c.numbers_of-2.ensures.numbers w inside)
          (c.numbers_of-3.ensures.numbers w inside) (c.numbers_of-4.ensures.numbers w inside) ge lt;
      others = λ i w h o. c.put_four.ensures.others w i h o;
    }
