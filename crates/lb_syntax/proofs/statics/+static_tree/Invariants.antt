use Rattle.lb_syntax.proofs.statics.+static_tree.Given as goal

abbrev pub decreases-static_tree : goal.decreases-static_tree
decreases-static_tree l = l.depth
