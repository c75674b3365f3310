use Rattle.std.proofs.Common.{◌∙◌, ◌-◌, ap, length}
use Rattle.std.proofs.lemmas.List.{length-map}
use Rattle.lb_trace.proofs.WordLanes.{digits-are}
use Rattle.lb_trace.proofs.words.digits_of.Goals as goal

pub returns-clause-long : goal.returns-clause-long
returns-clause-long c =
    ap length (digits-are c.args.bytes c.requires c.fits-bytes.1)
    ∙ length-map c.args.bytes (λ b. b - 48) ∙ c.requires

pub returns-clause-digits : goal.returns-clause-digits
returns-clause-digits c = digits-are c.args.bytes c.requires c.fits-bytes.1
