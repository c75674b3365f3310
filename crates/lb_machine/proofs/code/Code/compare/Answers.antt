use Rattle.std.proofs.Common.{arith}
use Rattle.lb_machine.proofs.Building.{grown_by, plane_by}
use Rattle.lb_machine.proofs.code.Code.compare.Goals as goal

pub returns-clause-grown : goal.returns-clause-grown
returns-clause-grown c =
    grown_by c.args.self.now c.push_plane.new.self _ c.in_ok-push_plane.ensures.first_plane
    c.in_ok-push_plane.ensures.first_word (omega (arith, c.in_ok-push_plane.ensures.planes))
    (omega (arith, c.in_ok-push_plane.ensures.words)) c.in_ok-push_plane.ensures.last

pub returns-clause-plane : goal.returns-clause-plane
returns-clause-plane c =
    plane_by c.args.self.now c.push_plane.new.self _ _ _
    c.in_ok-push_plane.ensures.last
    (omega (arith, c.in_ok-push_plane.ensures.planes)) (λ s d. d)
