use Rattle.lb_check.proofs.Words.{◌≡◌, ◌-◌, drop, length, ◌&&◌, option_map, view_type, kept_in}
use Rattle.lb_check.proofs.Words.{context_in, are_met, common, has_arity, signature_in}
use Rattle.lb_check.proofs.typing.WalkedTypes.{AreNoted, later}
use Rattle.lb_check.proofs.types.+walking.Given as goal

abbrev pub invariant-walk_list-loop-seen : goal.invariant-walk_list-loop-seen
invariant-walk_list-loop-seen l =
    let ctx = context_in l.env in
    record {
      element : option_map view_type l.element ≡ common (later ctx l.terms l.seen);
      noted : AreNoted ctx l.terms (kept_in l.fn.parts) l.seen (kept_in l.parts);
    }

abbrev pub invariant-walk_row-loop-seen : goal.invariant-walk_row-loop-seen
invariant-walk_row-loop-seen l =
    let ctx = context_in l.env in
    let s = signature_in l.signature in
    record {
      fits :
          l.fits
          ≡ (has_arity s (length l.terms)
          && are_met (drop (length l.terms - l.seen) s.takes) (later ctx l.terms l.seen));
      noted : AreNoted ctx l.terms (kept_in l.fn.parts) l.seen (kept_in l.parts);
    }
