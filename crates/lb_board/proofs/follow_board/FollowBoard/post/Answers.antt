-- One compare_exchange keeps the law.
use Rattle.std.proofs.Common.{ℕ, sym, ap, ◌∙◌, subst, refl, arith}
use Rattle.atomic_table.specs.Table.{Me}
use Rattle.lb_board.specs.declared.follow_views.FollowView.{FollowView}
use Rattle.lb_board.specs.FollowKeys.{right_by}
use Rattle.lb_board.specs.FollowSeats.{right_of}
use Rattle.lb_board.specs.Settlements.{told_by, IsRight, and_one}
use Rattle.lb_board.proofs.Posting.{posts}
use Rattle.lb_board.proofs.Answering.{after_open_post, after_post, still_of, same_draws}
use Rattle.lb_board.proofs.Answering.{nothing_known, told_known, told_right}
use Rattle.lb_board.proofs.follow_board.FollowBoard.post.Goals as goal

pub compare_exchange-found-requires : goal.compare_exchange-found-requires
compare_exchange-found-requires c =
    let shared = c.args.self.now.table.shared in
    let seat = c.args.seat.now in
    let said = c.word_of-said in (
      c.requires.seat.table,
      omega (arith, c.args.self.now.words, c.requires.trace),
      posts shared.key.batches (right_by shared.key) shared.table_id.slots seat.seat.id
          seat.seat.me c.args.k c.args.verdict said.result
          (omega (arith, seat.view.0, seat.part.0)) c.requires.trace said.ensures.word
          said.ensures.small.1 c.requires.right,
    )

pub invariant_of-seat : goal.invariant_of-seat
invariant_of-seat c =
    let seat = c.args.seat.now in
    let step = c.compare_exchange-found.ensures.2 c.args.k refl in
    let me = c.compare_exchange-found.new.seat.me in
    record {
      view = (
        ap (λ (m : Me ℕ FollowView). m.0.draws.shares) step.1 ∙ seat.view.0,
        ap (λ (m : Me ℕ FollowView). m.0.draws.told) step.1 ∙ seat.view.1,
      );
      part = seat.part;
      empty = ap (λ (m : Me ℕ FollowView). m.1) step.1 ∙ seat.empty;
    }

pub told_by-requires : goal.told_by-requires
told_by-requires c = (c.compare_exchange-found.ensures.2 c.args.k refl).0.small

pub returns-then-found-eq0 : goal.returns-then-found-eq0
returns-then-found-eq0 c =
    let board = c.args.self.now in
    let seat = c.args.seat.now in
    let v = seat.seat.me.0 in
    let k = c.args.k in
    let x = c.args.verdict in
    let found = c.compare_exchange-found.result in
    let step = c.compare_exchange-found.ensures.2 k refl in
    let a = after_open_post v seat.seat.me.1 k found c.compare_exchange-found.new.seat.me
    c.word_of-said.result x c.word_of-said.ensures.word step.1 c.if-found-eq0.true in
    let posts = and_one v.posts k x in
    let known = and_one v.known k x in
    let same = c.compare_exchange-found.ensures.0 in
    record {
      seat = still_of board seat posts known same a c.requires.seat;
      draws = same_draws board seat posts known same a;
      posts = a.posts_are;
      known = a.known_are;
      kept = λ y h. absurd (nothing_known v k found step.0 c.if-found-eq0.true y h);
      right = c.requires.right;
    }

pub returns-else-found-eq0 : goal.returns-else-found-eq0
returns-else-found-eq0 c =
    let board = c.args.self.now in
    let seat = c.args.seat.now in
    let v = seat.seat.me.0 in
    let k = c.args.k in
    let x = c.args.verdict in
    let found = c.compare_exchange-found.result in
    let step = c.compare_exchange-found.ensures.2 k refl in
    let a = after_post v seat.seat.me.1 k found c.compare_exchange-found.new.seat.me
    c.word_of-said.result x c.word_of-said.ensures.word step.1 c.if-found-eq0.false in
    let posts = and_one v.posts k x in
    let known = and_one v.known k (told_by found) in
    let same = c.compare_exchange-found.ensures.0 in
    let told = c.told_by.ensures in
    record {
      seat = still_of board seat posts known same a c.requires.seat;
      draws = same_draws board seat posts known same a;
      posts = a.posts_are;
      known = a.known_are ∙ ap (and_one v.known k) (sym told);
      kept = λ y h. told ∙ told_known v k found step.0 y h;
      right =
          subst (IsRight (right_of board) k) (sym told)
          (told_right v k found step.0 c.if-found-eq0.false (right_of board)
          c.requires.seat.right);
    }
