use Rattle.std.proofs.Common.{rules}
use Rattle.lb_syntax.proofs.Pieces.{found_none, found_blank, found_lexeme, found_wrong, found_all}
use Rattle.lb_syntax.proofs.Pieces.{starts_are_within}
use Rattle.lb_syntax.proofs.lex.lex.Goals as goal

pub loop-at-init : goal.loop-at-init
loop-at-init c =
    rw (c.new-tokens.ensures.items, c.new-starts.ensures.items) (found_none c.args.text.now)

pub loop-at-preserved-in-Blank : goal.loop-at-preserved-in-Blank
loop-at-preserved-in-Blank c =
    let so_far = c.loop-at.invariant in
    let below = c.loop-at-test.true in
    found_blank _ so_far below (search rules) (search rules) (search rules)

pub loop-at-preserved : goal.loop-at-preserved
loop-at-preserved c =
    let so_far = c.loop-at.invariant in
    let below = c.loop-at-test.true in
    rw (c.in_ok-push-in-Lexeme.ensures.items, c.in_ok-push-in-Lexeme-2.ensures.items, c.new.ensures)
    (found_lexeme c.in-Lexeme.token c.in-Lexeme.n so_far below
    (search rules) (search rules) (search rules))

pub returns-in-Wrong : goal.returns-in-Wrong
returns-in-Wrong c = found_wrong c.loop-at.invariant c.loop-at-test.true (search rules)

pub returns : goal.returns
returns c =
    let all = found_all c.loop-at.invariant c.loop-at-test.false in
    record {
      tokens_are = all.0;
      starts_are = all.1;
      one_start_each = c.loop-at.invariant.one_start_each;
      starts_within = starts_are_within c.loop-at.invariant;
      starts_increase = c.loop-at.invariant.starts_increase;
    }
