-- The bytes that were read stand behind those that were there.
use Rattle.std.proofs.Common.{◌≡◌, ◌∙◌, ◌<◌, ◌≤◌, ◌+◌, ◌-◌, ap, arith, drop, eqb-true}
use Rattle.std.proofs.Common.{length, rules, sym, take}
use Rattle.std.proofs.lemmas.List.{length-take-le}
use Rattle.lb_feed.specs.Counts.{count_more}
use Rattle.lb_feed.specs.Windows.{ended_by}
use Rattle.lb_feed.proofs.WindowTexts.{range_behind, read_behind}
use Rattle.lb_feed.proofs.window.Window.read_more.Goals as goal

pub returns-clause-taken : goal.returns-clause-taken
returns-clause-taken g c =
    let w = c.args.self.now in
    let read = c.in_ok-count.ensures in
    let count = c.in_ok-count.count in
    let buffer = c.read.new.buffer in
    let held = c.deref_mut.result.now in
    let within : w.end ≤ length held =
    omega (arith, c.requires.room, c.deref_mut.ensures.len) in
    let long : length (take count buffer) ≡ count = length-take-le count buffer read.within in
    let room : 0 < length buffer = search rules in
    let fits : w.end + count ≤ w.bytes.len = search rules in
    record {
      read = record {
        more = take count buffer;
        consumed = read.next;
        counted = omega (arith, long);
        ended =
            c.ends_by-self.ensures
            ∙ ap (ended_by w.is_ended)
            (ap (λ l. take (w.end + count - w.end) (drop w.end l)) c.deref.ensures.value
            ∙ range_behind held buffer _ _ w.bytes.len w.end count within read.within fits);
        given = read.counted ∙ ap (count_more (g.F.Feed.given c.args.feed.now)) (sym long);
        failures = read.ok;
        over = λ known is. read.end (eqb-true _ _ is) room;
        still = λ is. cc (sym is ∙ c.requires.more);
        limit = λ within. omega arith;
      };
      taken =
          read_behind held w.bytes.items buffer _ _ w.bytes.len w.start w.end count
          c.deref_mut.ensures.value c.requires.window.ordered within read.within fits;
    }
