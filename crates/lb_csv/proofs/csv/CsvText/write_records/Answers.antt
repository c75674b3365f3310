use Rattle.std.proofs.Common.{◌≡◌, ◌∙◌, ◌<◌, arith, nat_lt, sym, true}
use Rattle.std.proofs.lemmas.Bool.Decides.{nat_tests}
use Rattle.lb_csv.specs.Players.{next_played}
use Rattle.lb_csv.proofs.Records.{parts_fewer}
use Rattle.lb_csv.proofs.csv.CsvText.write_records.Goals as goal

pub records-init : goal.records-init
records-init c =
    let wrote = c.in_ok-write_record.ensures in
    let before = c.args.self.now in
    let after = c.write_record.new.self in
    record {
      begun = wrote.begun;
      text = wrote.text;
      fewer =
          parts_fewer before.is_begun after.is_begun (next_played before.player)
          (next_played after.player) before.player.end after.player.end c.requires.begun
          wrote.begun wrote.next wrote.end c.requires.next;
    }

pub records-preserved : goal.records-preserved
records-preserved c =
    let wrote = c.in_ok-write_record-2.ensures in
    let before = c.records.self in
    let after = c.write_record-in-records.new.self in
    let test : nat_lt (next_played before.player) before.player.end ≡ true =
    sym c.has_next.ensures ∙ c.records-test.true in
    let lt : next_played before.player < before.player.end = grind (arith, nat_tests, test) in
    let fewer = parts_fewer before.is_begun after.is_begun (next_played before.player)
    (next_played after.player) before.player.end after.player.end c.records.invariant.begun
    wrote.begun wrote.next wrote.end lt in
    record {
      begun = wrote.begun;
      text = c.records.invariant.text ∙ wrote.text;
      fewer = omega (arith, fewer, c.records.invariant.fewer);
    }
