use Rattle.std.proofs.Common.{◌≡◌, ◌<◌, ◌-◌, ◌++◌, true}
use Rattle.lb_csv.specs.Csv.{parts_in, rest_in}
use Rattle.lb_csv.specs.Players.{next_played}
use Rattle.lb_csv.proofs.csv.CsvText.write_records.Given as goal

abbrev pub invariant-records : goal.invariant-records
invariant-records l = record {
  begun : l.self.is_begun ≡ true;
  text : l.fn.text.items ++ rest_in l.fn.self ≡ l.text.items ++ rest_in l.self;
  fewer : parts_in l.self < parts_in l.fn.self;
}

abbrev pub decreases-records : goal.decreases-records
decreases-records l = l.self.player.end - next_played l.self.player
