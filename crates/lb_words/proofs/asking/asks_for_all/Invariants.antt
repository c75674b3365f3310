use Rattle.std.proofs.Common.{◌≡◌, length, map}
use Rattle.std.specs.Prelude.{string_bytes}
use Rattle.lb_words.specs.Words.{asks_for_all}
use Rattle.lb_words.proofs.asking.asks_for_all.Given as goal

abbrev pub invariant-loop-words : goal.invariant-loop-words
invariant-loop-words l =
    asks_for_all (map string_bytes l.words) ≡ asks_for_all (map string_bytes l.initial.words)

abbrev pub decreases-loop-words : goal.decreases-loop-words
decreases-loop-words l = length l.words
