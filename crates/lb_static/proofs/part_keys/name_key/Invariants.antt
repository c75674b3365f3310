use Rattle.std.proofs.Common.{◌≡◌, drop}
use Rattle.lb_static.specs.PartKeys.{bytes_key, name_key}
use Rattle.lb_static.proofs.part_keys.name_key.Given as goal

abbrev pub invariant-loop-byte : goal.invariant-loop-byte
invariant-loop-byte l =
    bytes_key l.longer (drop l.byte-index l.bytes) ≡ name_key l.key l.name
