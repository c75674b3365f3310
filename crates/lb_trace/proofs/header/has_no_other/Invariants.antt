use Rattle.std.proofs.Common.{◌≡◌, take, true}
use Rattle.std.specs.List.{list_all, list_any}
use Rattle.std.specs.Str.{bytes_eq}
use Rattle.csv.specs.Records.{fields_of}
use Rattle.lb_static.specs.Signature.{names_of}
use Rattle.lb_trace.specs.Spelling.{after_first}
use Rattle.lb_trace.proofs.header.has_no_other.Given as goal

abbrev pub invariant-loop-i : goal.invariant-loop-i
invariant-loop-i l = list_all (λ column. list_any (bytes_eq column) (names_of l.signature))
    (take l.i (after_first (fields_of l.header))) ≡ true
