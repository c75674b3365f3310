use Rattle.std.proofs.Common.{List, ℕ, ◌≡◌, ◌||◌, ◌++◌}
use Rattle.std.specs.Prelude.{flat_map}
use Rattle.std.specs.Borrow.{Bor}
use Rattle.std.specs.List.{list_any}
use Rattle.lb_trace.specs.Plain.{has_quote, plain_records}
use Rattle.lb_trace.proofs.parts.parts_of.Given as goal

abbrev pub invariant-cuts : goal.invariant-cuts
invariant-cuts l = record {
  records : plain_records l.text
      ≡ flat_map (λ (part : Bor (List ℕ)). plain_records part.now) l.parts.items
      ++ plain_records l.rest;
  quotes : has_quote l.text
      ≡ (list_any (λ (part : Bor (List ℕ)). has_quote part.now) l.parts.items
      || has_quote l.rest);
}
