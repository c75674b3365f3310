-- A text that is cut into parts.
-- This file says what the code finds in a text; no definition of the language stands on it.
use Rattle.std.specs.Prelude.{ℕ, ◌≡◌, false, List, flat_map}
use Rattle.std.specs.Borrow.{Bor}
use Rattle.std.specs.List.{list_any}
use Rattle.lb_trace.specs.Plain.{has_quote, plain_records}
use Rattle.lb_trace.specs.Spelling.{records_of}

-- parts have the records of a text, if there is no quote in any of them
abbrev pub HaveRecordsOf : List ℕ → List (Bor (List ℕ)) → Type 0
HaveRecordsOf text parts =
    list_any (λ part. has_quote part.now) parts ≡ false
    → records_of text ≡ flat_map (λ part. plain_records part.now) parts
