-- The part of a report that is read so far.
use Rattle.std.proofs.Common.{◌≡◌, ◌≢◌, ℕ, ◌+◌, ◌<◌, ◌^◌, List, [], ◌∷◌, ◌++◌, length, map, None}
use Rattle.std.proofs.Common.{sym, ◌∙◌, ap, subst}
use Rattle.std.specs.Prelude.{IsSome}
use Rattle.std.specs.List.{All, AllPairs}
use Rattle.std.proofs.Common.{arith, ◌≤◌}
use Rattle.std.proofs.lemmas.List.{append-nil, length-map, map-append}
use Rattle.std.proofs.lemmas.List.Elements.{All-push}
use Rattle.lb_listing.specs.Indexed.{IsIndexed, listed}
use Rattle.lb_listing.specs.Listings.{IsFault, IsLine, IsListing, Line, line_of, lines_of}
use Rattle.lb_listing.specs.Listings.{names_of, spelled, total_of, verdict_in, verdicts_of}
use Rattle.lb_listing.specs.declared.entry.Entry.{Entry}
use Rattle.lb_listing.specs.declared.listing.Listing.{Listing}
use Rattle.lb_listing.proofs.Lines.{line_not_total, line_only}
use Rattle.lb_listing.proofs.Listed.{distinct-push, is_no_report, reads_more, small_total}

-- the text begins with the lines of a list, and `rest` follows them
pub record HasRead (text rest : List ℕ) (l : Listing) : Type 0 where
  pub reads : text ≡ lines_of (listed l) ++ rest
  pub each : All IsLine (listed l)
  pub distinct : AllPairs (λ a b. a ≢ b) (names_of (listed l))
  pub indexed : IsIndexed l

-- `HasRead` after one more line
pub read_more : (text old rest : List ℕ) (before after : Listing) (e : Entry)
    → HasRead text old before → IsLine (line_of e) → old ≡ spelled (line_of e) ++ rest
    → verdict_in e.name.now (listed before) ≡ None
    → after.entries.items ≡ before.entries.items ++ e ∷ [] → IsIndexed after
    → HasRead text rest after
read_more text old rest before after e read lawful cut fresh pushed indexed =
    let l = line_of e in
    let grown : listed after ≡ listed before ++ l ∷ [] =
    ap (λ (es : List Entry). map line_of es) pushed
    ∙ map-append line_of before.entries.items (e ∷ []) in
    record {
      reads = subst (λ (ls : List Line). text ≡ lines_of ls ++ rest) (sym grown)
          (reads_more text old rest (listed before) l read.reads cut);
      each = subst (λ (ls : List Line). All IsLine ls) (sym grown)
          (All-push IsLine (listed before) l read.each lawful);
      distinct = subst (λ (ls : List Line). AllPairs (λ a b. a ≢ b) (names_of ls)) (sym grown)
          (distinct-push (listed before) l read.distinct fresh);
      indexed = indexed;
    }

pub listing_of : (text rest : List ℕ) (l : Listing) → HasRead text rest l
    → length (listed l) < 2 ^ 64 → IsListing (listed l)
listing_of text rest l read few =
    record { each = read.each; distinct = read.distinct; count = few }

-- the rest continues with a trace that is already in the list
pub fault_at : (text rest more : List ℕ) (l : Listing) (e : Line) (number : ℕ)
    → HasRead text rest l → length (listed l) < 2 ^ 64 → number ≡ length (listed l) + 1 → IsLine e
    → rest ≡ spelled e ++ more → IsSome (verdict_in e.0 (listed l)) → IsFault text number
fault_at text rest more l e number read few is lawful cut twice =
    let before = listed l in
    let lines = listing_of text rest l read few in
    let Further : Type 0 = (m : Line) (later : List ℕ) → IsLine m → rest ≡ spelled m ++ later
    → IsSome (verdict_in m.0 before) in
    let further : Further = λ m later other goes.
    let same = line_only e m more later lawful other (sym cut ∙ goes) in
    subst (λ (x : Line). IsSome (verdict_in x.0 before)) same.0 twice in
    let no_end : rest ≢ total_of before = λ ends.
    line_not_total e (verdicts_of before) more [] lawful (small_total before lines)
    (sym cut ∙ ends ∙ sym (append-nil (total_of before))) in
    record {
      before = before;
      rest = rest;
      reads = read.reads;
      lawful = lines;
      number_is = is;
      no_further_trace = further;
      no_end = no_end;
      no_report = λ other lists. is_no_report text rest before other lines read.reads further
          no_end lists;
    }

-- the rest continues with neither a trace nor the end of the report
pub last_fault : (text rest : List ℕ) (l : Listing) (number : ℕ)
    → HasRead text rest l → length (listed l) < 2 ^ 64 → number ≡ length (listed l) + 1
    → ((m : Line) (later : List ℕ) → IsLine m → rest ≢ spelled m ++ later)
    → rest ≢ total_of (listed l) → IsFault text number
last_fault text rest l number read few is no_line no_end =
    let before = listed l in
    let lines = listing_of text rest l read few in
    let Further : Type 0 = (m : Line) (later : List ℕ) → IsLine m → rest ≡ spelled m ++ later
    → IsSome (verdict_in m.0 before) in
    let further : Further = λ m later other goes. absurd (no_line m later other goes) in
    record {
      before = before;
      rest = rest;
      reads = read.reads;
      lawful = lines;
      number_is = is;
      no_further_trace = further;
      no_end = no_end;
      no_report = λ other lists. is_no_report text rest before other lines read.reads further
          no_end lists;
    }

pub listed_few : (l : Listing) → length (listed l) < 2 ^ 64
listed_few l =
    let long : length (listed l) ≡ length l.entries.items = length-map l.entries.items line_of in
    let same : l.entries.len ≡ length l.entries.items = l.entries.ok.0 in
    let within : l.entries.len ≤ l.entries.cap = l.entries.ok.1 in
    let small : l.entries.cap < 2 ^ 63 = l.entries.small in
    omega (arith, long, same, within, small)

pub listed_count : (l : Listing) → l.entries.len ≡ length (listed l)
listed_count l = l.entries.ok.0 ∙ sym (length-map l.entries.items line_of)
