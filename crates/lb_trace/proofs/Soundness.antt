-- Soundness: the traces that are read of records are those that the records spell.
use Rattle.std.proofs.Common.{ℕ, ◌≡◌, ◌+◌, ◌*◌, ◌<◌, ◌≤◌, Bool, true, false, ◌||◌, ◌==◌, not}
use Rattle.std.proofs.Common.{if◌then◌else◌, List, [], ◌∷◌, ◌++◌, length, map, get_or, Option, Some}
use Rattle.std.proofs.Common.{None, Result, Ok, Err, ℤ, pos, neg_ℤ, refl, sym, ap, ◌∙◌, subst}
use Rattle.std.proofs.Common.{arith, append_assoc, nat_le, nat_lt, inl, inr}
use Rattle.std.specs.Prelude.{codes}
use Rattle.std.proofs.lemmas.Bool.{eqb-true, leb-true, ltb-true}
use Rattle.std.proofs.lemmas.List.{append-nil, get_or-map, length-map, map-append}
use Rattle.std.proofs.lemmas.Int.{ints}
use Rattle.std.proofs.lemmas.Grind.{flat_map-append}
use Rattle.std.proofs.lemmas.List.Folds.{list_any_at}
use Rattle.std.proofs.lemmas.Slice.Eq.{bytes_eq-Decides}
use Rattle.std.specs.Str.{bytes_eq}
use Rattle.std.specs.List.{AllZip, Contains, list_any}
use Rattle.std.specs.Option.{option_and_then, option_map}
use Rattle.lb_syntax.specs.declared.tree.Kind.{Kind}
use Rattle.lb_syntax.specs.declared.tree.Kind.TheVariants as kind
use Rattle.lb_static.specs.Signature.{Elements}
use Rattle.lb_traces.specs.Traces.{HasRoom, IsCell, IsInt, IsRecording, IsRow, IsTraceName, Row}
use Rattle.lb_traces.specs.Traces.{Trace, Traces, cells_of_instant, instants_of, last_rows}
use Rattle.lb_traces.specs.Traces.{trace_names, with_row, with_trace}
use Rattle.lb_traces.proofs.Recordings.{IsRecording-row, IsRecording-trace}
use Rattle.lb_trace.specs.Cells.{cell_value, int_of, natural_of, signed}
use Rattle.lb_trace.specs.Refusals.{comes_back, has_room, is_last, is_trace_name, then_read}
use Rattle.lb_trace.specs.Refusals.{with_cells, with_instant, with_record, with_records}
use Rattle.lb_trace.specs.Spelling.{Instant, Record, SpellsInstant, instants, row_of, under}
use Rattle.lb_trace.proofs.Names.{IsTraceName-from, and-true, and_true}

-- a choice between a value and None that gives a value was true, and gave that value
some_if : {A : Type 0} (b : Bool) (x v : A) → (if b then Some x else None) ≡ Some v
    → (b ≡ true) × (v ≡ x)
some_if true x v is = (refl, cc is)
some_if false x v is = cc is

ok_if : {A : Type 0} (b : Bool) (x v : A) (n : ℕ) → (if b then Ok x else Err n) ≡ Ok v
    → (b ≡ true) × (v ≡ x)
ok_if true x v n is = (refl, cc is)
ok_if false x v n is = cc is

pub and_then_some : {A B : Type 0} (f : A → Option B) (o : Option A) (v : B)
    → option_and_then f o ≡ Some v → (x : A) × (o ≡ Some x) × (f x ≡ Some v)
and_then_some f None v is = cc is
and_then_some f (Some x) v is = (x, refl, is)

pub map_some : {A B : Type 0} (f : A → B) (o : Option A) (v : B) → option_map f o ≡ Some v
    → (x : A) × (o ≡ Some x) × (f x ≡ v)
map_some f None v is = cc is
map_some f (Some x) v is = (x, refl, cc is)

-- a signed number is in range
IsInt-signed : (negative : Bool) (n : ℕ) (v : ℤ) → signed negative n ≡ Some v → IsInt v
IsInt-signed true n v is =
    let parts = some_if (nat_le n 2147483648) (neg_ℤ (pos n)) v is in
    let small : n ≤ 2147483648 = leb-true n 2147483648 parts.0 in
    rw parts.1 (omega (arith, ints), omega (arith, ints))
IsInt-signed false n v is =
    let parts = some_if (nat_le n 2147483647) (pos n) v is in
    let small : n ≤ 2147483647 = leb-true n 2147483647 parts.0 in
    rw parts.1 (omega (arith, ints), omega (arith, ints))

IsInt-either : (b : Bool) (negative positive : Option ℕ) (v : ℤ)
    → (if b then option_and_then (signed true) negative else option_and_then (signed false)
    positive) ≡ Some v → IsInt v
IsInt-either true negative positive v is =
    let n = and_then_some (signed true) negative v is in IsInt-signed true n.0 v n.2
IsInt-either false negative positive v is =
    let n = and_then_some (signed false) positive v is in IsInt-signed false n.0 v n.2

IsInt-cell : (cell : List ℕ) (v : ℤ) → int_of cell ≡ Some v → IsInt v
IsInt-cell [] v is = cc is
IsInt-cell (b ∷ rest) v is = IsInt-either (b == 45) (natural_of rest) (natural_of (b ∷ rest)) v is

IsCell-either : (a b : Bool) (v : ℤ)
    → (if a then Some (pos 1) else if b then Some (pos 0) else None) ≡ Some v → IsCell kind.Bool v
IsCell-either true b v is = inr (cc is)
IsCell-either false true v is = inl (cc is)
IsCell-either false false v is = cc is

-- a value of a cell is lawful
pub IsCell-value : (k : Kind) (cell : List ℕ) (v : ℤ) → cell_value k cell ≡ Some v → IsCell k v
IsCell-value kind.Int cell v is = IsInt-cell cell v is
IsCell-value kind.Bool cell v is =
    IsCell-either (bytes_eq cell (codes "1") || bytes_eq cell (codes "true"))
    (bytes_eq cell (codes "0") || bytes_eq cell (codes "false")) v is

-- a row that cells spell follows the signature
pub IsRow-cells : (elements : Elements) (columns cells : Record) (row : Row)
    → row_of elements columns cells ≡ Some row → IsRow elements row
IsRow-cells [] columns cells [] is = tt
IsRow-cells [] columns cells (v ∷ row) is = cc is
IsRow-cells (e ∷ more) columns cells row is =
    let first = and_then_some (λ v. option_map (λ rest. v ∷ rest) (row_of more columns cells))
    (cell_value e.1 (under columns cells e.0)) row is in
    let rest = map_some (λ r. first.0 ∷ r) (row_of more columns cells) row first.2 in
    subst (IsRow (e ∷ more)) rest.2 (
      IsCell-value e.1 (under columns cells e.0) first.0 first.1,
      IsRow-cells more columns cells
          rest.0 rest.1,
    )

-- one more row of the last trace is one more instant at the end
instants-row : (traces : Traces) (name : List ℕ) (row : Row) → is_last name traces ≡ true
    → instants (with_row traces row) ≡ instants traces ++ (name, row) ∷ []
instants-row [] name row last = cc last
instants-row (t ∷ []) name row last =
    let instant : Row → Instant = λ r. (t.0, r) in
    let same : t.0 ≡ name = sym ((bytes_eq-Decides name t.0).0 last) in
    append-nil (map instant (t.1 ++ row ∷ []))
    ∙ map-append instant t.1 (row ∷ [])
    ∙ ap (λ n. map instant t.1 ++ (n, row) ∷ []) same
    ∙ ap (λ is. is ++ (name, row) ∷ []) (sym (append-nil (map instant t.1)))
instants-row (t ∷ u ∷ more) name row last =
    let instant : Row → Instant = λ r. (t.0, r) in
    ap (λ is. map instant t.1 ++ is) (instants-row (u ∷ more) name row last)
    ∙ sym (append_assoc (map instant t.1) (instants (u ∷ more)) ((name, row) ∷ []))

instants-either : (b : Bool) (traces : Traces) (name : List ℕ) (row : Row) → is_last name traces ≡ b
    → instants (if b then with_row traces row else with_trace traces name row) ≡ instants traces
    ++ (name, row) ∷ []
instants-either true traces name row last = instants-row traces name row last
instants-either false traces name row last =
    flat_map-append (λ (t : Trace). map (λ (r : Row). (t.0, r)) t.1) traces ((name, row ∷ []) ∷ [])

-- `with_instant` adds one instant at the end
pub instants-push : (traces : Traces) (name : List ℕ) (row : Row)
    → instants (with_instant name row traces) ≡ instants traces ++ (name, row) ∷ []
instants-push traces name row = instants-either (is_last name traces) traces name row refl

-- a record `r` that is read behind `traces`: it spells an instant, and there is room for it
pub record Reads (elements : Elements) (columns : Record) (traces next : Traces) (r : Record) : Type
    0 where
  pub instant : Instant
  pub spells : SpellsInstant elements columns r instant
  pub stays : comes_back instant.0 traces ≡ false
  pub room : has_room elements instant.0 traces ≡ true
  pub is : next ≡ with_instant instant.0 instant.1 traces

peel : (a b d : Bool) (x : Result Traces ℕ) (next : Traces)
    → (if not a then Err 15 else if not b || d then Err 17 else x) ≡ Ok next
    → (a ≡ true) × (b ≡ true) × (d ≡ false) × (x ≡ Ok next)
peel true true false x next is = (refl, refl, refl, is)
peel true true true x next is = cc is
peel true false d x next is = cc is
peel false b d x next is = cc is

cells_ok : (elements : Elements) (name : List ℕ) (traces next : Traces) (o : Option Row)
    → with_cells elements name traces o ≡ Ok next
    → (row : Row) × (o ≡ Some row) × (has_room elements name traces ≡ true)
    × (next ≡ with_instant name row traces)
cells_ok elements name traces next None is = cc is
cells_ok elements name traces next (Some row) is =
    let parts = ok_if (has_room elements name traces) (with_instant name row traces) next 18 is in
    (row, refl, parts.0, parts.1)

pub reads_record : (elements : Elements) (columns : Record) (traces next : Traces) (r : Record)
    → with_record elements columns traces r ≡ Ok next → Reads elements columns traces next r
reads_record elements columns traces next [] is = cc is
reads_record elements columns traces next (name ∷ cells) is =
    let parts = peel (length cells == length columns) (is_trace_name name) (comes_back name traces)
    (with_cells elements name traces (row_of elements columns cells)) next is in
    let row = cells_ok elements name traces next (row_of elements columns cells) parts.3 in
    record {
      instant = (name, row.0);
      spells = (
        eqb-true (length cells) (length columns) parts.0,
        refl,
        IsTraceName-from name
            parts.1,
        row.1,
      );
      stays = parts.2;
      room = row.2;
      is = row.3;
    }

-- the name and the row of an instant that is spelled
spelled_name : (elements : Elements) (columns : Record) (r : Record) (instant : Instant)
    → SpellsInstant elements columns r instant → IsTraceName instant.0
spelled_name elements columns [] instant spells = absurd spells
spelled_name elements columns (name ∷ cells) instant spells = subst IsTraceName spells.1 spells.2

spelled_row : (elements : Elements) (columns : Record) (r : Record) (instant : Instant)
    → SpellsInstant elements columns r instant → IsRow elements instant.1
spelled_row elements columns [] instant spells = absurd spells
spelled_row elements columns (name ∷ cells) instant spells =
    IsRow-cells elements columns cells instant.1 spells.3

-- a name that no trace has is not among the names of the traces
pub none_contains : (name : List ℕ) (traces : Traces)
    → list_any (λ t. bytes_eq name t.0) traces ≡ false → ¬ (Contains (trace_names traces) name)
none_contains name traces none has =
    let name_of : Trace → List ℕ = λ t. t.0 in
    let below : has.0 < length traces = omega (arith, has.1, length-map traces name_of) in
    let same : (get_or traces has.0 (name, [])).0 ≡ name =
    sym (get_or-map name_of traces has.0 (name, []) name below) ∙ has.2 in
    let some : list_any (λ (t : Trace). bytes_eq name t.0) traces ≡ true =
    list_any_at (λ (t : Trace). bytes_eq name t.0) traces has.0 (name, []) below
    ((bytes_eq-Decides name (get_or traces has.0 (name, [])).0).1 (sym same)) in
    cc (none, some)

-- a name that is not the last one comes back where some trace has it
pub comes_back-other : (name : List ℕ) (traces : Traces) → is_last name traces ≡ false
    → comes_back name traces ≡ list_any (λ t. bytes_eq name t.0) traces
comes_back-other name traces other =
    rw other (and-true (list_any (λ (t : Trace). bytes_eq name t.0) traces))

new_name : (name : List ℕ) (traces : Traces) → comes_back name traces ≡ false
    → is_last name traces ≡ false → ¬ (Contains (trace_names traces) name)
new_name name traces stays other =
    none_contains name traces (sym (comes_back-other name traces other) ∙ stays)

pub some_last : (name : List ℕ) (traces : Traces) → is_last name traces ≡ true → 0 < length traces
some_last name [] last = cc last
some_last name (t ∷ more) last = omega arith

IsRecording-either : (b : Bool) (elements : Elements) (traces : Traces) (instant : Instant)
    → is_last instant.0 traces ≡ b
    → IsRecording record { signature = elements; traces = traces } → IsTraceName instant.0
    → IsRow elements instant.1
    → comes_back instant.0 traces ≡ false
    → ((if b then nat_lt (length (last_rows traces)) 1000000 else nat_lt (length traces) 1000000)
    ≡ true)
    → HasRoom record { signature = elements; traces = traces }
    → IsRecording record {
      signature = elements;
      traces =
          if b then with_row traces instant.1 else with_trace traces instant.0 instant.1;
    }
IsRecording-either true elements traces instant last lawful named follows stays count room =
    IsRecording-row elements traces instant.1 lawful (some_last instant.0 traces last) follows
    (ltb-true (length (last_rows traces)) 1000000 count) room
IsRecording-either false elements traces instant last lawful named follows stays count room =
    IsRecording-trace record { signature = elements; traces = traces } instant.0 instant.1 lawful
    named (new_name instant.0 traces stays last) follows
    (ltb-true (length traces) 1000000 count) room

pub IsRecording-instant : (elements : Elements) (columns : Record) (traces next : Traces)
    (r : Record)
    → IsRecording record { signature = elements; traces = traces }
    → Reads elements columns traces next r
    → IsRecording record { signature = elements; traces = next }
IsRecording-instant elements columns traces next r lawful reads =
    let name : List ℕ = reads.instant.0 in
    let parts = and_true (if is_last name traces then nat_lt (length (last_rows traces)) 1000000
    else nat_lt (length traces) 1000000)
    (nat_le ((instants_of traces + 1) * cells_of_instant elements) 67108864) reads.room in
    subst (λ ts. IsRecording record { signature = elements; traces = ts }) (sym reads.is)
    (IsRecording-either (is_last name traces) elements traces reads.instant refl lawful
    (spelled_name _ _ _ _ reads.spells) (spelled_row _ _ _ _ reads.spells) reads.stays parts.0
    (leb-true ((instants_of traces + 1) * cells_of_instant elements) 67108864 parts.1))

-- a reading of `records` behind `before`: they spell the instants that `after` has more
pub record Sound (elements : Elements) (columns : Record) (before after : Traces)
    (records : List Record) : Type 0 where
  pub lawful : IsRecording record { signature = elements; traces = after }
  pub more : List Instant
  pub is : instants after ≡ instants before ++ more
  pub spelled : AllZip (SpellsInstant elements columns) records more

then_ok : (f : Traces → Result Traces ℕ) (x : Result Traces ℕ) (after : Traces)
    → then_read f x ≡ Ok after
    → (next : Traces) × (x ≡ Ok next) × (f next ≡ Ok after)
then_ok f (Ok next) after is = (next, refl, is)
then_ok f (Err n) after is = cc is

pub sound : (elements : Elements) (columns : Record) (before after : Traces) (records : List Record)
    → IsRecording record { signature = elements; traces = before }
    → with_records elements columns before records ≡ Ok after
    → Sound elements columns before after records
unfolding with_records
sound elements columns before after [] lawful is =
    let same : before ≡ after = cc is in
    record {
      lawful = subst (λ ts. IsRecording record { signature = elements; traces = ts }) same lawful;
      more = [];
      is = ap instants (sym same) ∙ sym (append-nil (instants before));
      spelled = tt;
    }
sound elements columns before after (r ∷ records) lawful is =
    let first = then_ok (λ further. with_records elements columns further records)
    (with_record elements columns before r) after is in
    let reads : Reads elements columns before first.0 r =
    reads_record elements columns before first.0 r first.1 in
    let rest : Sound elements columns first.0 after records =
    sound elements columns first.0 after records
    (IsRecording-instant elements columns before first.0 r lawful reads) first.2 in
    record {
      lawful = rest.lawful;
      more = reads.instant ∷ rest.more;
      is = rest.is
          ∙ ap (λ ts. instants ts ++ rest.more) reads.is
          ∙ ap (λ is. is ++ rest.more) (instants-push before reads.instant.0 reads.instant.1)
          ∙ append_assoc (instants before) (reads.instant ∷ []) rest.more;
      spelled = (reads.spells, rest.spelled);
    }
