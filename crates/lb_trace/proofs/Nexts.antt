-- The name of a record, and records of the last trace.
use Rattle.std.proofs.Common.{ℕ, zero, suc, ◌≡◌, ◌+◌, ◌-◌, ◌<◌, ◌≤◌, Bool, true, false, not}
use Rattle.std.proofs.Common.{if◌then◌else◌, List, [], ◌∷◌, length, get_or, map, take, drop, Some}
use Rattle.std.specs.Prelude.{IsTrue}
use Rattle.std.proofs.Common.{refl, sym, ap, ◌∙◌, subst, arith}
use Rattle.std.proofs.lemmas.Bool.Decides.{nat_tests}
use Rattle.std.proofs.lemmas.List.{get_or-map, length-map}
use Rattle.std.proofs.lemmas.List.Elements.{All-map}
use Rattle.std.specs.List.{All}
use Rattle.lb_static.specs.Signature.{Element, Elements, kinds_of}
use Rattle.lb_syntax.specs.declared.tree.Kind.TheVariants as kind
use Rattle.lb_traces.specs.BitRows.{AreTruths, row_of_bits}
use Rattle.lb_traces.specs.Traces.{IsTrace, IsTraceName, Row, Traces, is_name_byte}
use Rattle.lb_trace.specs.declared.header.Column.{Column}
use Rattle.lb_trace.specs.Lines.{after_line, record_of}
use Rattle.lb_trace.specs.Mirrors.{column_of, go_on_by, record_by, row_by, start_by}
use Rattle.lb_trace.specs.Nexts.{HasName, IsNamed, IsNext}
use Rattle.lb_trace.specs.Refusals.{is_last}
use Rattle.lb_trace.specs.PlainRows.{AreInOrder}
use Rattle.lb_trace.specs.Scan.{ends_cell}
use Rattle.lb_trace.specs.Spelling.{Record}
use Rattle.lb_trace.specs.TruthBits.{AreTruthTable, SpellsBits}
use Rattle.lb_trace.proofs.FirstCells.{IsFirst, Walked, first-ended}
use Rattle.lb_trace.proofs.FirstCells.{walked-front, walked-start}
use Rattle.lb_trace.proofs.PlacedRows.{line_added}
use Rattle.lb_trace.proofs.PlainRecordings.{row_in_order}

-- ## Names

name-inside : (b : ℕ) → is_name_byte b ≡ true → ends_cell b ≡ false
name-inside b e = grind (arith, nat_tests)

-- the bytes of a name stand in the first cell of a text that begins with them
name-walked : (name text : List ℕ) (n : ℕ) → All (λ b. IsTrue (is_name_byte b)) name
    → n ≡ length name → take n text ≡ name → Walked text n
name-walked [] text n bytes is same =
    subst (Walked text) (sym is) (walked-start text)
name-walked (b ∷ name) text zero bytes is same = absurd (omega (arith, is))
name-walked (b ∷ name) [] (suc n) bytes is same = cc same
name-walked (b ∷ name) (d ∷ text) (suc n) bytes is same =
    let first : d ≡ b = cc same in
    let others : take n text ≡ name = cc same in
    let rest = name-walked name text n
    (λ i x l. bytes (suc i) x (omega (arith, l))) (omega (arith, is)) others in
    walked-front d text n
    (ap ends_cell first ∙ name-inside b (bytes 0 b (omega arith))) rest

pub not-other : (b : Bool) → false ≡ not b → b ≡ true
not-other true e = refl
not-other false e = e

-- a name with a comma after it is the first cell of a text that begins with them
pub name-first : (name text : List ℕ) (n : ℕ) → IsTraceName name → n ≡ length name
    → n < length text → take n text ≡ name → get_or text n 0 ≡ 44
    → IsNamed name text (take n text) (take (length text - (n + 1)) (drop (n + 1) text)) false
name-first name text n lawful is room same comma =
    let first : IsFirst text (take n text) (take (length text - (n + 1)) (drop (n + 1) text))
    false =
    first-ended text n 44 false room (sym comma) (refl, refl)
    (name-walked name text n lawful.bytes is same) in
    record {
      name_is = same;
      bytes_are = first.same_bytes;
      rest_is = first.same_rest;
      last_is = first.same_last;
    }

pub named-first : (name text bytes rest : List ℕ) (last : Bool)
    → IsNamed name text bytes rest last → IsFirst text bytes rest last
named-first name text bytes rest last is = record {
  same_bytes = is.bytes_are;
  same_rest = is.rest_is;
  same_last = is.last_is;
}

-- ## Records of the last trace

pub has-name : (text bytes rest : List ℕ) (last : Bool)
    → record_of text ≡ bytes ∷ (if last then [] else record_of rest)
    → after_line text ≡ (if last then rest else after_line rest) → last ≡ false
    → HasName text bytes rest
has-name text bytes rest last cells line inner = record {
  first = cells ∙ ap (λ t. bytes ∷ (if t then [] else record_of rest)) inner;
  line = line ∙ ap (λ t. if t then rest else after_line rest) inner;
}

-- a record of the last trace is one more instant of it
pub next-added : (elements : Elements) (table : List Column) (width : ℕ) (traces : Traces)
    (text name rest : List ℕ) (row : Row) → IsNext traces text name rest
    → All (IsTrace elements) traces → length (record_of rest) ≡ width
    → row_by table (record_of rest) ≡ Some row
    → record_by elements table width traces (record_of text) ≡ go_on_by elements traces (Some row)
next-added elements table width traces text name rest row next each wide read =
    line_added elements table width traces text name rest false row next.has.first refl each wide
    read
    ∙ ap (λ t. if t then go_on_by elements traces (Some row)
    else start_by elements name traces (Some row)) next.same

-- a record of Booleans, by their table, spells the row of its bits
pub truths-read : (elements : Elements) (columns : List Column) (count bits : ℕ) (text : List ℕ)
    → AreTruthTable elements columns count → SpellsBits text count bits
    → (length (record_of text) ≡ count)
    × (row_by columns (record_of text) ≡ Some (row_of_bits (length elements) bits))
truths-read elements columns count bits text table spells =
    let read = spells columns table.columns_are in
    let both = row_in_order columns [] (record_of text) (row_of_bits count bits) table.order read
    in (
      both.0 ∙ table.columns_are.as_many,
      both.1 ∙ ap (λ n. Some (row_of_bits n bits)) (sym table.as_many),
    )

-- a record with the name of the last trace
pub is-next : (traces : Traces) (text bytes rest : List ℕ) (last same : Bool)
    → record_of text ≡ bytes ∷ (if last then [] else record_of rest)
    → after_line text ≡ (if last then rest else after_line rest) → last ≡ false
    → same ≡ is_last bytes traces → same ≡ true → IsNext traces text bytes rest
is-next traces text bytes rest last same cells line inner found named = record {
  has = has-name text bytes rest last cells line inner;
  same = sym found ∙ named;
}

-- a record of Booleans with the name of the last trace is one more instant of it
pub bits-added : (elements : Elements) (columns : List Column) (count bits : ℕ) (traces : Traces)
    (text name rest : List ℕ) → AreTruthTable elements columns count → SpellsBits rest count bits
    → IsNext traces text name rest → All (IsTrace elements) traces
    → record_by elements columns count traces (record_of text)
    ≡ go_on_by elements traces (Some (row_of_bits (length elements) bits))
bits-added elements columns count bits traces text name rest table spells next each =
    let read = truths-read _ _ _ _ _ table spells in
    next-added _ _ _ _ _ _ _ _ next each read.0 read.1

-- ## A table of Booleans

pub kinds-all : (elements : Elements) (n : ℕ) → length elements ≤ n
    → ((k : ℕ) → k < n → get_or (kinds_of elements) k kind.Int ≡ kind.Bool)
    → All (λ e. e.1 ≡ kind.Bool) elements
kinds-all elements n most each = λ k d l.
    sym (get_or-map (λ (e : Element). e.1) elements k d kind.Int l)
    ∙ each k (omega (arith, most, l))

pub truth-table : (elements : Elements) (columns : List Column) (header : Record) (count : ℕ)
    → columns ≡ map (column_of header) elements → (length columns ≡ count) × AreInOrder 0 columns
    → AreTruths elements → AreTruthTable elements columns count
truth-table elements columns header count is order are =
    let long : length columns ≡ length elements =
    ap length is ∙ length-map elements (column_of header) in
    record {
      elements_are = are;
      as_many = sym long ∙ order.0;
      columns_are = record {
        as_many = order.0;
        booleans =
            subst (All (λ column. column.kind ≡ kind.Bool)) (sym is)
            (All-map (λ (column : Column). column.kind ≡ kind.Bool) (column_of header) elements
            are.booleans);
      };
      order = order.1;
    }
