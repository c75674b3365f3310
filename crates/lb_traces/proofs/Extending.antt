-- A set to which the rows of a trace of another set, from one row on, are added.
use Rattle.std.proofs.Common.{ℕ, ◌≡◌, ◌+◌, ◌-◌, ◌*◌, ◌<◌, ◌≤◌, List, [], ◌++◌, ℤ, length, map}
use Rattle.std.proofs.Common.{get_or}
use Rattle.std.proofs.Common.{set, take, drop, sym, ap, ap₂, ◌∙◌, subst, arith}
use Rattle.std.proofs.lemmas.List.Elements.{All-drop}
use Rattle.std.proofs.Math.Nat.{mul-le-mul_right, mul-le-mul_left}
use Rattle.std.specs.List.{All, range_with_len}
use Rattle.lb_static.specs.Signature.{Elements, kinds_of}
use Rattle.lb_traces.specs.Traces.{Row, Recording, IsRow, IsRecording, HasRoomFor, trace_at}
use Rattle.lb_traces.specs.Traces.{instants_of, cells_of_instant, last_rows, with_rows, rows_from}
use Rattle.lb_traces.specs.Ledger.{place, last_place}
use Rattle.lb_traces.specs.Stored.{stored, stored_traces, IsStored}
use Rattle.lb_traces.specs.Packed.{words_of_row, numbers_of, words_of, nth_row, cells_of, AreFilled}
use Rattle.lb_traces.specs.Packed.{IsSet}
use Rattle.lb_traces.proofs.StoredRows.{instants-stored}
use Rattle.lb_traces.proofs.AddedRows.{Changed, set_extended}
use Rattle.lb_traces.proofs.FoundCells.{rest_is, rest_fits, starts}

-- the number of all rows is within 67,108,864 where there is room for `n` more
pub rows_fit_for :
    (old : Recording) (elements : Elements) (names : List (List ℕ)) (cells : List ℤ)
    (ends : List ℕ) (n : ℕ) → stored elements names cells ends ≡ old →
    IsStored elements names cells ends → HasRoomFor old n → last_place ends + n ≤ 67108864
rows_fit_for old elements names cells ends n view is room =
    let count : instants_of (stored_traces (length elements) names cells ends) ≡ last_place ends =
    instants-stored _ _ _ _ is.rows in
    let total : (last_place ends + n) * cells_of_instant elements ≤ 67108864 =
    subst (λ m. (m + n) * cells_of_instant elements ≤ 67108864) count
    (subst (λ (r : Recording). HasRoomFor r n) (sym view) room) in
    let least : (last_place ends + n) * 1 ≤ (last_place ends + n) * cells_of_instant elements =
    mul-le-mul_left (last_place ends + n) (omega arith) in
    omega (arith, total, least)

-- a part of a list by its beginning and its length is that by its beginning and its end
part_is :
    {A : Type 0} (xs : List A) (w width first n : ℕ) → w ≡ width →
    take (n * w) (drop (first * w) xs)
    ≡ take ((first + n) * width - first * width) (drop (first * width) xs)
part_is xs w width first n e =
    let long : n * width ≡ (first + n) * width - first * width = omega arith in
    ap (λ v. take (n * v) (drop (first * v) xs)) e
    ∙ ap (λ m. take m (drop (first * width) xs)) long

-- the rows from `first` up to `past` lie within the integers and the words of the other set
pub record FindsRest (numbers : List ℤ) (words : List ℕ) (first past width count : ℕ) :
    Type 0 where
  pub numbers_fit : past * width ≤ length numbers
  pub numbers_first : first * width ≤ past * width
  pub words_fit : past * count ≤ length words
  pub words_first : first * count ≤ past * count

module _ (other : Recording) (elements : Elements) (names : List (List ℕ)) (numbers : List ℤ)
    (words ends integers truths places : List ℕ) (k : ℕ)
    (view : stored elements names (cells_of elements numbers words ends) ends ≡ other)
    (is : IsSet elements names numbers words ends integers truths places)
    (below : k < length other.traces) (r from len width count : ℕ)
    (read : r ≡ get_or ends k r) (le : from ≤ length (trace_at other.traces k).1)
    (len_is : len ≡ length (trace_at other.traces k).1) (wide : width ≡ length integers)
    (counted : count ≡ words_of_row (length truths)) where
  fits : r + from + (len - from) ≤ last_place ends
  fits =
      let h = rest_fits other elements names numbers words ends integers truths places k view is
      below from r le read in
      omega (arith, h, len_is)

  pub finds_rest : FindsRest numbers words (r + from) (r + from + (len - from)) width count
  finds_rest =
      let w : width ≡ numbers_of (kinds_of elements) = wide ∙ ap length is.columns.integers_are in
      let c : count ≡ words_of (kinds_of elements) =
      counted ∙ ap (λ l. words_of_row (length l)) is.columns.truths_are in
      let most : (r + from + (len - from)) * width ≤ last_place ends * width =
      mul-le-mul_right width fits in
      let most_words : (r + from + (len - from)) * count ≤ last_place ends * count =
      mul-le-mul_right count fits in
      let all : length numbers ≡ last_place ends * width =
      is.filled.numbers_long ∙ ap (λ v. last_place ends * v) (sym w) in
      let all_words : length words ≡ last_place ends * count =
      is.filled.words_long ∙ ap (λ v. last_place ends * v) (sym c) in
      record {
        numbers_fit = omega (arith, most, all);
        numbers_first = mul-le-mul_right width (omega arith);
        words_fit = omega (arith, most_words, all_words);
        words_first = mul-le-mul_right count (omega arith);
      }

  -- the set that grows
  module _ (old : Recording) (elements' : Elements) (names' : List (List ℕ)) (numbers' : List ℤ)
      (words' ends' integers' truths' places' : List ℕ) (last : ℕ)
      (view' : stored elements' names' (cells_of elements' numbers' words' ends') ends' ≡ old)
      (is' : IsSet elements' names' numbers' words' ends' integers' truths' places')
      (same : other.signature ≡ old.signature) (some : 0 < length old.traces)
      (at_end : last + 1 ≡ length ends') where
    same_kinds : kinds_of elements ≡ kinds_of elements'
    same_kinds =
        ap (λ (q : Recording). kinds_of q.signature) view ∙ ap (λ (e : Elements). kinds_of e) same
        ∙ sym (ap (λ (q : Recording). kinds_of q.signature) view')

    given_is :
        rows_from other.traces k from
        ≡ map (nth_row (kinds_of elements') numbers words) (range_with_len (r + from) (len - from))
    given_is =
        rest_is other elements names numbers words ends integers truths places k view is below from
        le
        ∙ ap (λ ks. map (nth_row ks numbers words)
        (range_with_len (place ends k + from) (length (trace_at other.traces k).1 - from)))
        same_kinds
        ∙ ap₂ (λ a m. map (nth_row (kinds_of elements') numbers words)
        (range_with_len (a + from) (m - from)))
        (sym (starts other elements names numbers words ends integers truths places k view is below
        r read)) (sym len_is)

    follow : All (IsRow old.signature) (rows_from other.traces k from)
    follow =
        let lawful : IsRecording other = subst IsRecording view is.parts.lawful in
        subst (λ (e : Elements). All (IsRow e) (rows_from other.traces k from)) same
        (All-drop (IsRow other.signature) from (trace_at other.traces k).1
        (lawful.each k ([], []) below).rows)

    -- the set after the rows were added
    pub set_grown :
        (all : List ℤ) (all_words : List ℕ) → all ≡ numbers → all_words ≡ words →
        length (last_rows old.traces) + length (rows_from other.traces k from) ≤ 1000000 →
        HasRoomFor old (length (rows_from other.traces k from)) →
        Changed elements' names'
        (numbers'
        ++ take ((r + from + (len - from)) * width - (r + from) * width)
        (drop ((r + from) * width) all))
        (words'
        ++ take ((r + from + (len - from)) * count - (r + from) * count)
        (drop ((r + from) * count) all_words))
        (set ends' last (last_place ends' + (len - from))) integers' truths' places'
        (record {
          signature = old.signature;
          traces = with_rows old.traces (rows_from other.traces k from);
        })
    set_grown all all_words all_is words_is instants room =
        let kinds = kinds_of elements' in
        let n = len - from in
        let first = r + from in
        let whole : List Row → Recording = λ rows. record
        { signature = old.signature; traces = with_rows old.traces rows } in
        let w : numbers_of kinds ≡ width =
        ap numbers_of (sym same_kinds) ∙ sym (ap length is.columns.integers_are) ∙ sym wide in
        let c : words_of kinds ≡ count =
        ap words_of (sym same_kinds) ∙ sym (ap (λ l. words_of_row (length l)) is.columns.truths_are)
        ∙ sym counted in
        let filled : AreFilled kinds (last_place ends) numbers words =
        subst (λ ks. AreFilled ks (last_place ends) numbers words) same_kinds is.filled in
        let ends_are = set ends' last (last_place ends' + n) in
        let h = set_extended old elements' names' numbers' words' ends' integers' truths' places'
        last view' is' numbers words (last_place ends) first n filled fits some at_end
        (subst (All (IsRow old.signature)) given_is follow)
        (subst (λ rows. length (last_rows old.traces) + length rows ≤ 1000000) given_is instants)
        (subst (λ rows. HasRoomFor old (length rows)) given_is room) in
        let part : take (n * numbers_of kinds) (drop (first * numbers_of kinds) numbers)
        ≡ take ((first + n) * width - first * width) (drop (first * width) all) =
        part_is numbers (numbers_of kinds) width first n w
        ∙ ap (λ xs. take ((first + n) * width - first * width) (drop (first * width) xs))
        (sym all_is) in
        let part_words : take (n * words_of kinds) (drop (first * words_of kinds) words)
        ≡ take ((first + n) * count - first * count) (drop (first * count) all_words) =
        part_is words (words_of kinds) count first n c
        ∙ ap (λ xs. take ((first + n) * count - first * count) (drop (first * count) xs))
        (sym words_is) in
        subst
        (λ rows.
        Changed elements' names'
        (numbers' ++ take ((first + n) * width - first * width) (drop (first * width) all))
        (words' ++ take ((first + n) * count - first * count) (drop (first * count) all_words))
        ends_are integers' truths' places' (whole rows))
        (sym given_is)
        (subst
        (λ ws.
        Changed elements' names'
        (numbers' ++ take ((first + n) * width - first * width) (drop (first * width) all))
        (words' ++ ws) ends_are integers' truths' places'
        (whole (map (nth_row kinds numbers words) (range_with_len first n))))
        part_words
        (subst
        (λ ns.
        Changed elements' names' (numbers' ++ ns)
        (words' ++ take (n * words_of kinds) (drop (first * words_of kinds) words)) ends_are
        integers' truths' places'
        (whole (map (nth_row kinds numbers words) (range_with_len first n))))
        part h))
