-- The parts of a text spell the traces that the text spells.
use Rattle.std.proofs.Common.{◌≡◌, ◌∙◌, ℕ, ◌+◌, ◌-◌, false, ◌||◌, List, [], ◌∷◌}
use Rattle.std.proofs.Common.{◌++◌, length, map, take, drop, Option, None, Some, refl, sym, ap}
use Rattle.std.proofs.Common.{subst}
use Rattle.std.proofs.Common.{arith}
use Rattle.std.specs.Prelude.{flat_map, unwrap_or}
use Rattle.std.specs.List.{AllZip}
use Rattle.std.proofs.lemmas.List.{append-nil, drop_all, take-append-drop, take_all}
use Rattle.std.proofs.lemmas.List.Folds.{list_any-append}
use Rattle.csv.specs.Reading.{strip_bom}
use Rattle.lb_static.specs.Signature.{Elements}
use Rattle.lb_traces.specs.Traces.{Traces}
use Rattle.lb_trace.specs.Plain.{has_quote, is_quote, plain_records}
use Rattle.lb_trace.specs.Spelling.{SpelledBy, Spells, after_first, instants, records_of}
use Rattle.lb_trace.proofs.PlainRecords.{plain_text}
use Rattle.lb_part.specs.Counts.{reach}
use Rattle.lb_part.specs.Cuts.{IsCut}
use Rattle.lb_part.specs.Cuts.IsBreak.{first as at_first}
use Rattle.lb_part.specs.Heads.{head_of, record_end}
use Rattle.lb_part.proofs.FirstRecords.{mark-short}
use Rattle.lb_part_laws.specs.PartTexts.{AreParts, SpellTogether}
use Rattle.lb_part_laws.specs.Stretches.{AreSpelled, AreStretches}
use Rattle.lb_part_laws.proofs.CutParts.{InStretches, last-parts, reach-none}
use Rattle.lb_part_laws.proofs.HeadLines.{AtMostOne, head-is, none-whole}
use Rattle.lb_part_laws.proofs.HeadLines.AtMostOne.{none as no_record, one as one_record}
use Rattle.lb_part_laws.proofs.RecordPlaces.{rest_records}
use Rattle.lb_part_laws.proofs.SpelledStretches.{no_instants, none_spelled, or_left, plain_bom}
use Rattle.lb_part_laws.proofs.SpelledStretches.{stretches_spell}

-- ## All parts

first-cut : (all : List ℕ) (count : ℕ)
    → IsCut (drop (head_of all) all) (reach 0 count (length all) - head_of all) 0
first-cut all count =
    let none = reach-none count (length all) in
    record {
      behind = omega (arith, none);
      break = at_first refl;
      nearest = λ other low high is. omega (arith, high);
    }

in-stretches : (all : List ℕ) (texts : List (List ℕ)) → AreParts all texts
    → InStretches (take (head_of all) all) (drop (head_of all) all) texts
in-stretches all texts parts =
    last-parts all parts.count 0 0 texts parts.some (first-cut all parts.count) parts.each
    parts.plain

-- the head of a text has no quotes: there is a part, and the head stands in it
plain-head : (head rest : List ℕ) (all : List ℕ) (count : ℕ) (texts : List (List ℕ))
    → InStretches head rest texts → (parts : AreParts all texts) → has_quote head ≡ false
plain-head head rest all count [] st parts =
    let some = parts.some in let last = parts.each in absurd (omega (arith, some, last))
plain-head head rest all count (text ∷ more) st parts = by st.stretches st.texts_are
  where
    by : (stretches : List (List ℕ)) → text ∷ more ≡ map (λ s. head ++ s) stretches
        → has_quote head ≡ false
    by [] is = cc is
    by (s ∷ others) is =
        let first : text ≡ head ++ s = cc is in
        or_left (has_quote head) (has_quote s)
        (sym (list_any-append is_quote head s) ∙ ap has_quote (sym first)
        ∙ parts.plain 0 text (omega arith))

plain-all : (all : List ℕ) (texts : List (List ℕ)) → AreParts all texts
    → has_quote (take (head_of all) all ++ drop (head_of all) all) ≡ false
plain-all all texts parts =
    let st = in-stretches all texts parts in
    let head = plain-head (take (head_of all) all) (drop (head_of all) all) all parts.count texts st
    parts in
    list_any-append is_quote (take (head_of all) all) (drop (head_of all) all)
    ∙ ap (λ t. t || has_quote (drop (head_of all) all)) head ∙ st.plain

-- ## Behind a head

each-text : (elements : Elements) (head : List ℕ) (stretches : List (List ℕ)) (lists : List Traces)
    → AllZip (λ stretch those. Spells elements (head ++ stretch) those) stretches lists
    → AllZip (Spells elements) (map (λ s. head ++ s) stretches) lists
each-text elements head [] [] each = tt
each-text elements head [] (those ∷ lists) each = absurd each
each-text elements head (s ∷ stretches) [] each = absurd each
each-text elements head (s ∷ stretches) (those ∷ lists) each =
    (each.0, each-text elements head stretches lists each.1)

with-head : (elements : Elements) (all : List ℕ) (texts : List (List ℕ)) (traces : Traces) (n : ℕ)
    → record_end false (strip_bom all) ≡ Some n → AreParts all texts → Spells elements all traces
    → SpellTogether elements texts traces
with-head elements all texts traces n ends parts spells =
    let whole : take (head_of all) all ++ drop (head_of all) all ≡ all =
    take-append-drop (head_of all) all in
    let st = in-stretches all texts parts in
    let told : AreSpelled elements (take (head_of all) all) st.stretches traces =
    stretches_spell elements (take (head_of all) all) st.stretches (drop (head_of all) all) traces
    (head-is all n ends) (plain-all all texts parts) st.are
    (subst (λ (t : List ℕ). Spells elements t traces) (sym whole) spells) in
    record {
      lists = told.lists;
      each = subst (λ (ts : List (List ℕ)). AllZip (Spells elements) ts told.lists)
          (sym st.texts_are)
          (each-text elements (take (head_of all) all) st.stretches told.lists told.each);
      all = told.all;
    }

-- ## A text that is one line at most

empty-left : (a b : List ℕ) → [] ≡ a ++ b → a ≡ []
empty-left [] b is = refl
empty-left (x ∷ a) b is = cc is

empty-right : (a b : List ℕ) → [] ≡ a ++ b → b ≡ []
empty-right [] b is = sym is
empty-right (x ∷ a) b is = cc is

no-traces : List ℕ → Traces
no-traces s = []

each-alone : (elements : Elements) (head body : List ℕ) (stretches : List (List ℕ)) → body ≡ []
    → AreStretches body stretches → Spells elements head []
    → AllZip (Spells elements) (map (λ s. head ++ s) stretches) (map no-traces stretches)
unfolding no-traces
each-alone elements head body [] none are spells = tt
each-alone elements head body (s ∷ more) none are spells =
    let both : [] ≡ s ++ are.0 = sym none ∙ are.1 in
    let here : s ≡ [] = empty-left s are.0 both in
    let text : head ++ s ≡ head = ap (λ (t : List ℕ). head ++ t) here ∙ append-nil head in (
      subst (λ (t : List ℕ). Spells elements t []) (sym text) spells,
      each-alone elements head are.0 more (empty-right s are.0 both) are.3 spells,
    )

none-together : (stretches : List (List ℕ))
    → [] ≡ flat_map (λ those. those) (map no-traces stretches)
unfolding no-traces
none-together [] = refl
none-together (s ∷ more) = none-together more

-- a text of one line at most spells no trace
spells-none : (elements : Elements) (all : List ℕ) (traces : Traces) → has_quote all ≡ false
    → record_end false (strip_bom all) ≡ None → Spells elements all traces → traces ≡ []
unfolding SpelledBy records_of rest_records
spells-none elements all traces plain none spells = by (none-whole (strip_bom all) none)
  where
    records_are : records_of all ≡ plain_records (strip_bom all)
    records_are = plain_text (strip_bom all) (plain_bom all plain)

    by : AtMostOne (strip_bom all) → traces ≡ []
    by (no_record is) =
        absurd (subst (SpelledBy elements traces) (records_are ∙ is) spells.spelled)
    by (one_record first is) =
        let spelled : SpelledBy elements traces (first ∷ []) =
        subst (SpelledBy elements traces) (records_are ∙ is) spells.spelled in
        no_instants elements traces spells.lawful.each
        (none_spelled elements (after_first first) (instants traces) spelled.1)

alone : (elements : Elements) (all : List ℕ) (texts : List (List ℕ)) (traces : Traces)
    → record_end false (strip_bom all) ≡ None → AreParts all texts → Spells elements all traces
    → SpellTogether elements texts traces
alone elements all texts traces none parts spells =
    let short = mark-short all in
    let long : head_of all ≡ length all =
    ap (λ end. (length all - length (strip_bom all)) + unwrap_or end (length (strip_bom all))) none
    ∙ omega (arith, short) in
    let head : take (head_of all) all ≡ all = take_all (head_of all) all (omega (arith, long)) in
    let body : drop (head_of all) all ≡ [] = drop_all (head_of all) all (omega (arith, long)) in
    let plain : has_quote all ≡ false =
    ap has_quote (sym (take-append-drop (head_of all) all)) ∙ plain-all all texts parts in
    let st = in-stretches all texts parts in
    let nothing : traces ≡ [] = spells-none elements all traces plain none spells in
    let spelled : Spells elements (take (head_of all) all) [] =
    subst (λ (t : List ℕ). Spells elements t []) (sym head)
    (subst (Spells elements all) nothing spells) in
    record {
      lists = map no-traces st.stretches;
      each = subst (λ (ts : List (List ℕ)). AllZip (Spells elements) ts
          (map no-traces st.stretches)) (sym st.texts_are)
          (each-alone elements (take (head_of all) all) (drop (head_of all) all) st.stretches body
          st.are spelled);
      all = nothing ∙ none-together st.stretches;
    }

pub parts_spell : (elements : Elements) (all : List ℕ) (texts : List (List ℕ)) (traces : Traces)
    → AreParts all texts → Spells elements all traces → SpellTogether elements texts traces
parts_spell elements all texts traces parts spells = by (record_end false (strip_bom all)) refl
  where
    by : (found : Option ℕ) → record_end false (strip_bom all) ≡ found
        → SpellTogether elements texts traces
    by None none = alone elements all texts traces none parts spells
    by (Some n) ends = with-head elements all texts traces n ends parts spells
