-- The report on the traces of several reports.
use Rattle.std.proofs.Common.{◌≡◌, ◌≢◌, ℕ, ◌+◌, ◌<◌, ◌≤◌, ◌^◌, List, [], ◌∷◌, ◌++◌}
use Rattle.std.proofs.Common.{length, map, take, get_or}
use Rattle.std.proofs.Common.{sym, ◌∙◌, ap, subst, refl, append_assoc, arith}
use Rattle.std.specs.List.{All, AllPairs, AllZip}
use Rattle.std.proofs.lemmas.Grind.{flat_map-append}
use Rattle.std.specs.Prelude.{Vec}
use Rattle.std.specs.Global.{Global}
use Rattle.std.proofs.lemmas.List.{append-nil, length-map, map-append, take_more}
use Rattle.std.proofs.lemmas.List.Elements.{All-append}
use Rattle.lb_listing.specs.Listings.{IsFault, IsLine, Line, Lists, lines_of, names_of}
use Rattle.lb_listing.specs.Listings.{line_of, report, spelled, total_of}
use Rattle.lb_listing.specs.declared.entry.Entry.{Entry}
use Rattle.lb_listing.specs.Merged.{AreJoined, HaveTwice, IsMerged, IsWhole, joined, texts_of}
use Rattle.lb_listing.proofs.Listed.{All-later, begins_with, no_more_lines}

-- `AreJoined` for no report
pub joined_none : AreJoined [] [] []
joined_none = record {
  lists = [];
  each = tt;
  all = refl;
  lawful = λ k d h. absurd (omega arith);
  lines = refl;
}

pub lines-append : (xs ys : List Line) → lines_of (xs ++ ys) ≡ lines_of xs ++ lines_of ys
lines-append [] ys = refl
lines-append (x ∷ xs) ys =
    ap (λ text. spelled x ++ text) (lines-append xs ys)
    ∙ sym (append_assoc (spelled x) (lines_of xs) (lines_of ys))

zip_more : {A B : Type 0} (R : A → B → Type 0) (xs : List A) (ys : List B) (x : A) (y : B)
    → AllZip R xs ys → R x y → AllZip R (xs ++ x ∷ []) (ys ++ y ∷ [])
zip_more R [] [] x y h r = (r, tt)
zip_more R [] (b ∷ ys) x y h r = absurd h
zip_more R (a ∷ xs) [] x y h r = absurd h
zip_more R (a ∷ xs) (b ∷ ys) x y h r = (h.0, zip_more R xs ys x y h.1 r)

-- `AreJoined` for one more report
pub joined_more : (texts : List (List ℕ)) (listed : List Line) (text : List ℕ) (more : List ℕ)
    (further : List Line) → AreJoined texts listed text → Lists more further
    → AreJoined (texts ++ more ∷ []) (listed ++ further) (text ++ lines_of further)
joined_more texts listed text more further are lists = record {
  lists = are.lists ++ further ∷ [];
  each = zip_more Lists texts are.lists more further are.each lists;
  all = ap (λ ls. ls ++ further) are.all
      ∙ sym (flat_map-append (λ (ls : List Line). ls) are.lists (further ∷ [])
      ∙ ap (λ ls. joined are.lists ++ ls) (append-nil further));
  lawful = All-append IsLine listed further are.lawful lists.lawful.each;
  lines = ap (λ front. front ++ lines_of further) are.lines ∙ sym (lines-append listed further);
}

-- a text that is the report on these traces lists no others
pub only_these : (text : List ℕ) (listed found : List Line) → All IsLine listed
    → length listed < 2 ^ 64 → text ≡ report listed → Lists text found → found ≡ listed
only_these text listed found lawful few is lists =
    let parts = begins_with text (total_of listed) listed found lawful is lists in
    no_more_lines listed parts.0 found few
    (All-later IsLine listed parts.0 found parts.1 lists.lawful.each) parts.1 parts.2

pub merged : (texts : List (List ℕ)) (found : List Line) (text : List ℕ) → IsWhole texts text
    → Lists text found → IsMerged texts text
merged texts found text is lists =
    let are = is.joined in
    let whole : text ≡ report is.listed =
    is.whole ∙ ap (λ front. front ++ total_of is.listed) are.lines in
    let same : found ≡ joined are.lists =
    only_these text is.listed found are.lawful is.few whole lists ∙ are.all in
    record {
      lists = are.lists;
      each = are.each;
      all = subst (λ (ls : List Line). Lists text ls) same lists;
    }

-- where the text of all lines is no report, two traces have one name
pub twice : (texts : List (List ℕ)) (text : List ℕ) (number : ℕ) → IsWhole texts text
    → IsFault text number → HaveTwice texts
twice texts text number is fault =
    let are = is.joined in
    let whole : text ≡ report is.listed =
    is.whole ∙ ap (λ front. front ++ total_of is.listed) are.lines in
    record {
      lists = are.lists;
      each = are.each;
      twice = λ distinct. fault.no_report is.listed (record {
        lawful = record {
          each = are.lawful;
          distinct = subst (λ (ls : List Line). AllPairs (λ a b. a ≢ b) (names_of ls))
              (sym are.all) distinct;
          count = is.few;
        };
        spelled = whole;
      });
    }

-- a vector has fewer than 2 ^ 64 entries
pub few_lines : (entries : Vec Entry Global) → length (map line_of entries.items) < 2 ^ 64
few_lines entries =
    let long : length (map line_of entries.items) ≡ length entries.items =
    length-map entries.items line_of in
    let same : entries.len ≡ length entries.items = entries.ok.0 in
    let within : entries.len ≤ entries.cap = entries.ok.1 in
    let small : entries.cap < 2 ^ 63 = entries.small in
    omega (arith, long, same, within, small)

-- `AreJoined` for the first k + 1 texts, from that for the first k
pub joined_next : (texts : List (Vec ℕ Global)) (k : ℕ) (d : Vec ℕ Global)
    (old added new : List Entry) (text after : List ℕ) → k < length texts
    → AreJoined (texts_of (take k texts)) (map line_of old) text
    → Lists (get_or texts k d).items (map line_of added)
    → new ≡ old ++ added → after ≡ text ++ lines_of (map line_of added)
    → AreJoined (texts_of (take (k + 1) texts)) (map line_of new) after
joined_next texts k d old added new text after within are lists grew longer =
    let one : List ℕ = (get_or texts k d).items in
    let items : texts_of (take (k + 1) texts) ≡ texts_of (take k texts) ++ one ∷ [] =
    ap texts_of (take_more texts k d within)
    ∙ map-append (λ (t : Vec ℕ Global). t.items) (take k texts) (get_or texts k d ∷ []) in
    let lines : map line_of new ≡ map line_of old ++ map line_of added =
    ap (λ (es : List Entry). map line_of es) grew ∙ map-append line_of old added in
    let more = joined_more (texts_of (take k texts)) (map line_of old) text one (map line_of added)
    are lists in
    subst (λ (all : List ℕ). AreJoined (texts_of (take (k + 1) texts)) (map line_of new) all)
    (sym longer)
    (subst (λ (ls : List Line). AreJoined (texts_of (take (k + 1) texts)) ls
    (text ++ lines_of (map line_of added))) (sym lines)
    (subst (λ (ts : List (List ℕ)). AreJoined ts (map line_of old ++ map line_of added)
    (text ++ lines_of (map line_of added))) (sym items) more))
