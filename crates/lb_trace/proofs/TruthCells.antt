-- Four cells that are Booleans, read at once.
use Rattle.std.proofs.Common.{ℕ, ◌≡◌, ◌+◌, ◌*◌, ◌%◌, ◌^◌, ◌<◌, Bool, true}
use Rattle.std.proofs.Common.{false, cond, eqb, if◌then◌else◌, ◌==◌, ◌||◌, List, [], ◌∷◌, ◌++◌}
use Rattle.std.proofs.Common.{length, get_or, map, take, drop, ℤ, pos, Fits, w8, refl, sym, ap}
use Rattle.std.proofs.Common.{◌∙◌, subst, arith, append_assoc}
use Rattle.std.proofs.lemmas.Bool.{agree_below_at}
use Rattle.std.proofs.lemmas.Bool.Decides.{nat_tests}
use Rattle.std.proofs.lemmas.List.{drop-drop, take_rest}
use Rattle.std.proofs.lemmas.Simd.{mask_l-mod}
use Rattle.std.specs.Int.{w32}
use lib.Bits.{bit_or}
use lib.Lanes.{mask_l, top, zip2}
use mir.Val.{of_z, to_z}
use Rattle.lb_syntax.specs.declared.tree.Kind.TheVariants as kind
use Rattle.lb_trace.specs.declared.header.Column.{Column}
use Rattle.lb_trace.specs.Lines.{after_line, record_of}
use Rattle.lb_trace.specs.PlainRows.{BeginsWith, onto, plain_row}
use Rattle.lb_trace.specs.TruthCells.{AreTruths, GoesOn, IsTruth}
use Rattle.lb_trace.proofs.PlainValues.{after-more, row-more}
use Rattle.lb_trace.proofs.SmallNumbers.{bool-ended}

-- the value of a cell of one digit
abbrev pub truth_at : List ℕ → ℕ → ℤ
truth_at text i = if get_or text i 0 == 49 then pos 1 else pos 0

pub truth-begins : (text : List ℕ) → 1 < length text → IsTruth text 0
    → BeginsWith kind.Bool text (truth_at text 0) (drop 2 text) false
truth-begins text long is =
    subst (λ rest. BeginsWith kind.Bool text (truth_at text 0) rest false) (take_rest text 2)
    (bool-ended _ _ _ long is.0 refl (rw is.1 (refl, refl)))

one-goes_on : (column : Column) (columns : List Column) (text : List ℕ) → 1 < length text
    → column.kind ≡ kind.Bool → IsTruth text 0
    → GoesOn (column ∷ columns) text (truth_at text 0 ∷ []) columns (drop 2 text)
one-goes_on column columns text long bool is =
    let begins = subst (λ k. BeginsWith k text (truth_at text 0) (drop 2 text) false) (sym bool)
    (truth-begins text long is) in (
      λ row. row-more (column ∷ columns) 0 column column text (drop 2 text) (truth_at text 0) row
          false (omega arith) refl begins refl,
      after-more column.kind text (drop 2 text) (truth_at text 0) false begins refl,
    )

-- cells of the first columns, and then cells of the next ones, are cells of both
pub both-go_on : (ks ls ms : List Column) (text rest last : List ℕ) (vs ws : List ℤ)
    → GoesOn ks text vs ls rest → GoesOn ls rest ws ms last → GoesOn ks text (vs ++ ws) ms last
both-go_on ks ls ms text rest last vs ws one two = (
  λ row. one.0 row ∙ two.0 (row ++ vs)
      ∙ ap (λ r. onto r (plain_row ms (record_of last))) (append_assoc row vs ws),
  one.1 ∙ two.1,
)

four-texts : (a b c d : Column) (columns : List Column) (text : List ℕ) → 7 < length text
    → a.kind ≡ kind.Bool → b.kind ≡ kind.Bool → c.kind ≡ kind.Bool → d.kind ≡ kind.Bool
    → AreTruths text
    → GoesOn (a ∷ b ∷ c ∷ d ∷ columns) text
    (truth_at text 0 ∷ truth_at text 2 ∷ truth_at text 4 ∷ truth_at text 6 ∷ []) columns
    (drop 8 text)
four-texts a b c d columns [] long ka kb kc kd are = absurd (omega (arith, long))
four-texts a b c d columns (s ∷ []) long ka kb kc kd are = absurd (omega (arith, long))
four-texts a b c d columns (s ∷ t ∷ []) long ka kb kc kd are = absurd (omega (arith, long))
four-texts a b c d columns (s ∷ t ∷ u ∷ []) long ka kb kc kd are = absurd (omega (arith, long))
four-texts a b c d columns (s ∷ t ∷ u ∷ v ∷ []) long ka kb kc kd are =
    absurd (omega (arith, long))
four-texts a b c d columns (s ∷ t ∷ u ∷ v ∷ w ∷ []) long ka kb kc kd are =
    absurd (omega (arith, long))
four-texts a b c d columns (s ∷ t ∷ u ∷ v ∷ w ∷ x ∷ []) long ka kb kc kd are =
    absurd (omega (arith, long))
four-texts a b c d columns (s ∷ t ∷ u ∷ v ∷ w ∷ x ∷ y ∷ []) long ka kb kc kd are =
    absurd (omega (arith, long))
four-texts a b c d columns (s ∷ t ∷ u ∷ v ∷ w ∷ x ∷ y ∷ z ∷ rest) long ka kb kc kd are =
    let two : List ℕ = u ∷ v ∷ w ∷ x ∷ y ∷ z ∷ rest in
    let four : List ℕ = w ∷ x ∷ y ∷ z ∷ rest in
    let six : List ℕ = y ∷ z ∷ rest in
    let text : List ℕ = s ∷ t ∷ u ∷ v ∷ w ∷ x ∷ y ∷ z ∷ rest in
    both-go_on _ _ _ _ _ _ _ _ (one-goes_on _ _ _ (omega arith) ka are.0)
    (both-go_on _ _ _ _ _ _ _ _ (one-goes_on _ _ _ (omega arith) kb are.1)
    (both-go_on _ _ _ _ _ _ _ _ (one-goes_on c (d ∷ columns) four (omega arith) kc are.2)
    (one-goes_on d columns six (omega arith) kd are.3)))

-- the digits at every second byte are the cells of the first four columns, all of Booleans
four-go_on : (columns : List Column) (p q r s : Column) (text : List ℕ) (values : List ℤ)
    → 3 < length columns → 7 < length text
    → (get_or columns 0 p).kind ≡ kind.Bool → (get_or columns 1 q).kind ≡ kind.Bool
    → (get_or columns 2 r).kind ≡ kind.Bool → (get_or columns 3 s).kind ≡ kind.Bool
    → AreTruths text
    → values ≡ truth_at text 0 ∷ truth_at text 2 ∷ truth_at text 4 ∷ truth_at text 6 ∷ []
    → GoesOn columns text values (drop 4 columns) (drop 8 text)
four-go_on [] p q r s text values more long kp kq kr ks are is = absurd (omega (arith, more))
four-go_on (a ∷ []) p q r s text values more long kp kq kr ks are is =
    absurd (omega (arith, more))
four-go_on (a ∷ b ∷ []) p q r s text values more long kp kq kr ks are is =
    absurd (omega (arith, more))
four-go_on (a ∷ b ∷ c ∷ []) p q r s text values more long kp kq kr ks are is =
    absurd (omega (arith, more))
four-go_on (a ∷ b ∷ c ∷ d ∷ columns) p q r s text values more long kp kq kr ks are is =
    subst (λ vs. GoesOn (a ∷ b ∷ c ∷ d ∷ columns) text vs columns (drop 8 text)) (sym is)
    (four-texts a b c d columns text long kp kq kr ks are)

abbrev stored : ℤ → ℤ
stored x = to_z w32 (of_z w32 x)

stored-truth : (t : Bool) (x : ℤ) → x ≡ (if t then pos 1 else pos 0)
    → stored x ≡ (if t then pos 1 else pos 0)
stored-truth true x e = ap stored e
stored-truth false x e = ap stored e

-- `four-go_on` with the values as they are stored
pub four-read : (columns : List Column) (p q r s : Column) (text : List ℕ) (x y z w : ℤ)
    → 3 < length columns → 7 < length text
    → (get_or columns 0 p).kind ≡ kind.Bool → (get_or columns 1 q).kind ≡ kind.Bool
    → (get_or columns 2 r).kind ≡ kind.Bool → (get_or columns 3 s).kind ≡ kind.Bool
    → AreTruths text
    → x ≡ truth_at text 0 → y ≡ truth_at text 2 → z ≡ truth_at text 4 → w ≡ truth_at text 6
    → (7 < length text) × (3 < length columns)
    × GoesOn columns text (stored x ∷ stored y ∷ stored z ∷ stored w ∷ []) (drop 4 columns)
    (drop 8 text)
four-read columns p q r s text x y z w more long kp kq kr ks are ex ey ez ew =
    let one = stored-truth (get_or text 0 0 == 49) x ex in
    let two = stored-truth (get_or text 2 0 == 49) y ey in
    let three = stored-truth (get_or text 4 0 == 49) z ez in
    let four = stored-truth (get_or text 6 0 == 49) w ew in
    let values : List ℤ = stored x ∷ stored y ∷ stored z ∷ stored w ∷ [] in (
      long,
      more,
      four-go_on _ _ _ _ _ _ _ more long kp kq kr ks are
          (λ i. one i ∷ two i ∷ three i ∷ four i ∷ []),
    )

-- four values behind a row are the next cells of the columns from place `i` on
pub goes-on-from : (columns some : List Column) (i : ℕ) (text rest further : List ℕ)
    (values row next : List ℤ) → some ≡ drop i columns → rest ≡ further
    → next ≡ row ++ values → GoesOn some text values (drop 4 some) further
    → (onto row (plain_row (drop i columns) (record_of text))
    ≡ onto next (plain_row (drop (i + 4) columns) (record_of rest)))
    × (after_line text ≡ after_line rest)
goes-on-from columns some i text rest further values row next is past added on =
    let left : drop 4 some ≡ drop (i + 4) columns = ap (drop 4) is ∙ drop-drop 4 i columns in (
      ap (λ ks. onto row (plain_row ks (record_of text))) (sym is) ∙ on.0 row
          ∙ ap (λ r. onto r (plain_row (drop 4 some) (record_of further))) (sym added)
          ∙ ap (λ ks. onto next (plain_row ks (record_of further))) left
          ∙ ap (λ t. onto next (plain_row (drop (i + 4) columns) (record_of t))) (sym past),
      on.1 ∙ ap after_line (sym past),
    )

abbrev hit : ℕ → ℕ → ℕ
hit a b = cond (eqb a b) 255 0

-- the lowest bit of an odd number is set
odd : (m : Bool) (r k : ℕ) → cond m 1 0 + 2 * r ≡ 1 + 2 * k → (m ≡ true) × (r ≡ k)
odd true r k e = (refl, omega (arith, e))
odd false r k e = absurd (omega (arith, e))

abbrev is_bit : ℕ → Bool
is_bit b = (b == 48) || (b == 49)

abbrev digit_hit : ℕ → Bool
digit_hit b = top 7 (hit (bit_or b 1) 49)

abbrev comma_hit : ℕ → Bool
comma_hit b = top 7 (hit (bit_or b 0) 44)

digit-hit : (b : ℕ) → Fits w8 b → digit_hit b ≡ true → is_bit b ≡ true
digit-hit b fits e = sym (agree_below_at digit_hit is_bit 256 b refl fits.fits) ∙ e

comma-hit : (b : ℕ) → Fits w8 b → comma_hit b ≡ true → b ≡ 44
comma-hit b fits e =
    let is : (b == 44) ≡ true =
    sym (agree_below_at comma_hit (λ x. x == 44) 256 b refl fits.fits) ∙ e in
    grind (arith, nat_tests, is)

all-hit : (s t u v w x y z : ℕ) (rest : List ℕ)
    → ((k : ℕ) → Fits w8 (get_or (s ∷ t ∷ u ∷ v ∷ w ∷ x ∷ y ∷ z ∷ rest) k 0))
    → mask_l (digit_hit s ∷ comma_hit t ∷ digit_hit u ∷ comma_hit v ∷ digit_hit w ∷ comma_hit x
    ∷ digit_hit y ∷ comma_hit z ∷ []) ≡ 255
    → AreTruths (s ∷ t ∷ u ∷ v ∷ w ∷ x ∷ y ∷ z ∷ rest)
all-hit s t u v w x y z rest fits all =
    let one = odd (digit_hit s) (mask_l (comma_hit t ∷ digit_hit u ∷ comma_hit v ∷ digit_hit w
    ∷ comma_hit x ∷ digit_hit y ∷ comma_hit z ∷ [])) 127 all in
    let two = odd (comma_hit t) (mask_l (digit_hit u ∷ comma_hit v ∷ digit_hit w
    ∷ comma_hit x ∷ digit_hit y ∷ comma_hit z ∷ [])) 63 one.1 in
    let three = odd (digit_hit u) (mask_l (comma_hit v ∷ digit_hit w
    ∷ comma_hit x ∷ digit_hit y ∷ comma_hit z ∷ [])) 31 two.1 in
    let four = odd (comma_hit v) (mask_l (digit_hit w
    ∷ comma_hit x ∷ digit_hit y ∷ comma_hit z ∷ [])) 15 three.1 in
    let five = odd (digit_hit w) (mask_l (comma_hit x ∷ digit_hit y ∷ comma_hit z ∷ [])) 7
    four.1 in
    let six = odd (comma_hit x) (mask_l (digit_hit y ∷ comma_hit z ∷ [])) 3 five.1 in
    let seven = odd (digit_hit y) (mask_l (comma_hit z ∷ [])) 1 six.1 in
    let eight = odd (comma_hit z) (mask_l []) 0 seven.1 in (
      (digit-hit s (fits 0) one.0, comma-hit t (fits 1) two.0),
      (digit-hit u (fits 2) three.0, comma-hit v (fits 3) four.0),
      (digit-hit w (fits 4) five.0, comma-hit x (fits 5) six.0),
      (digit-hit y (fits 6) seven.0, comma-hit z (fits 7) eight.0),
    )

-- four digits 0 or 1, each before a comma, stand where the mask of eight lanes has all bits set
pub all-truths : (text z : List ℕ) (mask : ℕ) → 7 < length text
    → ((k : ℕ) → Fits w8 (get_or text k 0))
    → mask ≡ mask_l (map (top 7) z) % 2 ^ 64
    → z ≡ zip2 hit (zip2 bit_or (take 8 text) (1 ∷ 0 ∷ 1 ∷ 0 ∷ 1 ∷ 0 ∷ 1 ∷ 0 ∷ []))
    (49 ∷ 44 ∷ 49 ∷ 44 ∷ 49 ∷ 44 ∷ 49 ∷ 44 ∷ [])
    → mask ≡ 255 → AreTruths text
all-truths [] z mask long fits is lanes all = absurd (omega (arith, long))
all-truths (s ∷ []) z mask long fits is lanes all = absurd (omega (arith, long))
all-truths (s ∷ t ∷ []) z mask long fits is lanes all = absurd (omega (arith, long))
all-truths (s ∷ t ∷ u ∷ []) z mask long fits is lanes all = absurd (omega (arith, long))
all-truths (s ∷ t ∷ u ∷ v ∷ []) z mask long fits is lanes all = absurd (omega (arith, long))
all-truths (s ∷ t ∷ u ∷ v ∷ w ∷ []) z mask long fits is lanes all = absurd (omega (arith, long))
all-truths (s ∷ t ∷ u ∷ v ∷ w ∷ x ∷ []) z mask long fits is lanes all =
    absurd (omega (arith, long))
all-truths (s ∷ t ∷ u ∷ v ∷ w ∷ x ∷ y ∷ []) z mask long fits is lanes all =
    absurd (omega (arith, long))
all-truths (s ∷ t ∷ u ∷ v ∷ w ∷ x ∷ y ∷ r ∷ rest) z mask long fits is lanes all =
    let hits : List Bool = digit_hit s ∷ comma_hit t ∷ digit_hit u ∷ comma_hit v ∷ digit_hit w
    ∷ comma_hit x ∷ digit_hit y ∷ comma_hit r ∷ [] in
    all-hit s t u v w x y r rest fits
    (sym (is ∙ ap (λ l. mask_l (map (top 7) l) % 2 ^ 64) lanes
    ∙ mask_l-mod hits 64 (omega arith)) ∙ all)
