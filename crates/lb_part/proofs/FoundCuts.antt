-- The places where a text can be cut, by some bytes of it.
use Rattle.std.proofs.Common.{◌≡◌, ◌≢◌, ◌∙◌, ℕ, zero, suc, ◌+◌, ◌-◌, ◌<◌, ◌≤◌, Bool, true, false}
use Rattle.std.proofs.Common.{List, [], ◌++◌, length, get_or, drop, Option, None, Some, ◌⊎◌, inl}
use Rattle.std.proofs.Common.{inr, refl, sym, ap, subst, arith, not}
use Rattle.std.proofs.lemmas.Bool.{cases_lt}
use Rattle.std.proofs.lemmas.List.{drop-append-le, get_or-append-add, get_or_append_left}
use Rattle.std.proofs.lemmas.List.{length-append}
use Rattle.std.proofs.Math.Seq.{drop-append-add}
use Rattle.lb_part.specs.Cuts.{Begins, IsBefore, IsBreak, StartsTrace, at_line, ends_line}
use Rattle.lb_part.specs.Cuts.{name_of}
use Rattle.lb_part.specs.Cuts.IsBreak.{first as at_first, last as at_last, trace as at_trace}
use Rattle.lb_part.specs.Windows.{AllGoOn, BeginsIn, GoesOn, HasName}
use Rattle.lb_part.specs.Windows.{IsBeforeIn, IsCutBy, IsLastIn, IsOver, Stands, line_in}

-- ## Bytes in a text

unfoldable pub text_of : (front bytes back : List ℕ) → List ℕ
text_of front bytes back = front ++ (bytes ++ back)

pub byte-at : (front bytes back : List ℕ) (j : ℕ) → j < length bytes
    → get_or (text_of front bytes back) (length front + j) 0 ≡ get_or bytes j 0
unfolding text_of
byte-at front bytes back j below =
    get_or-append-add front (bytes ++ back) j 0 ∙ get_or_append_left bytes back 0 j below

pub long-text : (front bytes back : List ℕ)
    → length (text_of front bytes back) ≡ length front + (length bytes + length back)
unfolding text_of
long-text front bytes back =
    length-append front (bytes ++ back)
    ∙ ap (λ n. length front + n) (length-append bytes back)

pub rest-at : (front bytes back : List ℕ) (j : ℕ) → j ≤ length bytes
    → drop (length front + j) (text_of front bytes back) ≡ drop j bytes ++ back
unfolding text_of
rest-at front bytes back j below =
    drop-append-add front (bytes ++ back) j ∙ drop-append-le j bytes back below

pub name-at : (front bytes back : List ℕ) (j : ℕ) → j ≤ length bytes
    → name_of (drop (length front + j) (text_of front bytes back)) ≡ name_of (drop j bytes ++ back)
name-at front bytes back j below = ap name_of (rest-at front bytes back j below)

pub line-later : (front bytes back : List ℕ) (b : ℕ) → b < length bytes
    → at_line (text_of front bytes back) (length front + suc b) ≡ ends_line (get_or bytes b 0)
line-later front bytes back b below =
    let e : length front + suc b ≡ suc (length front + b) = omega arith in
    ap (at_line (text_of front bytes back)) e ∙ ap ends_line (byte-at front bytes back b below)

line-first : (front bytes back : List ℕ) → front ≡ []
    → at_line (text_of front bytes back) (length front + 0) ≡ true
line-first front bytes back is =
    let e : length front + 0 ≡ 0 = omega (arith, ap length is) in
    ap (at_line (text_of front bytes back)) e

-- ## Records in bytes, and in the text

begins-out : (is_first is_last : Bool) (front bytes back : List ℕ) (j : ℕ)
    → Stands is_first is_last front back → BeginsIn is_first bytes j
    → Begins (text_of front bytes back) (length front + j)
begins-out is_first is_last front bytes back j st b = record {
  inside = let l = long-text front bytes back in omega (arith, l, b.inside);
  line = by j b.inside b.line;
  filled = ap ends_line (byte-at front bytes back j b.inside) ∙ b.filled;
}
  where
    by : (i : ℕ) → i < length bytes → line_in is_first bytes i ≡ true
        → at_line (text_of front bytes back) (length front + i) ≡ true
    by zero below line = line-first front bytes back (st.first line)
    by (suc b) below line =
        line-later front bytes back b (omega (arith, below)) ∙ line

pub begins-in : (is_first is_last : Bool) (front bytes back : List ℕ) (j : ℕ)
    → j < length bytes → (0 < j) ⊎ (is_first ≡ true)
    → Begins (text_of front bytes back) (length front + j) → BeginsIn is_first bytes j
begins-in is_first is_last front bytes back j below known b = record {
  inside = below;
  line = by j below known b.line;
  filled = ap ends_line (sym (byte-at front bytes back j below)) ∙ b.filled;
}
  where
    by : (i : ℕ) → i < length bytes → (0 < i) ⊎ (is_first ≡ true)
        → at_line (text_of front bytes back) (length front + i) ≡ true
        → line_in is_first bytes i ≡ true
    by zero below (inl some) line = absurd (omega (arith, some))
    by zero below (inr first) line = first
    by (suc b) below known line =
        sym (line-later front bytes back b (omega (arith, below))) ∙ line

-- a place of a text as a place `at` within the bytes behind `front`
pub record Within (front : List ℕ) (place : ℕ) : Type 0 where
  pub at : ℕ
  pub is : place ≡ length front + at

pub within : (front : List ℕ) (place : ℕ) → length front ≤ place → Within front place
within front place behind = record {
  at = place - length front;
  is = omega (arith, behind);
}

before-out : (is_first is_last : Bool) (front bytes back : List ℕ) (q i : ℕ)
    → Stands is_first is_last front back → i ≤ length bytes → IsBeforeIn is_first bytes q i
    → IsBefore (text_of front bytes back) (length front + q) (length front + i)
before-out is_first is_last front bytes back q i st fits before = record {
  below = omega (arith, before.below);
  begins = begins-out is_first is_last front bytes back q st before.begins;
  alone = λ place low high b.
      let w = within front place (omega (arith, low)) in
      let e = w.is in
      before.alone w.at (omega (arith, low, e)) (omega (arith, high, e))
      (begins-in is_first is_last front bytes back w.at (omega (arith, high, e, fits))
      (inl (omega (arith, low, e)))
      (subst (Begins (text_of front bytes back)) w.is b));
}

same-before : (text : List ℕ) (a b place : ℕ) → IsBefore text a place → IsBefore text b place
    → a ≡ b
same-before text a b place one other = by (cases_lt a b) (cases_lt b a)
  where
    by : (a < b) ⊎ (b ≤ a) → (b < a) ⊎ (a ≤ b) → a ≡ b
    by (inl less) more = absurd (one.alone b less other.below other.begins)
    by (inr le) (inl less) = absurd (other.alone a less one.below one.begins)
    by (inr le) (inr ge) = omega (arith, le, ge)

-- ## Where no trace begins

goes-on : (is_first is_last : Bool) (front bytes back : List ℕ) (q i : ℕ)
    → Stands is_first is_last front back → i ≤ length bytes → IsBeforeIn is_first bytes q i
    → HasName is_last bytes q i → StartsTrace (text_of front bytes back) (length front + i) → ⊥
goes-on is_first is_last front bytes back q i st fits before same starts =
    starts.apart (length front + q)
    (before-out is_first is_last front bytes back q i st fits before)
    (name-at front bytes back q (omega (arith, before.below, fits))
    ∙ same back st.last
    ∙ sym (name-at front bytes back i fits))

none-nearer : (is_first is_last : Bool) (front bytes back : List ℕ) (from to : ℕ)
    → Stands is_first is_last front back → 0 < from → to ≤ length bytes
    → AllGoOn is_first is_last bytes from to
    → (other : ℕ) → length front + from ≤ other → other < length front + to
    → IsBreak (text_of front bytes back) other → ⊥
none-nearer is_first is_last front bytes back from to st some fits others other low high
    (at_first is) = omega (arith, is, low, some)
none-nearer is_first is_last front bytes back from to st some fits others other low high
    (at_last is) = let l = long-text front bytes back in omega (arith, is, high, fits, l)
none-nearer is_first is_last front bytes back from to st some fits others other low high
    (at_trace starts) =
    let w = within front other (omega (arith, low)) in
    let e = w.is in
    let here : StartsTrace (text_of front bytes back) (length front + w.at) =
    subst (StartsTrace (text_of front bytes back)) w.is starts in
    let found = others w.at (omega (arith, low, e)) (omega (arith, high, e))
    (begins-in is_first is_last front bytes back w.at (omega (arith, high, e, fits))
    (inl (omega (arith, low, e, some))) here.begins) in
    goes-on is_first is_last front bytes back found.0 w.at st (omega (arith, high, e, fits)) found.1
    found.2 here

-- ## A cut

apart-here : (is_first is_last : Bool) (front bytes back : List ℕ) (last : Option ℕ) (i : ℕ)
    → Stands is_first is_last front back → BeginsIn is_first bytes i
    → IsLastIn is_first bytes last i → IsOver is_first is_last bytes last i
    → (before : ℕ) → IsBefore (text_of front bytes back) before (length front + i)
    → name_of (drop before (text_of front bytes back))
    ≢ name_of (drop (length front + i) (text_of front bytes back))
apart-here is_first is_last front bytes back None i st b none is_first_is before is =
    absurd
    (let e : length front ≡ 0 = ap length (st.first is_first_is) in
    let w = within front before (omega (arith, e)) in
    let k = w.is in
    let below = is.below in
    none w.at (omega (arith, k, below))
    (begins-in is_first is_last front bytes back w.at (omega (arith, k, below, b.inside))
    (inr is_first_is)
    (subst (Begins (text_of front bytes back)) w.is is.begins)))
apart-here is_first is_last front bytes back (Some q) i st b known other before is =
    λ same.
    let fits : i ≤ length bytes = omega (arith, b.inside) in
    let inner : q ≤ length bytes = omega (arith, known.below, fits) in
    let at : before ≡ length front + q =
    same-before (text_of front bytes back) before (length front + q) (length front + i) is
    (before-out is_first is_last front bytes back q i st fits known) in
    other back st.last
    (sym (name-at front bytes back q inner)
    ∙ ap (λ (n : ℕ). name_of (drop n (text_of front bytes back))) (sym at)
    ∙ same
    ∙ name-at front bytes back i fits)

-- a text can be cut where a trace begins in the bytes, and each record before it goes on
pub cut-found : (is_first is_last : Bool) (bytes : List ℕ) (last : Option ℕ) (from i : ℕ)
    → 0 < from → from ≤ i → BeginsIn is_first bytes i → IsLastIn is_first bytes last i
    → IsOver is_first is_last bytes last i → AllGoOn is_first is_last bytes from i
    → IsCutBy is_first is_last bytes from i
unfolding text_of
cut-found is_first is_last bytes last from i some behind b known over others = record {
  inside = omega (arith, b.inside);
  cut = λ front back st. record {
    behind = omega (arith, behind);
    break = at_trace record {
      begins = begins-out is_first is_last front bytes back i st b;
      apart = apart-here is_first is_last front bytes back last i st b known over;
    };
    nearest = none-nearer is_first is_last front bytes back from i st some
        (omega (arith, b.inside)) others;
  };
}

-- a text can be cut at its end, if it ends with the bytes and each record in them goes on
pub cut-last : (is_first is_last : Bool) (bytes : List ℕ) (from : ℕ) → is_last ≡ true
    → 0 < from → from ≤ length bytes → AllGoOn is_first is_last bytes from (length bytes)
    → IsCutBy is_first is_last bytes from (length bytes)
unfolding text_of
cut-last is_first is_last bytes from ends some fits others = record {
  inside = omega arith;
  cut = λ front back st.
      let none : length back ≡ 0 = ap length (st.last ends) in
      let l = long-text front bytes back in
      record {
        behind = omega (arith, fits);
        break = at_last (omega (arith, none, l));
        nearest = none-nearer is_first is_last front bytes back from (length bytes) st some
            (omega arith) others;
      };
}

-- ## A loop

pub line-next : (is_first : Bool) (bytes : List ℕ) (i b : ℕ) → b ≡ get_or bytes i 0
    → (ends : Bool) → ends ≡ ends_line b → ends ≡ line_in is_first bytes (i + 1)
line-next is_first bytes i b is ends tells =
    let e : suc i ≡ i + 1 = omega arith in
    tells ∙ ap ends_line is ∙ ap (line_in is_first bytes) e

-- the last record before place `i` is the last one before `i + 1`, if no record begins at `i`
pub last-kept : (is_first : Bool) (bytes : List ℕ) (last : Option ℕ) (i : ℕ)
    → (BeginsIn is_first bytes i → ⊥) → IsLastIn is_first bytes last i
    → IsLastIn is_first bytes last (i + 1)
last-kept is_first bytes None i none known = λ before below b. by before below b (cases_lt before i)
  where
    by : (before : ℕ) → before < i + 1 → BeginsIn is_first bytes before
        → (before < i) ⊎ (i ≤ before) → ⊥
    by before below b (inl less) = known before less b
    by before below b (inr ge) =
        let e : before ≡ i = omega (arith, ge, below) in
        none (subst (BeginsIn is_first bytes) e b)
last-kept is_first bytes (Some q) i none known = record {
  below = let h = known.below in omega (arith, h);
  begins = known.begins;
  alone = λ place low high b. by place low high b (cases_lt place i);
}
  where
    by : (place : ℕ) → q < place → place < i + 1 → BeginsIn is_first bytes place
        → (place < i) ⊎ (i ≤ place) → ⊥
    by place low high b (inl less) = known.alone place low less b
    by place low high b (inr ge) =
        let e : place ≡ i = omega (arith, ge, high) in
        none (subst (BeginsIn is_first bytes) e b)

pub gone-kept : (is_first is_last : Bool) (bytes : List ℕ) (from i : ℕ)
    → (BeginsIn is_first bytes i → ⊥) → AllGoOn is_first is_last bytes from i
    → AllGoOn is_first is_last bytes from (i + 1)
gone-kept is_first is_last bytes from i none others place low high b =
    by (cases_lt place i)
  where
    by : (place < i) ⊎ (i ≤ place)
        → (before : ℕ) × IsBeforeIn is_first bytes before place
        × HasName is_last bytes before place
    by (inl less) = others place low less b
    by (inr ge) =
        let e : place ≡ i = omega (arith, ge, high) in
        absurd (none (subst (BeginsIn is_first bytes) e b))

-- a record that begins at place `i` is the last one before `i + 1`
pub last-here : (is_first : Bool) (bytes : List ℕ) (i : ℕ) → BeginsIn is_first bytes i
    → IsLastIn is_first bytes (Some i) (i + 1)
last-here is_first bytes i b = record {
  below = omega arith;
  begins = b;
  alone = λ place low high other. omega (arith, low, high);
}

pub gone-here : (is_first is_last : Bool) (bytes : List ℕ) (last : Option ℕ) (from i : ℕ)
    → IsLastIn is_first bytes last i → (from ≤ i → GoesOn is_last bytes last i)
    → AllGoOn is_first is_last bytes from i → AllGoOn is_first is_last bytes from (i + 1)
gone-here is_first is_last bytes last from i known goes others place low high b =
    by (cases_lt place i)
  where
    here : (last : Option ℕ) → IsLastIn is_first bytes last i → GoesOn is_last bytes last i
        → (before : ℕ) × IsBeforeIn is_first bytes before i × HasName is_last bytes before i
    here None known goes = absurd goes
    here (Some q) known goes = (q, known, goes)

    by : (place < i) ⊎ (i ≤ place)
        → (before : ℕ) × IsBeforeIn is_first bytes before place
        × HasName is_last bytes before place
    by (inl less) = others place low less b
    by (inr ge) =
        let e : i ≡ place = omega (arith, ge, high) in
        subst (λ (p : ℕ). (before : ℕ) × IsBeforeIn is_first bytes before p
        × HasName is_last bytes before p) e
        (here last known (goes (omega (arith, e, low))))

-- a record begins at a byte that begins a line and does not end one
pub record-begins : (is_first : Bool) (bytes : List ℕ) (i : ℕ) (begins has ends : Bool)
    → begins ≡ line_in is_first bytes i → i < length bytes
    → ends ≡ ends_line (get_or bytes i 0) → begins ≡ true → has ≡ not ends → has ≡ true
    → BeginsIn is_first bytes i
record-begins is_first bytes i begins has ends line below tells begun is found = record {
  inside = below;
  line = sym line ∙ begun;
  filled = sym tells ∙ no-end ends (sym is ∙ found);
}
  where
    no-end : (b : Bool) → not b ≡ true → b ≡ false
    no-end true e = cc e
    no-end false e = refl

pub no-line : (is_first : Bool) (bytes : List ℕ) (i : ℕ) (begins : Bool)
    → begins ≡ line_in is_first bytes i → begins ≡ false → BeginsIn is_first bytes i → ⊥
no-line is_first bytes i begins line none b =
    let e : false ≡ true = sym none ∙ line ∙ b.line in cc e

pub no-record : (is_first : Bool) (bytes : List ℕ) (i : ℕ) (has ends : Bool)
    → ends ≡ ends_line (get_or bytes i 0) → has ≡ not ends → has ≡ false
    → BeginsIn is_first bytes i → ⊥
no-record is_first bytes i has ends tells is none b =
    let inner : ends ≡ false = tells ∙ b.filled in
    let e : false ≡ true = sym none ∙ is ∙ ap not inner in
    cc e
