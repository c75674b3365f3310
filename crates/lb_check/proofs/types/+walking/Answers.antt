-- The parts that are noted for a term, by its form.
use Rattle.lb_check.proofs.Words
use Words.{IsWalked, ap, are_met, are_one, arith, arrays, calls_in, common, common_type, context_in}
use Words.{drop, given_of, has_arity, inl, kept_in, length, length-map, like_later, list_of, map}
use Words.{one_type, option_map, outcome, placed_all_types, placed_types, row_in, signature_in}
use Words.{singly, subst, sym, type_at, type_of, view_type, when_both, when_truth, where_true, ◌&&◌}
use Words.{◌++◌, ◌+◌, ◌-◌, ◌>>=◌, ◌∙◌, ◌∷◌, ◌≡◌}
use Rattle.lb_check.proofs.{definitions.BrokenRules.if_found, typing.SignatureRows.calls_are}
use Rattle.lb_check.proofs.typing.SignatureRows.{fits_end, fits_more, fits_start, like_next}
use Rattle.lb_check.proofs.typing.{SignatureRows.list_is, TypeRows.{choice_result, list_results}}
use Rattle.lb_check.proofs.typing.TypeRows.{list_type_is, pair_result, pair_type, row_placed}
use Rattle.lb_check.proofs.typing.{TypeRows.single_result, WalkedTypes.{choice_type, further}}
use Rattle.lb_check.proofs.typing.WalkedTypes.{later, later_all, later_length, later_more}
use Rattle.lb_check.proofs.typing.WalkedTypes.{later_none, list_decided, noted_all, noted_more}
use Rattle.lb_check.proofs.typing.WalkedTypes.{noted_none, returns_given, returns_group}
use Rattle.lb_check.proofs.typing.WalkedTypes.{returns_one, row_decided, single_from}
use Rattle.lb_check.specs.{PlacedTypes.IsRowWalked, TermSignatures.signature}
use Rattle.lb_check.proofs.types.+walking.Goals as goal

-- ## The elements of a list

pub walk_list-loop-seen-init : goal.walk_list-loop-seen-init
walk_list-loop-seen-init t c =
    let ctx = context_in c.args.env.now in
    let all = c.args.terms.now in
    record {
      element = sym (ap common (later_none ctx all));
      noted = noted_none ctx all (kept_in c.args.parts.now);
    }

pub walk_list-loop-seen-preserved : goal.walk_list-loop-seen-preserved
walk_list-loop-seen-preserved t c =
    let ctx = context_in c.args.env.now in
    let all = c.args.terms.now in
    let l = c.loop-seen in
    let x = c.index-terms-terms.result in
    let lt = c.loop-seen-test.true in
    let own = option_map view_type c.in_ok-own.own in
    record {
      element =
          c.like_later-element.ensures
          ∙ ap (like_later l.seen own) l.invariant.element
          ∙ ap (λ o. like_later l.seen o (common (later ctx all l.seen))) c.in_ok-own.ensures.0
          ∙ like_next (type_of ctx x) (later ctx all l.seen) l.seen
          (later_length ctx all l.seen (omega (arith, lt)))
          ∙ sym (ap common (later_more ctx all l.seen x lt c.index-terms-terms.is));
      noted =
          noted_more ctx all (kept_in c.args.parts.now) l.seen (kept_in l.parts)
          (kept_in c.walk.new.parts) x lt c.index-terms-terms.is l.invariant.noted
          c.in_ok-own.ensures.1;
    }

pub walk_list-returns-then-is_decided : goal.walk_list-returns-then-is_decided
walk_list-returns-then-is_decided t c =
    let l = c.loop-seen in
    let d = c.is_decided.ensures.0 c.if-is_decided.true in
    list_decided (context_in c.args.env.now) c.args.terms.now l.seen (kept_in c.args.parts.now)
    (kept_in l.parts) c.loop-seen-test.true l.invariant.noted (option_map view_type l.element)
    l.invariant.element (d.0, sym c.is_array.ensures ∙ d.1, d.2)

pub walk_list-returns : goal.walk_list-returns
walk_list-returns t c =
    let ctx = context_in c.args.env.now in
    let all = c.args.terms.now in
    let l = c.loop-seen in
    let le = c.loop-seen-test.false in
    let types = map (type_of ctx) all in
    let element = l.invariant.element ∙ ap common (later_all ctx all l.seen le) in
    let many = length-map all (type_of ctx) in
    if_found c.array_type.result
    (λ o. option_map view_type o ≡ arrays (length all) (option_map view_type l.element))
    (λ o. IsRowWalked ctx all (kept_in c.args.parts.now) (kept_in l.parts)
    (option_map view_type o) list_of) c.array_type.ensures
    (λ o v. (
      v ∙ ap (arrays (length all)) element ∙ ap (λ n. arrays n (common types)) (sym many),
      noted_all ctx all (kept_in c.args.parts.now) l.seen (kept_in l.parts) le l.invariant.noted,
    ))

-- ## Operands in a row

pub walk_row-loop-seen-init : goal.walk_row-loop-seen-init
walk_row-loop-seen-init t c =
    let ctx = context_in c.args.env.now in
    let all = c.args.terms.now in
    let s = signature_in c.in_ok-signature.signature in
    let n = length all in
    let none : n - 0 ≡ n = omega arith in
    record {
      fits =
          c.has_arity-fits.ensures ∙ fits_start s n
          ∙ ap (λ l. has_arity s n && are_met (drop n s.takes) l) (sym (later_none ctx all))
          ∙ ap (λ k. has_arity s n && are_met (drop k s.takes) (later ctx all 0)) (sym none);
      noted = noted_none ctx all (kept_in c.args.parts.now);
    }

pub walk_row-loop-seen-preserved : goal.walk_row-loop-seen-preserved
walk_row-loop-seen-preserved t c =
    let ctx = context_in c.args.env.now in
    let all = c.args.terms.now in
    let l = c.loop-seen in
    let s = signature_in c.in_ok-signature.signature in
    let n = length all in
    let x = c.index-terms-place.result in
    let lt = c.loop-seen-test.true in
    let at = n - 1 - l.seen in
    let later_ones = later ctx all l.seen in
    let before : n - l.seen ≡ at + 1 = omega (arith, lt) in
    let after : at ≡ n - (l.seen + 1) = omega (arith, lt) in
    record {
      fits =
          c.fits_too-fits.ensures
          ∙ ap (λ b. b && are_one (type_at s.takes at) (option_map view_type c.in_ok-own.own))
          l.invariant.fits
          ∙ ap (λ o. (has_arity s n && are_met (drop (n - l.seen) s.takes) later_ones)
          && are_one (type_at s.takes at) o) c.in_ok-own.ensures.0
          ∙ ap (λ k. (has_arity s n && are_met (drop k s.takes) later_ones)
          && are_one (type_at s.takes at) (type_of ctx x)) before
          ∙ fits_more s n at (type_of ctx x) later_ones (omega (arith, lt))
          ∙ ap (λ k. has_arity s n && are_met (drop k s.takes) (type_of ctx x ∷ later_ones)) after
          ∙ ap (λ os. has_arity s n && are_met (drop (n - (l.seen + 1)) s.takes) os)
          (sym (later_more ctx all l.seen x lt c.index-terms-place.is));
      noted =
          noted_more ctx all (kept_in c.args.parts.now) l.seen (kept_in l.parts)
          (kept_in c.walk.new.parts) x lt c.index-terms-place.is l.invariant.noted
          c.in_ok-own.ensures.1;
    }

pub walk_row-returns-then-is_decided : goal.walk_row-returns-then-is_decided
walk_row-returns-then-is_decided t c =
    let ctx = context_in c.args.env.now in
    let all = c.args.terms.now in
    let l = c.loop-seen in
    let s = signature_in c.in_ok-signature.signature in
    let types = map (type_of ctx) all in
    let d = c.is_decided.ensures.0 c.if-is_decided.true in
    let w =
    row_decided ctx all l.seen (kept_in c.args.parts.now) (kept_in l.parts) c.loop-seen-test.true
    l.invariant.noted s l.fits l.invariant.fits d in (
      w.0 ∙ ap (λ u. outcome u types) c.in_ok-signature.ensures
          ∙ ap (λ k. outcome (signature (calls_in c.args.env.now) ctx c.args.term.now k) types)
          (sym (length-map all (type_of ctx))),
      w.1,
    )

pub walk_row-returns : goal.walk_row-returns
walk_row-returns t c =
    let ctx = context_in c.args.env.now in
    let all = c.args.terms.now in
    let l = c.loop-seen in
    let le = c.loop-seen-test.false in
    let s = signature_in c.in_ok-signature.signature in
    let n = length all in
    let types = map (type_of ctx) all in
    let many = length-map all (type_of ctx) in
    let none : n - l.seen ≡ 0 = omega (arith, le) in
    let fits : l.fits ≡ (s.stands && are_met s.takes types) =
    l.invariant.fits
    ∙ ap (λ k. has_arity s n && are_met (drop k s.takes) (later ctx all l.seen)) none
    ∙ ap (λ os. has_arity s n && are_met s.takes os) (later_all ctx all l.seen le)
    ∙ fits_end s n types many in (
      c.given_where.ensures ∙ ap (λ b. where_true b s.gives) fits
          ∙ ap (λ u. outcome u types) c.in_ok-signature.ensures
          ∙ ap (λ k. outcome (signature (calls_in c.args.env.now) ctx c.args.term.now k) types)
          (sym many),
      noted_all ctx all (kept_in c.args.parts.now) l.seen (kept_in l.parts) le l.invariant.noted,
    )

-- ## Terms by their operands

pub walk_array-returns : goal.walk_array-returns
walk_array-returns t c = λ h.
    let ctx = context_in c.args.env.now in
    let term = c.args.term.now in
    let es = h.0 in
    let before = kept_in c.args.parts.now in
    let mid = kept_in c.walk_list.new.parts in
    let own = option_map view_type c.in_ok-own.own in
    let w : IsRowWalked ctx es.items before mid own list_of =
    subst (λ l. IsRowWalked ctx l before mid own list_of) h.2 c.in_ok-own.ensures in
    returns_one ctx before mid (kept_in c.note_one.new.parts) c.note_one.result term
    (placed_all_types ctx es.items) own (
      list_results ctx term es h.1 ∙ ap singly (sym (list_type_is ctx term es h.1)),
      row_placed ctx
          term es (inl h.1),
    )
    (w.0 ∙ (sym (list_is (map (type_of ctx) es.items)) ∙ sym (list_type_is ctx term es h.1))) w.1
    c.note_one.ensures.same c.note_one.ensures.noted

pub walk_given-returns : goal.walk_given-returns
walk_given-returns t c = λ h.
    let env = c.args.env.now in
    let ctx = context_in env in
    let term = c.args.term.now in
    let es = h.0 in
    let before = kept_in c.args.parts.now in
    let mid = kept_in c.walk_row.new.parts in
    let given = option_map row_in c.in_ok-given.given in
    let of = given_of (calls_in env) ctx term in
    let w : IsRowWalked ctx es.items before mid given of =
    subst (λ l. IsRowWalked ctx l before mid given of) h.2 c.in_ok-given.ensures in
    returns_given ctx before mid (kept_in c.note_given.new.self) (calls_in env)
    c.note_given.result term es given (calls_are env) h.1 w.0 w.1 c.note_given.ensures.one
    c.note_given.ensures.noted

pub walk_single-returns : goal.walk_single-returns
walk_single-returns t c = λ h.
    let ctx = context_in c.args.env.now in
    let term = c.args.term.now in
    let e = h.0 in
    let is = h.1 in
    let before = kept_in c.args.parts.now in
    let mid = kept_in c.walk.new.parts in
    let operand = option_map view_type c.in_ok-operand.operand in
    let w : IsWalked ctx e.value before mid operand =
    subst (λ x. IsWalked ctx x before mid operand) h.2 c.in_ok-operand.ensures in
    returns_one ctx before mid (kept_in c.note_one.new.parts) c.note_one.result term
    (placed_types ctx e.value) (option_map view_type c.in_ok-own.own)
    (single_result ctx term e is)
    (c.in_ok-own.ensures ∙ ap (λ o. o >>= one_type ctx term) w.0 ∙ single_from ctx term e is)
    w.1 c.note_one.ensures.same c.note_one.ensures.noted

pub walk_pair-returns : goal.walk_pair-returns
walk_pair-returns t c = λ h.
    let ctx = context_in c.args.env.now in
    let term = c.args.term.now in
    let a = h.0 in
    let b = h.1 in
    let is = h.2 in
    let before = kept_in c.args.parts.now in
    let first = kept_in c.walk.new.parts in
    let second = kept_in c.walk-2.new.parts in
    let right = option_map view_type c.in_ok-right.right in
    let left = option_map view_type c.in_ok-left.left in
    let wb : IsWalked ctx b.value before first right =
    subst (λ x. IsWalked ctx x before first right) h.4 c.in_ok-right.ensures in
    let wa : IsWalked ctx a.value first second left =
    subst (λ x. IsWalked ctx x first second left) h.3 c.in_ok-left.ensures in
    returns_one ctx before second (kept_in c.note_one.new.parts) c.note_one.result term
    (placed_types ctx a.value ++ placed_types ctx b.value) (option_map view_type c.in_ok-own.own)
    (pair_result ctx term a b is)
    (c.in_ok-own.ensures ∙ pair_type ctx term a b left right is wa.0 wb.0)
    (further before first second (placed_types ctx a.value) (placed_types ctx b.value) wb.1 wa.1)
    c.note_one.ensures.same c.note_one.ensures.noted

pub walk_choice-returns : goal.walk_choice-returns
walk_choice-returns t c = λ h.
    let ctx = context_in c.args.env.now in
    let term = c.args.term.now in
    let z = h.0 in
    let a = h.1 in
    let b = h.2 in
    let is = h.3 in
    let before = kept_in c.args.parts.now in
    let first = kept_in c.walk.new.parts in
    let second = kept_in c.walk-2.new.parts in
    let third = kept_in c.walk-3.new.parts in
    let right = option_map view_type c.in_ok-right.right in
    let left = option_map view_type c.in_ok-left.left in
    let condition = option_map view_type c.in_ok-condition.condition in
    let wb : IsWalked ctx b.value before first right =
    subst (λ x. IsWalked ctx x before first right) h.6 c.in_ok-right.ensures in
    let wa : IsWalked ctx a.value first second left =
    subst (λ x. IsWalked ctx x first second left) h.5 c.in_ok-left.ensures in
    let wc : IsWalked ctx z.value second third condition =
    subst (λ x. IsWalked ctx x second third condition) h.4 c.in_ok-condition.ensures in
    returns_one ctx before third (kept_in c.note_one.new.parts) c.note_one.result term
    (placed_types ctx z.value ++ (placed_types ctx a.value ++ placed_types ctx b.value))
    (option_map view_type c.when_truth-own.result) (choice_result ctx term z a b is)
    (c.when_truth-own.ensures ∙ ap (when_truth condition) c.common_type.ensures
    ∙ ap (λ o. when_truth o (when_both left right common_type)) wc.0
    ∙ ap (λ o. when_truth (type_of ctx z.value) (when_both o right common_type)) wa.0
    ∙ ap (λ o. when_truth (type_of ctx z.value) (when_both (type_of ctx a.value) o common_type))
    wb.0
    ∙ choice_type ctx term z a b is)
    (further before second third (placed_types ctx z.value)
    (placed_types ctx a.value ++ placed_types ctx b.value)
    (further before first second (placed_types ctx a.value) (placed_types ctx b.value) wb.1 wa.1)
    wc.1)
    c.note_one.ensures.same c.note_one.ensures.noted

-- ## Terms

pub walk-returns-in-Group : goal.walk-returns-in-Group
walk-returns-in-Group t c =
    let before = kept_in c.args.parts.now in
    returns_group (context_in c.args.env.now) before before (kept_in c.walk.new.parts)
    c.walk.result c.args.term.now c.deref.result.now c.in-Group.e c.in-Group.is c.deref.ensures
    c.walk.ensures

pub walk-returns-in-Unary : goal.walk-returns-in-Unary
walk-returns-in-Unary t c =
    c.walk_single.ensures (c.in-Unary.e, c.in-Unary.is, c.deref-in-Unary.ensures)

pub walk-returns-in-Binary : goal.walk-returns-in-Binary
walk-returns-in-Binary t c =
    let b = c.in-Binary in
    c.walk_pair.ensures (b.a, b.b, b.is, c.deref-in-Binary.ensures, c.deref-in-Binary-2.ensures)

pub walk-returns-in-If : goal.walk-returns-in-If
walk-returns-in-If t c =
    let i = c.in-If in
    c.walk_choice.ensures (
      i.c,
      i.a,
      i.b,
      i.is,
      c.deref-in-If.ensures,
      c.deref-in-If-2.ensures,
      c.deref-in-If-3.ensures,
    )

pub walk-returns-in-Array : goal.walk-returns-in-Array
walk-returns-in-Array t c =
    c.walk_array.ensures (c.in-Array.terms, c.in-Array.is, c.deref-in-Array.ensures.value)

pub walk-returns-in-AtMostOne : goal.walk-returns-in-AtMostOne
walk-returns-in-AtMostOne t c =
    let row = c.in-AtMostOne in
    c.walk_given.ensures (row.terms, row.is, c.deref-in-AtMostOne.ensures.value)
