-- Each operand of a term is smaller than the term. So the walk over a term ends.
use Rattle.lb_expand.proofs.Words.{Box, Global, IsPair, IsRow, Term, Vec, arith, inl, inr, ◌<◌, ◌≡◌}
use Rattle.lb_static.{proofs.resolved.Term.TheLaws.the_size, specs.TermForms.IsSingle}
use Rattle.lb_static.specs.declared.resolved.Term.{Group, If, TheViews.{sized-Array, sized-Arrow}}
use Rattle.lb_static.specs.declared.resolved.Term.TheViews.{sized-AtMostOne, sized-Binary}
use Rattle.lb_static.specs.declared.resolved.Term.TheViews.{sized-Call, sized-Current, sized-Fby}
use Rattle.lb_static.specs.declared.resolved.Term.TheViews.{sized-Group, sized-If, sized-Index}
use Rattle.lb_static.specs.declared.resolved.Term.TheViews.{sized-IterateNode, sized-IterateSymbol}
use Rattle.lb_static.specs.declared.resolved.Term.TheViews.{sized-Join, sized-Nor, sized-Pre}
use Rattle.lb_static.specs.declared.resolved.Term.TheViews.{sized-Replicate, sized-Slice}
use Rattle.lb_static.specs.declared.resolved.Term.TheViews.{sized-Unary, sized-When}
use denote.Param.Weighed.{most}

module _ {t : Term} where
  pub group_smaller : {e : Box Term Global} → t ≡ Group e → the_size e.value < the_size t
  group_smaller {e} is = rw is (omega (arith, sized-Group e))

  pub single_smaller : {e : Box Term Global} → IsSingle t e → the_size e.value < the_size t
  single_smaller {e} (inl (op, is)) = rw is (omega (arith, sized-Unary op e))
  single_smaller {e} (inr (inl is)) = rw is (omega (arith, sized-Pre e))
  single_smaller {e} (inr (inr (inl is))) = rw is (omega (arith, sized-Current e))
  single_smaller {e} (inr (inr (inr (inl (x, sign, is))))) =
      rw is (omega (arith, sized-When e x sign))
  single_smaller {e} (inr (inr (inr (inr (inl (n, is)))))) =
      rw is (omega (arith, sized-Replicate e n))
  single_smaller {e} (inr (inr (inr (inr (inr (inl (i, is))))))) =
      rw is (omega (arith, sized-Index e i))
  single_smaller {e} (inr (inr (inr (inr (inr (inr (i, j, is))))))) =
      rw is (omega (arith, sized-Slice e i j))

  pub pair_smaller : {a b : Box Term Global} → IsPair t a b →
      (the_size a.value < the_size t) × (the_size b.value < the_size t)
  pair_smaller {a} {b} (inl (op, is)) =
      let s = sized-Binary op a b in rw is (omega (arith, s), omega (arith, s))
  pair_smaller {a} {b} (inr (inl is)) =
      let s = sized-Arrow a b in rw is (omega (arith, s), omega (arith, s))
  pair_smaller {a} {b} (inr (inr (inl is))) =
      let s = sized-Fby a b in rw is (omega (arith, s), omega (arith, s))
  pair_smaller {a} {b} (inr (inr (inr is))) =
      let s = sized-Join a b in rw is (omega (arith, s), omega (arith, s))

  pub if_smaller : {c a b : Box Term Global} → t ≡ If c a b →
      (the_size c.value < the_size t) × (the_size a.value < the_size t)
      × (the_size b.value < the_size t)
  if_smaller {c} {a} {b} is =
      let s = sized-If c a b in rw is (omega (arith, s), omega (arith, s), omega (arith, s))

  -- the largest term of a row is smaller than the term whose row it is
  pub row_smaller : (es : Vec Term Global) → IsRow t es → most the_size es.items < the_size t
  row_smaller es (inl is) = rw is (omega (arith, sized-Array es))
  row_smaller es (inr (inl is)) = rw is (omega (arith, sized-AtMostOne es))
  row_smaller es (inr (inr (inl is))) = rw is (omega (arith, sized-Nor es))
  row_smaller es (inr (inr (inr (inl (c, is))))) = rw is (omega (arith, sized-Call c es))
  row_smaller es (inr (inr (inr (inr (inl (it, c, is)))))) =
      rw is (omega (arith, sized-IterateNode it c es))
  row_smaller es (inr (inr (inr (inr (inr (it, op, n, is)))))) =
      rw is (omega (arith, sized-IterateSymbol it op n es))
