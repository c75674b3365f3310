use Rattle.std.proofs.Common.{◌∙◌, refl, arith}
use Rattle.lb_machine.proofs.Building.{grown_by, word_by, either_same}
use Rattle.lb_machine.proofs.code.Code.copy_word.Goals as goal

pub push_word-requires-clause-next : goal.push_word-requires-clause-next
push_word-requires-clause-next c = (
  omega (arith, c.args.self.now.constants, c.args.self.now.more_planes),
  c.requires.word,
  c.requires.word,
  refl,
)

pub returns-clause-grown : goal.returns-clause-grown
returns-clause-grown c =
    grown_by c.args.self.now c.push_word.new.self _ c.in_ok-push_word.ensures.first_plane
    c.in_ok-push_word.ensures.first_word (omega (arith, c.in_ok-push_word.ensures.planes))
    (omega (arith, c.in_ok-push_word.ensures.words)) c.in_ok-push_word.ensures.last

pub returns-clause-word : goal.returns-clause-word
returns-clause-word c =
    word_by c.args.self.now c.push_word.new.self _ _ _
    c.in_ok-push_word.ensures.last
    (omega (arith, c.in_ok-push_word.ensures.words))
    (λ s d. d ∙ either_same (s.bits 0) (s.ints c.args.a.0))

pub returns-clause-own : goal.returns-clause-own
returns-clause-own c =
    omega (
      arith,
      c.in_ok-push_word.ensures.first_word,
      c.args.self.now.more_words,
    )
