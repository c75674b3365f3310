-- The meaning of an environment of the code for types.
-- This file says what data of the program mean; no definition of the language stands on it.
use Rattle.lb_check.specs.TermTypes.{Context, context_of}
use Rattle.lb_check.specs.declared.type_env.TypeEnv.{TypeEnv}

-- the context of an environment: the meaning of the numbers of its specialization
abbrev pub context_in : TypeEnv → Context
context_in s =
    context_of s.reached.now s.table.now s.node.now s.specialization.now
