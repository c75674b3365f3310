-- A checked program: what is known of it.
-- This file says what data of the program mean; no definition of the language stands on it.
use Rattle.std.specs.Prelude.{◌≡◌, None}
use Rattle.lb_static.specs.Elaborated.{elaborated_program, IsLawful}
use Rattle.lb_check.specs.Acceptance.{check_refusal}
use Rattle.lb_check.specs.FoundTerms.{HasFoundClocks, HasFoundTypes}
use Rattle.lb_check.specs.declared.checked.Checking.{Checking}

-- a checked program breaks no rule of types, clocks and definitions, and what is found of its terms
-- is right
pub record IsChecked (c : Checking) : Type 0 where
  pub elaborated : IsLawful c.elab
  pub accepted : check_refusal (elaborated_program c.elab) ≡ None
  pub clocks :
      HasFoundClocks (elaborated_program c.elab) c.elab.reached c.elab.table c.clocks.items
  pub types : HasFoundTypes (elaborated_program c.elab) c.elab.reached c.elab.table c.types
