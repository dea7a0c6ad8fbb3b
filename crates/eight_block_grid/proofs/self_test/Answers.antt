-- `eight_block_grid::self_test` meets its contract: nothing differs, so no place of a row that differs is found. Assumes nothing.
use mathlib.Core.Path.{◌≡◌, refl, sym, ◌∙◌}
use mathlib.Core.Bool.{Bool, not}
use mathlib.Core.List.{List, [], ◌∷◌}
use Rattle.std.specs.Prelude.{None}
use Rattle.std.proofs.Common.{rules, tests}
use Rattle.std.proofs.lemmas.Iterator.{YieldsList-from_slice}
use Rattle.std.proofs.lemmas.Iterator.Search.{position_from_yields_List}
use Rattle.eight_block_grid.proofs.Rows.{ten-rows}
use Rattle.eight_block_grid.proofs.Holds.{holds-1, holds-2, holds-3, holds-4, holds-5, holds-6, holds-7, holds-8, holds-9, holds-10, rounds-hold, none_differs, none-found}
use Rattle.eight_block_grid.proofs.self_test.Goals as goal

pub returns-in-Some : goal.returns-in-Some
returns-in-Some c =
    let rows : List Bool =
    c.row_1.result ∷ c.row_2.result ∷ c.row_3.result ∷ c.row_4.result ∷ c.row_5.result ∷ c.row_6.result
    ∷ c.row_7.result ∷ c.row_8.result ∷ c.row_9.result ∷ c.row_10.result ∷ c.rounds_well.result ∷ [] in
    let none : c.position.result ≡ None =
    none-found rows c.position.result
    (position_from_yields_List not _ _ c.position.result c.position.ensures.ran (YieldsList-from_slice rows cc) (λ x b q k. search (rules, tests)))
    (λ i.
    (c.row_1.ensures ∙ holds-1 ten-rows) i ∷ (c.row_2.ensures ∙ holds-2 ten-rows) i ∷ (c.row_3.ensures ∙ holds-3 ten-rows) i
    ∷ (c.row_4.ensures ∙ holds-4 ten-rows) i ∷ (c.row_5.ensures ∙ holds-5 ten-rows) i ∷ (c.row_6.ensures ∙ holds-6 ten-rows) i
    ∷ (c.row_7.ensures ∙ holds-7 ten-rows) i ∷ (c.row_8.ensures ∙ holds-8 ten-rows) i ∷ (c.row_9.ensures ∙ holds-9 ten-rows) i
    ∷ (c.row_10.ensures ∙ holds-10 ten-rows) i ∷ (c.rounds_well.ensures ∙ rounds-hold) i ∷ []) in
    absurd (cc)

pub returns-in-None : goal.returns-in-None
returns-in-None c = record { compared = sym (none_differs ten-rows); none_differs = refl }
