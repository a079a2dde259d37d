-- `read_types::edges::labels_below` meets its contract. Assumes nothing.
use mathlib.Core.Path.{◌≡◌, refl, ◌∙◌}
use Rattle.std.proofs.Common.{ℕ, List, ltb, ◌&&◌, rules, tests}
use Rattle.std.specs.List.{list_all}
use Rattle.std.proofs.lemmas.Iterator.{YieldsList-from_slice}
use Rattle.std.proofs.lemmas.Iterator.Search.{all_from_yields_List}
use Rattle.std.proofs.lemmas.List.Recursion.{same_from_clauses}
use Rattle.switch.specs.Modules.{all_of}
use Rattle.read_types.proofs.edges.labels_below.Goals as goal

all-same : (k : ℕ) (ls : List ℕ) → list_all (λ l. ltb l k) ls ≡ all_of (λ l. ltb l k) ls
unfolding all_of
all-same k = same_from_clauses (list_all (λ l. ltb l k)) (all_of (λ l. ltb l k)) (λ l b. ltb l k && b) refl (λ l ls. refl) (λ l ls. refl)

pub returns : goal.returns
returns c =
    let ls = c.args.labels.now in
    all_from_yields_List (λ l. ltb l c.args.k) _ _ _ c.all.ensures.ran (YieldsList-from_slice ls cc) (λ x b q k. search (rules, tests))
    ∙ all-same c.args.k ls
