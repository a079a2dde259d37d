-- The tag that an edge came with conducts nothing (specs/Tags). Assumes nothing.
use Prim.Native.Nat.{◌^◌}
use mathlib.Core.Path.{◌≡◌, refl, ap, fun_ext}
use mathlib.Core.Bool.{cond}
use mathlib.Core.List.{List, [], ◌∷◌, map}
use Rattle.switch.specs.Conduction.{Edge, Switching, by_values, edge_on, Link, links}
use Rattle.switch.specs.Modules.{ModuleType, links_of, setting_of}
use Rattle.switch.specs.Deciding.{all_below, one_rail, is_complementary}
use Rattle.switch.specs.Tags.{untagged, untagged_type, TagsConductNothing}

same_links : (on : Switching) (es : List Edge) → links on (map untagged es) ≡ links on es
unfolding links edge_on untagged
same_links on [] = refl
same_links on (e ∷ es) = ap (λ (rest : List Link). cond (edge_on on e) ((e.first, e.second) ∷ rest) rest) (same_links on es)

same_verdict : (t : ModuleType) → is_complementary (untagged_type t) ≡ is_complementary t
unfolding is_complementary one_rail links_of untagged_type
same_verdict t = ap (all_below (2 ^ t.labels)) (fun_ext (λ s. rw (same_links (by_values (setting_of s)) t.edges) refl))

pub tags_conduct_nothing : TagsConductNothing
tags_conduct_nothing = record { same_links = same_links; same_verdict = same_verdict }
