-- The used edges of a type's record are a slice of the type. Assumes nothing.
use mathlib.Core.Path.{◌≡◌, refl, sym, subst}
use lib.Dec.{T}
use native.Mathlib.Omega.{arith}
use lib.ListN.{length, take, length-take}
use Rattle.switch.specs.Modules as Modules
use Rattle.switch.specs.Modules.{most_edges}
use Rattle.switch.specs.Records.{type_of, type_with, TypeGiven, EdgesGiven}
use Rattle.switch.specs.declared.ModuleType.{ModuleType}

pub front-type : (t : ModuleType) → type_with t.highest t.output t.labels (take t.count t.edges) ≡ type_of t
unfolding type_of type_with
front-type t = refl

pub front_long : (t : ModuleType) → TypeGiven t → length t.edges ≡ most_edges → t.count ≡ length (take t.count t.edges)
front_long t g e = omega (arith, g.places, e, length-take t.count t.edges)

pub front-given : (t : ModuleType) → TypeGiven t → length t.edges ≡ most_edges → EdgesGiven t.highest t.output t.labels (take t.count t.edges)
front-given t g e = record {
  places = omega (arith, g.places, front_long t g e);
  ranges = subst (λ (m : Modules.ModuleType). T (Modules.in_range m)) (sym (front-type t)) g.ranges;
}
