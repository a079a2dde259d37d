-- 02, "Pass transistors": the tag that an edge came with is recorded, and conducts nothing. An edge without its tag is the same transistor.
use Rattle.std.specs.Prelude.{◌≡◌, List, map}
use Rattle.switch.specs.Conduction.{Edge, by_position, Switching, links}
use Rattle.switch.specs.Modules.{ModuleType}
use Rattle.switch.specs.Deciding.{is_complementary}

-- the same two nodes, channel and label, as if it had come with tag 3
unfoldable pub untagged : Edge → Edge
untagged e = record { first = e.first; second = e.second; channel = e.channel; label = e.label; tag = by_position }

unfoldable pub untagged_type : ModuleType → ModuleType
untagged_type t = record { highest = t.highest; output = t.output; labels = t.labels; edges = map untagged t.edges }

-- whatever switches on, the links are the same; so is the verdict on a type
pub record TagsConductNothing : Type 0 where
  pub same_links : (on : Switching) (es : List Edge) → links on (map untagged es) ≡ links on es
  pub same_verdict : (t : ModuleType) → is_complementary (untagged_type t) ≡ is_complementary t
