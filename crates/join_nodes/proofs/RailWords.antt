-- The words that the rounds leave, over the parts of a type's edges and the planes of gates, are those of the type, and so are the rounds:
-- the links of the
-- edges that are on are the type's links, since tags conduct nothing. Assumes nothing.
use Prim.Native.Nat.{ℕ, ◌/◌, ◌%◌, ◌<◌, max}
use native.Mathlib.Omega.{arith}
use mathlib.Core.Path.{◌≡◌, sym, ap, ap₂, subst, fun_ext, ◌∙◌}
use mathlib.Core.List.{List, map}
use lib.ListN.{length, get_or, length-map, get_or-map}
use Rattle.words.specs.Bits.{bit, of_bool, greatest_to}
use Rattle.words.specs.Each.{word_of_each}
use Rattle.words.proofs.Laws.{set-bit, bit-set}
use Rattle.words.proofs.Greatest.{greatest_cong, greatest_of_both}
use Rattle.words.proofs.EachLaws.{each_at, is_four}
use Rattle.switch.specs.Conduction.{channel_by, Edge, Link, Switching, edge_on, links}
use Rattle.switch.specs.Modules.{ModuleType}
use Rattle.switch.specs.Depth.{depth, deepest}
use Rattle.switch.specs.Records.{by_planes}
use Rattle.switch.specs.Tags.{untagged}
use Rattle.switch.specs.Promises.{rail_words, four_rail_words, rounds_under, four_rounds, rails_of}
use Rattle.switch.proofs.Paths.{OnAt, links-among}
use Rattle.switch.proofs.Tags.{tags_conduct_nothing}
use Rattle.join_nodes.specs.Model.{no_parts, edge_with_parts, PartsFit, WidePlanes, gate_word, OnLink, LinksAre, joined_words, WideJoined}
use Rattle.join_nodes.specs.declared.edges.Parts.{Parts}
use Rattle.switch.specs.declared.Rails.{Rails}
use Rattle.join_nodes.proofs.GatePlanes.{bit-plane_of}

-- the links of a type under vector v, by word w of the planes of its labels
abbrev links_under : List ℕ → List ℕ → ℕ → ModuleType → ℕ → ℕ → List Link
links_under ones zeros width t w v = links (by_planes (word_of_each width w 12 ones) (word_of_each width w 12 zeros) v) t.edges

module _ (parts : List Parts) where
  abbrev edge : ℕ → Edge
  edge i = edge_with_parts (get_or parts i no_parts)

  abbrev edges : List Edge
  edges = map edge_with_parts parts

  -- where the words tell which edges are on, the links of the edges with these parts are those that are on
  module _ (on : ℕ → ℕ) (switched : ℕ → Switching)
      (tells : (v i : ℕ) → v < 64 → i < length parts → bit (on i) v ≡ of_bool (edge_on (switched v) (edge i))) where
    module _ (v : ℕ) (vector : v < 64) (u : Link) where
      is_edge_lem : (i : ℕ) → get_or edges i (edge_with_parts no_parts) ≡ edge i
      is_edge_lem i = get_or-map edge_with_parts parts i no_parts

      in_parts : OnAt (switched v) edges (edge_with_parts no_parts) u → OnLink parts on v u
      unfolding edge_with_parts
      in_parts a =
          let within : a.place < length parts = omega (arith, a.within, length-map parts edge_with_parts) in
          let same = is_edge_lem a.place in
          record {
            place = a.place;
            within = within;
            is_on = tells v a.place vector within ∙ bit-set (edge_on (switched v) (edge a.place)) (rw same at a.is_on);
            ends = rw same at a.ends;
          }

      in_edges : OnLink parts on v u → OnAt (switched v) edges (edge_with_parts no_parts) u
      unfolding edge_with_parts
      in_edges a =
          let same = is_edge_lem a.place in
          record {
            place = a.place;
            within = omega (arith, a.within, length-map parts edge_with_parts);
            is_on = rw same (set-bit (edge_on (switched v) (edge a.place)) (sym (tells v a.place vector a.within) ∙ a.is_on));
            ends = rw same a.ends;
          }

    pub links_are : LinksAre parts on (λ (v : ℕ). links (switched v) edges)
    links_are v h u =
        let among = links-among (switched v) edges (edge_with_parts no_parts) u in
        (λ m. in_parts v h u (among.0 m), λ a. among.1 (in_edges v h u a))

  -- the planes of gates tell which edges are on
  module _ {ones zeros planes : List ℕ} {width nodes : ℕ} (fit : PartsFit parts nodes) (wide : WidePlanes ones zeros width planes)
      (w : ℕ) (h : w < width) where
    abbrev ones_w : List ℕ
    ones_w = word_of_each width w 12 ones

    abbrev zeros_w : List ℕ
    zeros_w = word_of_each width w 12 zeros

    pub gate_tells : (v i : ℕ) → v < 64 → i < length parts
        → bit (gate_word width w parts planes i) v ≡ of_bool (edge_on (by_planes ones_w zeros_w v) (edge i))
    unfolding edge_on edge_with_parts
    gate_tells v i k l =
        let g : ℕ = (get_or parts i no_parts).gate in
        ap (λ (x : ℕ). bit x v) (wide.each w g h (fit.gate i l)) ∙ bit-plane_of ones_w zeros_w v (channel_by (g / 16)) (g % 16)

    links_under_lem : (t : ModuleType) → map untagged t.edges ≡ edges
        → LinksAre parts (gate_word width w parts planes) (links_under ones zeros width t w)
    links_under_lem t e =
        subst (LinksAre parts (gate_word width w parts planes))
        (fun_ext (λ v. ap (links (by_planes ones_w zeros_w v)) (sym e) ∙ tags_conduct_nothing.same_links (by_planes ones_w zeros_w v) t.edges))
        (links_are (gate_word width w parts planes) (by_planes ones_w zeros_w) gate_tells)

    rail_words_lem : (rail : ℕ) (joined : List ℕ) (rounds : ℕ) → WideJoined parts planes width rail joined rounds
        → (t : ModuleType) → map untagged t.edges ≡ edges → word_of_each width w 32 joined ≡ rail_words t ones_w zeros_w rail
    unfolding joined_words rail_words
    rail_words_lem rail joined rounds are t e = are.each w h (links_under ones zeros width t w) (links_under_lem t e)

  -- four words each
  module _ {ones zeros planes : List ℕ} {nodes : ℕ} (fit : PartsFit parts nodes) (wide : WidePlanes ones zeros 4 planes) where
    four_words : (rail : ℕ) (joined : List ℕ) (rounds : ℕ) → WideJoined parts planes 4 rail joined rounds
        → (t : ModuleType) → map untagged t.edges ≡ edges → joined ≡ four_rail_words t ones zeros rail
    unfolding four_rail_words
    four_words rail joined rounds are t e =
        is_four 32 (λ (w : ℕ). rail_words t (word_of_each 4 w 12 ones) (word_of_each 4 w 12 zeros) rail) joined are.long (λ m w h k.
        sym (each_at 4 w 32 joined m h) ∙ ap (λ (words : List ℕ). get_or words m 0) (rail_words_lem fit wide w k rail joined rounds are t e))

    -- the greater of the two rails' rounds
    four_rounds_lem : (to_supply to_ground : List ℕ) (supply_rounds ground_rounds : ℕ)
        → WideJoined parts planes 4 1 to_supply supply_rounds → WideJoined parts planes 4 0 to_ground ground_rounds
        → (t : ModuleType) → map untagged t.edges ≡ edges → max supply_rounds ground_rounds ≡ four_rounds t ones zeros
    unfolding four_rounds rounds_under deepest
    four_rounds_lem to_supply to_ground supply_rounds ground_rounds s g t e =
        let from : ℕ → ℕ → ℕ → ℕ = λ (rail w v : ℕ). depth (links_under ones zeros 4 t w v) rail in
        let are : (w : ℕ) → w < 4 → LinksAre parts (gate_word 4 w parts planes) (links_under ones zeros 4 t w)
        = λ w h. links_under_lem fit wide w h t e in
        ap₂ max (s.rounds_are (links_under ones zeros 4 t) are) (g.rounds_are (links_under ones zeros 4 t) are)
        ∙ sym (greatest_of_both 4 (λ (w : ℕ). greatest_to 64 (from 1 w)) (λ (w : ℕ). greatest_to 64 (from 0 w)))
        ∙ greatest_cong 4 _ _ (λ w h. sym (greatest_of_both 64 (from 1 w) (from 0 w)))

    pub rails_told : (to_supply to_ground : List ℕ) (supply_rounds ground_rounds rounds : ℕ) → rounds ≡ max supply_rounds ground_rounds
        → WideJoined parts planes 4 1 to_supply supply_rounds → WideJoined parts planes 4 0 to_ground ground_rounds
        → (t : ModuleType) → map untagged t.edges ≡ edges
        → ◌≡◌ {A = Rails} (record { supply = to_supply; ground = to_ground; rounds = rounds }) (rails_of t ones zeros)
    rails_told to_supply to_ground supply_rounds ground_rounds rounds greater s g t e =
        rw (
          greater,
          four_words 1 to_supply supply_rounds s t e,
          four_words 0 to_ground ground_rounds g t e,
          four_rounds_lem to_supply
              to_ground supply_rounds ground_rounds s g t e,
        )
