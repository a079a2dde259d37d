-- One law on what switches on: where every transistor that is on stays on, what is joined stays joined, and what is marked stays marked. What is surely
-- on is possibly on, so the same holds of the two. Assumes nothing.
use Prim.Native.Nat.{ℕ, zero, suc, ◌-◌, ◌<◌}
use native.Mathlib.Nat.{not-suc-le-zero, le_of_suc-le-suc}
use native.Mathlib.Omega.{arith}
use mathlib.Core.Path.{◌≡◌, refl, ap, ◌∙◌}
use mathlib.Core.Bool.{Bool, true, false, not}
use mathlib.Core.Logic.{◌⊎◌, inl, inr}
use mathlib.Core.List.Memᴰ
use mathlib.Core.List.{List, [], ◌∷◌, ◌++◌, map}
use lib.Dec.{T}
use lib.ListN.{length, get_or}
use Rattle.words.specs.Bits.{bit}
use Rattle.words.proofs.Laws.{bit_not}
use Rattle.switch.specs.Conduction.{Value, at0, at1, at_x, Channel, channel_p, channel_n, Edge, transistor_on, Switching}
use Rattle.switch.specs.Conduction.{edge_on, links, Link, Among, Joined}
use Rattle.switch.specs.Statements.{Within, MoreOnMoreJoined, WordAt, Excluding, possibly, SureIsPossible}
use Rattle.switch.specs.Records.{is_set, complement, by_planes}
use Rattle.switch.proofs.Paths.{more-links, links-more}

module _ (on more : Switching) (within : Within on more) where
  edge_stays : (e : Edge) → T (edge_on on e) → T (edge_on more e)
  unfolding edge_on
  edge_stays e t = within e.channel e.label t

  link_stays : (es : List Edge) (w : Link) → Among w (links on es) → Among w (links more es)
  link_stays es = links-more on more es edge_stays

  module _ (es : List Edge) (closed also : List Link) (kept : (w : Link) → Among w closed → Among w also) where
    either_stays : (w : Link) → Among w closed ⊎ Among w (links on es) → Among w (also ++ links more es)
    either_stays w (inl k) = Memᴰ.append_left (links more es) (kept w k)
    either_stays w (inr k) = Memᴰ.append_right also (link_stays es w k)

    beside_stays : (a b : ℕ) → Joined (closed ++ links on es) a b → Joined (also ++ links more es) a b
    beside_stays =
        more-links (closed ++ links on es) (also ++ links more es) (λ w k. either_stays w (Memᴰ.append_cases closed k))

pub more_on_more_joined : MoreOnMoreJoined
more_on_more_joined on more within = record {
  edge = edge_stays on more within;
  joining = λ es. beside_stays on more within es [] [] (λ w k. k);
  beside = beside_stays on more within;
}

-- ---- sure and possible

one_channel_on : (v : Value) → T (transistor_on channel_p v) → T (transistor_on channel_n v) → ⊥
unfolding transistor_on
one_channel_on at0 p n = n
one_channel_on at1 p n = p
one_channel_on at_x p n = p

not_both : (a b : Bool) → (T a → T b → ⊥) → T a → T (not b)
not_both a true never t = never t tt
not_both a false never t = tt

sure_within : (on : Switching) → Excluding on → Within on (possibly on)
unfolding possibly
sure_within on never channel_p l t = not_both (on channel_p l) (on channel_n l) (never l) t
sure_within on never channel_n l t = not_both (on channel_n l) (on channel_p l) (λ n p. never l p n) t

-- ---- by planes

complement-at : (words : List ℕ) (l : ℕ) → l < length words → get_or (map complement words) l 0 ≡ complement (get_or words l 0)
complement-at [] l h = absurd (not-suc-le-zero h)
complement-at (w ∷ ws) zero h = refl
complement-at (w ∷ ws) (suc l) h = complement-at ws l (le_of_suc-le-suc h)

set_or_not : (b : ℕ) → is_set (1 - b) ≡ not (is_set b)
unfolding is_set
set_or_not zero = refl
set_or_not (suc b) = let none : 1 - suc b ≡ 0 = omega arith in rw none

turned_bit : (words : List ℕ) (v l : ℕ) → v < 64 → WordAt words l
    → is_set (bit (get_or (map complement words) l 0) v) ≡ not (is_set (bit (get_or words l 0) v))
turned_bit words v l h at =
    ap (λ (w : ℕ). is_set (bit w v)) (complement-at words l at.0)
    ∙ ap is_set (bit_not 64 (get_or words l 0) v at.1 h)
    ∙ set_or_not (bit (get_or words l 0) v)

possibly-by-planes : (ones zeros : List ℕ) (v : ℕ) → v < 64 → (c : Channel) (l : ℕ) → WordAt ones l → WordAt zeros l
    → by_planes (map complement zeros) (map complement ones) v c l ≡ possibly (by_planes ones zeros v) c l
unfolding by_planes possibly
possibly-by-planes ones zeros v h channel_p l in_ones in-zeros = turned_bit ones v l h in_ones
possibly-by-planes ones zeros v h channel_n l in_ones in-zeros = turned_bit zeros v l h in-zeros

pub sure_is_possible : SureIsPossible
sure_is_possible = record {
  values_exclude = λ values l. one_channel_on (values l);
  possible = λ on never. more_on_more_joined on (possibly on) (sure_within on never);
  by_planes_lem = possibly-by-planes;
}
