-- 01's reading by groups and today's, field by field: as long as no limit of 01 is passed, each test tells the same and each type has the edges of its groups
-- (specs/SingleTransistors). Assumes nothing.
use Prim.Native.Nat.{ℕ, zero, suc, ◌+◌, ◌-◌, ◌*◌, ◌≤◌, ◌<◌}
use mathlib.Core.Path.{◌≡◌, refl, sym, ap, ◌∙◌}
use mathlib.Core.Bool.{Bool, true, false, cond, not, ◌&&◌, ◌||◌}
use mathlib.Core.Logic.{◌⊎◌, inl, inr}
use mathlib.Core.List.{List, [], ◌∷◌, ◌++◌, map, map-append, append_assoc, append-nil}
use native.Mathlib.Decide.{dec_lt}
use native.Mathlib.Omega.{arith}
use borrow.Author.Tests.{leb-false, le-ltb}
use lib.Dec.{leb, ltb}
use lib.ListN.{length, get_or, drop, set, length-append, length-map, length-set, get_or-eq_default}
use lib.Seq.{get_or-append_seam, get_or-set_same}
use Rattle.switch.specs.Conduction.{EdgeTag, by_position, stated, Edge, edges_for, channel_of, between, bad_ends}
use Rattle.switch.specs.Modules.{ModuleType, most_edges}
use Rattle.switch.specs.Deciding.{is_complementary}
use Rattle.switch.specs.Grouped.{Group, of_groups}
use Rattle.switch.proofs.Channels.{in_between}
use Rattle.circuit.specs.Fields.{Field, Cut, clean, broken, field}
use Rattle.circuit.specs.Circuit.{no_type}
use Rattle.circuit.specs.Order.{Tag, inputs_tag, type_tag, edge_tag, bridge_tag, instance_tag, vector_tag, no_tag, tag_of, is_kind, is_edge, edge_tag_of, is_unknown}
use Rattle.circuit.specs.Known.{Known, known_after, latest, type_in, edges_told, edges_in, with_edges, edges_added, taken}
use Rattle.circuit.specs.Table.{Verdict, passes, refused_at, first_of, misplaced, unjudged, not_complementary, edges_in_range, body_tests, field_tests, end_tests}
use Rattle.circuit.specs.Table.{edge_tests, edge_tests_of}
use Rattle.circuit.specs.Reading.{Reading, accepted, refusal, unless, read_from}
use Rattle.circuit.proofs.OrderLaws.{edge-is}
use Rattle.circuit.proofs.Verdicts.{first_passes}
use Rattle.circuit.proofs.TypeLaws.{accepts, BytesPass, edges-pass, length_edges_in}
use Rattle.demands.specs.SingleTransistors.{most_groups, group_in, groups_complementary, GroupsKnown, latest_groups, group_added, groups_with, groups_after, group_tests, groups_failing}
use Rattle.demands.specs.SingleTransistors.{groups_field_tests, groups_end_tests, GroupsReading, accepted_with, refused_with, unless_refused, groups_read_from, FieldOf}
use Rattle.demands.proofs.GroupsGrade.{Aligned, edges_at, complementary_alike}

-- ---- what is known by both

-- the types have the edges of their groups, and the latest no more than four for each of its groups
pub record Along (types : List ModuleType) (groups : List (List Group)) : Type 0 where
  pub aligned : Aligned types groups
  pub few : length (latest types).edges ≤ 4 * length (latest_groups groups)

module _ (types : List ModuleType) (groups : List (List Group)) (along : Along types groups) where
  same_count : length types ≡ length groups
  same_count = sym (length-map types (λ (t : ModuleType). t.edges)) ∙ ap length along.aligned ∙ length-map groups of_groups

  latest_edges : (latest types).edges ≡ of_groups (latest_groups groups)
  unfolding latest latest_groups
  latest_edges = edges_at types groups along.aligned (length types - 1) ∙ ap (λ (n : ℕ). of_groups (get_or groups (n - 1) [])) same_count

  -- number 9 tells the same
  latest_complementary : groups_complementary (latest types) (latest_groups groups) ≡ is_complementary (latest types)
  latest_complementary = complementary_alike (latest types) (latest_groups groups) latest_edges

-- ---- a field more

map-set : {A B : Type 0} (f : A → B) (l : List A) (i : ℕ) (a : A) → map f (set l i a) ≡ set (map f l) i (f a)
map-set f [] i a = refl
map-set f (b ∷ l) zero a = refl
map-set f (b ∷ l) (suc i) a = ap (λ (m : List _). f b ∷ m) (map-set f l i a)

of_more : (gs hs : List Group) → of_groups (gs ++ hs) ≡ of_groups gs ++ of_groups hs
unfolding of_groups
of_more [] hs = refl
of_more (g ∷ gs) hs =
    let es = edges_for g.first g.second g.channel g.labels in
    ap (λ (l : List Edge). es ++ l) (of_more gs hs) ∙ sym (append_assoc es (of_groups gs) (of_groups hs))

of_group : (o : ℕ) (body : List ℕ) → of_groups (group_in o body ∷ []) ≡ edges_in by_position o body
unfolding of_groups group_in edges_in
of_group o body = append-nil (edges_for (get_or body 0 0) (get_or body 1 0) (channel_of o (get_or body 0 0) (get_or body 1 0)) (drop 2 body))

-- the last of a list, as an element was put behind it, or in its place
last_snoc : {A : Type 0} (l : List A) (a d : A) → get_or (l ++ (a ∷ [])) (length (l ++ (a ∷ [])) - 1) d ≡ a
last_snoc l a d =
    let n : length (l ++ (a ∷ [])) - 1 ≡ length l = omega (arith, length-append l (a ∷ [])) in rw n (get_or-append_seam l a [] d)

last_set : {A : Type 0} (l : List A) (a d : A) → 0 < length l → get_or (set l (length l - 1) a) (length (set l (length l - 1) a) - 1) d ≡ a
last_set l a d h = rw (length-set l (length l - 1) a) (get_or-set_same l (length l - 1) a d (omega arith))

module _ (k : GroupsKnown) (along : Along k.known.circuit.types k.groups) (body : List ℕ) where
  abbrev types : List ModuleType
  types = k.known.circuit.types

  abbrev groups : List (List Group)
  groups = k.groups

  type_more : Along (types ++ (type_in body ∷ [])) (groups ++ ([] ∷ []))
  unfolding latest latest_groups type_in of_groups
  type_more = record {
    aligned = map-append (λ (t : ModuleType). t.edges) types (type_in body ∷ []) ∙ ap (λ (l : List (List Edge)). l ++ ([] ∷ [])) along.aligned ∙ sym (map-append of_groups groups ([] ∷ []));
    few = rw (last_snoc types (type_in body) no_type, last_snoc groups [] []) (omega arith);
  }

  abbrev group : Group
  group = group_in (latest types).output body

  abbrev edges : List Edge
  edges = edges_in by_position (latest types).output body

  more_edges : (latest types).edges ++ edges ≡ of_groups (latest_groups groups ++ (group ∷ []))
  more_edges =
      ap (λ (l : List Edge). l ++ edges) (latest_edges types groups along)
      ∙ ap (λ (l : List Edge). of_groups (latest_groups groups) ++ l) (sym (of_group (latest types).output body))
      ∙ sym (of_more (latest_groups groups) (group ∷ []))

  edges_aligned : Aligned (edges_added types edges) (group_added groups group)
  unfolding edges_added group_added with_edges
  edges_aligned =
      let at = length types - 1 in
      let both = (latest types).edges ++ edges in
      map-set (λ (t : ModuleType). t.edges) types at (with_edges (latest types) edges)
      ∙ ap (λ (l : List (List Edge)). set l at both) along.aligned
      ∙ ap (λ (n : ℕ). set (map of_groups groups) (n - 1) both) (same_count types groups along)
      ∙ ap (λ (es : List Edge). set (map of_groups groups) (length groups - 1) es) more_edges
      ∙ sym (map-set of_groups groups (length groups - 1) (latest_groups groups ++ (group ∷ [])))

  edges_few : length body ≤ 6 → Dec (0 < length types) → length (latest (edges_added types edges)).edges ≤ 4 * length (latest_groups (group_added groups group))
  unfolding latest latest_groups edges_added group_added with_edges edges_told
  edges_few short (yes h) =
      let some : 0 < length groups = omega (arith, same_count types groups along) in
      rw (last_set types (with_edges (latest types) edges) no_type h, last_set groups (latest_groups groups ++ (group ∷ [])) [] some)
      (omega (arith, along.few, length-append (latest types).edges edges, length_edges_in by_position (latest types).output body, length-append (latest_groups groups) (group ∷ [])))
  edges_few short (no h) =
      let t = with_edges (latest types) edges in
      let none : length (set types (length types - 1) t) ≡ 0 = omega (arith, length-set types (length types - 1) t) in
      rw (get_or-eq_default (set types (length types - 1) t) no_type {n = length (set types (length types - 1) t) - 1} (omega arith)) (omega arith)

  -- an edge field that both take has tag 3
  pub along_after : (tag : Tag) → (is_edge tag ≡ true → (tag ≡ edge_tag by_position) × (length body ≤ 6))
      → Along (taken tag k.known.circuit body).types (groups_with tag k body)
  unfolding taken groups_with is_kind is_edge
  along_after inputs_tag short = along
  along_after type_tag short = type_more
  along_after (edge_tag by_position) short = record { aligned = edges_aligned; few = edges_few (short refl).1 (dec_lt 0 (length types)) }
  along_after (edge_tag stated) short = let other = (short refl).0 in let z : ◌≡◌ {A = ℕ} 0 1 = cc in absurd (omega arith)
  along_after bridge_tag short = along
  along_after instance_tag short = along
  along_after vector_tag short = along
  along_after no_tag short = along

-- ---- the tests

-- of fields that are no edges the same are unknown
unknown_alike : (tag : Tag) → is_edge tag ≡ false → (is_unknown tag || is_kind (edge_tag stated) tag) ≡ is_unknown tag
unfolding is_kind is_edge
unknown_alike inputs_tag e = refl
unknown_alike type_tag e = refl
unknown_alike (edge_tag t) e = cc
unknown_alike bridge_tag e = refl
unknown_alike instance_tag e = refl
unknown_alike vector_tag e = refl
unknown_alike no_tag e = refl

-- the number by which an edge field was refused that may not be so today: 6 with tag 3, 3 with tag 7
abbrev pub number_then : EdgeTag → ℕ
number_then by_position = 6
number_then stated = 3

module _ (k : GroupsKnown) (along : Along k.known.circuit.types k.groups) where
  failing_alike : groups_failing k ≡ not_complementary k.known.circuit.types
  unfolding groups_failing not_complementary
  failing_alike = ap not (latest_complementary k.known.circuit.types k.groups along)

  -- a field that is no edge has the tests that it had
  field_alike : (f : Field) → is_edge (tag_of f.tag) ≡ false → groups_field_tests k f ≡ field_tests k.known f
  unfolding groups_field_tests field_tests
  field_alike f e = rw (unknown_alike (tag_of f.tag) e, e, failing_alike)

  pub end_alike : (size : ℕ) → groups_end_tests k size ≡ end_tests true k.known size
  unfolding groups_end_tests end_tests
  end_alike size = rw failing_alike

-- of an edge's tests only 6 differs: where it refuses by neither rule, or something before it refuses, the verdict is the same
edge_verdicts : (asked misplaced-tag nine five old new : Bool) (at type_at : ℕ) (other : Bool) (later : Verdict) → (five ≡ false → old ≡ false → new ≡ false)
    → let verdict : Bool → Bool → Verdict = λ failing six.
    cond misplaced-tag (refused_at 4 at) (cond (cond (asked && false) failing false) (refused_at 9 type_at) (cond five (refused_at 5 at) (cond six (refused_at 6 at) later))) in
    (verdict nine new ≡ verdict other old) ⊎ (verdict other old ≡ refused_at 6 at)
edge_verdicts asked true nine five old new at type_at other later h = inl refl
edge_verdicts true false nine true old new at type_at other later h = inl refl
edge_verdicts false false nine true old new at type_at other later h = inl refl
edge_verdicts true false nine false true new at type_at other later h = inr refl
edge_verdicts false false nine false true new at type_at other later h = inr refl
edge_verdicts true false nine false false new at type_at other later h = inl (rw (h refl refl))
edge_verdicts false false nine false false new at type_at other later h = inl (rw (h refl refl))

module _ (k : GroupsKnown) (along : Along k.known.circuit.types k.groups) (f : Field) where
  abbrev before : Known
  before = k.known

  -- an edge field that is not one too many by 01's rule is not so by today's
  fits_still : not (between 3 6 (length f.body)) ≡ false → leb most_groups (length (latest_groups k.groups)) ≡ false
      → ltb most_edges (length (latest before.circuit.types).edges + (length f.body - 2)) ≡ false
  fits_still five old =
      let size = in_between 3 6 (length f.body) (accepts (between 3 6 (length f.body)) five) in
      let few = leb-false most_groups (length (latest_groups k.groups)) old in
      le-ltb most_edges (length (latest before.circuit.types).edges + (length f.body - 2)) (omega (arith, along.few, size.1))

  abbrev Alike : Type 0
  Alike = (first_of (field_tests before f) ≡ first_of (groups_field_tests k f))
      ⊎ ((tag : EdgeTag) × (tag_of f.tag ≡ edge_tag tag) × (first_of (groups_field_tests k f) ≡ refused_at (number_then tag) f.at))

  pub pass_refused : tag_of f.tag ≡ edge_tag stated → first_of (groups_field_tests k f) ≡ refused_at 3 f.at
  unfolding groups_field_tests is_kind first_of
  pass_refused e = rw e refl

  edge_alike : tag_of f.tag ≡ edge_tag by_position → Alike
  unfolding field_tests groups_field_tests group_tests body_tests edge_tests edge_tests_of edges_told is_kind is_edge first_of
  edge_alike e =
      let t = latest before.circuit.types in
      rw e
      (told
      (edge_verdicts (unjudged before.previous) (misplaced before.previous (edge_tag by_position)) (not_complementary before.circuit.types) (not (between 3 6 (length f.body)))
      (leb most_groups (length (latest_groups k.groups))) (ltb most_edges (length t.edges + (length f.body - 2))) f.at before.type_at
      (groups_failing k)
      (cond (not (edges_in_range t.highest t.labels f.body)) (refused_at 7 f.at)
      (cond (bad_ends t.highest t.output (get_or f.body 0 0) (get_or f.body 1 0)) (refused_at 8 f.at) passes))
      fits_still))
    where
      told : {A : Type 0} {v : Verdict} → A ⊎ (v ≡ refused_at 6 f.at)
          → A ⊎ ((tag : EdgeTag) × (edge_tag by_position ≡ edge_tag tag) × (v ≡ refused_at (number_then tag) f.at))
      told (inl a) = inl a
      told (inr b) = inr (by_position, refl, b)

  pub verdict_alike : Alike
  verdict_alike = go (is_edge (tag_of f.tag)) refl
    where
      by_tag : (tag : EdgeTag) → tag_of f.tag ≡ edge_tag tag → Alike
      by_tag by_position e = edge_alike e
      by_tag stated e = inr (stated, e, pass_refused e)

      go : (b : Bool) → is_edge (tag_of f.tag) ≡ b → Alike
      go true e = by_tag (edge_tag_of (tag_of f.tag)) (edge-is (tag_of f.tag) e)
      go false e = inl (ap first_of (sym (field_alike k along f e)))

-- ---- files

-- both read the same circuit, whose types have the edges of their groups, or refuse alike
unfoldable pub ReadAlike : Reading → GroupsReading → Type 0
ReadAlike (accepted c) (accepted_with d gs) = (c ≡ d) × Aligned d.types gs
ReadAlike (accepted c) (refused_with n p) = ⊥
ReadAlike (refusal n p) (accepted_with d gs) = ⊥
ReadAlike (refusal n p) (refused_with m q) = (n ≡ m) × (p ≡ q)

-- the reading of before refuses an edge field of what is left, as one too many or for its tag
abbrev pub RefusedThen : Cut → GroupsReading → Type 0
RefusedThen cut reading =
    (f : Field) × (tag : EdgeTag) × FieldOf cut f × (tag_of f.tag ≡ edge_tag tag) × (reading ≡ refused_with (number_then tag) f.at)

by_verdict : (v : Verdict) (r : Reading) (g : GroupsReading) (cut : Cut) → (v ≡ passes → ReadAlike r g ⊎ RefusedThen cut g)
    → ReadAlike (unless v r) (unless_refused v g) ⊎ RefusedThen cut (unless_refused v g)
unfolding unless unless_refused ReadAlike
by_verdict passes r g cut later = later refl
by_verdict (refused_at number place) r g cut later = inl (refl, refl)

-- an edge field that both take has tag 3, and no more than four labels
labels-few : (k : GroupsKnown) (f : Field) → first_of (field_tests k.known f) ≡ passes → tag_of f.tag ≡ edge_tag by_position → length f.body ≤ 6
unfolding field_tests body_tests BytesPass
labels-few k f passed e =
    let three = first_passes _ _ (rw e at passed) in
    let four = first_passes _ _ three.1 in
    let nine = first_passes _ _ four.1 in
    (edges-pass by_position (latest k.known.circuit.types) f.at f.body nine.1).bytes.1

both-take : (k : GroupsKnown) (along : Along k.known.circuit.types k.groups) (f : Field) → first_of (field_tests k.known f) ≡ passes
    → first_of (groups_field_tests k f) ≡ passes → is_edge (tag_of f.tag) ≡ true → (tag_of f.tag ≡ edge_tag by_position) × (length f.body ≤ 6)
both-take k along f passed then-passed e = go (edge_tag_of (tag_of f.tag)) (edge-is (tag_of f.tag) e)
  where
    go : (tag : EdgeTag) → tag_of f.tag ≡ edge_tag tag → (tag_of f.tag ≡ edge_tag by_position) × (length f.body ≤ 6)
    go by_position is = (is, labels-few k f passed is)
    go stated is = let refused = pass_refused k along f is in let z : ◌≡◌ {A = ℕ} 0 1 = cc in absurd (omega arith)

-- a field, where what is left behind it is read alike
module _ (size : ℕ) (k : GroupsKnown) (along : Along k.known.circuit.types k.groups) (f : Field) (rest : Cut) where
  abbrev now : Reading
  now = read_from true size (known_after k.known f) rest

  abbrev then : GroupsReading
  then = groups_read_from size (groups_after k f) rest

  abbrev later : Type 0
  later = ReadAlike now then ⊎ RefusedThen rest then

  inside : later → ReadAlike now then ⊎ RefusedThen (field f rest) then
  unfolding FieldOf
  inside (inl a) = inl a
  inside (inr m) = inr (m.0, m.1, inr m.2, m.3, m.4)

  field_read : (Along (known_after k.known f).circuit.types (groups_after k f).groups → later) → Alike k along f
      → ReadAlike (unless (first_of (field_tests k.known f)) now) (unless_refused (first_of (groups_field_tests k f)) then)
      ⊎ RefusedThen (field f rest) (unless_refused (first_of (groups_field_tests k f)) then)
  unfolding known_after groups_after unless_refused FieldOf
  field_read behind (inl same) =
      rw (← same)
      (by_verdict (first_of (field_tests k.known f)) now then (field f rest)
      (λ p. inside (behind (along_after k along f.body (tag_of f.tag) (both-take k along f p (sym same ∙ p))))))
  field_read behind (inr then-refused) = rw then-refused.2 (inr (f, then-refused.0, inl refl, then-refused.1, refl))

pub read_alike : (size : ℕ) (k : GroupsKnown) → Along k.known.circuit.types k.groups → (cut : Cut)
    → ReadAlike (read_from true size k.known cut) (groups_read_from size k cut) ⊎ RefusedThen cut (groups_read_from size k cut)
unfolding read_from groups_read_from groups_after ReadAlike
read_alike size k along clean =
    rw (end_alike k along size)
    (by_verdict (first_of (end_tests true k.known size)) (accepted k.known.circuit) (accepted_with k.known.circuit k.groups) clean (λ p. inl (refl, along.aligned)))
read_alike size k along (broken at) = inl (refl, refl)
read_alike size k along (field f rest) =
    field_read size k along f rest (λ more. read_alike size (groups_after k f) more rest) (verdict_alike k along f)
