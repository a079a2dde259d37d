-- Groups and their edges conduct alike, so a circuit is graded by its types' groups as by their edges (specs/SingleTransistors). Assumes nothing.
use Prim.Native.Nat.{ℕ, zero, suc, ◌^◌}
use mathlib.Core.Path.{◌≡◌, refl, sym, ap, ◌∙◌, fun_ext}
use mathlib.Core.Bool.{Bool, true, false}
use mathlib.Core.List.Memᴰ
use mathlib.Core.List.{List, [], ◌∷◌, ◌++◌, map}
use lib.Dec.{T}
use lib.ListN.{length, get_or, get_or-map}
use Rattle.words.specs.Bits.{of_bool}
use Rattle.words.specs.Rows.{row_of}
use Rattle.switch.specs.Conduction.{Value, Edge, Switching, by_values, links, Link, Among, ground, supply}
use Rattle.switch.specs.Modules.{ModuleType, links_of, setting_of}
use Rattle.switch.specs.Bridges.{closing}
use Rattle.switch.specs.Deciding.{joins, all_below, one_rail, is_complementary, level_in, is_marked}
use Rattle.switch.specs.Grouped.{Group, group_links, of_groups}
use Rattle.switch.proofs.Paths.{more-links}
use Rattle.switch.proofs.Deciding.{joins_decides}
use Rattle.switch.proofs.Groups.{groups_link_alike, beside}
use Rattle.switch.proofs.Depths.{deepest-same}
use Rattle.circuit.specs.Circuit.{Circuit, Instance, numbered, no_type, type_of_instance}
use Rattle.grading.specs.Values.{label_values, outputs_after, outputs_of}
use Rattle.grading.specs.Rows.{Row, no_instance, rows_of, row_values, cell, mark_of}
use Rattle.grading.specs.Classes.{same_class, classes_by, has_mark_by, class_found_by, found_by}
use Rattle.grading.specs.Rounds.{type_at, values_at, links_at, instance_rounds, rounds_of}
use Rattle.grading.proofs.Everywhere.{Every}
use Rattle.grading.proofs.RoundLaws.{rounds_cong}
use Rattle.grading.proofs.RowsPlaced.{rows_placed}
use Rattle.demands.specs.Graders.{work_by, right_work}
use Rattle.demands.specs.SingleTransistors.{groups_complementary, instance_links, groups_outputs, groups_mark, groups_rounds, groups_work}

-- ---- what is joined

same_bool : (a b : Bool) → (T a → T b) → (T b → T a) → a ≡ b
same_bool true true f g = refl
same_bool true false f g = absurd (f tt)
same_bool false true f g = absurd (g tt)
same_bool false false f g = refl

joins-alike : (ws us : List Link) → ((w : Link) → Among w ws → Among w us) → ((w : Link) → Among w us → Among w ws) → (a b : ℕ) → joins ws a b ≡ joins us a b
joins-alike ws us f g a b =
    same_bool (joins ws a b) (joins us a b)
    (λ t. (joins_decides us a b).0 (more-links ws us f a b ((joins_decides ws a b).1 t)))
    (λ t. (joins_decides ws a b).0 (more-links us ws g a b ((joins_decides us a b).1 t)))

-- groups join what their edges join, beside whatever is closed
groups_join : (on : Switching) (gs : List Group) (closed : List Link) (a b : ℕ) → joins (closed ++ group_links on gs) a b ≡ joins (closed ++ links on (of_groups gs)) a b
groups_join on gs closed =
    let alike = groups_link_alike.same_links on gs in
    joins-alike (closed ++ group_links on gs) (closed ++ links on (of_groups gs))
    (beside closed (group_links on gs) (links on (of_groups gs)) (λ w. (alike w).0))
    (beside closed (links on (of_groups gs)) (group_links on gs) (λ w. (alike w).1))

-- ---- a type

-- a type whose edges are those of these groups
module _ (t : ModuleType) (gs : List Group) (are : t.edges ≡ of_groups gs) where
  type_joins : (values : ℕ → Value) (closed : List Link) (a b : ℕ) → joins (closed ++ group_links (by_values values) gs) a b ≡ joins (closed ++ links_of t values) a b
  unfolding links_of
  type_joins values closed a b = groups_join (by_values values) gs closed a b ∙ ap (λ (es : List Edge). joins (closed ++ links (by_values values) es) a b) (sym are)

  type_level : (values : ℕ → Value) (m : ℕ) → level_in (group_links (by_values values) gs) m ≡ level_in (links_of t values) m
  unfolding level_in
  type_level values m = rw (type_joins values [] m supply, type_joins values [] m ground)

  pub complementary_alike : groups_complementary t gs ≡ is_complementary t
  unfolding groups_complementary is_complementary one_rail
  complementary_alike =
      ap (all_below (2 ^ t.labels))
      (fun_ext (λ s. rw (type_joins (setting_of s) [] t.output ground, type_joins (setting_of s) [] t.output supply)))

-- ---- a circuit

-- the edges of each type are those of its groups
abbrev pub Aligned : List ModuleType → List (List Group) → Type 0
Aligned types groups = map (λ (t : ModuleType). t.edges) types ≡ map of_groups groups

module _ (types : List ModuleType) (groups : List (List Group)) (aligned : Aligned types groups) where
  pub edges_at : (i : ℕ) → (get_or types i no_type).edges ≡ of_groups (get_or groups i [])
  unfolding of_groups
  edges_at i =
      sym (get_or-map (λ (t : ModuleType). t.edges) types i no_type)
      ∙ ap (λ (l : List (List Edge)). get_or l i []) aligned
      ∙ get_or-map of_groups groups i []

  edges_of_lem : (n : ℕ) → (numbered types n no_type).edges ≡ of_groups (numbered groups n [])
  unfolding numbered of_groups
  edges_of_lem zero = refl
  edges_of_lem (suc n) = edges_at n

  outputs_alike : (vector outputs : List Value) (is : List Instance) → groups_outputs types groups vector outputs is ≡ outputs_after types vector outputs is
  unfolding groups_outputs outputs_after instance_links
  outputs_alike vector outputs [] = refl
  outputs_alike vector outputs (i ∷ is) =
      let t = type_of_instance types i in
      rw (type_level t (numbered groups i.type []) (edges_of_lem i.type) (label_values vector outputs i) t.output)
      (outputs_alike vector (outputs ++ (level_in (links_of t (label_values vector outputs i)) t.output ∷ [])) is)

-- ---- marks, and the work

module _ (c : Circuit) (groups : List (List Group)) (aligned : Aligned c.types groups) where
  mark_alike : (row : Row) → row.type ≡ type_of_instance c.types row.instance → groups_mark groups c row ≡ mark_of c row
  unfolding groups_mark mark_of cell is_marked row_values outputs_of instance_links
  mark_alike row is = fun_ext (λ v.
      let vector = get_or c.vectors v [] in
      let values = label_values vector (outputs_after c.types vector [] c.instances) row.instance in
      rw (outputs_alike c.types groups aligned vector [] c.instances)
      (ap of_bool
      (type_joins row.type (numbered groups row.instance.type []) (ap (λ (t : ModuleType). t.edges) is ∙ edges_of_lem c.types groups aligned row.instance.type)
      values (closing row.bridge values) supply ground)))

  marks_alike : Every (λ (row : Row). groups_mark groups c row ≡ mark_of c row) (rows_of c)
  unfolding rows_of
  marks_alike row m = mark_alike row (rows_placed c.types c.bridges no_instance 1 c.instances row m).type_is

  -- the groups of an instance link what its edges link, so that distances are the same
  rounds_alike : groups_rounds groups c ≡ rounds_of c
  unfolding groups_rounds rounds_of instance_rounds links_at type_at values_at outputs_of instance_links links_of
  rounds_alike =
      rounds_cong (length c.instances) (length c.vectors) _ (links_at c) (λ i v.
      let inst = get_or c.instances i no_instance in
      let vector = get_or c.vectors v [] in
      let values = label_values vector (outputs_after c.types vector [] c.instances) inst in
      rw (outputs_alike c.types groups aligned vector [] c.instances, edges_of_lem c.types groups aligned inst.type)
      (deepest-same _ _ (groups_link_alike.same_links (by_values values) (numbered groups inst.type []))))

-- rows with equal marks have equal words, and their classes are found alike
module _ (marks others : Row → ℕ → ℕ) where
  words_alike : (n : ℕ) (rows : List Row) → Every (λ (row : Row). marks row ≡ others row) rows
      → map (λ (row : Row). row_of n (marks row)) rows ≡ map (λ (row : Row). row_of n (others row)) rows
  words_alike n [] same = refl
  words_alike n (r ∷ rs) same = rw (same r (Memᴰ.head refl)) (ap (λ (l : List (List ℕ)). row_of n (others r) ∷ l) (words_alike n rs (λ a m. same a (Memᴰ.tail m))))

  found_alike : (n class : ℕ) (rows : List Row) (classes : List ℕ) → Every (λ (row : Row). marks row ≡ others row) rows
      → class_found_by n marks class rows classes ≡ class_found_by n others class rows classes
  unfolding class_found_by has_mark_by
  found_alike n class [] classes same = refl
  found_alike n class (r ∷ rs) [] same = refl
  found_alike n class (r ∷ rs) (m ∷ ms) same = rw (same r (Memᴰ.head refl), found_alike n class rs ms (λ a k. same a (Memᴰ.tail k)))

pub work-alike : (c : Circuit) (groups : List (List Group)) → Aligned c.types groups → groups_work groups c ≡ right_work c
unfolding groups_work right_work work_by found_by
work-alike c groups aligned =
    let same = marks_alike c groups aligned in
    let n = length c.vectors in
    let classes = classes_by same_class (rows_of c) in
    let by_groups : ℕ → ℕ = λ class. of_bool (class_found_by n (groups_mark groups c) (suc class) (rows_of c) classes) in
    let by_edges : ℕ → ℕ = λ class. of_bool (class_found_by n (mark_of c) (suc class) (rows_of c) classes) in
    let found : by_groups ≡ by_edges =
    fun_ext (λ class. ap of_bool (found_alike (groups_mark groups c) (mark_of c) n (suc class) (rows_of c) classes same)) in
    rw (words_alike (groups_mark groups c) (mark_of c) n (rows_of c) same, found, rounds_alike c groups aligned)
