-- 02, "Pass transistors", on files: the types of an accepted file are those that its fields tell, by induction over its cut; ends and rails follow from what holds
-- of an accepted circuit; and the numbers 3 and 8 are looked for among the tests of a field. Assumes nothing.
use Prim.Native.Nat.{ℕ, zero, suc, ◌+◌, ◌-◌}
use mathlib.Core.Path.{◌≡◌, refl, sym, ap, subst, ◌∙◌}
use mathlib.Core.Bool.{Bool, true, false, cond, not, ◌&&◌, ◌||◌}
use mathlib.Core.Logic.{◌⊎◌, inl, inr, ⊎_elim}
use mathlib.Core.List.Memᴰ
use mathlib.Core.List.{List, [], ◌∷◌, ◌++◌, append_assoc, append-nil, Memᴰ}
use native.Mathlib.Omega.{arith}
use borrow.Author.Rules.{rules}
use borrow.Author.Tests.{eqb-false, not-true, not-false}
use lib.Dec.{T, eqb, ltb}
use lib.Ieee.Bits.{is_true}
use lib.ListN.{length, get_or, take, drop}
use Rattle.switch.specs.Conduction.{Channel, channel_p, channel_n, channel_bit, channel_of, EdgeTag, by_position, stated, Edge, bad_ends}
use Rattle.switch.specs.Modules.{ModuleType, all_of}
use Rattle.switch.proofs.Apart.{rails-apart}
use Rattle.switch.proofs.Paths.{both}
use Rattle.circuit.specs.Limits.{most_bytes}
use Rattle.circuit.specs.Fields.{Field, Cut, clean, broken, field, cut_in, cut_from, two_bytes}
use Rattle.circuit.specs.Circuit.{Circuit}
use Rattle.circuit.specs.Order.{Tag, inputs_tag, type_tag, edge_tag, bridge_tag, instance_tag, vector_tag, no_tag, tag_of, is_kind, is_edge, edge_tag_of, is_unknown}
use Rattle.circuit.specs.Order.{Previous, after_tag, in_type, may_follow}
use Rattle.circuit.specs.Known.{Known, start, type_in, edges_in, latest, with_edges, edges_added, taken, known_after}
use Rattle.circuit.specs.Table.{Test, Verdict, passes, refused_at, first_of, body_tests, field_tests, end_tests}
use Rattle.circuit.specs.Table.{inputs_tests, type_tests, edge_tests, edge_tests_of, bridge_tests, instance_tests, instance_tests_of, vector_tests}
use Rattle.circuit.specs.Reading.{Reading, accepted, refusal, unless, read_from, reading_with, reading_of}
use Rattle.circuit.specs.Laws.{Each, ends_good, ends_good_by, TypeGood}
use Rattle.circuit.proofs.CircuitLaws.{accepted-is-good}
use Rattle.circuit.proofs.OrderLaws.{kind_is, edge_no_type}
use Rattle.circuit.proofs.Verdicts.{first_passes}
use Rattle.read_types.proofs.TypeStages.{latest_snoc, edges_added_snoc}
use Rattle.grading.proofs.ValueLaws.{type-accepted}
use Rattle.demands.specs.Calls.{Accepts}
use Rattle.demands.specs.SingleTransistors.{FieldOf, EdgeFieldOf}
use Rattle.demands.specs.PassTransistors.{edges_behind, types_in, TypesAreFields, EndsAsTagged, EndsKeepTheRules, RailsApartInFiles, NumbersOfEdges}
use Rattle.demands.proofs.WholeFields.{after-verdict, read-from-start}

-- ---- types

with_no_edges : (t : ModuleType) → with_edges t [] ≡ t
unfolding with_edges
with_no_edges t = rw (append-nil t.edges)

with-more-edges : (t : ModuleType) (es more : List Edge) → with_edges (with_edges t es) more ≡ with_edges t (es ++ more)
unfolding with_edges
with-more-edges t es more = rw (append_assoc t.edges es more)

-- what fields add to types, given what stands before them: edges of the latest type, if they come first and there is one, and types
record Adding (previous : Previous) (types : List ModuleType) (cut : Cut) (all : List ModuleType) : Type 0 where
  to_a_type : (ts : List ModuleType) (t : ModuleType) → types ≡ ts ++ (t ∷ []) → all ≡ ts ++ (with_edges t (edges_behind t.output cut) ∷ types_in cut)
  past_types : in_type previous ≡ false → all ≡ types ++ types_in cut

-- nothing stands there
at_the_end : (previous : Previous) (types : List ModuleType) → Adding previous types clean types
unfolding edges_behind types_in
at_the_end previous types = record {
  to_a_type = λ ts t e. rw (with_no_edges t) e;
  past_types = λ e. sym (append-nil types);
}

module _ (previous : Previous) (types : List ModuleType) (f : Field) (rest : Cut) (all : List ModuleType) where
  -- a field that ends a type's edges and tells no type
  by_another : (tag : Tag) → tag_of f.tag ≡ tag → is_edge tag ≡ false → is_kind type_tag tag ≡ false → in_type (after_tag tag) ≡ false
      → Adding (after_tag tag) types rest all → Adding previous types (field f rest) all
  unfolding edges_behind types_in
  by_another tag is no_edge no-type ends later = record {
    to_a_type = λ ts t e.
        rw (is, no_edge, no-type, with_no_edges t) (later.past_types ends ∙ ap (λ (l : List ModuleType). l ++ types_in rest) e ∙ append_assoc ts (t ∷ []) (types_in rest));
    past_types = λ e. rw (is, no-type) (later.past_types ends);
  }

  by_type : tag_of f.tag ≡ type_tag → Adding (after_tag type_tag) (types ++ (type_in f.body ∷ [])) rest all → Adding previous types (field f rest) all
  unfolding edges_behind types_in is_edge is_kind
  by_type is later = record {
    to_a_type = λ ts t e.
        rw (is, with_no_edges t)
        (later.to_a_type types (type_in f.body) refl
        ∙ ap (λ (l : List ModuleType). l ++ (with_edges (type_in f.body) (edges_behind (type_in f.body).output rest) ∷ types_in rest)) e
        ∙ append_assoc ts (t ∷ []) _);
    past_types = λ e. rw is (later.to_a_type types (type_in f.body) refl);
  }

  by_edge : (e : EdgeTag) → tag_of f.tag ≡ edge_tag e → in_type previous ≡ true
      → Adding (after_tag (edge_tag e)) (edges_added types (edges_in e (latest types).output f.body)) rest all → Adding previous types (field f rest) all
  unfolding edges_behind types_in is_edge edge_tag_of with_edges
  by_edge e is within later = record {
    to_a_type = λ ts t last.
        let es = edges_in e t.output f.body in
        let now : edges_added types (edges_in e (latest types).output f.body) ≡ ts ++ (with_edges t es ∷ []) =
        rw (last, latest_snoc ts t) (edges_added_snoc ts t es) in
        rw (is, edge_no_type e, ← (with-more-edges t es (edges_behind t.output rest))) (later.to_a_type ts (with_edges t es) now);
    past_types = λ out. let z : ◌≡◌ {A = ℕ} 0 1 = cc in absurd (omega arith);
  }

by_field : (known : Known) (f : Field) (rest : Cut) (all : List ModuleType) (tag : Tag) → tag_of f.tag ≡ tag → may_follow known.previous tag ≡ true
    → Adding (after_tag tag) (taken tag known.circuit f.body).types rest all → Adding known.previous known.circuit.types (field f rest) all
unfolding taken may_follow is_edge is_kind
by_field known f rest all inputs_tag is follows later = by_another known.previous known.circuit.types f rest all inputs_tag is refl refl refl later
by_field known f rest all type_tag is follows later = by_type known.previous known.circuit.types f rest all is later
by_field known f rest all (edge_tag e) is follows later = by_edge known.previous known.circuit.types f rest all e is follows later
by_field known f rest all bridge_tag is follows later = by_another known.previous known.circuit.types f rest all bridge_tag is refl refl refl later
by_field known f rest all instance_tag is follows later = by_another known.previous known.circuit.types f rest all instance_tag is refl refl refl later
by_field known f rest all vector_tag is follows later = by_another known.previous known.circuit.types f rest all vector_tag is refl refl refl later
by_field known f rest all no_tag is follows later = by_another known.previous known.circuit.types f rest all no_tag is refl refl refl later

-- a verdict before what is accepted passes, so a field that was taken was in its place
verdict-passed : (v : Verdict) (r : Reading) (c : Circuit) → unless v r ≡ accepted c → v ≡ passes
unfolding unless
verdict-passed passes r c e = refl
verdict-passed (refused_at n p) r c e = cc

in_place : (known : Known) (f : Field) → first_of (field_tests known f) ≡ passes → may_follow known.previous (tag_of f.tag) ≡ true
unfolding field_tests
in_place known f e = not-false _ (first_passes _ _ (first_passes _ _ e).1).0

adds : (size : ℕ) (known : Known) (cut : Cut) (c : Circuit) → read_from true size known cut ≡ accepted c → Adding known.previous known.circuit.types cut c.types
unfolding read_from known_after
adds size known clean c e =
    let same : known.circuit ≡ c = ap_accepted (after-verdict (first_of (end_tests true known size)) (accepted known.circuit) c e) in
    subst (Adding known.previous known.circuit.types clean) (ap (λ (d : Circuit). d.types) same) (at_the_end known.previous known.circuit.types)
  where
    ap_accepted : accepted known.circuit ≡ accepted c → known.circuit ≡ c
    ap_accepted q = cc
adds size known (broken at) c e = let z : ◌≡◌ {A = ℕ} 0 1 = cc in absurd (omega arith)
adds size known (field f rest) c e =
    let v = first_of (field_tests known f) in
    let later = read_from true size (known_after known f) rest in
    by_field known f rest c.types (tag_of f.tag) refl (in_place known f (verdict-passed v later c e))
    (adds size (known_after known f) rest c (after-verdict v later c e))

pub types_are_fields : TypesAreFields
types_are_fields file c e = (adds (length file) start (cut_from file 0) c (read-from-start file c e)).past_types refl

-- ---- ends and rails

-- what holds at each place holds of each element; and what a test says of all it says of each
each_of : {A : Type 0} (Holds : A → Type 0) (as' : List A) → Each (λ (i : ℕ) (a : A). Holds a) as' → (a : A) → Memᴰ a as' → Holds a
each_of Holds [] each a m = absurd (Memᴰ.not-nil m)
each_of {A} Holds (x ∷ xs) each a m =
    ⊎_elim (λ (e : a ≡ x). subst Holds (sym e) (each 0 x (omega arith)))
    (λ k. each_of Holds xs (λ i none h. each (suc i) none (omega arith)) a k) (Memᴰ.cases_cons m)

all_of_lem : {A : Type 0} (test : A → Bool) (as' : List A) → T (all_of test as') → (a : A) → Memᴰ a as' → T (test a)
unfolding all_of
all_of_lem test [] all a m = absurd (Memᴰ.not-nil m)
all_of_lem test (x ∷ xs) all a m =
    let its = both (test x) (all_of test xs) all in
    ⊎_elim (λ (e : a ≡ x). rw e its.0) (λ k. all_of_lem test xs its.1 a k) (Memᴰ.cases_cons m)

-- each type of an accepted file is good
its_type : (file : List ℕ) (c : Circuit) → Accepts file c → (t : ModuleType) → Memᴰ t c.types → TypeGood t
its_type file c e t m = each_of TypeGood c.types (accepted-is-good true file c e).types t m

channel-told : (c d : Channel) → T (eqb (channel_bit c) (channel_bit d)) → c ≡ d
unfolding channel_bit
channel-told channel_p channel_p t = refl
channel-told channel_p channel_n t = absurd t
channel-told channel_n channel_p t = absurd t
channel-told channel_n channel_n t = refl

ends-told : (tag : EdgeTag) (t : ModuleType) (e : Edge) → T (ends_good_by tag t.highest t.output e) → EndsAsTagged tag t e
unfolding ends_good_by EndsAsTagged
ends-told by_position t e good =
    let its = both (not (bad_ends t.highest t.output e.first e.second)) _ good in
    (not-true _ (is_true _ its.0), channel-told e.channel (channel_of t.output e.first e.second) its.1)
ends-told stated t e good = eqb-false e.first e.second (not-true _ (is_true _ good))

pub ends_keep_the_rules : EndsKeepTheRules
ends_keep_the_rules file c accepts t m e k =
    ends-told e.tag t e (all_of_lem (ends_good t.highest t.output) t.edges (its_type file c accepts t m).sound.ends e k)

pub rails_apart_in_files : RailsApartInFiles
rails_apart_in_files file c accepts t m =
    let its = type-accepted t (its_type file c accepts t m) in record { one_rail_lem = its.complementary; apart = rails-apart.rails t its }

-- ---- numbers

-- what holds of each test that refuses holds of the first
AllTests : (ℕ → ℕ → Type 0) → List Test → Type 0
AllTests Holds [] = Unit {0}
AllTests Holds (t ∷ ts) = (t.refuses ≡ true → Holds t.number t.place) × AllTests Holds ts

first_one : (Holds : ℕ → ℕ → Type 0) (ts : List Test) → AllTests Holds ts → (n p : ℕ) → first_of ts ≡ refused_at n p → Holds n p
unfolding AllTests first_of
first_one Holds [] all n p e = let z : ◌≡◌ {A = ℕ} 0 1 = cc in absurd (omega arith)
first_one Holds (t ∷ ts) all n p e = go t.refuses refl e (first_one Holds ts all.1 n p)
  where
    go : (b : Bool) → t.refuses ≡ b → cond b (refused_at t.number t.place) (first_of ts) ≡ refused_at n p → (first_of ts ≡ refused_at n p → Holds n p) → Holds n p
    go true r q later =
        let number : t.number ≡ n = cc in
        let place : t.place ≡ p = cc in
        subst (Holds n) place (subst (λ (m : ℕ). Holds m t.place) number (all.0 r))
    go false r q later = later q

-- a field of this kind may be refused by this number: by 8 only with tag 3, by 3 only where the tag is none
unfoldable may_have : Tag → ℕ → Bool
may_have tag n = (not (eqb n 8) || is_kind (edge_tag by_position) tag) && (not (eqb n 3) || is_unknown tag)

-- a refusal for such a field: at its offset, but for 9, which is at its type's
Refused : Tag → ℕ → ℕ → ℕ → Type 0
Refused tag at n p = T (may_have tag n) × (eqb n 9 ≡ false → at ≡ p)

by-body : (tag : Tag) (c : Circuit) (at : ℕ) (body : List ℕ) → AllTests (Refused tag at) (body_tests tag c at body)
unfolding AllTests Refused may_have is_kind body_tests inputs_tests type_tests edge_tests edge_tests_of bridge_tests instance_tests instance_tests_of vector_tests
by-body inputs_tag c at body = search rules
by-body type_tag c at body = search rules
by-body (edge_tag by_position) c at body = search rules
by-body (edge_tag stated) c at body = search rules
by-body bridge_tag c at body = search rules
by-body instance_tag c at body = search rules
by-body vector_tag c at body = search rules
by-body no_tag c at body = tt

by-a-field : (known : Known) (f : Field) → AllTests (Refused (tag_of f.tag) f.at) (field_tests known f)
unfolding AllTests Refused may_have field_tests
by-a-field known f = (
  λ r. (subst T (sym r) tt, λ e. refl),
  (λ r. (tt, λ e. refl), (λ r. (tt, λ e. absurd_false e), by-body (tag_of f.tag) known.circuit f.at f.body)),
)
  where
    absurd_false : true ≡ false → f.at ≡ known.type_at
    absurd_false e = let z : ◌≡◌ {A = ℕ} 0 1 = cc in absurd (omega arith)

-- the end of a file is refused by 9 or 14
abbrev EndNumber : ℕ → ℕ → Type 0
EndNumber n p = (n ≡ 9) ⊎ (n ≡ 14)

by_the_end : (known : Known) (size : ℕ) → AllTests EndNumber (end_tests true known size)
unfolding AllTests end_tests
by_the_end known size = (λ r. inl refl, (λ r. inr refl, (λ r. inr refl, (λ r. inr refl, tt))))

-- a refusal by another number than 2, 9 and 14 is one for a field
module _ (n p : ℕ) (no-2 : n ≡ 2 → ⊥) (no_9 : n ≡ 9 → ⊥) (no-14 : n ≡ 14 → ⊥) where
  by_verdict : (v : Verdict) (r : Reading) → unless v r ≡ refusal n p → (v ≡ refused_at n p) ⊎ (r ≡ refusal n p)
  unfolding unless
  by_verdict passes r e = inr e
  by_verdict (refused_at m o) r e = inl cc

  for_a_field : (size : ℕ) (known : Known) (cut : Cut) → read_from true size known cut ≡ refusal n p
      → (f : Field) × FieldOf cut f × Refused (tag_of f.tag) f.at n p
  unfolding read_from FieldOf
  for_a_field size known clean e =
      absurd (⊎_elim
      (λ q. ⊎_elim no_9 no-14 (first_one EndNumber (end_tests true known size) (by_the_end known size) n p q))
      (λ (q : accepted known.circuit ≡ refusal n p). let z : ◌≡◌ {A = ℕ} 0 1 = cc in omega arith)
      (by_verdict (first_of (end_tests true known size)) (accepted known.circuit) e))
  for_a_field size known (broken at) e = absurd (no-2 cc)
  for_a_field size known (field f rest) e =
      ⊎_elim
      (λ q. (f, inl refl, first_one (Refused (tag_of f.tag) f.at) (field_tests known f) (by-a-field known f) n p q))
      (λ q. let its = for_a_field size (known_after known f) rest q in (its.0, inr its.1, its.2))
      (by_verdict (first_of (field_tests known f)) (read_from true size (known_after known f) rest) e)

-- number 1 aside, the refusal is one of the fields
refused-from-start : (file : List ℕ) (n p : ℕ) → (n ≡ 1 → ⊥) → reading_of file ≡ refusal n p → read_from true (length file) start (cut_from file 0) ≡ refusal n p
unfolding reading_with
refused-from-start file n p no-1 e = go (ltb most_bytes (length file)) _ e
  where
    go : (long : Bool) (whole : Reading) → cond long (refusal 1 0) whole ≡ refusal n p → whole ≡ refusal n p
    go true whole q = absurd (no-1 cc)
    go false whole q = q

eight : (file : List ℕ) (place : ℕ) → reading_of file ≡ refusal 8 place → (f : Field) × EdgeFieldOf file by_position f × (f.at ≡ place)
unfolding Refused may_have
eight file place e =
    let its = for_a_field 8 place (λ q. omega arith) (λ q. omega arith) (λ q. omega arith) (length file) start (cut_from file 0)
    (refused-from-start file 8 place (λ q. omega arith) e) in
    let f = its.0 in
    let tag = tag_of f.tag in
    let kind : tag ≡ edge_tag by_position =
    kind_is (edge_tag by_position) tag (is_true _ (both (is_kind (edge_tag by_position) tag) true its.2.0).0) in
    (f, record { among = its.1; edge = kind }, its.2.1 refl)

-- a field of a file has the tag that stands at its offset, so two at one offset have one tag
tag-there : (most : ℕ) (file : List ℕ) (at : ℕ) (f : Field) → FieldOf (cut_in most file at) f → f.tag ≡ get_or file f.at 0
unfolding cut_in FieldOf
tag-there zero file at f of = absurd of
tag-there (suc most) file at f of =
    go (eqb at (length file)) (ltb (length file) (at + 3)) (ltb (length file) (at + 3 + n)) of (tag-there most file (at + 3 + n) f)
  where
    n : ℕ
    n = two_bytes file (at + 1)

    go : (a b c : Bool) → FieldOf (cond a clean (cond b (broken at) (cond c (broken at)
        (field (record { at = at; tag = get_or file at 0; body = take n (drop (at + 3) file) }) (cut_in most file (at + 3 + n)))))) f
        → (FieldOf (cut_in most file (at + 3 + n)) f → f.tag ≡ get_or file f.at 0) → f.tag ≡ get_or file f.at 0
    go true b c of more = absurd of
    go false true c of more = absurd of
    go false false true of more = absurd of
    go false false false (inl e) more = rw e refl
    go false false false (inr later) more = more later

three : (file : List ℕ) (f : Field) → EdgeFieldOf file stated f → reading_of file ≡ refusal 3 f.at → ⊥
unfolding Refused may_have cut_from is_kind
three file f its e =
    let refused = for_a_field 3 f.at (λ q. omega arith) (λ q. omega arith) (λ q. omega arith) (length file) start (cut_from file 0)
    (refused-from-start file 3 f.at (λ q. omega arith) e) in
    let g = refused.0 in
    let tags : g.tag ≡ f.tag =
    tag-there (suc (length file) - 0) file 0 g refused.1 ∙ ap (λ (at : ℕ). get_or file at 0) (refused.2.1 refl)
    ∙ sym (tag-there (suc (length file) - 0) file 0 f its.among) in
    subst (λ (tag : Tag). T (is_unknown tag)) (ap tag_of tags ∙ its.edge) refused.2.0

pub numbers_of_edges : NumbersOfEdges
numbers_of_edges = record { eight = eight; three = three }
