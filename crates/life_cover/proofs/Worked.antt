-- Places, covered pointers and kills, worked out by hand.
use Rattle.std.proofs.Common.{◌≡◌, ℕ, Bool, inl, inr, false, true, [], ◌∷◌, length, Option, Some, None, refl, sym, ap, ◌∙◌, arith}
use Rattle.std.specs.Prelude.{option_map, pos}
use Rattle.std.proofs.lemmas.Bool.{false≢true}
use Rattle.life_types.specs.Types.{Types}
use Rattle.life_types.specs.declared.place.Place.{Place}
use Rattle.life_types.specs.declared.ty.Ty.TheVariants as variant
use Rattle.life_types.specs.declared.ty.TyId.{TyId}
use Rattle.life_core.specs.declared.program.Local.{Local}
use Rattle.life_core.specs.declared.program.LocalKind.TheVariants.{Register}
use Rattle.life_core.specs.Function.{Function}
use Rattle.life_pset.specs.Elements.{Input, local_place}
use Rattle.life_pset.specs.Places as places
use Rattle.life_pset.specs.Places.{member_place, owned_place, path}
use Rattle.life_pset.specs.declared.element.Element.TheVariants as element
use Rattle.life_pset.specs.declared.element.Root.{Root}
use Rattle.life_pset.specs.declared.element.Root.TheVariants as root
use Rattle.life_store.specs.Cells.{at, at-unset_same}
use Rattle.life_store.specs.Content.{Slot, Object, Content, is_valid_in, resized, without}
use Rattle.life_store.specs.Held.{pointer_in, slots_if, words_at}
use Rattle.life_store.specs.Parts.{characters_type, local_type, word_within}
use Rattle.life_store.specs.State.{Target, Named, Null, Number, Pointer, Points, To}
use Rattle.life_cover.specs.Covers.{Covers, Holds, Look}
use Rattle.life_cover.specs.Inputs.{entered_at, frame_foot, no_inputs, pointed, type_seen}
use Rattle.life_cover.specs.Kills.{is_hit}
use Rattle.life_cover.specs.Passed.{takes_null}
use Rattle.life_cover.specs.Regions.{Lies, Region}
use Rattle.life_cover.proofs.Mutated.{none_mutated}
use Rattle.life_forest.specs.FrameTypes.{seen_type}

abbrev id : ℕ → TyId
id n = record { 0 = n }

-- 0 int, 1 std::vector<int>, 2 std::string, 3 struct { int a; std::vector<int> v; }, and 4 for characters of strings
abbrev table : Types
table = record { types = variant.Int ∷ variant.Vector (id 0) ∷ variant.Text ∷ variant.Struct 0 ∷ []; structs = (id 0 ∷ id 1 ∷ []) ∷ [] }

abbrev region : (object word type : ℕ) → Region
region n w ty = record { object = n; word = w; ty = id ty }

abbrev slot : (word stamp : ℕ) → Slot
slot word stamp = record { words = word ∷ []; stamp = stamp }

-- object 7 is a vector whose buffer is object 8, with three elements
abbrev vector : Object
vector = record { ty = id 1; width = 1; capacity = 1; slots = slot 9 1 ∷ []; end = 1 }

abbrev buffer : Object
buffer = record { ty = id 0; width = 1; capacity = 3; slots = slot 10 2 ∷ slot 20 3 ∷ slot 30 4 ∷ []; end = 4 }

-- ---- where places lie

abbrev v : ℕ
v = 0

-- the elements of the vector v
elements_lie : (c : Content) → at c.objects 7 ≡ Some vector → Lies table c (path (owned_place (local_place v))) (region 7 0 1) (region 8 0 0)
elements_lie c there = (region 8 0 0, inr (record { owned = refl; type = refl; holder = vector; there = there; index = 0; has = refl; word = refl }), refl)

-- the second member of a struct begins behind the first
member_lies : (c : Content) → Lies table c (path (member_place (local_place v) 1)) (region 7 0 3) (region 7 1 1)
member_lies c = (region 7 1 1, inl (record { small = omega arith; type = refl; object = refl; word = refl }), refl)

-- ---- iterators into v, made at moment 5

abbrev iterator : (index : ℕ) → Target
iterator i = record { object = 8; index = i; word = 0; count = 1; moment = 5 }

abbrev of_ints : Look
of_ints = record { ranged = false; target = Some (id 0); constant = false }

-- v is object 7
abbrev V : Root → Region → Type 0
V r a = (r ≡ root.Local v) × (a ≡ region 7 0 1)

-- the fact that it points to elements of v covers it, also at the end
covered : (c : Content) → at c.objects 7 ≡ Some vector → at c.objects 8 ≡ Some buffer → (i : ℕ) → is_valid_in i 1 5 (Some buffer) ≡ true → Covers table c V (λ r. true) of_ints (element.At (owned_place (local_place v))) (To (iterator i))
covered c seven eight i valid = record {
  region = region 8 0 0;
  lies = record { start = region 7 0 1; stands = (refl, refl); lies = elements_lie c seven };
  object = refl;
  word = refl;
  type = inl refl;
  change = λ e. refl;
  holds = record { settled = ap (is_valid_in i 1 5) eight ∙ valid; single = λ e. refl; within = λ e. absurd (false≢true e) };
}

positions : (is_valid_in 0 1 5 (Some buffer) ≡ true) × (is_valid_in 2 1 5 (Some buffer) ≡ true) × (is_valid_in 3 1 5 (Some buffer) ≡ true) × (is_valid_in 4 1 5 (Some buffer) ≡ false)
positions = (refl, refl, refl, refl)

-- where v grew, its old buffer is no more, and no iterator into it holds
grown : (c : Content) (i : ℕ) → Holds (without 8 c) false (iterator i) → ⊥
grown c i h = false≢true (sym (ap (is_valid_in i 1 5) (at-unset_same c.objects 8 8 refl)) ∙ h.settled)

-- an erase of the element in the middle, at moment 6: one before it stands, those from there on don't, the old end among them
erased : (is_valid_in 0 1 5 (Some (resized 6 2 1 buffer)) ≡ true) × (is_valid_in 1 1 5 (Some (resized 6 2 1 buffer)) ≡ false) × (is_valid_in 2 1 5 (Some (resized 6 2 1 buffer)) ≡ false) × (is_valid_in 3 1 5 (Some (resized 6 2 1 buffer)) ≡ false)
erased = (refl, refl, refl, refl)

-- .. and what erase gives does
erased_into : is_valid_in 1 1 6 (Some (resized 6 2 1 buffer)) ≡ true
erased_into = refl

-- what pop_back leaves behind: the iterators at the last element and at the old end
popped : (is_valid_in 1 1 5 (Some (resized 6 2 2 buffer)) ≡ true) × (is_valid_in 2 1 5 (Some (resized 6 2 2 buffer)) ≡ false) × (is_valid_in 3 1 5 (Some (resized 6 2 2 buffer)) ≡ false)
popped = (refl, refl, refl)

-- ---- what is killed: what v owns, and neither v itself nor what another has

kills : (is_hit (places.under (local_place v)) (element.At (owned_place (local_place v))) ≡ true) × (is_hit (places.under (local_place v)) (element.At (local_place v)) ≡ false)
    × (is_hit (places.under (local_place v)) (element.At (owned_place (local_place 1))) ≡ false) × (is_hit (places.under (member_place (local_place v) 1)) (element.At (owned_place (member_place (local_place v) 1))) ≡ true)
    × (is_hit (places.under (member_place (local_place v) 1)) (element.At (owned_place (member_place (local_place v) 0))) ≡ false)
kills = (refl, refl, refl, refl, refl)

-- ---- a view of a string, whose buffer is object 8

abbrev view : (index count : ℕ) → Target
view i n = record { object = 8; index = i; word = 0; count = n; moment = 5 }

-- it sees the characters, and at the end none
seen : (c : Content) → at c.objects 8 ≡ Some buffer → Holds c true (view 0 3) × Holds c true (view 3 0)
seen c there = (
  record { settled = ap (is_valid_in 0 3 5) there; single = λ e. absurd (false≢true (sym e)); within = λ e. rw there (omega arith) },
  record { settled = ap (is_valid_in 3 0 5) there; single = λ e. absurd (false≢true (sym e)); within = λ e. rw there (omega arith) },
)

-- the end isn't among what is seen
behind_end : (c : Content) → at c.objects 8 ≡ Some buffer → Holds c true (view 2 2) → ⊥
behind_end c there h = let w = h.within refl in let n = ap (λ (o : Option Object). length (slots_if o)) there in omega (arith, w, n)

-- where the string is set anew, its old buffer is no more, and not even a view of nothing holds
set_anew : (c : Content) (i n : ℕ) → Holds (without 8 c) true (view i n) → ⊥
set_anew c i n h = false≢true (sym (ap (is_valid_in i n 5) (at-unset_same c.objects 8 8 refl)) ∙ h.settled)

-- ---- null and invalid

empty_handed : (c : Content) → Covers table c V (λ r. true) of_ints element.Null Null × (Covers table c V (λ r. true) of_ints element.Null (To (iterator 0)) → ⊥) × (Covers table c V (λ r. true) of_ints element.Own Null → ⊥)
empty_handed c = (tt, λ h. h, λ h. h)

-- ---- inputs at a function's entry

-- a parameter that is a pointer
abbrev parameter_input : ℕ → Option TyId → Input
parameter_input q ty = record { pointer = local_place q; ty = ty; root = root.Input q None }

-- the second member of one that is a struct, the first pointer in it
abbrev member_input : Option TyId → Input
member_input ty = record { pointer = member_place (local_place 0) 1; ty = ty; root = root.Input 0 (Some 0) }

-- what a pointer points to is its input, as its type says, and null and a number stand for none
behind_pointer : (c : Content) (i : ℕ) (ty : Option TyId) → at c.objects 8 ≡ Some buffer → seen_type table ty ≡ Some (id 0) → pointed table (seen_type table ty) c (Some (Points (To (iterator i)))) ≡ Some (region 8 0 0)
behind_pointer c i ty there seen =
    ap (option_map (λ (o : Object). record { object = 8; word = 0; ty = type_seen table (seen_type table ty) o.ty })) there ∙ ap (λ (t : Option TyId). Some (record { object = 8; word = 0; ty = type_seen table t buffer.ty })) seen

pointer_stands : (f : Function) (c : Content) (i : ℕ) (ty : Option TyId) → at c.objects 8 ≡ Some buffer → seen_type table ty ≡ Some (id 0)
    → entered_at table f c (Number (pos 3) ∷ Points (To (iterator i)) ∷ []) (root.Input 1 None) (Some (parameter_input 1 ty)) ≡ Some (region 8 0 0)
pointer_stands f c i ty there seen = behind_pointer c i ty there seen

number_stands : (f : Function) (c : Content) (i : ℕ) → entered_at table f c (Number (pos 3) ∷ Points (To (iterator i)) ∷ []) (root.Input 0 None) (Some (parameter_input 0 (Some (id 0)))) ≡ None
number_stands f c i = refl

null_stands : (f : Function) (c : Content) (ty : Option TyId) → entered_at table f c (Points Null ∷ []) (root.Input 0 None) (Some (parameter_input 0 ty)) ≡ None
null_stands f c ty = refl

-- .. of a struct that is handed over each pointer is one, by the words in it, and the struct itself is none
member_stands : (f : Function) (c : Content) (i : ℕ) (ty : Option TyId) → at c.objects 8 ≡ Some buffer → seen_type table ty ≡ Some (id 0) → pointer_in (words_at c 9 0 (word_within table (local_type table f 0) (1 ∷ [])) 5) ≡ To (iterator i)
    → entered_at table f c (Named 9 ∷ []) (root.Input 0 (Some 0)) (Some (member_input ty)) ≡ Some (region 8 0 0)
member_stands f c i ty there seen words = ap (λ (p : Pointer). pointed table (seen_type table ty) c (Some (Points p))) words ∙ behind_pointer c i ty there seen

struct_stands : (f : Function) (c : Content) (ty : Option TyId) → entered_at table f c (Named 9 ∷ []) (root.Input 0 None) (Some (member_input ty)) ≡ None
struct_stands f c ty = refl

-- a pointer to a member of a struct sees the member, and one to a character of a string the character
member_seen : (type_seen table (Some (id 0)) (id 3) ≡ id 0) × (type_seen table (Some (id 0)) (characters_type table) ≡ characters_type table)
member_seen = (refl, refl)

-- a frame without inputs may touch what it names, and nothing else
named_touched : (f : Function) → (frame_foot table f no_inputs (Named 7 ∷ [])).whole 7 ≡ true
named_touched f = refl

others_spared : (f : Function) → (frame_foot table f no_inputs (Named 7 ∷ [])).whole 8 ≡ false
others_spared f = refl

parts_spared : (f : Function) (m u : ℕ) → (frame_foot table f no_inputs (Named 7 ∷ [])).part m u ≡ true → ⊥
parts_spared f m u = none_mutated table f m u

-- ---- what a parameter may be given

-- 0 int, 1 int*, 2 int&
abbrev pointers : Types
pointers = record { types = variant.Int ∷ variant.Raw (id 0) false ∷ variant.Reference (id 0) false ∷ []; structs = [] }

abbrev parameter : (type : ℕ) → (nonnull : Bool) → Place → Local
parameter n nonnull place = record { name = None; ty = id n; kind = Register; place = place; nonnull = nonnull; keeps = false }

-- a raw pointer may be null, and a reference may not, nor one that bears nonnull
raw_null : (place : Place) → takes_null pointers (Some (parameter 1 false place)) (parameter_input 0 (Some (id 1))) ≡ true
raw_null place = refl

nonnull_given : (place : Place) → takes_null pointers (Some (parameter 1 true place)) (parameter_input 0 (Some (id 1))) ≡ false
nonnull_given place = refl

reference_given : (place : Place) → takes_null pointers (Some (parameter 2 false place)) (parameter_input 0 (Some (id 2))) ≡ false
reference_given place = refl
