-- A type that is written is there, in a table that has grown.
use Rattle.std.proofs.Common.{◌≡◌, ℕ, Bool, true, false, Option, None, Some, Ok, slice_get, refl, sym, ap, subst, ◌∙◌, if◌then◌else◌}
use Rattle.std.specs.Prelude.{is_some}
use Rattle.life_types.specs.Trees.{IsOrdered, is_plain, tree_at}
use Rattle.life_types.specs.TypeTests.{is_reference, is_void}
use Rattle.life_types.specs.Types.{Types}
use Rattle.life_types.specs.declared.place.Place.{Place}
use Rattle.life_types.specs.declared.ty.Ty.{Ty}
use Rattle.life_types.specs.declared.ty.Ty.TheVariants as ty
use Rattle.life_types.specs.declared.ty.TyId.{TyId}
use Rattle.life_typing_laws.specs.Sound.{Grows, HasStruct, HasStructs}
use Rattle.life_tree.specs.declared.type_name.Base.{Base, roll-Base}
use Rattle.life_tree.specs.declared.type_name.Base.TheFolds.{fold-roll-Base, fold-roll-TypeArgument, fold-roll-TypeName, ind-Base, ind-TypeArgument, ind-TypeName, map-Base, map-TypeName}
use Rattle.life_tree.specs.declared.type_name.Base.TheOpen as type_open
use Rattle.life_tree.specs.declared.type_name.IteratorName.{IteratorName}
use Rattle.life_tree.specs.declared.type_name.Suffix.{Suffix}
use Rattle.life_tree.specs.declared.type_name.Suffix.TheVariants as suffix
use Rattle.life_tree.specs.declared.type_name.TypeArgument.{TypeArgument, roll-TypeArgument}
use Rattle.life_tree.specs.declared.type_name.TypeName.{TypeName, out-TypeName, roll-TypeName}
use Rattle.life_typed.specs.BaseTypes.{base_types, type_at}
use Rattle.life_typed.specs.declared.basic.TheConstants.{BOOL, CHAR, INT, LONG, SIZE, TEXT, VIEW}
use Rattle.life_names.specs.Checked.{Checked}
use Rattle.life_names.specs.Environment.{Scope, StructureView, meaning}
use Rattle.life_names.specs.WrittenTypes.{Meaning, NameMeaning, argument_meaning, argument_step, base_meaning, base_step, element_fault, element_fault_of, held_fault, or_fault, sound, span, struct_type, suffixed, target_fault, type_meaning, type_meant, type_step, unique, vector, vector_type}
use Rattle.life_names.specs.declared.environment.Entity.{Entity}
use Rattle.life_names.specs.declared.environment.Entity.TheVariants as entity
use Rattle.life_names.specs.declared.fault.IllKind.{IllKind}
use Rattle.life_names.specs.declared.fault.IllKind.TheVariants as kinds
use Rattle.life_names.proofs.TypeMeanings.{type_made as type_by_parts}
use Rattle.life_typing.specs.Structs.{is_reference_with}
use Rattle.life_well_typed.specs.Tables.{HasTarget, IsObject, IsPlainObject}
use Rattle.life_unique.proofs.TypeLayers.{Claims, Layer-Base, Layer-TypeArgument, Layer-TypeName, parts_argument, parts_base, parts_type}
use Rattle.life_unique.specs.SettledTypes.{Opened-Base, Opened-TypeArgument, Opened-TypeName}
use Rattle.life_typing_laws.proofs.Each.{made_alone}
use Rattle.life_typing_laws.proofs.Growing.{IsAdded, IsGrown, grown_not, grown_on, sound_added, type_is}
use Rattle.life_typing_laws.proofs.Steps.{bound}

-- a number of a type that is there and isn't void, and the table behind it
pub record IsFound (types : Types) (x : TyId × Types) : Type 0 where
  pub grown : IsGrown types x.1
  pub object : IsObject x.1 x.0

-- .. of one that is no reference
pub record IsBase (types : Types) (x : TyId × Types) : Type 0 where
  pub found : IsFound types x
  pub value : is_reference (type_at x.1 x.0) ≡ false

-- .. where the structs are there
abbrev pub Finds : Meaning → Type 0
Finds meaning =
    (place : Place) (scope : Scope) (types : Types) (x : TyId × Types) → IsOrdered types → Grows base_types types → HasStructs types scope.structs → meaning place scope types ≡ Ok x → IsFound types x

abbrev pub Bases : Meaning → Type 0
Bases meaning =
    (place : Place) (scope : Scope) (types : Types) (x : TyId × Types) → IsOrdered types → Grows base_types types → HasStructs types scope.structs → meaning place scope types ≡ Ok x → IsBase types x

abbrev pub FindsNamed : NameMeaning → Type 0
FindsNamed meaning = Finds meaning.written

-- ---- types without parts

based : (types : Types) (id : TyId) (t : Ty) → IsOrdered types → Grows base_types types → slice_get base_types.types id.0 ≡ Some t → is_void t ≡ false → is_reference t ≡ false → IsBase types (id, types)
based types id t ordered base at some value =
    let there : type_at types id ≡ t = type_is types id t (base.types id.0 t at) in
    record { found = record { grown = grown_not types ordered; object = ap is_void there ∙ some }; value = ap is_reference there ∙ value }

-- ---- types with parts

-- what is added isn't void where its type isn't
pub added_object : (x : TyId × Types) (t : Ty) → slice_get x.1.types x.0.0 ≡ Some t → is_void t ≡ false → IsObject x.1 x.0
added_object x t at some = ap is_void (type_is x.1 x.0 t at) ∙ some

-- a type that is added behind its part
behind : (types : Types) (part x : TyId × Types) (t : Ty) → (is_void t ≡ false) × (is_reference t ≡ false) → IsFound types part → IsAdded t part.1 x → IsBase types x
behind types part x t value first last = record {
  found = record { grown = grown_on types part.1 x.1 first.grown last.grown; object = added_object x t last.is value.0 };
  value = ap is_reference (type_is x.1 x.0 t last.is) ∙ value.1;
}

-- what is held or pointed to is plain
pub target_plain : (types : Types) (id : TyId) → target_fault types id ≡ None → is_plain (tree_at types id) ≡ true
target_plain types id e = go (is_plain (tree_at types id)) e
  where
    go : (b : Bool) → ◌≡◌ {A = Option IllKind} (if b then None else Some kinds.NotPlain) None → b ≡ true
    go true e = refl
    go false e = absurd (cc)

pub held_plain : (constant : Bool) (types : Types) (id : TyId) → held_fault constant types id ≡ None → is_plain (tree_at types id) ≡ true
held_plain true types id e = absurd (cc)
held_plain false types id e = target_plain types id e

element_plain : (constant : Bool) (types : Types) (id : TyId) → element_fault constant types id ≡ None → is_plain (tree_at types id) ≡ true
element_plain constant types id e = held_plain constant types id (first (held_fault constant types id) (element_fault_of (type_at types id)) e)
  where
    first : (a b : Option IllKind) → or_fault a b ≡ None → a ≡ None
    first None b e = refl
    first (Some kind) b e = absurd (cc)

vector_target : (types : Types) (iterator : Option IteratorName) (id : TyId) → IsPlainObject types id → HasTarget types (vector_type iterator id)
vector_target types None id target = target
vector_target types (Some name) id target = target

vector_value : (iterator : Option IteratorName) (id : TyId) → (is_void (vector_type iterator id) ≡ false) × (is_reference (vector_type iterator id) ≡ false)
vector_value None id = (refl, refl)
vector_value (Some name) id = (refl, refl)

-- the type of a struct
pub struct_found : (o : Option StructureView) (number : ℕ) (place : Place) (types : Types) (x : TyId × Types) → IsOrdered types → ((s : StructureView) → o ≡ Some s → HasStruct types number s) → struct_type o place types ≡ Ok x
    → IsAdded (ty.Struct number) types x
struct_found None number place types x ordered has e = absurd (cc)
struct_found (Some s) number place types x ordered has e =
    let same : ◌≡◌ {A = TyId × Types} (s.ty, types) x = cc in
    subst (IsAdded (ty.Struct number) types) same (record { grown = grown_not types ordered; is = (has s refl).type })

named_finds : (e : Entity) (place : Place) (scope : Scope) (types : Types) (x : TyId × Types) → IsOrdered types → HasStructs types scope.structs → type_meant e place scope types ≡ Ok x → IsBase types x
named_finds entity.Unseen place scope types x ordered structs e = absurd (cc)
named_finds (entity.Structure number) place scope types x ordered structs e =
    let found = struct_found (slice_get scope.structs number) number place types x ordered (λ s there. structs number s there) e in
    record { found = record { grown = found.grown; object = added_object x (ty.Struct number) found.is refl }; value = ap is_reference (type_is x.1 x.0 (ty.Struct number) found.is) }
named_finds (entity.Function number) place scope types x ordered structs e = absurd (cc)
named_finds (entity.Local number) place scope types x ordered structs e = absurd (cc)

same_base : (types : Types) (id : TyId) (x : TyId × Types) → ◌≡◌ {A = Checked TyId} (Ok (id, types)) (Ok x) → IsBase types (id, types) → IsBase types x
same_base types id x e found = let same : ◌≡◌ {A = TyId × Types} (id, types) x = cc in subst (IsBase types) same found

vector_finds : (element : NameMeaning) (iterator : Option IteratorName) → FindsNamed element → Bases (vector element iterator)
vector_finds element iterator finds place scope types x ordered base structs e =
    let step = bound (element.written place scope types) (λ y. sound (element_fault element.constant y.1 y.0) place (vector_type iterator y.0) y.1) x e in
    let part = finds place scope types step.value ordered base structs step.gave in
    behind types step.value x (vector_type iterator step.value.0) (vector_value iterator step.value.0) part
    (sound_added (element_fault element.constant step.value.1 step.value.0) place (vector_type iterator step.value.0) step.value.1 x part.grown.ordered
    (λ fine. vector_target step.value.1 iterator step.value.0 (record { object = part.object; plain = element_plain element.constant step.value.1 step.value.0 fine })) step.behind)

unique_finds : (element : NameMeaning) → FindsNamed element → Bases (unique element)
unique_finds element finds place scope types x ordered base structs e =
    let step = bound (element.written place scope types) (λ y. sound (held_fault element.constant y.1 y.0) place (ty.Unique y.0) y.1) x e in
    let part = finds place scope types step.value ordered base structs step.gave in
    behind types step.value x (ty.Unique step.value.0) (refl, refl) part
    (sound_added (held_fault element.constant step.value.1 step.value.0) place (ty.Unique step.value.0) step.value.1 x part.grown.ordered
    (λ fine. record { object = part.object; plain = held_plain element.constant step.value.1 step.value.0 fine }) step.behind)

span_finds : (element : NameMeaning) → FindsNamed element → Bases (span element)
span_finds element finds place scope types x ordered base structs e =
    let step = bound (element.written place scope types) (λ y. sound (target_fault y.1 y.0) place (ty.Span y.0 element.constant) y.1) x e in
    let part = finds place scope types step.value ordered base structs step.gave in
    behind types step.value x (ty.Span step.value.0 element.constant) (refl, refl) part
    (sound_added (target_fault step.value.1 step.value.0) place (ty.Span step.value.0 element.constant) step.value.1 x part.grown.ordered
    (λ fine. record { object = part.object; plain = target_plain step.value.1 step.value.0 fine }) step.behind)

-- what is claimed of each type, and of its base
abbrev claims : Claims
claims = record { base = λ x. Bases (base_meaning x); argument = λ x. FindsNamed (argument_meaning x); type = λ x. FindsNamed (type_meaning x) }

abbrev of_parts_base : Opened-Base → type_open.Base-F Meaning NameMeaning NameMeaning
of_parts_base = map-Base Base TypeArgument TypeName Meaning NameMeaning NameMeaning base_meaning argument_meaning type_meaning

base_finds : (l : Layer-Base claims) → Bases (base_step (of_parts_base (parts_base claims l)))
base_finds (type_open.Bool at) place scope types x ordered base structs e = same_base types BOOL x e (based types BOOL ty.Bool ordered base refl refl refl)
base_finds (type_open.Char at) place scope types x ordered base structs e = same_base types CHAR x e (based types CHAR ty.Char ordered base refl refl refl)
base_finds (type_open.Int at) place scope types x ordered base structs e = same_base types INT x e (based types INT ty.Int ordered base refl refl refl)
base_finds (type_open.Long at) place scope types x ordered base structs e = same_base types LONG x e (based types LONG ty.Long ordered base refl refl refl)
base_finds (type_open.SizeT name) place scope types x ordered base structs e = same_base types SIZE x e (based types SIZE ty.Size ordered base refl refl refl)
base_finds (type_open.Text name) place scope types x ordered base structs e = same_base types TEXT x e (based types TEXT ty.Text ordered base refl refl refl)
base_finds (type_open.View name) place scope types x ordered base structs e = same_base types VIEW x e (based types VIEW ty.View ordered base refl refl refl)
base_finds (type_open.Named name) place scope types x ordered base structs e = named_finds (meaning scope name.id) name.place scope types x ordered structs e
base_finds (type_open.Vector name element iterator) place scope types x ordered base structs e = vector_finds (argument_meaning element.0) iterator element.1 place scope types x ordered base structs e
base_finds (type_open.UniquePtr name element) place scope types x ordered base structs e = unique_finds (argument_meaning element.0) element.1 place scope types x ordered base structs e
base_finds (type_open.Span name element) place scope types x ordered base structs e = span_finds (argument_meaning element.0) element.1 place scope types x ordered base structs e

suffixed_finds : (constant : Bool) (s : Option Suffix) (place : Place) (id : TyId) (types : Types) (x : TyId × Types) → IsOrdered types → IsObject types id
    → suffixed constant s place id types ≡ Ok x → IsFound types x
suffixed_finds constant None place id types x ordered object e =
    let same : ◌≡◌ {A = TyId × Types} (id, types) x = cc in
    subst (IsFound types) same (record { grown = grown_not types ordered; object = object })
suffixed_finds constant (Some (suffix.Pointer at)) place id types x ordered object e =
    let new = sound_added (target_fault types id) place (ty.Raw id constant) types x ordered (λ fine. record { object = object; plain = target_plain types id fine }) e in
    record { grown = new.grown; object = added_object x (ty.Raw id constant) new.is refl }
suffixed_finds constant (Some (suffix.Reference at)) place id types x ordered object e =
    let new = sound_added (target_fault types id) place (ty.Reference id constant) types x ordered (λ fine. record { object = object; plain = target_plain types id fine }) e in
    record { grown = new.grown; object = added_object x (ty.Reference id constant) new.is refl }

-- without a `&` behind it, it is no reference
suffixed_value : (constant : Bool) (s : Option Suffix) (place : Place) (id : TyId) (types : Types) (x : TyId × Types) → IsOrdered types → IsBase types (id, types) → is_reference_with s ≡ false
    → suffixed constant s place id types ≡ Ok x → is_reference (type_at x.1 x.0) ≡ false
suffixed_value constant None place id types x ordered base none e =
    let same : ◌≡◌ {A = TyId × Types} (id, types) x = cc in
    subst (λ (y : TyId × Types). is_reference (type_at y.1 y.0) ≡ false) same base.value
suffixed_value constant (Some (suffix.Pointer at)) place id types x ordered base none e =
    let new = sound_added (target_fault types id) place (ty.Raw id constant) types x ordered (λ fine. record { object = base.found.object; plain = target_plain types id fine }) e in
    ap is_reference (type_is x.1 x.0 (ty.Raw id constant) new.is)
suffixed_value constant (Some (suffix.Reference at)) place id types x ordered base none e = absurd (cc)

type_finds : (l : type_open.TypeName-F Meaning NameMeaning NameMeaning) → Bases l.base → FindsNamed (type_step l)
type_finds l finds place scope types x ordered base structs e =
    let step = bound (l.base place scope types) (λ y. suffixed (is_some l.constant) l.suffix place y.0 y.1) x e in
    let part = finds place scope types step.value ordered base structs step.gave in
    let whole = suffixed_finds (is_some l.constant) l.suffix place step.value.0 step.value.1 x part.found.grown.ordered part.found.object step.behind in
    record { grown = grown_on types step.value.1 x.1 part.found.grown whole.grown; object = whole.object }

-- what is known of each type, without what stands behind it too, and of each in `<>`
record All : Type 0 where
  base : (b : Base) → Bases (base_meaning b)
  argument : (a : TypeArgument) → FindsNamed (argument_meaning a)
  type : (t : TypeName) → FindsNamed (type_meaning t)

all : All
unfolding base_meaning argument_meaning type_meaning
all = record {
  base = ind-Base claims.base claims.argument claims.type base_made argument_made type_made;
  argument = ind-TypeArgument claims.base claims.argument claims.type base_made argument_made type_made;
  type = ind-TypeName claims.base claims.argument claims.type base_made argument_made type_made;
}
  where
    base_made : (x : Opened-Base) (l : Layer-Base claims) → parts_base claims l ≡ x → claims.base (roll-Base x)
    base_made x l = made_alone Bases roll-Base base_meaning (parts_base claims l) x (fold-roll-Base Meaning NameMeaning NameMeaning base_step argument_step type_step (parts_base claims l)) (base_finds l)

    argument_made : (x : Opened-TypeArgument) (l : Layer-TypeArgument claims) → parts_argument claims l ≡ x → claims.argument (roll-TypeArgument x)
    argument_made x l =
        made_alone FindsNamed roll-TypeArgument argument_meaning (parts_argument claims l) x (fold-roll-TypeArgument Meaning NameMeaning NameMeaning base_step argument_step type_step (parts_argument claims l)) l.ty.value.1

    type_made : (x : Opened-TypeName) (l : Layer-TypeName claims) → parts_type claims l ≡ x → claims.type (roll-TypeName x)
    type_made x l =
        made_alone FindsNamed roll-TypeName type_meaning (parts_type claims l) x (fold-roll-TypeName Meaning NameMeaning NameMeaning base_step argument_step type_step (parts_type claims l))
        (type_finds (map-TypeName Base TypeArgument TypeName Meaning NameMeaning NameMeaning base_meaning argument_meaning type_meaning (parts_type claims l)) l.base.1)

pub written_finds : (t : TypeName) → FindsNamed (type_meaning t)
written_finds = all.type

-- .. as an element
pub argument_finds : (a : TypeArgument) → FindsNamed (argument_meaning a)
argument_finds = all.argument

-- .. that is no reference, where there is no `&` behind it
pub value_finds : (t : TypeName) → is_reference_with (out-TypeName t).suffix ≡ false → (place : Place) (scope : Scope) (types : Types) (x : TyId × Types) → IsOrdered types → Grows base_types types → HasStructs types scope.structs
    → (type_meaning t).written place scope types ≡ Ok x → is_reference (type_at x.1 x.0) ≡ false
value_finds t none place scope types x ordered base structs e =
    let step = bound (base_meaning (out-TypeName t).base place scope types) (λ y. suffixed (is_some (out-TypeName t).constant) (out-TypeName t).suffix place y.0 y.1) x (sym (type_by_parts t place scope types) ∙ e) in
    let part = all.base (out-TypeName t).base place scope types step.value ordered base structs step.gave in
    suffixed_value (is_some (out-TypeName t).constant) (out-TypeName t).suffix place step.value.0 step.value.1 x part.found.grown.ordered (record { found = record { grown = grown_not step.value.1 part.found.grown.ordered; object = part.found.object }; value = part.value }) none step.behind
