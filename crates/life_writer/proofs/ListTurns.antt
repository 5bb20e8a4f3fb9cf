-- The elements of lists one after the other.
use Rattle.std.proofs.Common.{◌≡◌, true, false, ◌+◌, ◌<◌, ◌≤◌, ℕ, suc, List, [], ◌∷◌, None, Some, drop, get_or, length, slice_get, refl, sym, ap, ◌∙◌, arith}
use Rattle.std.proofs.lemmas.List.{drop_all, drop_more}
use Rattle.std.proofs.lemmas.Option.{get_or_from_slice_get, slice_get_within}
use Rattle.life_types.specs.Trees.{members_at}
use Rattle.life_types.specs.declared.place.Place.{Place}
use Rattle.life_types.specs.declared.ty.Ty.{Ty}
use Rattle.life_types.specs.declared.ty.Ty.TheVariants as ty
use Rattle.life_types.specs.declared.ty.TyId.{TyId}
use Rattle.life_typed.specs.Delimiters.{DelimitersForm, behind_first, behind_others}
use Rattle.life_typed.specs.TypedForm.{Typed, typed_view, whole}
use Rattle.life_typed.specs.declared.typed_expr.TypedExpr.{TypedExpr}
use Rattle.life_core.specs.Operands.{Operand, object_named}
use Rattle.life_core.specs.Step.{Changes, PushBack}
use Rattle.life_core.specs.declared.instr.Form.TheVariants.{Plain, Zero}
use Rattle.life_writer.specs.Around.{Around, type_of}
use Rattle.life_writer.specs.Assigning.{assigned}
use Rattle.life_writer.specs.Building.{Destination, live, live_in}
use Rattle.life_writer.specs.ExpressionForms.{uses}
use Rattle.life_writer.specs.Giving.{given_over}
use Rattle.life_writer.specs.Lists.{assigned_members, filled_in, list_object, member_target, pushed, reserved}
use Rattle.life_writer.specs.PartUses.{expressions_uses, part_uses}
use Rattle.life_writer.specs.Parts.{has_none, part_view}
use Rattle.life_writer.specs.Uses.{Uses, lived}
use Rattle.life_writer.specs.Writing.{State, Gives, gives, ◌>>◌, emit}
use Rattle.life_writer.specs.declared.parts.Part.{Part}
use Rattle.life_writer.proofs.Handing.{behind_left, left_others, left_token, none_past}

-- ---- vectors

-- what is pushed from an element on
abbrev pub Pushed : Around → Ty → Operand → DelimitersForm → List TypedExpr → ℕ → State → State
Pushed a t to d es i s = pushed t to (expressions_uses a (drop i es)) (behind_left d i) s

pub pushed_turn : (a : Around) (t : Ty) (x : ℕ) (o : Operand) (d : DelimitersForm) (es : List TypedExpr) (i : ℕ) (e : TypedExpr) (p : Part) (behind : Place) (s s1 now total : State) (n : ℕ)
    → i < length es → e ≡ get_or es i e → part_view p ≡ typed_view e → behind ≡ get_or d.commas i d.closing → given_over (part_uses a (Some p)) t behind s ≡ gives n s1
    → o ≡ object_named x → now ≡ emit p.place (Changes o (PushBack n)) s1 → Pushed a t (object_named x) d es i s ≡ total → Pushed a t (object_named x) d es (i + 1) now ≡ total
pushed_turn a t x o d es i e p behind s s1 now total n more is seen token given named written so_far =
    let to = object_named x in let left = behind_left d i in
    let first : drop i es ≡ e ∷ drop (i + 1) es = drop_more es i e more ∙ ap (λ (y : TypedExpr). y ∷ drop (i + 1) es) (sym is) in
    let place = p.place in
    sym
    (sym so_far
    ∙ ap (λ (ys : List TypedExpr). pushed t to (expressions_uses a ys) left s) first
    ∙ ap (λ (f : Typed). pushed t to (expressions_uses a (drop (i + 1) es)) (behind_others left) (given_over (uses a (whole f)) t (behind_first left) s >> λ n s. emit f.place (Changes to (PushBack n)) s)) (sym seen)
    ∙ ap (λ (b : Place). pushed t to (expressions_uses a (drop (i + 1) es)) (behind_others left) (given_over (part_uses a (Some p)) t b s >> λ n s. emit place (Changes to (PushBack n)) s)) (left_token d i ∙ sym token)
    ∙ ap (λ (w : Gives ℕ). pushed t to (expressions_uses a (drop (i + 1) es)) (behind_others left) (emit place (Changes to (PushBack w.given)) w.state)) given
    ∙ ap (λ (y : Operand). pushed t to (expressions_uses a (drop (i + 1) es)) (behind_others left) (emit place (Changes y (PushBack n)) s1)) (sym named)
    ∙ ap (λ (z : State). pushed t to (expressions_uses a (drop (i + 1) es)) (behind_others left) z) (sym written)
    ∙ ap (λ (b : DelimitersForm). pushed t to (expressions_uses a (drop (i + 1) es)) b now) (left_others d i))

pub all_pushed : (a : Around) (t : Ty) (to : Operand) (d : DelimitersForm) (es : List TypedExpr) (i : ℕ) (s total : State) → length es ≤ i → Pushed a t to d es i s ≡ total → s ≡ total
all_pushed a t to d es i s total past so_far = sym (ap (λ (ys : List TypedExpr). pushed t to (expressions_uses a ys) (behind_left d i) s) (drop_all i es past)) ∙ so_far

-- ---- structs

-- what is assigned from a member on
abbrev pub MembersAssigned : Around → Operand → DelimitersForm → List TypedExpr → List TyId → ℕ → State → State
MembersAssigned a to d es ts i s = assigned_members a i (drop i ts) to (expressions_uses a (drop i es)) (behind_left d i) s

pub member_turn : (a : Around) (to : Operand) (d : DelimitersForm) (es : List TypedExpr) (ts : List TyId) (i m : ℕ) (e : TypedExpr) (p : Part) (id : TyId) (t : Ty) (behind : Place) (s now total : State)
    → i < length es → e ≡ get_or es i e → part_view p ≡ typed_view e → behind ≡ get_or d.commas i d.closing → Some id ≡ slice_get ts i → t ≡ type_of a id → m ≡ i
    → now ≡ assigned (part_uses a (Some p)) t (member_target m to) p.place behind s
    → MembersAssigned a to d es ts i s ≡ total → MembersAssigned a to d es ts (i + 1) now ≡ total
member_turn a to d es ts i m e p id t behind s now total more is seen token typed type_is number written so_far =
    let left = behind_left d i in let place = p.place in
    let first : drop i es ≡ e ∷ drop (i + 1) es = drop_more es i e more ∙ ap (λ (y : TypedExpr). y ∷ drop (i + 1) es) (sym is) in
    let second : drop i ts ≡ id ∷ drop (i + 1) ts = type_left ts i id typed in
    let next : suc i ≡ i + 1 = omega arith in
    sym
    (sym so_far
    ∙ ap (λ (ys : List TypedExpr). assigned_members a i (drop i ts) to (expressions_uses a ys) left s) first
    ∙ ap (λ (us : List TyId). assigned_members a i us to (expressions_uses a (e ∷ drop (i + 1) es)) left s) second
    ∙ ap (λ (f : Typed). assigned_members a (suc i) (drop (i + 1) ts) to (expressions_uses a (drop (i + 1) es)) (behind_others left) (assigned (uses a (whole f)) (type_of a id) (member_target i to) f.place (behind_first left) s)) (sym seen)
    ∙ ap (λ (b : Place). assigned_members a (suc i) (drop (i + 1) ts) to (expressions_uses a (drop (i + 1) es)) (behind_others left) (assigned (part_uses a (Some p)) (type_of a id) (member_target i to) place b s)) (left_token d i ∙ sym token)
    ∙ ap (λ (u : Ty). assigned_members a (suc i) (drop (i + 1) ts) to (expressions_uses a (drop (i + 1) es)) (behind_others left) (assigned (part_uses a (Some p)) u (member_target i to) place behind s)) (sym type_is)
    ∙ ap (λ (k : ℕ). assigned_members a (suc i) (drop (i + 1) ts) to (expressions_uses a (drop (i + 1) es)) (behind_others left) (assigned (part_uses a (Some p)) t (member_target k to) place behind s)) (sym number)
    ∙ ap (λ (z : State). assigned_members a (suc i) (drop (i + 1) ts) to (expressions_uses a (drop (i + 1) es)) (behind_others left) z) (sym written)
    ∙ ap (λ (b : DelimitersForm). assigned_members a (suc i) (drop (i + 1) ts) to (expressions_uses a (drop (i + 1) es)) b now) (left_others d i)
    ∙ ap (λ (k : ℕ). assigned_members a k (drop (i + 1) ts) to (expressions_uses a (drop (i + 1) es)) (behind_left d (i + 1)) now) next)
  where
    type_left : (ts : List TyId) (i : ℕ) (id : TyId) → Some id ≡ slice_get ts i → drop i ts ≡ id ∷ drop (i + 1) ts
    type_left ts i id there =
        drop_more ts i id (slice_get_within ts i id (sym there)) ∙ ap (λ (y : TyId). y ∷ drop (i + 1) ts) (get_or_from_slice_get ts i id id (sym there))

no_members : (a : Around) (m : ℕ) (to : Operand) (us : List Uses) (d : DelimitersForm) (s : State) → assigned_members a m [] to us d s ≡ s
no_members a m to us d s = refl

pub members_past : (a : Around) (to : Operand) (d : DelimitersForm) (es : List TypedExpr) (ts : List TyId) (i : ℕ) (s total : State) → None ≡ slice_get ts i → MembersAssigned a to d es ts i s ≡ total → s ≡ total
members_past a to d es ts i s total none so_far =
    sym (ap (λ (us : List TyId). assigned_members a i us to (expressions_uses a (drop i es)) (behind_left d i) s) (drop_all i ts (none_past ts i none)) ∙ no_members a i to (expressions_uses a (drop i es)) (behind_left d i) s) ∙ so_far

no_elements : (a : Around) (m : ℕ) (ts : List TyId) (to : Operand) (d : DelimitersForm) (s : State) → assigned_members a m ts to [] d s ≡ s
no_elements a m [] to d s = refl
no_elements a m (t ∷ ts) to d s = refl

pub all_assigned : (a : Around) (to : Operand) (d : DelimitersForm) (es : List TypedExpr) (ts : List TyId) (i : ℕ) (s total : State) → length es ≤ i → MembersAssigned a to d es ts i s ≡ total → s ≡ total
all_assigned a to d es ts i s total past so_far =
    sym (ap (λ (ys : List TypedExpr). assigned_members a i (drop i ts) to (expressions_uses a ys) (behind_left d i) s) (drop_all i es past) ∙ no_elements a i (drop i ts) to (behind_left d i) s) ∙ so_far

-- ---- any list

pub as_many : (a : Around) (es : List TypedExpr) → length es ≡ length (expressions_uses a es)
as_many a [] = refl
as_many a (e ∷ es) = ap suc (as_many a es)

-- what is done to an object of a type: room for all elements, and then each
pub vector_filled : (a : Around) (es : List TypedExpr) (d : DelimitersForm) (opening : Place) (x : ℕ) (t u : Ty) (id : TyId) (s s1 now : State) → t ≡ ty.Vector id
    → s1 ≡ reserved opening (length es) (object_named x) s → u ≡ type_of a id → now ≡ pushed u (object_named x) (expressions_uses a es) d s1
    → now ≡ filled_in a t opening (expressions_uses a es) d opening (object_named x) s
vector_filled a es d opening x t u id s s1 now is room element written =
    let us = expressions_uses a es in let to = object_named x in
    written
    ∙ ap (λ (v : Ty). pushed v to us d s1) element
    ∙ ap (λ (z : State). pushed (type_of a id) to us d z) (room ∙ ap (λ (n : ℕ). reserved opening n to s) (as_many a es))
    ∙ sym (ap (λ (v : Ty). filled_in a v opening us d opening to s) is)

-- .. or each member
pub struct_filled : (a : Around) (es : List TypedExpr) (d : DelimitersForm) (opening : Place) (x number : ℕ) (t : Ty) (ids : List TyId) (s now : State) → t ≡ ty.Struct number
    → ids ≡ members_at a.program.types number → now ≡ assigned_members a 0 ids (object_named x) (expressions_uses a es) d s
    → now ≡ filled_in a t opening (expressions_uses a es) d opening (object_named x) s
struct_filled a es d opening x number t ids s now is members written =
    let us = expressions_uses a es in let to = object_named x in
    written
    ∙ ap (λ (ts : List TyId). assigned_members a 0 ts to us d s) members
    ∙ sym (ap (λ (v : Ty). filled_in a v opening us d opening to s) is)

pub list_of_none : (a : Around) (t : Ty) (opening : Place) (es : List TypedExpr) (d : DelimitersForm) (goal : Destination) (s : State) → has_none es ≡ true
    → list_object a t opening (expressions_uses a es) d goal s ≡ live_in Zero goal s
list_of_none a t opening [] d goal s none = refl
list_of_none a t opening (e ∷ es) d goal s none = absurd (let both : false ≡ true = none in cc)

-- it fills what it builds wherever that stands
filled_anywhere : (t : Ty) (a : Around) (opening : Place) (us : List Uses) (d : DelimitersForm) (p q : Place) (to : Operand) (s : State) → filled_in a t opening us d p to s ≡ filled_in a t opening us d q to s
filled_anywhere ty.Void a opening us d p q to s = refl
filled_anywhere ty.Bool a opening us d p q to s = refl
filled_anywhere ty.Char a opening us d p q to s = refl
filled_anywhere ty.Int a opening us d p q to s = refl
filled_anywhere ty.Long a opening us d p q to s = refl
filled_anywhere ty.Size a opening us d p q to s = refl
filled_anywhere ty.Text a opening us d p q to s = refl
filled_anywhere ty.View a opening us d p q to s = refl
filled_anywhere (ty.Vector x) a opening us d p q to s = refl
filled_anywhere (ty.Unique x) a opening us d p q to s = refl
filled_anywhere (ty.Raw x y) a opening us d p q to s = refl
filled_anywhere (ty.Reference x y) a opening us d p q to s = refl
filled_anywhere (ty.Iterator x y) a opening us d p q to s = refl
filled_anywhere (ty.Span x y) a opening us d p q to s = refl
filled_anywhere (ty.Struct n) a opening us d p q to s = refl

list_built : (a : Around) (t : Ty) (opening : Place) (es : List TypedExpr) (d : DelimitersForm) (goal : Destination) (s : State) → has_none es ≡ false
    → list_object a t opening (expressions_uses a es) d goal s ≡ lived Plain (filled_in a t opening (expressions_uses a es) d) goal s
list_built a t opening [] d goal s some = absurd (let both : true ≡ false = some in cc)
list_built a t opening (e ∷ es) d goal s some = refl

pub list_of_some : (a : Around) (t : Ty) (opening : Place) (es : List TypedExpr) (d : DelimitersForm) (goal : Destination) (s s1 now : State) (x : ℕ) → has_none es ≡ false
    → live goal s ≡ gives x s1 → now ≡ filled_in a t opening (expressions_uses a es) d opening (object_named x) s1 → list_object a t opening (expressions_uses a es) d goal s ≡ gives x now
list_of_some a t opening es d goal s s1 now x some first written =
    let us = expressions_uses a es in
    list_built a t opening es d goal s some
    ∙ ap (λ (w : Gives ℕ). gives w.given (filled_in a t opening us d goal.place (object_named w.given) w.state)) first
    ∙ ap (λ (z : State). gives x z) (filled_anywhere t a opening us d goal.place opening (object_named x) s1 ∙ sym written)
