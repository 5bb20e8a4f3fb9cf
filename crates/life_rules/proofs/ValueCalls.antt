-- Functions that take and give values alone: nothing comes of their calls, and nothing is wrong with them or with their results.
use Rattle.std.proofs.Common.{◌≡◌, ℕ, zero, suc, ◌+◌, Bool, true, false, true≢false, List, [], ◌∷◌, ◌++◌, map, Option, Some, None, refl, sym, ap, ◌∙◌, if◌then◌else◌}
use Rattle.std.specs.Prelude.{◌&&◌, nat_lt, length, slice_get}
use Rattle.std.specs.List.{flat_map, list_all, list_any}
use Rattle.std.proofs.lemmas.Bool.{and_parts}
use Rattle.life_types.specs.Pointees.{or_void, ty_of}
use Rattle.life_types.specs.Trees.{TypeTree, tree_at, tree_of, tree_within}
use Rattle.life_types.specs.TypeTests.{is_pointer}
use Rattle.life_types.specs.Types.{Types, class}
use Rattle.life_types.specs.declared.place.Place.{Place}
use Rattle.life_types.specs.declared.ty.Ty.{Ty}
use Rattle.life_types.specs.declared.ty.Ty.TheVariants as ty
use Rattle.life_types.specs.declared.ty.TyId.{TyId}
use Rattle.life_core.specs.Function.{Function}
use Rattle.life_core.specs.Operands.{Argument, Location}
use Rattle.life_core.specs.Step.{Call}
use Rattle.life_core.specs.declared.program.FnId.{FnId}
use Rattle.life_core.specs.declared.program.LocalKind.TheVariants.{Object}
use Rattle.life_pset.specs.Elements.{Input, inputs_among, inputs_from, local_inputs, local_locations, local_place, locations_in, pointers_in}
use Rattle.life_pset.specs.Places.{path}
use Rattle.life_pset.specs.Shapes.{has_buffer, member_of, members_type, shape, shape_if, ty_if, unslotted}
use Rattle.life_pset.specs.declared.element.AbsPlace.{AbsPlace}
use Rattle.life_pset.specs.declared.element.Element.{Element}
use Rattle.life_pset.specs.declared.element.Fact.{Fact}
use Rattle.life_contract.specs.Arguments.{is_argument_of, is_mutating_argument}
use Rattle.life_contract.specs.Breaking.{of_pairs}
use Rattle.life_contract.specs.Inputs.{inputs_of_signature, is_mutating, parameter_local}
use Rattle.life_contract.specs.Located.{located}
use Rattle.life_contract.specs.Promises.{result_locations, result_type}
use Rattle.life_contract.specs.Signatures.{Signature}
use Rattle.life_contract.specs.ValueSignatures.{AreValueSignatures, is_value_class, is_value_parameter, is_value_signature, is_value_type}
use Rattle.life_contract.specs.declared.param.Param.{Param}
use Rattle.life_rules.proofs.Nothing.{and_first, cond_none, either_none}
use Rattle.life_rules.specs.Arguing.{argument_diags, argument_diags_of_two, broken_at, broken_by, broken_by_two, moved_at, overlapping_at}
use Rattle.life_rules.specs.Calling.{called_none, called_one, called_two, fixed_facts, killed_by_call, passed_for}
use Rattle.life_rules.specs.Keeping.{keeping_diags, kept_by_call}
use Rattle.life_rules.specs.Returning.{is_wide, widened_result}

-- ---- types of values

-- such a type has no pointers, no buffer, no members, and stands as itself
value_pointers : (types : Types) (part : TyId → TypeTree) (at : AbsPlace) (o : Option Ty) → is_value_class (class o) ≡ true → pointers_in at (tree_of types part o) ≡ []
value_pointers types part at None h = refl
value_pointers types part at (Some ty.Void) h = refl
value_pointers types part at (Some ty.Bool) h = refl
value_pointers types part at (Some ty.Char) h = refl
value_pointers types part at (Some ty.Int) h = refl
value_pointers types part at (Some ty.Long) h = refl
value_pointers types part at (Some ty.Size) h = refl
value_pointers types part at (Some _) h = absurd (true≢false (sym h))

value_buffer : (o : Option Ty) → is_value_class (class o) ≡ true → has_buffer (or_void o) ≡ false
value_buffer None h = refl
value_buffer (Some ty.Text) h = absurd (true≢false (sym h))
value_buffer (Some (ty.Vector item)) h = absurd (true≢false (sym h))
value_buffer (Some _) h = refl

value_itself : (types : Types) (id : TyId) (b : Bool) (o : Option Ty) → ty_of types id ≡ or_void o → is_value_class (class o) ≡ true → shape_if types b id ≡ id
value_itself types id false o e h = refl
value_itself types id true None e h = ap (unslotted types id) e
value_itself types id true (Some (ty.Reference target constant)) e h = absurd (true≢false (sym h))
value_itself types id true (Some _) e h = ap (unslotted types id) e

value_no_pointer : (o : Option Ty) → is_value_class (class o) ≡ true → is_pointer (or_void o) ≡ false
value_no_pointer None h = refl
value_no_pointer (Some ty.View) h = absurd (true≢false (sym h))
value_no_pointer (Some (ty.Raw target constant)) h = absurd (true≢false (sym h))
value_no_pointer (Some (ty.Reference target constant)) h = absurd (true≢false (sym h))
value_no_pointer (Some (ty.Iterator target constant)) h = absurd (true≢false (sym h))
value_no_pointer (Some (ty.Span target constant)) h = absurd (true≢false (sym h))
value_no_pointer (Some _) h = refl

value_no_member : (types : Types) (o : Option Ty) (m : ℕ) → is_value_class (class o) ≡ true → member_of types (or_void o) m ≡ None
value_no_member types None m h = refl
value_no_member types (Some (ty.Struct number)) m h = absurd (true≢false (sym h))
value_no_member types (Some _) m h = refl

value_locations : (types : Types) (id : TyId) (at : AbsPlace) → is_value_type types id ≡ true → locations_in types Object id at ≡ []
unfolding tree_at
value_locations types id at h =
    let o = slice_get types.types id.0 in
    ap (λ (b : Bool). if b then at ∷ [] else pointers_in at (tree_of types (tree_within id.0 types) o)) (value_buffer o h) ∙ value_pointers types (tree_within id.0 types) at o h

none_of_none : (types : Types) (ms : List ℕ) → is_pointer (ty_if types (members_type types None ms)) ≡ false
none_of_none types [] = refl
none_of_none types (m ∷ ms) = none_of_none types ms

value_parts : (types : Types) (id : TyId) (ms : List ℕ) → is_value_type types id ≡ true → is_pointer (ty_if types (members_type types (Some id) ms)) ≡ false
value_parts types id [] h = value_no_pointer (slice_get types.types id.0) h
value_parts types id (m ∷ ms) h =
    ap (λ (t : Option TyId). is_pointer (ty_if types (members_type types t ms))) (value_no_member types (slice_get types.types id.0) m h) ∙ none_of_none types ms

-- ---- so the signature has no input, and its result no location

parameter_none : (types : Types) (n x : ℕ) (place : Place) (p : Param) → is_value_type types p.ty ≡ true → local_inputs types n x (parameter_local place p) ≡ []
parameter_none types n x place p h =
    let l = parameter_local place p in
    let itself : shape types n x l ≡ p.ty = value_itself types p.ty (nat_lt x n) (slice_get types.types p.ty.0) refl h in
    let none : local_locations types n x l ≡ [] = ap (λ (id : TyId). locations_in types Object id (local_place x)) itself ∙ value_locations types p.ty (local_place x) h in
    either_none (nat_lt x n) (inputs_among types x (shape types n x l) 0 (local_locations types n x l)) (ap (λ (ls : List AbsPlace). inputs_among types x (shape types n x l) 0 ls) none)

parameters_none : (types : Types) (n x : ℕ) (place : Place) (ps : List Param) → list_all (is_value_parameter types) ps ≡ true → inputs_from types n x (map (parameter_local place) ps) ≡ []
parameters_none types n x place [] h = refl
parameters_none types n x place (p ∷ ps) h =
    let both = and_parts (is_value_parameter types p) (list_all (is_value_parameter types) ps) h in
    ap (λ (inputs : List Input). inputs ++ inputs_from types n (x + 1) (map (parameter_local place) ps)) (parameter_none types n x place p both.0) ∙ parameters_none types n (x + 1) place ps both.1

pub no_inputs : (types : Types) (sig : Signature) → is_value_signature types sig ≡ true → inputs_of_signature types sig ≡ []
no_inputs types sig h = parameters_none types (length sig.parameters) 0 sig.place sig.parameters (and_parts (list_all (is_value_parameter types) sig.parameters) (is_value_type types sig.result) h).0

value_result : (types : Types) (sig : Signature) → is_value_signature types sig ≡ true → is_value_type types sig.result ≡ true
value_result types sig h = (and_parts (list_all (is_value_parameter types) sig.parameters) (is_value_type types sig.result) h).1

pub no_result_locations : (types : Types) (sig : Signature) → is_value_signature types sig ≡ true → result_locations types sig ≡ []
no_result_locations types sig h = value_locations types sig.result (local_place (length sig.parameters)) (value_result types sig h)

-- ---- the signature of a called function, if there is one

abbrev IsValueIf : Types → Option Signature → Type 0
IsValueIf types None = Unit {0}
IsValueIf types (Some sig) = is_value_signature types sig ≡ true

value_at : (types : Types) (sigs : List Signature) (n : ℕ) → list_all (is_value_signature types) sigs ≡ true → IsValueIf types (slice_get sigs n)
value_at types [] zero h = tt
value_at types [] (suc n) h = tt
value_at types (sig ∷ sigs) zero h = (and_parts (is_value_signature types sig) (list_all (is_value_signature types) sigs) h).0
value_at types (sig ∷ sigs) (suc n) h = value_at types sigs n (and_parts (is_value_signature types sig) (list_all (is_value_signature types) sigs) h).1

none_made : (types : Types) (sig : Option Signature) (target : Option Location) → IsValueIf types sig → called_none types sig target ≡ []
none_made types None target h = refl
none_made types (Some sig) None h = refl
none_made types (Some sig) (Some l) h = ap (flat_map (fixed_facts types sig (located l))) (no_result_locations types sig h)

one_made : (types : Types) (sig : Option Signature) (xs : List Argument) (target : Option Location) (fact : Fact) → IsValueIf types sig → called_one types sig xs target fact ≡ []
one_made types None xs target fact h = refl
one_made types (Some sig) xs None fact h = refl
one_made types (Some sig) xs (Some l) fact h = ap (flat_map (passed_for types sig xs (located l) fact)) (no_inputs types sig h)

no_mutating : (types : Types) (sig : Signature) (xs : List Argument) (l : AbsPlace) → is_value_signature types sig ≡ true → is_mutating_argument types sig xs l ≡ false
no_mutating types sig xs l h = ap (list_any (λ i. is_mutating types sig i && is_argument_of xs i l)) (no_inputs types sig h)

two_made : (types : Types) (place : Place) (g : ℕ) (sig : Option Signature) (xs : List Argument) (target : Option Location) (a b : Fact) → IsValueIf types sig → called_two types place g sig xs target a b ≡ []
two_made types place g None xs target a b h = refl
two_made types place g (Some sig) xs target a b h = cond_none (is_mutating_argument types sig xs a.location) (killed_by_call place g target a.element b) (no_mutating types sig xs a.location h)

one_told : (types : Types) (function : ℕ) (place : Place) (g : ℕ) (sig : Option Signature) (xs : List Argument) (fact : Fact) → IsValueIf types sig → broken_by types function place g sig xs fact ≡ []
one_told types function place g None xs fact h = refl
one_told types function place g (Some sig) xs fact h = ap (flat_map (broken_at types function place g sig xs fact)) (no_inputs types sig h)

kept_told : (types : Types) (function : ℕ) (f : Function) (place : Place) (g : ℕ) (sig : Option Signature) (xs : List Argument) (fact : Fact) → IsValueIf types sig → kept_by_call types function f place g sig xs fact ≡ []
kept_told types function f place g None xs fact h = refl
kept_told types function f place g (Some sig) xs fact h = cond_none (is_mutating_argument types sig xs fact.location) _ (no_mutating types sig xs fact.location h)

two_told : (types : Types) (function : ℕ) (f : Function) (place : Place) (g : ℕ) (sig : Option Signature) (xs : List Argument) (a b : Fact) → IsValueIf types sig → broken_by_two types function f place g sig xs a b ≡ []
two_told types function f place g None xs a b h = refl
two_told types function f place g (Some sig) xs a b h =
    ap (λ (inputs : List Input). flat_map (moved_at types function f place g xs a b) inputs ++ of_pairs (overlapping_at types function place g sig xs a b) inputs) (no_inputs types sig h)

-- ---- calls of such functions

pub value_makes_none : (types : Types) (sigs : List Signature) → AreValueSignatures types sigs → (target : Option Location) (g : FnId) → called_none types (slice_get sigs g.0) target ≡ []
value_makes_none types sigs values target g = none_made types (slice_get sigs g.0) target (value_at types sigs g.0 values)

pub value_makes_one : (types : Types) (sigs : List Signature) → AreValueSignatures types sigs → (target : Option Location) (g : FnId) (xs : List Argument) (fact : Fact)
    → called_one types (slice_get sigs g.0) xs target fact ≡ []
value_makes_one types sigs values target g xs fact = one_made types (slice_get sigs g.0) xs target fact (value_at types sigs g.0 values)

pub value_makes_two : (types : Types) (sigs : List Signature) → AreValueSignatures types sigs → (place : Place) (target : Option Location) (g : FnId) (xs : List Argument) (a b : Fact)
    → called_two types place g.0 (slice_get sigs g.0) xs target a b ≡ []
value_makes_two types sigs values place target g xs a b = two_made types place g.0 (slice_get sigs g.0) xs target a b (value_at types sigs g.0 values)

pub value_tells_one : (types : Types) (sigs : List Signature) → AreValueSignatures types sigs → (function : ℕ) (place : Place) (target : Option Location) (g : FnId) (xs : List Argument) (fact : Fact)
    → argument_diags sigs types function place (Call target g xs) fact ≡ []
value_tells_one types sigs values function place target g xs fact = one_told types function place g.0 (slice_get sigs g.0) xs fact (value_at types sigs g.0 values)

pub value_keeps : (types : Types) (sigs : List Signature) → AreValueSignatures types sigs → (function : ℕ) (f : Function) (place : Place) (target : Option Location) (g : FnId) (xs : List Argument) (fact : Fact)
    → keeping_diags sigs types function f place (Call target g xs) fact ≡ []
value_keeps types sigs values function f place target g xs fact = kept_told types function f place g.0 (slice_get sigs g.0) xs fact (value_at types sigs g.0 values)

pub value_tells_two : (types : Types) (sigs : List Signature) → AreValueSignatures types sigs → (function : ℕ) (f : Function) (place : Place) (target : Option Location) (g : FnId) (xs : List Argument) (a b : Fact)
    → argument_diags_of_two sigs types function f place (Call target g xs) a b ≡ []
value_tells_two types sigs values function f place target g xs a b = two_told types function f place g.0 (slice_get sigs g.0) xs a b (value_at types sigs g.0 values)

-- ---- and the result of such a function is no wider than what it promises

pub value_returns : (types : Types) (sig : Signature) → is_value_signature types sig ≡ true → (function : ℕ) (place : Place) (l : AbsPlace) (e : Element) → widened_result types sig function place l e ≡ []
value_returns types sig value function place l e =
    let t = result_type types sig l in
    cond_none (is_pointer t && is_wide types sig t e) _ (and_first (is_pointer t) (is_wide types sig t e) (value_parts types sig.result (path l) (value_result types sig value)))
