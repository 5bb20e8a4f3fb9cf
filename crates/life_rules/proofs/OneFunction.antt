-- The diagnostics of a program that has one function are those of the function.
use Rattle.std.proofs.Common.{◌≡◌, ℕ, zero, suc, inl, inr, List, [], ◌∷◌, ◌++◌, map, Option, Some, None, refl, sym, ap, subst, ◌∙◌}
use Rattle.std.specs.List.{flat_map}
use Rattle.std.specs.List.Sorted.{IsStrictlySortedBy}
use Rattle.std.proofs.lemmas.List.Elements.{Contains-append_cases}
use Rattle.std.specs.Prelude.{Bool, true, false, cond, if◌then◌else◌, ◌&&◌, Contains, slice_get}
use Rattle.life_types.specs.TypeTests.{is_pointer}
use Rattle.life_types.specs.Types.{Types}
use Rattle.life_types.specs.declared.place.Place.{Place}
use Rattle.life_core.specs.Function.{Function, Program}
use Rattle.life_core.specs.Linked.{spot_of}
use Rattle.life_core.specs.Tree.{Node, Action, Question, Return, Stop, Spot}
use Rattle.life_pset.specs.declared.element.AbsPlace.{AbsPlace}
use Rattle.life_pset.specs.declared.element.Element.{Element}
use Rattle.life_pset.specs.declared.element.Element.TheVariants as element
use Rattle.life_pset.specs.declared.element.Fact.{Fact}
use Rattle.life_types.specs.Trees.{holds_owner}
use Rattle.life_core.specs.Operands.{Argument, Location, Operand, Name, Through}
use Rattle.life_core.specs.Step.{Step, Copy, Move, Changes, Call}
use Rattle.life_pset.specs.Elements.{Input, called, owner_changed}
use Rattle.life_pset.specs.declared.element.Cause.{Cause}
use Rattle.life_pset.specs.declared.element.Root.{Root}
use Rattle.life_pset.specs.declared.element.Root.TheVariants as root
use Rattle.life_pset.specs.Places.{members_place}
use Rattle.life_pset.specs.Shapes.{is_variable_place, operand_type, tree_if}
use Rattle.life_pset.specs.contracts.element.AbsPlacePartialEq.TheImpl.{ghosts as compared}
use Rattle.life_rules.specs.Carrying.{is_location, is_rooted, located}
use Rattle.life_contract.specs.Arguments.{is_argument_of, is_mutating_argument}
use Rattle.life_contract.specs.Breaking.{Break, NotAdmitted, Dangles, breaks_apart, breaks_at, of_pairs}
use Rattle.life_contract.specs.Inputs.{input_parameter, inputs_of_signature}
use Rattle.life_contract.specs.Promises.{result_type}
use Rattle.life_contract.specs.Signatures.{Signature, signature_of, signatures_of}
use Rattle.life_rules.specs.Arguing.{argument_diags, argument_diags_of_two, broken_at, broken_by, broken_by_two, known_name, moved_argument, moved_at, moved_behind, overlapping_at, told_break}
use Rattle.life_rules.specs.Diagnosing.{uses, reads, opens, owners, misused, misread, misopened, moved_use, misused_as, misread_as, misopened_as, moved_as, use_diags, node_diags, diags_at, moved_target, moved_through, node_diags_of_two, diags_of_two, Tells, IsDiagnosed}
use Rattle.life_rules.specs.Keeping.{is_kept, keeping_diags, kept_by_call, kept_input, kept_root, kept_target, kept_through}
use Rattle.life_rules.specs.Returning.{dangling_result, is_wide, widened_result}
use Rattle.life_rules.specs.Telling.{told, told_of}
use Rattle.life_rules.specs.Texts.{input_of, is_result, naming_in}
use Rattle.life_rules.specs.Lines.{line_of, line_cmp}
use Rattle.life_rules.specs.Listing.{Represents, AreDiagnostics, IsProgramDiagnosed, line_in, program_line, AreProgramDiagnostics}
use Rattle.life_rules.specs.declared.diag.Diag.{Diag}
use Rattle.life_rules.specs.declared.diag.DiagKind.{DiagKind}
use Rattle.life_rules.specs.declared.diag.DiagKind.TheVariants.{NullUse, DanglingUse, MovedUse, ArgNull, ArgDangling, ArgOverlap, ReturnDangling, ReturnWidens, KeepsBroken}
use Rattle.life_rules.specs.declared.diag.Why.{Why}
use Rattle.life_rules.specs.declared.diag.Why.TheVariants as why
use Rattle.life_rules.proofs.Giving.{none_in_empty, at_head, in_tail, cons_cases, flat_map_from}

-- ---- a diagnostic names the function in which it was found

-- these are all of the function with this number
abbrev AllOf : ℕ → List Diag → Type 0
AllOf n ds = (d : Diag) → Contains ds d → d.function ≡ n

none_of : (n : ℕ) → AllOf n []
none_of n d h = absurd (none_in_empty d h)

said_of : (n : ℕ) (place : Place) (kind : DiagKind) (l : AbsPlace) (why : Why) → AllOf n (told n place kind l why)
said_of n place kind l why d h = elim (cons_cases _ [] d h) [ inl is ↦ sym (ap (λ (x : Diag). x.function) is) | inr none ↦ absurd (none_in_empty d none) ]

both_of : (n : ℕ) (xs ys : List Diag) → AllOf n xs → AllOf n ys → AllOf n (xs ++ ys)
both_of n xs ys first second d h = elim (Contains-append_cases xs ys d h) [ inl one ↦ first d one | inr two ↦ second d two ]

each_of : {A : Type 0} (n : ℕ) (g : A → List Diag) (xs : List A) → ((x : A) → AllOf n (g x)) → AllOf n (flat_map g xs)
each_of n g xs all d h = let from = flat_map_from g xs d h in all from.0 d from.1.1

if_of : (n : ℕ) (b : Bool) (xs : List Diag) → AllOf n xs → AllOf n (cond b xs [])
if_of n true xs all = all
if_of n false xs all = none_of n

said_of_call : (n : ℕ) (place : Place) (g : ℕ) (kind : DiagKind) (l : AbsPlace) (why : Why) → AllOf n (told_of n place g kind l why)
said_of_call n place g kind l why d h = elim (cons_cases _ [] d h) [ inl is ↦ sym (ap (λ (x : Diag). x.function) is) | inr none ↦ absurd (none_in_empty d none) ]

misused_of : (n : ℕ) (place : Place) (l : AbsPlace) (e : Element) → AllOf n (misused n place l e)
misused_of n place l element.Null = said_of n place NullUse l why.Null
misused_of n place l (element.Invalid c) = said_of n place DanglingUse l (why.Cause c)
misused_of n place l _ = none_of n

misread_of : (n : ℕ) (place : Place) (l : AbsPlace) (e : Element) → AllOf n (misread n place l e)
misread_of n place l (element.Invalid c) = said_of n place DanglingUse l (why.Cause c)
misread_of n place l _ = none_of n

misopened_of : (n : ℕ) (place : Place) (l : AbsPlace) (e : Element) → AllOf n (misopened n place l e)
misopened_of n place l element.Null = said_of n place NullUse l why.Null
misopened_of n place l (element.Moved c) = said_of n place NullUse l (why.Cause c)
misopened_of n place l _ = none_of n

moved_use_of : (n : ℕ) (place : Place) (l : AbsPlace) (e : Element) → AllOf n (moved_use n place l e)
moved_use_of n place l (element.Moved c) = said_of n place MovedUse l (why.Cause c)
moved_use_of n place l _ = none_of n

dangling_of : (n : ℕ) (place : Place) (l : AbsPlace) (e : Element) → AllOf n (dangling_result n place l e)
dangling_of n place l (element.Invalid c) = said_of n place ReturnDangling l (why.Cause c)
dangling_of n place l _ = none_of n

moved_as_of : (types : Types) (n : ℕ) (f : Function) (place : Place) (fact : Fact) (o : Operand) → AllOf n (moved_as types n f place fact o)
moved_as_of types n f place fact (Name l) = if_of n (is_location l fact.location && is_variable_place types f fact.location) _ (moved_use_of n place fact.location fact.element)
moved_as_of types n f place fact (Through p members) = none_of n

use_of : (types : Types) (n : ℕ) (f : Function) (place : Place) (i : Step) (fact : Fact) → AllOf n (use_diags types n f place i fact)
use_of types n f place i fact =
    both_of n _ _ (each_of n (misused_as n place fact) (uses i) (λ p. if_of n (is_location p fact.location) _ (misused_of n place fact.location fact.element)))
    (both_of n _ _ (each_of n (misread_as n place fact) (reads i) (λ p. if_of n (is_location p fact.location) _ (misread_of n place fact.location fact.element)))
    (both_of n _ _ (each_of n (misopened_as n place fact) (opens i) (λ p. if_of n (is_location p fact.location) _ (misopened_of n place fact.location fact.element)))
    (each_of n (moved_as types n f place fact) (owners i) (moved_as_of types n f place fact))))

-- .. with an argument

break_of : (n : ℕ) (place : Place) (g : ℕ) (i : Input) (b : Break) → AllOf n (told_break n place g i b)
break_of n place g i NotAdmitted = said_of_call n place g ArgNull i.pointer why.Null
break_of n place g i (Dangles c) = said_of_call n place g ArgDangling i.pointer (why.Cause c)

broken_of : (types : Types) (n : ℕ) (place : Place) (g : ℕ) (sig : Option Signature) (xs : List Argument) (fact : Fact) → AllOf n (broken_by types n place g sig xs fact)
broken_of types n place g None xs fact = none_of n
broken_of types n place g (Some sig) xs fact =
    each_of n (broken_at types n place g sig xs fact) (inputs_of_signature types sig)
    (λ i. if_of n (is_argument_of xs i fact.location) _ (each_of n (told_break n place g i) (breaks_at types sig i fact.element) (break_of n place g i)))

argument_of : (sigs : List Signature) (types : Types) (n : ℕ) (place : Place) (i : Step) (fact : Fact) → AllOf n (argument_diags sigs types n place i fact)
argument_of sigs types n place (Call target g xs) fact = broken_of types n place g.0 (slice_get sigs g.0) xs fact
argument_of sigs types n place _ fact = none_of n

-- .. with an owner that a parameter keeps

input_kept : (n : ℕ) (place : Place) (c : Cause) (i : Option Input) → AllOf n (kept_input n place c i)
input_kept n place c None = none_of n
input_kept n place c (Some i) = said_of n place KeepsBroken i.pointer (why.Cause c)

root_kept : (types : Types) (n : ℕ) (f : Function) (place : Place) (c : Cause) (r : Root) → AllOf n (kept_root types n f place c r)
root_kept types n f place c (root.Local x) = none_of n
root_kept types n f place c (root.Input q member) = if_of n (is_kept (slice_get f.locals q)) _ (input_kept n place c (input_of types f q member))

target_kept : (types : Types) (n : ℕ) (f : Function) (place : Place) (c : Cause) (e : Element) → AllOf n (kept_target types n f place c e)
target_kept types n f place c (element.At a) = root_kept types n f place c a.root
target_kept types n f place c _ = none_of n

through_kept : (types : Types) (n : ℕ) (f : Function) (place : Place) (fact : Fact) (o : Operand) → AllOf n (kept_through types n f place fact o)
through_kept types n f place fact (Name l) = none_of n
through_kept types n f place fact (Through p members) = if_of n (is_location p fact.location) _ (target_kept types n f place (owner_changed place) fact.element)

call_kept : (types : Types) (n : ℕ) (f : Function) (place : Place) (g : ℕ) (sig : Option Signature) (xs : List Argument) (fact : Fact) → AllOf n (kept_by_call types n f place g sig xs fact)
call_kept types n f place g None xs fact = none_of n
call_kept types n f place g (Some sig) xs fact = if_of n (is_mutating_argument types sig xs fact.location) _ (target_kept types n f place (called place g) fact.element)

either_of : (n : ℕ) (b : Bool) (xs : List Diag) → AllOf n xs → AllOf n (if b then xs else [])
either_of n true xs all = all
either_of n false xs all = none_of n

keeping_of : (sigs : List Signature) (types : Types) (n : ℕ) (f : Function) (place : Place) (i : Step) (fact : Fact) → AllOf n (keeping_diags sigs types n f place i fact)
keeping_of sigs types n f place (Copy to from) fact = either_of n (holds_owner (tree_if types (operand_type types f to))) _ (through_kept types n f place fact to)
keeping_of sigs types n f place (Move to y) fact = through_kept types n f place fact to
keeping_of sigs types n f place (Changes o change) fact = through_kept types n f place fact o
keeping_of sigs types n f place (Call target g xs) fact = call_kept types n f place g.0 (slice_get sigs g.0) xs fact
keeping_of sigs types n f place _ fact = none_of n

-- .. with a result

wide_of : (types : Types) (sig : Signature) (n : ℕ) (place : Place) (l : AbsPlace) (e : Element) → AllOf n (widened_result types sig n place l e)
wide_of types sig n place l e =
    if_of n (is_pointer (result_type types sig l) && is_wide types sig (result_type types sig l) e) (told n place ReturnWidens l (why.Points e))
    (said_of n place ReturnWidens l (why.Points e))

node_of : (sigs : List Signature) (types : Types) (n : ℕ) (f : Function) (place : Place) (node : Node) (fact : Fact) → AllOf n (node_diags sigs types n f place node fact)
node_of sigs types n f place (Action i) fact = both_of n _ _ (use_of types n f place i fact) (both_of n _ _ (argument_of sigs types n place i fact) (keeping_of sigs types n f place i fact))
node_of sigs types n f place (Question t) fact = none_of n
node_of sigs types n f place Return fact =
    if_of n (is_result types f f.parameters && is_rooted f.parameters fact.location) _
    (both_of n _ _ (dangling_of n place fact.location fact.element) (wide_of types (signature_of f) n place fact.location fact.element))
node_of sigs types n f place Stop fact = none_of n

spot_of_one : (sigs : List Signature) (types : Types) (n : ℕ) (f : Function) (spot : Option Spot) (fact : Fact) → AllOf n (diags_at sigs types n f spot fact)
spot_of_one sigs types n f None fact = none_of n
spot_of_one sigs types n f (Some s) fact = node_of sigs types n f s.place s.node fact

target_of : (types : Types) (n : ℕ) (f : Function) (place : Place) (p : Location) (members : List ℕ) (e : Element) (b : Fact) → AllOf n (moved_target types n f place p members e b)
target_of types n f place p members (element.At a) b = if_of n (compared.eq b.location (members_place a members) && is_variable_place types f b.location) _ (moved_use_of n place (located p) b.element)
target_of types n f place p members _ b = none_of n

through_of : (types : Types) (n : ℕ) (f : Function) (place : Place) (a b : Fact) (o : Operand) → AllOf n (moved_through types n f place a b o)
through_of types n f place a b (Name l) = none_of n
through_of types n f place a b (Through p members) = if_of n (is_location p a.location) _ (target_of types n f place p members a.element b)

moved_argument_of : (n : ℕ) (place : Place) (g : ℕ) (i : Input) (e : Element) → AllOf n (moved_argument n place g i e)
moved_argument_of n place g i (element.Moved c) = said_of_call n place g ArgDangling i.pointer (why.Cause c)
moved_argument_of n place g i _ = none_of n

moved_behind_of : (types : Types) (n : ℕ) (f : Function) (place : Place) (g : ℕ) (i : Input) (e : Element) (b : Fact) → AllOf n (moved_behind types n f place g i e b)
moved_behind_of types n f place g i (element.At a) b = if_of n (compared.eq b.location a && is_variable_place types f b.location) _ (moved_argument_of n place g i b.element)
moved_behind_of types n f place g i _ b = none_of n

pairs_of : {A : Type 0} (n : ℕ) (g : A → A → List Diag) (xs : List A) → ((x y : A) → AllOf n (g x y)) → AllOf n (of_pairs g xs)
pairs_of n g [] all = none_of n
pairs_of n g (x ∷ xs) all = both_of n _ _ (each_of n (g x) xs (all x)) (pairs_of n g xs all)

broken_of_two : (types : Types) (n : ℕ) (f : Function) (place : Place) (g : ℕ) (sig : Option Signature) (xs : List Argument) (a b : Fact) → AllOf n (broken_by_two types n f place g sig xs a b)
broken_of_two types n f place g None xs a b = none_of n
broken_of_two types n f place g (Some sig) xs a b =
    both_of n _ _
    (each_of n (moved_at types n f place g xs a b) (inputs_of_signature types sig) (λ i. if_of n (is_argument_of xs i a.location) _ (moved_behind_of types n f place g i a.element b)))
    (pairs_of n (overlapping_at types n place g sig xs a b) (inputs_of_signature types sig) (λ i j. if_of n ((is_argument_of xs i a.location && is_argument_of xs j b.location) && breaks_apart types sig i j a.element b.element) (told_of n place g ArgOverlap i.pointer (why.Overlap (known_name sig.name (input_parameter sig j)))) (said_of_call n place g ArgOverlap i.pointer (why.Overlap (known_name sig.name (input_parameter sig j))))))

argument_of_two : (sigs : List Signature) (types : Types) (n : ℕ) (f : Function) (place : Place) (i : Step) (a b : Fact) → AllOf n (argument_diags_of_two sigs types n f place i a b)
argument_of_two sigs types n f place (Call target g xs) a b = broken_of_two types n f place g.0 (slice_get sigs g.0) xs a b
argument_of_two sigs types n f place _ a b = none_of n

node_of_two : (sigs : List Signature) (types : Types) (n : ℕ) (f : Function) (place : Place) (node : Node) (a b : Fact) → AllOf n (node_diags_of_two sigs types n f place node a b)
node_of_two sigs types n f place (Action i) a b = both_of n _ _ (each_of n (moved_through types n f place a b) (owners i) (through_of types n f place a b)) (argument_of_two sigs types n f place i a b)
node_of_two sigs types n f place (Question t) a b = none_of n
node_of_two sigs types n f place Return a b = none_of n
node_of_two sigs types n f place Stop a b = none_of n

spot_of_two : (sigs : List Signature) (types : Types) (n : ℕ) (f : Function) (spot : Option Spot) (a b : Fact) → AllOf n (diags_of_two sigs types n f spot a b)
spot_of_two sigs types n f None a b = none_of n
spot_of_two sigs types n f (Some s) a b = node_of_two sigs types n f s.place s.node a b

told_own : (sigs : List Signature) (types : Types) (n : ℕ) (f : Function) (spot : Option Spot) (facts : List Fact) (d : Diag) → Tells sigs types n f spot facts d → d.function ≡ n
told_own sigs types n f spot [] d h = absurd h
told_own sigs types n f spot (a ∷ []) d h = spot_of_one sigs types n f spot a d h
told_own sigs types n f spot (a ∷ b ∷ []) d h = spot_of_two sigs types n f spot a b d h
told_own sigs types n f spot (a ∷ b ∷ c ∷ more) d h = absurd h

pub own_function : (sigs : List Signature) (types : Types) (n : ℕ) (f : Function) (d : Diag) → IsDiagnosed sigs types n f d → d.function ≡ n
own_function sigs types n f d h = told_own sigs types n f (spot_of f h.0) h.1.0 d h.1.1.1

-- ---- lists on which two functions agree

pub map_same : {A B : Type 0} (g h : A → B) (xs : List A) → ((x : A) → Contains xs x → g x ≡ h x) → map g xs ≡ map h xs
map_same g h [] same = refl
map_same g h (x ∷ xs) same = (λ i. same x (at_head x xs) i ∷ map_same g h xs (λ y k. same y (in_tail x xs y k)) i)

-- ---- one function

first_alone : (f g : Function) (n : ℕ) → slice_get (f ∷ []) n ≡ Some g → (n ≡ 0) × (f ≡ g)
first_alone f g zero e = (refl, same e)
  where
    same : {a b : Function} → Some a ≡ Some b → a ≡ b
    same e = cc
first_alone f g (suc n) e = absurd (clash e)
  where
    clash : {g : Function} → ◌≡◌ {A = Option Function} None (Some g) → ⊥
    clash e = cc

pub one_function : (p : Program) (f : Function) (ds : List Diag) → p.functions ≡ f ∷ [] → AreDiagnostics (naming_in p) p.types 0 f ds → AreProgramDiagnostics p ds
one_function p f ds alone listing = record {
  sorted = subst (IsStrictlySortedBy line_cmp) (sym (map_same (program_line p) (line_of (naming_in p) p.types f) ds (λ d h. own_line d (number d (listing.only d h))))) listing.sorted;
  only = λ d h. (f, (at_number d (number d (listing.only d h)), subst (λ n. IsDiagnosed (signatures_of p.functions) p.types n f d) (sym (number d (listing.only d h))) (listing.only d h)));
  each = each;
}
  where
    number : (d : Diag) → IsDiagnosed (signatures_of p.functions) p.types 0 f d → d.function ≡ 0
    number d h = own_function (signatures_of p.functions) p.types 0 f d h

    at_number : (d : Diag) → d.function ≡ 0 → slice_get p.functions d.function ≡ Some f
    at_number d e = ap (λ (fs : List Function). slice_get fs d.function) alone ∙ ap (slice_get (f ∷ [])) e

    own_line : (d : Diag) → d.function ≡ 0 → program_line p d ≡ line_of (naming_in p) p.types f d
    own_line d e = ap (λ o. line_in p o d) (at_number d e)

    each : (d : Diag) → IsProgramDiagnosed p d → (e : Diag) × (Contains ds e × Represents (program_line p) e d)
    each d h =
        let at = first_alone f h.0 d.function (ap (λ (fs : List Function). slice_get fs d.function) (sym alone) ∙ h.1.0) in
        let mine : IsDiagnosed (signatures_of p.functions) p.types 0 f d = subst (λ n. IsDiagnosed (signatures_of p.functions) p.types n f d) at.0 (subst (λ (g : Function). IsDiagnosed (signatures_of p.functions) p.types d.function g d) (sym at.1) h.1.1) in
        let r = listing.each d mine in (
          r.0,
          (
            r.1.0,
            record {
              same_line = own_line r.0 (number r.0 (listing.only r.0 r.1.0)) ∙ r.1.1.same_line ∙ sym (own_line d at.0);
              first = r.1.1.first;
            },
          ),
        )
