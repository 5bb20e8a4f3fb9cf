-- Members one after the other, as a loop goes through them.
use Rattle.std.proofs.Common.{◌≡◌, List, [], ◌∷◌, ◌++◌, Ok, Err, refl, sym, ap, ◌∙◌, append_assoc}
use Rattle.std.proofs.lemmas.List.{append-nil}
use Rattle.life_types.specs.Types.{Types}
use Rattle.life_types.specs.declared.ty.NameId.{NameId}
use Rattle.life_types.specs.declared.ty.TyId.{TyId}
use Rattle.life_tree.specs.declared.program.Member.{Member}
use Rattle.life_typing.specs.Answers.{Tells, ◌>>◌}
use Rattle.life_names.specs.Checked.{Checked, Fails}
use Rattle.life_names.specs.Environment.{Scope}
use Rattle.life_typing.specs.Structs.{member_type, members_behind, name_added, with_found}
use Rattle.life_names.specs.declared.environment.MemberType.{MemberType}
use Rattle.life_names.specs.declared.fault.IllFault.{IllFault}
use Rattle.life_names.specs.declared.fault.IllFault.TheVariants as faults

regroup : (front : List MemberType) (x : MemberType) (checked : Checked (List MemberType)) → with_found front (checked >> λ xs. Ok (x ∷ xs.0, xs.1)) ≡ with_found (front ++ x ∷ []) checked
regroup front x (Ok xs) = ap (λ (zs : List MemberType). Ok (zs, xs.1)) (sym (append_assoc front (x ∷ []) xs.0))
regroup front x (Err e) = refl

-- one more
pub member_found : (front : List MemberType) (seen names : List NameId) (m : Member) (ms : List Member) (scope : Scope) (types grown : Types) (id : TyId) (total : Checked (List MemberType))
    → with_found front (members_behind seen (m ∷ ms) scope types) ≡ total → member_type m scope types ≡ Ok (id, grown) → name_added seen m.name ≡ Ok names
    → with_found (front ++ record { name = m.name.id; ty = id } ∷ []) (members_behind names ms scope grown) ≡ total
member_found front seen names m ms scope types grown id total so_far typed named =
    sym (regroup front (record { name = m.name.id; ty = id }) (members_behind names ms scope grown)) ∙ rw (typed, named) at so_far

-- the type of the next breaks a rule
pub member_broken : (front : List MemberType) (seen : List NameId) (m : Member) (ms : List Member) (scope : Scope) (types : Types) (e : IllFault) (total : Checked (List MemberType))
    → with_found front (members_behind seen (m ∷ ms) scope types) ≡ total → Fails e (member_type m scope types) → Fails e total
member_broken front seen m ms scope types faults.NoMemory total so_far broke = tt
member_broken front seen m ms scope types (faults.Ill kind place) total so_far broke = sym so_far ∙ rw broke refl

-- its name does
pub name_broken : (front : List MemberType) (seen : List NameId) (m : Member) (ms : List Member) (scope : Scope) (types grown : Types) (id : TyId) (e : IllFault) (total : Checked (List MemberType))
    → with_found front (members_behind seen (m ∷ ms) scope types) ≡ total → member_type m scope types ≡ Ok (id, grown) → Tells e (name_added seen m.name) → Fails e total
name_broken front seen m ms scope types grown id faults.NoMemory total so_far typed broke = tt
name_broken front seen m ms scope types grown id (faults.Ill kind place) total so_far typed broke = sym so_far ∙ rw (typed, broke) refl

-- there is no other
pub members_found : (front : List MemberType) (seen : List NameId) (scope : Scope) (types : Types) (total : Checked (List MemberType))
    → with_found front (members_behind seen [] scope types) ≡ total → total ≡ Ok (front, types)
members_found front seen scope types total so_far = sym so_far ∙ rw append-nil refl
