-- A vector or a string with which nothing is wrong has its buffer.
use Rattle.std.proofs.Common.{◌≡◌, ℕ, true, false, List, [], ◌++◌, Option, Some, None, refl, sym, subst}
use Rattle.std.specs.Prelude.{Contains, cond}
use Rattle.std.specs.List.{flat_map}
use Rattle.std.proofs.lemmas.Bool.{and_from}
use Rattle.std.proofs.lemmas.List.Elements.{Contains-append_left, Contains-append_right}
use Rattle.life_types.specs.Types.{Types}
use Rattle.life_types.specs.declared.place.Place.{Place}
use Rattle.life_core.specs.Function.{Function}
use Rattle.life_core.specs.Operands.{Location}
use Rattle.life_core.specs.Operands as named
use Rattle.life_core.specs.Step.{Step}
use Rattle.life_pset.specs.Shapes.{is_variable_place}
use Rattle.life_pset.specs.declared.element.AbsPlace.{AbsPlace}
use Rattle.life_pset.specs.declared.element.Cause.{Cause}
use Rattle.life_pset.specs.declared.element.Element.{Element}
use Rattle.life_pset.specs.declared.element.Element.TheVariants as element
use Rattle.life_pset.specs.declared.element.Fact.{Fact}
use Rattle.life_pset.proofs.Numbers.{place_laws}
use Rattle.life_contract.specs.Located.{is_location, located}
use Rattle.life_contract.specs.Signatures.{Signature}
use Rattle.life_rules.specs.Arguing.{argument_diags}
use Rattle.life_rules.specs.Diagnosing.{misopened_as, misread_as, misused_as, moved_as, moved_use, opens, owners, reads, use_diags, uses}
use Rattle.life_rules.specs.Keeping.{keeping_diags}
use Rattle.life_rules.specs.Matching.{fact_at}
use Rattle.life_rules.specs.declared.diag.Diag.{Diag}
use Rattle.life_rules.specs.declared.diag.DiagKind.TheVariants.{MovedUse}
use Rattle.life_rules.specs.declared.diag.Why.TheVariants as why
use Rattle.life_rules.proofs.Giving.{at_head, flat_map_into}
use Rattle.life_cover.specs.Covers.{CoversOwner, IsOwnerTold}
use Rattle.life_cover.proofs.PointerKinds.{IsClean}

-- an owner that is used by its name may not be moved from
abbrev pub NotMoved : (Fact → Type 0) → AbsPlace → Type 0
NotMoved S l = (cause : Cause) → S (fact_at l (element.Moved cause)) → ⊥

pub unmoved : (sigs : List Signature) (types : Types) (n : ℕ) (f : Function) (place : Place) (i : Step) (S : Fact → Type 0) → IsClean sigs types n f place i S → (l : Location) → Contains (owners i) (named.Name l) → is_variable_place types f (located l) ≡ true → NotMoved S (located l)
unmoved sigs types n f place i S clean l used variable cause s =
    clean x s d
    (Contains-append_left (use_diags types n f place i x) (argument_diags sigs types n place i x ++ keeping_diags sigs types n f place i x) d
    (Contains-append_right (flat_map (misused_as n place x) (uses i)) (flat_map (misread_as n place x) (reads i) ++ (flat_map (misopened_as n place x) (opens i) ++ flat_map (moved_as types n f place x) (owners i))) d
    (Contains-append_right (flat_map (misread_as n place x) (reads i)) (flat_map (misopened_as n place x) (opens i) ++ flat_map (moved_as types n f place x) (owners i)) d
    (Contains-append_right (flat_map (misopened_as n place x) (opens i)) (flat_map (moved_as types n f place x) (owners i)) d
    (flat_map_into (moved_as types n f place x) (owners i) (named.Name l) d used
    (subst (λ b. Contains (cond b (moved_use n place (located l) (element.Moved cause)) []) d) (sym (and_from (is_location l (located l)) (is_variable_place types f (located l)) (place_laws.refl (located l)) variable)) (at_head d [])))))))
  where
    x : Fact
    x = fact_at (located l) (element.Moved cause)

    d : Diag
    d = record { function = n; place = place; kind = MovedUse; name = located l; called = None; why = why.Cause cause }

-- so it has its buffer
pub has_buffer : (S : Fact → Type 0) (l : AbsPlace) (owned : Option ℕ) → NotMoved S l → IsOwnerTold S l false owned → (b : ℕ) × (owned ≡ Some b)
has_buffer S l owned unmoved h = go h.known owned h.holds h.covers
  where
    go : (e : Element) (x : Option ℕ) → S (fact_at l e) → CoversOwner false e x → (b : ℕ) × (x ≡ Some b)
    go element.Own (Some b) s k = (b, refl)
    go element.Own None s k = absurd k
    go (element.Moved cause) x s k = absurd (unmoved cause s)
    go element.Null None s k = absurd k
    go element.Null (Some b) s k = absurd k
    go (element.Invalid cause) None s k = absurd k
    go (element.Invalid cause) (Some b) s k = absurd k
    go element.Static None s k = absurd k
    go element.Static (Some b) s k = absurd k
    go (element.At place) None s k = absurd k
    go (element.At place) (Some b) s k = absurd k
