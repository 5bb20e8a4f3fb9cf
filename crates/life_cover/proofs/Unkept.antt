-- Where nothing is diagnosed, an owner that is changed through a pointer isn't kept: what is reached lies in a local, or behind a mutating input.
use Rattle.std.proofs.Common.{◌≡◌, ℕ, Bool, true, false, if◌then◌else◌, List, [], ◌∷◌, ◌++◌, Option, Some, None, refl, sym, ap, subst, ◌∙◌}
use Rattle.std.specs.Prelude.{Contains, cond, nat_lt, slice_get}
use Rattle.std.proofs.lemmas.List.Elements.{Contains-append_right}
use Rattle.life_types.specs.Trees.{IsOrdered, holds_owner, tree_at}
use Rattle.life_types.specs.Types.{Types}
use Rattle.life_types.specs.declared.place.Place.{Place}
use Rattle.life_core.specs.Function.{Function}
use Rattle.life_core.specs.Operands.{Location, Operand}
use Rattle.life_core.specs.Operands as named
use Rattle.life_core.specs.Step.{Step}
use Rattle.life_pset.specs.Elements.{Input, local_place, owner_changed}
use Rattle.life_pset.specs.Places.{longer, member_place, members_place, owned_step, path, stepped, too_long}
use Rattle.life_pset.specs.declared.element.AbsPlace.{AbsPlace}
use Rattle.life_pset.specs.declared.element.Element.TheVariants as element
use Rattle.life_pset.specs.declared.element.Fact.{Fact}
use Rattle.life_pset.specs.declared.element.Root.{Root}
use Rattle.life_pset.specs.declared.element.Root.TheVariants as root
use Rattle.life_pset.proofs.Numbers.{place_laws}
use Rattle.life_contract.specs.Located.{located}
use Rattle.life_contract.specs.Signatures.{Signature}
use Rattle.life_rules.specs.Arguing.{argument_diags}
use Rattle.life_rules.specs.Diagnosing.{use_diags}
use Rattle.life_rules.specs.Keeping.{is_kept, keeping_diags, kept_input, kept_root, kept_target, kept_through}
use Rattle.life_rules.specs.Matching.{fact_at}
use Rattle.life_rules.specs.Texts.{input_of}
use Rattle.life_rules.specs.declared.diag.Diag.{Diag}
use Rattle.life_rules.specs.declared.diag.DiagKind.TheVariants.{KeepsBroken}
use Rattle.life_rules.specs.declared.diag.Why.TheVariants as why
use Rattle.life_rules.proofs.Giving.{at_head}
use Rattle.life_store.specs.State.{State}
use Rattle.life_cover.specs.Frames.{RootStands}
use Rattle.life_cover.specs.Inputs.{IsInput, StandsAt, may_change, owning}
use Rattle.life_cover.specs.Regions.{Region}
use Rattle.life_cover.proofs.InputPlaces.{holds_up, mutating_input}
use Rattle.life_cover.proofs.PointerKinds.{IsClean}
use Rattle.life_cover.proofs.Reaching.{IsBy, IsReached}

-- a place of a member has the root that its object has
stepped_root : (a : AbsPlace) (s : ℕ) → (stepped a s).root ≡ a.root
stepped_root a s = go (nat_lt a.length 8)
  where
    go : (b : Bool) → (if b then longer a s else too_long a).root ≡ a.root
    go true = refl
    go false = refl

member_root : (a : AbsPlace) (m : ℕ) → (member_place a m).root ≡ a.root
member_root a m = go (nat_lt m owned_step)
  where
    go : (b : Bool) → (if b then stepped a m else too_long a).root ≡ a.root
    go true = stepped_root a m
    go false = refl

pub members_root : (ms : List ℕ) (a : AbsPlace) → (members_place a ms).root ≡ a.root
members_root [] a = refl
members_root (m ∷ ms) a = members_root ms (member_place a m) ∙ member_root a m

module _ (sigs : List Signature) (types : Types) (n : ℕ) (f : Function) (place : Place) (i : Step) (S : Fact → Type 0) (clean : IsClean sigs types n f place i S) (o : Operand)
    (keeping : (x : Fact) → keeping_diags sigs types n f place i x ≡ kept_through types n f place x o) where
  pub unkept : (p : Location) (ms : List ℕ) → o ≡ named.Through p ms → (a : AbsPlace) → S (fact_at (located p) (element.At a)) → (q : ℕ) (member : Option ℕ) (input : Input) → a.root ≡ root.Input q member → input_of types f q member ≡ Some input
      → is_kept (slice_get f.locals q) ≡ false
  unkept p ms by a s q member input rooted is = go (is_kept (slice_get f.locals q)) refl
    where
      x : Fact
      x = fact_at (located p) (element.At a)

      d : Diag
      d = record { function = n; place = place; kind = KeepsBroken; name = input.pointer; called = None; why = why.Cause (owner_changed place) }

      told : is_kept (slice_get f.locals q) ≡ true → keeping_diags sigs types n f place i x ≡ d ∷ []
      told kept =
          keeping x ∙ ap (kept_through types n f place x) by
          ∙ ap (λ b. cond b (kept_target types n f place (owner_changed place) (element.At a)) []) (place_laws.refl (located p))
          ∙ ap (kept_root types n f place (owner_changed place)) rooted
          ∙ ap (λ b. cond b (kept_input n place (owner_changed place) (input_of types f q member)) []) kept
          ∙ ap (kept_input n place (owner_changed place)) is

      go : (b : Bool) → is_kept (slice_get f.locals q) ≡ b → b ≡ false
      go false e = refl
      go true e = absurd (clean x s d
          (Contains-append_right (use_diags types n f place i x) (argument_diags sigs types n place i x ++ keeping_diags sigs types n f place i x) d
          (Contains-append_right (argument_diags sigs types n place i x) (keeping_diags sigs types n f place i x) d
          (subst (λ (ds : List Diag). Contains ds d) (sym (told e)) (at_head d [])))))

  -- so what is changed lies where the function may change owners
  pub reached_owning : (ordered : IsOrdered types) (inputs : Root → Option Region) (st : State) → ((r : Root) (a : Region) → StandsAt inputs r a → IsInput types f r a) → (r : IsReached types f st (StandsAt inputs) (may_change types f) S o)
      → may_change types f r.place.root ≡ true → holds_owner (tree_at types r.region.ty) ≡ true → owning types f r.place.root ≡ true
  reached_owning ordered inputs st each r may holds = by_root r.place.root refl r.lies.stands
    where
      by_root : (ro : Root) → r.place.root ≡ ro → RootStands types f (StandsAt inputs) st.cells ro r.lies.start → owning types f r.place.root ≡ true
      by_root (root.Local x) e stands = ap (owning types f) e
      by_root (root.Input q member) e stands =
          let i = each (root.Input q member) r.lies.start stands in
          ap (owning types f) e
          ∙ mutating_input types ordered f q member r.lies.start i (sym (ap (may_change types f) e) ∙ may)
          (holds_up types ordered st.world.content (path r.place) r.lies.start r.region r.lies.lies holds)
          (through o refl r.by)
        where
          unlike : (x : ℕ) → root.Local x ≡ root.Input q member → ⊥
          unlike x h = cc

          through : (p : Operand) → o ≡ p → IsBy types f st (StandsAt inputs) (may_change types f) S p r.place → is_kept (slice_get f.locals q) ≡ false
          through (named.Name l) is by = absurd (unlike l.local (sym (ap (λ (a : AbsPlace). a.root) by ∙ members_root l.members (local_place l.local)) ∙ e))
          through (named.Through p ms) is by =
              unkept p ms is by.0 by.1 q member (each (root.Input q member) r.lies.start stands).input (sym (ap (λ (a : AbsPlace). a.root) by.2 ∙ members_root ms by.0) ∙ e) (each (root.Input q member) r.lies.start stands).is
