-- What a step kills: the places under which it changes something, and the facts that are left.
use Rattle.std.specs.Prelude.{◌≡◌, ℕ, Bool, true, false, List, Contains}
use Rattle.life_types.specs.Types.{Types}
use Rattle.life_types.specs.declared.place.Place.{Place}
use Rattle.life_core.specs.Function.{Function}
use Rattle.life_core.specs.Step.{Step}
use Rattle.life_pset.specs.Elements.{caused_elements, step_elements}
use Rattle.life_pset.specs.Table.{IsOf, table_of}
use Rattle.life_pset.specs.declared.element.AbsPlace.{AbsPlace}
use Rattle.life_pset.specs.declared.element.Cause.{Cause}
use Rattle.life_pset.specs.declared.element.Element.{Element}
use Rattle.life_pset.specs.declared.element.Element.TheVariants as element
use Rattle.life_pset.specs.declared.element.Fact.{Fact}
use Rattle.life_pset.specs.declared.element.Root.{Root}
use Rattle.life_pset.specs.declared.element.Root.TheVariants as root
use Rattle.life_contract.specs.Signatures.{Signature}
use Rattle.life_rules.specs.Carrying.{from_none, from_one, from_two}
use Rattle.life_rules.specs.Matching.{fact_at}
use Rattle.life_store.specs.Content.{Content}
use Rattle.life_forest.specs.Forest.{Beneath, Foot}
use Rattle.life_forest.specs.Kinds.{kinds_of}
use Rattle.life_cover.specs.Regions.{Region, IsAt}

-- the element points to a place that is killed
abbrev pub is_hit : (killed : AbsPlace → Bool) → Element → Bool
is_hit killed (element.At place) = killed place
is_hit killed _ = false

-- the facts S' that are left of the facts S: of what isn't written each stays that isn't hit, and of one that is, and whose root stands
-- somewhere, there is an invalid one
pub record LeftBy (Stands : Root → Region → Type 0) (killed written : AbsPlace → Bool) (S S' : Fact → Type 0) : Type 0 where
  pub kept : (l : AbsPlace) (e : Element) → S (fact_at l e) → written l ≡ false → is_hit killed e ≡ false → S' (fact_at l e)
  pub hit : (l a : AbsPlace) (r : Region) → S (fact_at l (element.At a)) → Stands a.root r → written l ≡ false → killed a ≡ true → (cause : Cause) × S' (fact_at l (element.Invalid cause))

-- some fact points to the place
abbrev pub Names : (Fact → Type 0) → AbsPlace → Type 0
Names S place = (l : AbsPlace) × S (fact_at l (element.At place))

-- no fact points into the local, or to what it owns
abbrev pub IsUnnamed : (Fact → Type 0) → ℕ → Type 0
IsUnnamed S x = (a : AbsPlace) → Names S a → a.root ≡ root.Local x → ⊥

-- what is touched of what facts point to lies at places that are killed
abbrev pub Guards : Types → Content → (Stands : Root → Region → Type 0) → (S : Fact → Type 0) → (killed : AbsPlace → Bool) → Foot → Type 0
Guards types c Stands S killed foot = (place : AbsPlace) (r : Region) → Names S place → IsAt types c Stands place r → Beneath (kinds_of types) c foot r.object → killed place ≡ true

-- the roots of such places stand where they stood, if these aren't killed
abbrev pub KeepsRoots : (Stands Stands' : Root → Region → Type 0) → (S : Fact → Type 0) → (killed : AbsPlace → Bool) → Type 0
KeepsRoots Stands Stands' S killed = (place : AbsPlace) (r : Region) → Names S place → killed place ≡ false → Stands place.root r → Stands' place.root r

-- S' has what the instruction at this place gives from facts of S, as far as it is of the function
pub record Closed (sigs : List Signature) (types : Types) (f : Function) (place : Place) (i : Step) (S S' : Fact → Type 0) : Type 0 where
  pub of : (x : Fact) → S x → IsOf (table_of types f) x
  pub causes : (e : Element) → Contains (step_elements f place i) e → Contains (caused_elements f) e
  pub none : (x : Fact) → IsOf (table_of types f) x → Contains (from_none sigs types f place i) x → S' x
  pub one : (a x : Fact) → S a → IsOf (table_of types f) x → Contains (from_one sigs types f place i a) x → S' x
  pub two : (a b x : Fact) → S a → S b → IsOf (table_of types f) x → Contains (from_two sigs types f place i a b) x → S' x
