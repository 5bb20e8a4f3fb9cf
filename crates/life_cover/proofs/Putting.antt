-- What is covered stays so where roots stand more often, and roots stand where a cell is written that names nothing.
use Rattle.std.proofs.Common.{◌≡◌, ◌≢◌, ℕ, zero, suc, ◌<◌, Bool, true, false, List, [], ◌∷◌, Some, refl, sym, ap, subst, ◌∙◌, arith}
use Rattle.std.specs.Prelude.{if◌then◌else◌, nat_lt, slice_get, slice_set}
use Rattle.life_types.specs.Types.{Types}
use Rattle.life_core.specs.Function.{Function}
use Rattle.life_core.specs.Operands.{Location, whole}
use Rattle.life_pset.specs.Elements.{local_place}
use Rattle.life_pset.specs.Places.{longer, member_place, members_place, owned_step, stepped, too_long}
use Rattle.life_pset.specs.declared.element.AbsPlace.{AbsPlace}
use Rattle.life_pset.specs.declared.element.Element.{Element}
use Rattle.life_pset.specs.declared.element.Element.TheVariants as element
use Rattle.life_pset.specs.declared.element.Fact.{Fact}
use Rattle.life_pset.specs.declared.element.Root.{Root}
use Rattle.life_pset.specs.declared.element.Root.TheVariants as root
use Rattle.life_pset.proofs.Numbers.{exact_place}
use Rattle.life_contract.specs.Located.{is_location, located}
use Rattle.life_store.specs.Content.{Content}
use Rattle.life_store.specs.Effects.{cell}
use Rattle.life_store.specs.State.{Target, Cell, Named, Pointer, Null, Wild, To, Static, State}
use Rattle.life_store.proofs.CellLemmas.{none_some}
use Rattle.life_store.proofs.MapLemmas.{one_or_apart}
use Rattle.life_cover.specs.Covers.{Covers, IsCovered, Look, PointsTo}
use Rattle.life_cover.specs.Frames.{RootStands}
use Rattle.life_cover.specs.Regions.{Region}

-- another cell is as it was
pub set_other : {A : Type 0} (xs : List A) (x y : ℕ) (v : A) → x ≢ y → slice_get (slice_set xs x v) y ≡ slice_get xs y
set_other [] x y v ne = refl
set_other (c ∷ cs) zero zero v ne = absurd (ne refl)
set_other (c ∷ cs) zero (suc y) v ne = refl
set_other (c ∷ cs) (suc x) zero v ne = refl
set_other (c ∷ cs) (suc x) (suc y) v ne = set_other cs x y v (λ e. ne (ap suc e))

pub set_same : {A : Type 0} (xs : List A) (x : ℕ) (v u : A) → slice_get xs x ≡ Some u → slice_get (slice_set xs x v) x ≡ Some v
set_same [] x v u e = absurd (none_some e)
set_same (c ∷ cs) zero v u e = refl
set_same (c ∷ cs) (suc x) v u e = set_same cs x v u e

pub other_local : (p x : ℕ) → p ≢ x → is_location (whole p) (local_place x) ≡ false
other_local p x ne = go (is_location (whole p) (local_place x)) refl
  where
    inside : root.Local x ≡ root.Local p → p ≡ x
    inside e = cc

    go : (b : Bool) → is_location (whole p) (local_place x) ≡ b → is_location (whole p) (local_place x) ≡ false
    go true e = absurd (ne (inside (ap (λ (l : AbsPlace). l.root) (exact_place (local_place x) (local_place p) e))))
    go false e = e

-- .. and what lies in a local is none
stepped_long : (a : AbsPlace) (step : ℕ) → 0 < (stepped a step).length
stepped_long a step = go (nat_lt a.length 8)
  where
    go : (b : Bool) → 0 < (if b then longer a step else too_long a).length
    go true = omega arith
    go false = omega arith

member_long : (a : AbsPlace) (m : ℕ) → 0 < (member_place a m).length
member_long a m = go (nat_lt m owned_step)
  where
    go : (b : Bool) → 0 < (if b then stepped a m else too_long a).length
    go true = stepped_long a m
    go false = omega arith

members_long : (ms : List ℕ) (a : AbsPlace) → 0 < a.length → 0 < (members_place a ms).length
members_long [] a long = long
members_long (m ∷ ms) a long = members_long ms (member_place a m) (member_long a m)

pub member_other : (l : Location) (m : ℕ) (ms : List ℕ) → l.members ≡ m ∷ ms → (x : ℕ) → is_location l (local_place x) ≡ false
member_other l m ms e x = go (is_location l (local_place x)) refl
  where
    long : 0 < (located l).length
    long = subst (λ (ns : List ℕ). 0 < (members_place (local_place l.local) ns).length) (sym e) (members_long ms (member_place (local_place l.local) m) (member_long (local_place l.local) m))

    go : (b : Bool) → is_location l (local_place x) ≡ b → is_location l (local_place x) ≡ false
    go true h = let same : 0 ≡ (located l).length = ap (λ (a : AbsPlace). a.length) (exact_place (local_place x) (located l) h) in absurd (omega (arith, long, same))
    go false h = h

-- what is covered is where roots stand more often
pub covered_more : (types : Types) (c : Content) (Stands Stands' : Root → Region → Type 0) (may_change : Root → Bool) → ((r : Root) (a : Region) → Stands r a → Stands' r a) → (S : Fact → Type 0) (l : AbsPlace) (look : Look) (v : Pointer)
    → IsCovered types c Stands may_change S l look v → IsCovered types c Stands' may_change S l look v
covered_more types c Stands Stands' may_change more S l look v = go v
  where
    points : (place : AbsPlace) (t : Target) → PointsTo types c Stands may_change look place t → PointsTo types c Stands' may_change look place t
    points place t h = record {
      region = h.region;
      lies = record { start = h.lies.start; stands = more place.root h.lies.start h.lies.stands; lies = h.lies.lies };
      object = h.object;
      word = h.word;
      type = h.type;
      change = h.change;
      holds = h.holds;
    }

    told : (e : Element) (u : Pointer) → Covers types c Stands may_change look e u → Covers types c Stands' may_change look e u
    told (element.Invalid cause) u k = tt
    told element.Null Null k = tt
    told element.Null Wild k = k
    told element.Null (To t) k = k
    told element.Null (Static s) k = k
    told (element.Moved cause) u k = absurd k
    told element.Own u k = absurd k
    told element.Static u k = absurd k
    told (element.At place) Null k = k
    told (element.At place) Wild k = k
    told (element.At place) (Static s) k = k
    told (element.At place) (To t) k = points place t k

    go : (u : Pointer) → IsCovered types c Stands may_change S l look u → IsCovered types c Stands' may_change S l look u
    go (Static s) h = tt
    go Null h = record { known = h.known; holds = h.holds; covers = told h.known Null h.covers }
    go Wild h = record { known = h.known; holds = h.holds; covers = told h.known Wild h.covers }
    go (To t) h = record { known = h.known; holds = h.holds; covers = told h.known (To t) h.covers }

-- roots stand where a cell that names nothing is written
pub roots_stay : (types : Types) (f : Function) (Input : Root → Region → Type 0) (st : State) (p : ℕ) (new : Cell) → ((n : ℕ) → cell st p ≡ Some (Named n) → ⊥) → (r : Root) (a : Region) → RootStands types f Input st.cells r a → RootStands types f Input (slice_set st.cells p new) r a
roots_stay types f Input st p new no_object (root.Local x) a s = one_or_apart p x
    (λ e. absurd (no_object a.object (ap (slice_get st.cells) e ∙ s.0)))
    (λ ne. (set_other st.cells p x new ne ∙ s.0, s.1, s.2))
roots_stay types f Input st p new no_object (root.Input q member) a s = s
