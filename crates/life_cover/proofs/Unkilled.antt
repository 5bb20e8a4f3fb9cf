-- A step that touches nothing that is owned, as one that makes objects or writes values, and one that kills nothing: all pointers that it
-- doesn't write stay covered.
use Rattle.std.proofs.Common.{◌≡◌, ℕ, Bool, false, List, arith}
use Rattle.std.proofs.lemmas.Bool.{false≢true}
use Rattle.life_types.specs.Trees.{IsOrdered}
use Rattle.life_types.specs.Types.{Types}
use Rattle.life_types.specs.declared.place.Place.{Place}
use Rattle.life_core.specs.Function.{Function}
use Rattle.life_core.specs.Step.{Step}
use Rattle.life_pset.specs.declared.element.AbsPlace.{AbsPlace}
use Rattle.life_pset.specs.declared.element.Element.{Element}
use Rattle.life_pset.specs.declared.element.Fact.{Fact}
use Rattle.life_pset.specs.declared.element.Root.{Root}
use Rattle.life_contract.specs.Signatures.{Signature}
use Rattle.life_rules.specs.Carrying.{is_gone, writes}
use Rattle.life_store.specs.Cells.{at}
use Rattle.life_store.specs.Content.{Content}
use Rattle.life_store.specs.State.{Pointer}
use Rattle.life_forest.specs.Forest.{Beneath, Foot, Touches, part, under, whole}
use Rattle.life_forest.specs.Kinds.{kinds_of}
use Rattle.life_forest.specs.Typed.{IsStore}
use Rattle.life_forest.proofs.Below.{no_part}
use Rattle.life_cover.specs.Covers.{IsCovered, Look}
use Rattle.life_cover.specs.Kills.{Closed, KeepsRoots}
use Rattle.life_cover.specs.Regions.{IsTrue, Region}
use Rattle.life_cover.proofs.Killing.{cover_on}
use Rattle.life_cover.proofs.Takes.{left_all}

abbrev pub no_foot : Foot
no_foot = record { whole = λ n. false; part = λ m w. false }

pub beneath_nothing : (types : Types) (c : Content) (n : ℕ) → Beneath (kinds_of types) c no_foot n → ⊥
beneath_nothing types c n (whole _ e) = false≢true e
beneath_nothing types c n (part m _ own) = let z = no_part (kinds_of types) (at c.objects m) n in omega (arith, z, own)
beneath_nothing types c n (under m _ low own) = beneath_nothing types c m low

module _ (types : Types) (ordered : IsOrdered types) (hand : ℕ → ℕ) (c d : Content) (store : IsStore types hand c) (touch : Touches (kinds_of types) no_foot c d) (Stands Stands' : Root → Region → Type 0) (may_change : Root → Bool)
    (fits : (r : Root) (a : Region) → Stands r a → IsTrue types c a) (sigs : List Signature) (f : Function) (place : Place) (i : Step) (S S' : Fact → Type 0) (closed : Closed sigs types f place i S S') (gone : (e : Element) → is_gone types f place i e ≡ false)
    (roots : KeepsRoots Stands Stands' S (λ a. false)) where
  pub unkilled_cover : (l : AbsPlace) (look : Look) (v : Pointer) → writes i l ≡ false → IsCovered types c Stands may_change S l look v → IsCovered types d Stands' may_change S' l look v
  unkilled_cover =
      cover_on types ordered hand c d store no_foot touch Stands Stands' may_change fits (λ a. false) (writes i) S S' (left_all sigs types f place i S S' closed Stands gone)
      (λ a r names at_r low. absurd (beneath_nothing types c r.object low)) roots
