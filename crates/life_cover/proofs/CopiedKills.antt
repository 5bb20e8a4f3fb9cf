-- What a copy from one local or member to another kills: what points under it where it holds an owner, and else nothing.
use Rattle.std.proofs.Common.{◌≡◌, ℕ, Bool, true, false, List, [], Option, Some, None, refl, sym, ap, ◌∙◌}
use Rattle.std.specs.Prelude.{Contains, if◌then◌else◌}
use Rattle.std.proofs.lemmas.Bool.{false≢true}
use Rattle.life_types.specs.Trees.{holds_owner}
use Rattle.life_types.specs.Types.{Types}
use Rattle.life_types.specs.declared.place.Place.{Place}
use Rattle.life_core.specs.Function.{Function}
use Rattle.life_core.specs.Operands.{Location}
use Rattle.life_core.specs.Operands as named
use Rattle.life_core.specs.Step.{Copy}
use Rattle.life_pset.specs.Elements.{changed, elements_of}
use Rattle.life_pset.specs.Places.{under}
use Rattle.life_pset.specs.Shapes.{operand_type, tree_if}
use Rattle.life_pset.specs.declared.element.AbsPlace.{AbsPlace}
use Rattle.life_pset.specs.declared.element.Cause.{Cause}
use Rattle.life_pset.specs.declared.element.Element.{Element}
use Rattle.life_pset.specs.declared.element.Element.TheVariants as element
use Rattle.life_pset.specs.declared.element.Fact.{Fact}
use Rattle.life_pset.specs.declared.element.Root.{Root}
use Rattle.life_contract.specs.Located.{located}
use Rattle.life_contract.specs.Signatures.{Signature}
use Rattle.life_rules.specs.Carrying.{after_kill, is_gone, is_killed, kills, named_kill, one_kill, writes}
use Rattle.life_rules.specs.declared.kill.Kill.{Kill}
use Rattle.life_rules.specs.declared.kill.KillPair.{KillPair}
use Rattle.life_rules.proofs.Giving.{at_head}
use Rattle.life_store.specs.Content.{Content}
use Rattle.life_forest.specs.Forest.{Beneath, Foot}
use Rattle.life_forest.specs.Kinds.{kinds_of}
use Rattle.life_cover.specs.Kills.{Closed, Guards, LeftBy, is_hit}
use Rattle.life_cover.specs.Regions.{Region}
use Rattle.life_cover.proofs.Left.{caused_known, hit_under, left_by_name}
use Rattle.life_cover.proofs.Takes.{left_all}

module _ (types : Types) (sigs : List Signature) (f : Function) (place : Place) (S S' : Fact → Type 0) (to from : Location) (closed : Closed sigs types f place (Copy (named.Name to) (named.Name from)) S S') (c : Content) (Stands : Root → Region → Type 0) (foot : Foot) where
  -- what is touched is guarded, and a fact that is copied is as the kill leaves it
  pub record IsCutBy : Type 0 where
    pub killed : AbsPlace → Bool
    pub guards : Guards types c Stands S killed foot
    pub left : LeftBy Stands killed (writes (Copy (named.Name to) (named.Name from))) S S'
    pub after : (e : Element) → is_hit killed e ≡ false → after_kill (kills types f place (Copy (named.Name to) (named.Name from))).first e ≡ e
    pub cut : (a : AbsPlace) → killed a ≡ true
        → (cause : Cause) × (after_kill (kills types f place (Copy (named.Name to) (named.Name from))).first (element.At a) ≡ element.Invalid cause) × Contains (elements_of types f) (element.Invalid cause)

  pub owner_cut : holds_owner (tree_if types (operand_type types f (named.Name to))) ≡ true → Guards types c Stands S (under (located to)) foot → IsCutBy
  owner_cut holds guards = record {
    killed = under (located to);
    guards = guards;
    left = left_by_name sigs types f place (Copy (named.Name to) (named.Name from)) S S' closed Stands kill is (λ e. refl) (at_head (element.Invalid (changed place to.local)) []);
    after = λ e free. ap (λ (k : Option Kill). after_kill k e) first ∙ ap (λ b. if b then element.Invalid (changed place to.local) else e) (sym (hit_under (located to) e) ∙ free);
    cut = λ a e. (
      changed place to.local,
      ap (λ (k : Option Kill). after_kill k (element.At a)) first ∙ ap (λ b. if b then element.Invalid (changed place to.local) else element.At a) e,
      caused_known types f (element.Invalid (changed place to.local)) (closed.causes (element.Invalid (changed place to.local)) (at_head (element.Invalid (changed place to.local)) [])),
    );
  }
    where
      kill : Kill
      kill = record { owner = located to; cause = changed place to.local }

      is : kills types f place (Copy (named.Name to) (named.Name from)) ≡ one_kill (Some kill)
      is = ap (λ b. if b then one_kill (named_kill place (named.Name to)) else one_kill None) holds

      first : (kills types f place (Copy (named.Name to) (named.Name from))).first ≡ Some kill
      first = ap (λ (ks : KillPair). ks.first) is

  pub ownerless_cut : holds_owner (tree_if types (operand_type types f (named.Name to))) ≡ false → ((m : ℕ) → Beneath (kinds_of types) c foot m → ⊥) → IsCutBy
  ownerless_cut holds nothing = record {
    killed = λ a. false;
    guards = λ a r names at_r low. absurd (nothing r.object low);
    left = left_all sigs types f place (Copy (named.Name to) (named.Name from)) S S' closed Stands gone;
    after = λ e free. ap (λ (k : Option Kill). after_kill k e) first;
    cut = λ a e. absurd (false≢true e);
  }
    where
      is : kills types f place (Copy (named.Name to) (named.Name from)) ≡ one_kill None
      is = ap (λ b. if b then one_kill (named_kill place (named.Name to)) else one_kill None) holds

      first : (kills types f place (Copy (named.Name to) (named.Name from))).first ≡ None
      first = ap (λ (ks : KillPair). ks.first) is

      gone : (e : Element) → is_gone types f place (Copy (named.Name to) (named.Name from)) e ≡ false
      gone e = ap (λ (ks : KillPair). is_killed ks e) is
